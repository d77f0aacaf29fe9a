-- A number that fits into 32 bits is kept. Assumes nothing.
use mathlib.Core.Path.{◌≡◌}
use Prim.Native.Nat.{ℕ, ◌≤◌}
use Rattle.rows.proofs.Forms.{kept}
use Rattle.room.specs.Room.{fitted}

pub fitted-kept : (n : ℕ) → n ≤ 4294967295 → fitted n ≡ n
fitted-kept n h = kept n 4294967295 h
