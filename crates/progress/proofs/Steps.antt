-- A zone's first spot. Assumes nothing.
use mathlib.Core.Path.{◌≡◌, refl}
use Prim.Native.Nat.{ℕ, zero, suc}
use Rattle.grammar.specs.Tables.{first_spot_of}

pub not_none : (spots n : ℕ) → (n ≡ 0 → ⊥) → spots ≡ first_spot_of spots n
not_none spots zero h = absurd (h refl)
not_none spots (suc n) h = refl
