-- No reply both writes and refuses. Assumes nothing.
use Rattle.writings.specs.Types.{WriteReply, WriteMdfReply}
use Rattle.std.specs.Prelude.{Ok, Err}
use mathlib.Core.Path.{◌≡◌}
use Prim.Native.Nat.{ℕ}
use native.Mathlib.Omega.{arith}
use Rattle.rows.specs.declared.FileRow.{FileRow}
use Rattle.rows.specs.declared.MissionFileRow.{MissionFileRow}
use Rattle.counts.specs.declared.Counts.{Counts}
use Rattle.counts.specs.declared.MissionCounts.{MissionCounts}
use Rattle.refusal.specs.declared.Refusal.{Refusal}

pub wrote-or-not : {c : Counts} {file : FileRow} {k : ℕ} {why : Refusal} → ◌≡◌ {A = WriteReply} (Ok (c, file, k)) (Err why) → ⊥
wrote-or-not e = let z : ◌≡◌ {A = ℕ} 0 1 = cc in omega arith

pub mdf-wrote-or-not : {c : Counts} {file : FileRow} {d : MissionCounts} {row : MissionFileRow} {k : ℕ} {why : Refusal} → ◌≡◌ {A = WriteMdfReply} (Ok (c, file, d, row, k)) (Err why) → ⊥
mdf-wrote-or-not e = let z : ◌≡◌ {A = ℕ} 0 1 = cc in omega arith
