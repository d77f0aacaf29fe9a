-- `packed_rows::are_records` meets its contract. Assumes nothing.
use native.Mathlib.Omega.{arith}
use Prim.Native.Nat.{ℕ}
use Rattle.std.proofs.lemmas.Grind.{common_steps}
use Rattle.std.proofs.lemmas.List.{take_all}
use Rattle.packed_rows.proofs.Laws.{past_end, next_record, ended}
use Rattle.packed_rows.proofs.are_records.Goals as goal

pub returns-in_default-get : goal.returns-in_default-get
returns-in_default-get c = grind (arith, common_steps, past_end)

pub loop-left-preserved : goal.loop-left-preserved
loop-left-preserved c = grind (arith, common_steps, next_record, take_all {A = ℕ})

pub returns : goal.returns
returns c = grind (arith, ended)
