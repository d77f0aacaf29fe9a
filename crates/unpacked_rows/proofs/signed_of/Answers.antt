-- `unpacked_rows::signed_of` meets its contract. Assumes nothing.
use Rattle.unpacked_rows.proofs.Storing.{to-small, above, below, minus-fits, minus-back}
use native.Mathlib.Omega.{arith}
use Prim.Native.Nat.{◌-◌}
use mathlib.Core.Path.{◌∙◌}
use Rattle.unpacked_rows.proofs.signed_of.Goals as goal

pub returns-then-word-lt2147483648 : goal.returns-then-word-lt2147483648
returns-then-word-lt2147483648 c = to-small c.args.word (omega arith) ∙ above c.args.word (omega arith)

pub overflow_sub-result : goal.overflow_sub-result
overflow_sub-result c = minus-fits (4294967295 - c.args.word) (omega arith)

pub returns : goal.returns
returns c = minus-back (4294967295 - c.args.word) (omega arith) ∙ below c.args.word (omega arith)
