-- `word::begins_with_digit` meets its contract. Assumes nothing.
use mathlib.Core.Path.{sym, ◌∙◌}
use native.Mathlib.Omega.{arith}
use Rattle.scan.specs.Allowed.{digit}
use Rattle.scan.proofs.Reach.{begins-none, begins-at}
use Rattle.word.proofs.begins_with_digit.Goals as goal

pub returns-then-s-eq0 : goal.returns-then-s-eq0
returns-then-s-eq0 c = sym (begins-none digit c.args.s.now c.if-s-eq0.true)

pub returns : goal.returns
returns c = c.is_digit.ensures ∙ sym (begins-at digit c.args.s.now (omega arith))
