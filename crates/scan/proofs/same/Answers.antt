-- `scan::same` meets its contract. Assumes nothing.
use mathlib.Core.Path.{sym, ◌∙◌}
use Rattle.scan.proofs.Equal.{same_pointwise}
use Rattle.scan.proofs.same.Goals as goal

pub returns : goal.returns
returns c = let a = c.args in c.eq.ensures ∙ sym (same_pointwise a.a.now a.b.now)
