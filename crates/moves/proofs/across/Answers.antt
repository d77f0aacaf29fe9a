-- `moves::across` meets its contract. Assumes nothing.
use mathlib.Core.Path.{◌∙◌}
use borrow.Author.Tests.{eq-eqb, ne_eqb}
use Rattle.moves.specs.Moves.{across}
use Rattle.moves.proofs.across.Goals as goal

pub returns-then-a-b : goal.returns-then-a-b
unfolding across
returns-then-a-b c = c.inside.ensures ∙ rw (ne_eqb _ _ c.if-a-b.true)

pub returns-else-a-b : goal.returns-else-a-b
unfolding across
returns-else-a-b c = rw (eq-eqb _ _ c.if-a-b.false)
