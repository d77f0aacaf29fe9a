-- `moves::next_in` meets its contract. Assumes nothing.
use mathlib.Core.Path.{◌∙◌}
use borrow.Author.Tests.{eq-eqb, ne_eqb}
use Rattle.moves.specs.Moves.{next_in_of}
use Rattle.moves.proofs.next_in.Goals as goal

pub returns-then-b-a : goal.returns-then-b-a
unfolding next_in_of
returns-then-b-a c = c.inside.ensures ∙ rw (eq-eqb _ _ c.if-b-a.true)

pub returns-else-b-a : goal.returns-else-b-a
unfolding next_in_of
returns-else-b-a c = rw (ne_eqb _ _ c.if-b-a.false)
