-- `moves::goes` meets its contract. Assumes nothing.
use mathlib.Core.Path.{sym, ◌∙◌}
use native.Mathlib.Omega.{arith}
use lib.ListN.{length}
use borrow.Author.Tests.{eq-eqb, ne_eqb}
use Rattle.rows.proofs.Lay.{row_fits}
use Rattle.moves.specs.Moves.{goes}
use Rattle.moves.proofs.goes.Goals as goal

pub bounds-exits-row : goal.bounds-exits-row
bounds-exits-row c = let h = row_fits (length c.args.exits.now) 2 c.args.row c.requires.there in omega arith

pub returns-then-source-a : goal.returns-then-source-a
unfolding goes
returns-then-source-a c = rw (eq-eqb _ _ (sym c.requires.left ∙ c.if-source-a.true))

pub returns-else-source-a : goal.returns-else-source-a
unfolding goes
returns-else-source-a c = ne_eqb _ _ c.if-source-a.false ∙ rw (ne_eqb _ _ (λ e. c.if-source-a.false (c.requires.left ∙ e)))
