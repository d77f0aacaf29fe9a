-- `rows::name_of` meets its contract. Assumes nothing.
use native.Mathlib.Nat.{add-sub_cancel_left}
use borrow.Author.Tests.{le-leb, lt-leb}
use Rattle.rows.specs.Name.{name_of}
use Rattle.rows.proofs.name_of.Goals as goal

pub returns-then-behind-text : goal.returns-then-behind-text
unfolding name_of
returns-then-behind-text c = rw (le-leb _ _ c.if-behind-text.true, add-sub_cancel_left)

pub returns-else-behind-text : goal.returns-else-behind-text
unfolding name_of
returns-else-behind-text c = rw (lt-leb _ _ c.if-behind-text.false)
