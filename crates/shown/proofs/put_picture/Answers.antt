-- `shown::put_picture` meets its contract: nothing, or a run of puts. Assumes nothing.
use mathlib.Core.Path.{ap}
use Rattle.terms.specs.Ascii.{ascii}
use borrow.Author.Rules.{rules}
use Rattle.shown.specs.Shown.{blanks}
use Rattle.output.proofs.Writing.{none, same, ◌then◌}
use Rattle.shown.proofs.Laws.{no-picture, some-picture}
use Rattle.shown.proofs.put_picture.Goals as goal

pub returns-then-column-eq0 : goal.returns-then-column-eq0
returns-then-column-eq0 c = same (no-picture _ _ c.if-column-eq0.true) none

pub overflow_sub-column : goal.overflow_sub-column
overflow_sub-column c = search (rules, c.if-column-eq0.false)

pub returns : goal.returns
unfolding ascii
returns c = same (some-picture _ _ c.if-column-eq0.false) (c.put_shown-a.ensures then c.put_bytes-b.ensures then same (ap blanks c.first.ensures) c.put_blanks-c.ensures then c.put_bytes.ensures)
