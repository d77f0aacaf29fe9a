-- `find_line::digit_kind` meets its contract. Assumes nothing.
use borrow.Author.Tests.{lt-ltb, le-ltb}
use Rattle.line.specs.Forms.{span_at_of}
use Rattle.find_line.specs.FoundLines.{digit_kind_of}
use Rattle.find_line.proofs.digit_kind.Goals as goal

pub returns-then-a-e : goal.returns-then-a-e
unfolding digit_kind_of span_at_of
returns-then-a-e c = rw (← c.not_separator_from-a.ensures, ← c.separator_from-e.ensures, lt-ltb _ _ c.if-a-e.true)

pub returns-else-a-e : goal.returns-else-a-e
unfolding digit_kind_of span_at_of
returns-else-a-e c = rw (← c.not_separator_from-a.ensures, ← c.separator_from-e.ensures, le-ltb _ _ c.if-a-e.false)
