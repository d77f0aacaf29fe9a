-- `shown::put_byte_words` meets its contract: a mark, a byte, or nothing. Assumes nothing.
use mathlib.Core.Path.{sym, ◌∙◌}
use Rattle.terms.specs.Ascii.{ascii}
use Rattle.output.proofs.Writing.{none, same}
use Rattle.shown.proofs.Words.{marked, unmarked, no_byte}
use Rattle.shown.proofs.put_byte_words.Goals as goal

pub returns-then-is_order_mark : goal.returns-then-is_order_mark
unfolding ascii
returns-then-is_order_mark c = same (marked _ (sym c.is_order_mark.ensures ∙ c.if-is_order_mark.true)) c.put_bytes.ensures

pub bounds-s-0 : goal.bounds-s-0
bounds-s-0 c = c.if-s-gt0.true

pub returns-then-s-gt0 : goal.returns-then-s-gt0
returns-then-s-gt0 c = same (unmarked _ (sym c.is_order_mark.ensures ∙ c.if-is_order_mark.false) c.if-s-gt0.true) c.put_byte_alone.ensures

pub returns : goal.returns
returns c = same (no_byte _ (sym c.is_order_mark.ensures ∙ c.if-is_order_mark.false) c.if-s-gt0.false) none
