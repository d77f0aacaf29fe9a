-- `shown::put_blank` meets its contract: by the byte. Assumes nothing.
use mathlib.Core.Path.{sym, ◌∙◌}
use Rattle.terms.specs.Ascii.{ascii}
use Rattle.output.proofs.Writing.{same}
use Rattle.shown.proofs.Laws.{blank-tab, blank-plain, blank-wide}
use Rattle.shown.proofs.put_blank.Goals as goal

pub returns-then-b-eq9 : goal.returns-then-b-eq9
unfolding ascii
returns-then-b-eq9 c = same (blank-tab _ c.if-b-eq9.true) c.put_bytes.ensures

pub returns-then-is_inside : goal.returns-then-is_inside
unfolding ascii
returns-then-is_inside c = same (blank-plain _ c.if-b-eq9.false (sym c.is_inside.ensures ∙ c.if-is_inside.true)) c.put_bytes-then-is_inside.ensures

pub returns : goal.returns
unfolding ascii
returns c = same (blank-wide _ c.if-b-eq9.false (sym c.is_inside.ensures ∙ c.if-is_inside.false)) c.put_bytes-2.ensures
