-- `shown::put_shown_byte` meets its contract: by the byte. Assumes nothing.
use mathlib.Core.Path.{sym, ◌∙◌}
use Rattle.terms.specs.Ascii.{ascii}
use Rattle.output.proofs.Writing.{same, ◌then◌}
use Rattle.shown.proofs.Laws.{shown-plain, shown-wide}
use Rattle.shown.proofs.put_shown_byte.Goals as goal

pub returns-then-is_inside : goal.returns-then-is_inside
returns-then-is_inside c = same (shown-plain _ (sym c.is_inside.ensures ∙ c.if-is_inside.true)) c.put_byte.ensures

pub returns : goal.returns
unfolding ascii
returns c = same (shown-wide _ (sym c.is_inside.ensures ∙ c.if-is_inside.false)) (c.put_bytes-a.ensures then (rw c.hex.ensures at c.put_byte-c.ensures) then (rw c.hex-2.ensures at c.put_byte-2.ensures))
