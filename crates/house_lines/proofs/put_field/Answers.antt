-- `house_lines::put_field` meets its contract. Assumes nothing.
use mathlib.Core.Path.{sym, ◌∙◌}
use Rattle.terms.specs.Ascii.{ascii}
use Rattle.house_lines.specs.Said.{mend_if}
use Rattle.house_lines.proofs.put_field.Goals as goal

pub returns-then-needs_mending : goal.returns-then-needs_mending
unfolding mend_if ascii
returns-then-needs_mending c = rw (sym c.needs_mending.ensures ∙ c.if-needs_mending.true) c.put_bytes.ensures

pub returns : goal.returns
unfolding mend_if
returns c = rw (sym c.needs_mending.ensures ∙ c.if-needs_mending.false) c.put_bytes-2.ensures
