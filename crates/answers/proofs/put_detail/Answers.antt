-- `answers::put_detail` meets its contract: the byte in words for 4, else nothing. Assumes nothing.
use mathlib.Core.Path.{ap, ◌∙◌}
use mathlib.Core.List.{◌++◌}
use Rattle.terms.specs.Ascii.{Bytes, ascii}
use Rattle.output.proofs.Writing.{none, same, ◌then◌}
use Rattle.shown.specs.Shown.{byte_words}
use Rattle.answers.proofs.Cases.{byte-told, no-byte-told}
use Rattle.answers.proofs.put_detail.Goals as goal

pub returns-then-number-ne4 : goal.returns-then-number-ne4
returns-then-number-ne4 c = same (no-byte-told _ _ _ c.if-number-ne4.true) none

pub returns : goal.returns
unfolding ascii
returns c =
    same (ap (λ (x : Bytes). ascii ": " ++ byte_words x) c.from_column.ensures ∙ byte-told _ _ _ c.if-number-ne4.false) (c.put_bytes-a.ensures then c.put_byte_words.ensures)
