-- `expected_words::put_order` meets its contract: the keyword of this kind. Assumes nothing.
use mathlib.Core.Path.{ap, ◌∙◌}
use Rattle.terms.specs.Ascii.{ascii}
use Rattle.output.proofs.Writing.{same}
use Rattle.expected_words.specs.Items.{mdf_word}
use Rattle.shown.specs.Shown.{line_in}
use native.Mathlib.Numerals.{add-one}
use Rattle.expected_words.proofs.put_order.Goals as goal

pub returns : goal.returns
unfolding ascii mdf_word
returns c = same (c.line_of.ensures ∙ ap (line_in _) (add-one _)) c.put_bytes.ensures
