-- `expected_words::put_word` meets its contract: the keyword of this kind. Assumes nothing.
use mathlib.Core.Path.{ap, ◌∙◌}
use Rattle.terms.specs.Ascii.{ascii}
use Rattle.output.proofs.Writing.{same}
use Rattle.expected_words.specs.Items.{rndf_word}
use Rattle.shown.specs.Shown.{line_in}
use native.Mathlib.Numerals.{add-one}
use Rattle.expected_words.proofs.put_word.Goals as goal

pub returns : goal.returns
unfolding ascii rndf_word
returns c = same (c.line_of.ensures ∙ ap (line_in _) (add-one _)) c.put_bytes.ensures
