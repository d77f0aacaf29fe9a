-- `word::rndf_keyword` meets its contract: what is known of the word that the field is, is so of the field. Assumes nothing.
use mathlib.Core.Path.{ap, ◌∙◌}
use Rattle.word.specs.Table.{known_of}
use Rattle.word.specs.declared.Word.{Word}
use Rattle.word.proofs.Rows.{rndf-number}
use Rattle.word.proofs.rndf_keyword.Goals as goal

pub returns : goal.returns
unfolding known_of
returns c = ap (λ (w : Word). w.in_rndf) c.found-w.ensures ∙ rndf-number c.args.s.now
