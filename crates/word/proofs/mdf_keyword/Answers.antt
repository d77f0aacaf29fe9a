-- `word::mdf_keyword` meets its contract: what is known of the word that the field is, is so of the field. Assumes nothing.
use mathlib.Core.Path.{ap, ◌∙◌}
use Rattle.word.specs.Table.{known_of}
use Rattle.word.specs.declared.Word.{Word}
use Rattle.word.proofs.Rows.{mdf-number}
use Rattle.word.proofs.mdf_keyword.Goals as goal

pub returns : goal.returns
unfolding known_of
returns c = ap (λ (w : Word). w.in_mdf) c.found-w.ensures ∙ mdf-number c.args.s.now
