-- `word::boundary_word` meets its contract: what is known of the word that the field is, is so of the field. Assumes nothing.
use mathlib.Core.Path.{ap, ◌∙◌}
use Rattle.word.specs.Number.{boundary_number}
use Rattle.word.specs.Table.{known_of}
use Rattle.word.specs.declared.Word.{Word}
use Rattle.word.proofs.Rows.{boundary-number-at}
use Rattle.word.proofs.boundary_word.Goals as goal

pub returns : goal.returns
unfolding known_of boundary_number
returns c = ap (λ (w : Word). w.as_boundary) c.found-w.ensures ∙ boundary-number-at c.args.s.now
