-- `word::no_word` meets its contract. Assumes nothing.
use mathlib.Core.Path.{refl}
use Rattle.terms.specs.Ascii.{ascii}
use Rattle.scan.specs.Reach.{same_bytes_of}
use Rattle.word.specs.Keywords.{rndf_keywords, mdf_keywords, boundary_words}
use Rattle.word.specs.Number.{index_of}
use Rattle.word.specs.Packed.{packed}
use Rattle.word.specs.Table.{words, known_of}
use Rattle.word.proofs.no_word.Goals as goal

pub returns : goal.returns
unfolding words rndf_keywords mdf_keywords boundary_words ascii index_of same_bytes_of packed known_of
returns c = refl
