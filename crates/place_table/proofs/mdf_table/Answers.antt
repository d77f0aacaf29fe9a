-- `place_table::mdf_table` meets its contract. Assumes nothing.
use mathlib.Core.Path.{refl}
use Rattle.grammar.specs.PlaceTable.{mdf_table_of}
use Rattle.place_table.proofs.mdf_table.Goals as goal

-- src/lib.rt:132:1
pub returns : goal.returns
unfolding mdf_table_of
returns c = refl
