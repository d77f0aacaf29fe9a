-- `moves::first_word` meets its contract. Assumes nothing.
use mathlib.Core.Path.{refl}
use native.Mathlib.Omega.{arith}
use lib.ListN.{length}
use Rattle.moves.specs.Halving.{first_word}
use Rattle.moves.proofs.Halving.{word-there}
use Rattle.moves.proofs.first_word.Goals as goal

pub overflow_mul-result : goal.overflow_mul-result
overflow_mul-result c = let h = word-there (length c.args.table.now) c.args.stride c.args.row c.requires in omega arith

pub offset_bounds-table-row : goal.offset_bounds-table-row
offset_bounds-table-row c = let h = word-there (length c.args.table.now) c.args.stride c.args.row c.requires in omega arith

pub bounds-table-row : goal.bounds-table-row
bounds-table-row c = word-there (length c.args.table.now) c.args.stride c.args.row c.requires

pub returns : goal.returns
unfolding first_word
returns c = refl
