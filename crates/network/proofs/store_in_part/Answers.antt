use mathlib.Core.Path.{refl}
use native.Mathlib.Omega.{arith}
use borrow.Author.Tests.{le-leb, lt-leb}
use Prim.Native.Nat.{◌*◌}
use lib.ListN.{length}
use Rattle.rows.specs.Columns.{point_words_of}
use Rattle.network.specs.Storing.{store_part}
use Rattle.network.proofs.PartBack.{part-back}
use Rattle.network.proofs.store_in_part.Goals as goal

-- src/lib.rt:39:1
pub returns-then-at-points : goal.returns-then-at-points
unfolding store_part
returns-then-at-points c =
    let a = c.args in
    rw (le-leb (a.first * 2) (length a.points.now) c.if-at-points.true) (part-back (a.first * 2) 2 a.within a.points.now c.store_point.new.t (point_words_of a.point) c.store_point.ensures)

-- src/lib.rt:39:1
pub returns-else-at-points : goal.returns-else-at-points
unfolding store_part
returns-else-at-points c = let a = c.args in rw (lt-leb (a.first * 2) (length a.points.now) (omega arith)) refl
