-- `mend_passes::store_change` meets its contract. Assumes nothing.
use mathlib.Core.Path.{sym}
use mathlib.Core.List.{[], ◌∷◌}
use Prim.Native.Nat.{◌*◌, ◌<◌}
use native.Mathlib.Numerals.{add-one}
use native.Mathlib.Omega.{arith}
use lib.ListN.{length, length-set}
use lib.Seq.{sets-eq}
use Rattle.rows.specs.Lay.{rows_of}
use Rattle.rows.proofs.Lay.{put-inside, put-outside}
use Rattle.mend_passes.proofs.store_change.Goals as goal

pub bounds-list-at-then-at-rows_of : goal.bounds-list-at-then-at-rows_of
bounds-list-at-then-at-rows_of c = simp length-set (omega arith)

pub returns-then-at-rows_of : goal.returns-then-at-rows_of
returns-then-at-rows_of c =
    let a = c.args in
    let h : a.row < rows_of (length a.list.now) 2 = omega arith in
    rw (add-one, put-inside 2 a.list.now a.row (a.line ∷ a.which ∷ []) h) (sets-eq (a.line ∷ a.which ∷ []) a.list.now (a.row * 2) (omega arith))

pub returns-else-at-rows_of : goal.returns-else-at-rows_of
returns-else-at-rows_of c = let a = c.args in sym (put-outside 2 a.list.now a.row (a.line ∷ a.which ∷ []) (omega arith))
