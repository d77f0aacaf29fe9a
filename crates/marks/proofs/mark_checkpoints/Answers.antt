-- `marks::mark_checkpoints` meets its contract. Assumes nothing.
use mathlib.Core.Path.{◌≡◌, refl, sym}
use Prim.Native.Nat.{zero-le}
use native.Mathlib.Numerals.{add-one}
use native.Mathlib.Omega.{arith}
use Rattle.marks.specs.Rows.{checkpoint_says, said}
use Rattle.marks.specs.Marks.{mark_all}
use Rattle.marks.proofs.Seen.{mark-more}
use Rattle.marks.proofs.mark_checkpoints.Goals as goal

pub loop-row-init : goal.loop-row-init
unfolding said mark_all
loop-row-init c = (zero-le, refl)

pub loop-row-preserved : goal.loop-row-preserved
unfolding said
loop-row-preserved c =
    let a = c.args in
    (omega arith, rw (c.mark.ensures, c.checkpoint_at-checkpoint.ensures, c.loop-row.invariant.1, add-one) (sym (mark-more a.marks.now (said (checkpoint_says a.checkpoints.now) c.loop-row.row) (checkpoint_says a.checkpoints.now c.loop-row.row))))

pub returns : goal.returns
returns c =
    let a = c.args in
    let e : c.loop-row.row ≡ a.count = omega arith in
    rw (← e) c.loop-row.invariant.1
