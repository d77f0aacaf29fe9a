-- `look_up::points_of` meets its contract: the numbers that were passed have their answers. Assumes nothing.
use mathlib.Core.Path.{refl}
use Prim.Native.Nat.{◌<◌, ◌≤◌, zero-le}
use native.Mathlib.Omega.{arith}
use lib.ListN.{length, length-set}
use lib.Seq.{take_all}
use borrow.Author.Rules.{rules}
use Rattle.look_up.specs.Listed.{refused, answered}
use Rattle.look_up.proofs.ListSettled.{one-more-answer}
use Rattle.look_up.proofs.points_of.Goals as goal

pub returns-then-numbers-points : goal.returns-then-numbers-points
returns-then-numbers-points c = refused (search rules) refl c.clear.ensures

pub loop-i-init : goal.loop-i-init
loop-i-init c = (zero-le, refl, refl, c.if-numbers-points.false, tt)

pub loop-i-preserved : goal.loop-i-preserved
loop-i-preserved c =
    let at = c.loop-i in
    let a = c.args in
    let h : at.i < length a.numbers.now = search rules in (
      omega arith,
      refl,
      simp length-set at.invariant.2,
      at.invariant.3,
      one-more-answer a.checkpoints.now a.numbers.now at.points at.i c.point_of_word.result h (omega (arith, at.invariant.2, at.invariant.3)) c.point_of_word.ensures at.invariant.4,
    )

pub shape_of-points : goal.shape_of-points
shape_of-points c = c.loop-i.invariant.2

pub returns : goal.returns
returns c =
    let at = c.loop-i in
    let a = c.args in
    let l : length a.numbers.now ≤ at.i = search rules in
    let m : length at.points ≤ at.i = omega (arith, at.invariant.2, at.invariant.3) in
    answered at.invariant.3 refl (rw (take_all at.i a.numbers.now l, take_all at.i at.points m) at at.invariant.4)
