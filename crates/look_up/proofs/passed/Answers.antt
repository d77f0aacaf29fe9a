-- `look_up::passed` meets its contract: no row that was passed has the number. Assumes nothing.
use mathlib.Core.Path.{◌≡◌, sym, ◌∙◌, subst}
use Prim.Native.Nat.{ℕ, ◌+◌, ◌*◌}
use native.Mathlib.Omega.{arith}
use Rattle.look_up.specs.LookUp.{NoneBefore}
use Rattle.look_up.proofs.Others.{rows-passed}
use Rattle.look_up.proofs.passed.Goals as goal

pub loop-eight-preserved : goal.loop-eight-preserved
loop-eight-preserved c =
    let a = c.args in
    let next : 8 * c.loop-eight.eight + 8 ≡ 8 * (c.loop-eight.eight + 1) = omega arith in
    subst (λ (row : ℕ). NoneBefore a.checkpoints.now row a.wanted) next
    (rows-passed a.checkpoints.now a.wanted 8 (8 * c.loop-eight.eight) (omega (arith, c.rows_of-eights.ensures, c.loop-eight-test.true)) (sym c.eight_others.ensures ∙ c.if-not-eight_others.false) c.loop-eight.invariant)
