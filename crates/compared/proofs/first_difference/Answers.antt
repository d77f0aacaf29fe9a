-- `compared::first_difference` meets its contract: what is left of both differs where the whole does. Assumes nothing.
use mathlib.Core.Path.{refl, sym, ◌∙◌}
use native.Mathlib.Omega.{arith}
use Rattle.compared.specs.Compared.{first_difference_of}
use Rattle.compared.proofs.Laws.{other_byte, second-ends, first_ends, both_end, next-line, next-byte}
use Rattle.compared.proofs.first_difference.Goals as goal
use Rattle.compared.proofs.first_difference.Goals.{then-a-i-eq10, else-a-i-eq10}

pub loop-i-init : goal.loop-i-init
unfolding first_difference_of
loop-i-init c = (omega arith, refl)

pub returns-then-b-i : goal.returns-then-b-i
returns-then-b-i c =
    let l = c.loop-i in
    sym (second-ends c.args.a.now c.args.b.now l.i l.start l.passed c.loop-i-test.true c.if-b-i.true) ∙ l.invariant.1

pub returns-then-a-i : goal.returns-then-a-i
returns-then-a-i c =
    let l = c.loop-i in
    sym (other_byte c.args.a.now c.args.b.now l.i l.start l.passed c.loop-i-test.true c.if-b-i.false c.if-a-i.true) ∙ l.invariant.1

pub loop-i-preserved : goal.loop-i-preserved
loop-i-preserved c =
    let a = c.args.a.now in
    let b = c.args.b.now in
    let l = c.loop-i in
    elim c.if-a-i-eq10.branch [
      | then-a-i-eq10 w ↦ rw (w.start-is, w.passed-is) (omega (arith, l.invariant.0), next-line a b l.i l.start l.passed c.loop-i-test.true c.if-b-i.false c.if-a-i.false w.if-a-i-eq10.true ∙ l.invariant.1)
      | else-a-i-eq10 w ↦ rw (w.start-is, w.passed-is) (omega (arith, l.invariant.0), next-byte a b l.i l.start l.passed c.loop-i-test.true c.if-b-i.false c.if-a-i.false w.if-a-i-eq10.false ∙ l.invariant.1)
    ]

pub returns-then-a-b : goal.returns-then-a-b
returns-then-a-b c =
    let l = c.loop-i in
    sym (first_ends c.args.a.now c.args.b.now l.i l.start l.passed c.loop-i-test.false (omega (arith, c.loop-i-test.false, l.auto.i-end))) ∙ l.invariant.1

pub returns : goal.returns
returns c =
    let l = c.loop-i in
    sym (both_end c.args.a.now c.args.b.now l.i l.start l.passed c.loop-i-test.false (omega (arith, c.loop-i-test.false))) ∙ l.invariant.1
