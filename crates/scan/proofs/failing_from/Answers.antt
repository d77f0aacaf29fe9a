-- `scan::failing_from` meets its contract: the scan from i reaches where the scan from `from` does. Assumes nothing.
use mathlib.Core.Path.{sym, ◌∙◌}
use Rattle.scan.specs.Reach.{fails}
use Rattle.scan.proofs.Passing.{fails_stop, fails_go, came_to_end}
use Rattle.scan.proofs.failing_from.Goals as goal

pub returns-then-not-test : goal.returns-then-not-test
returns-then-not-test g c t a =
    let e = a _ (c.type_inv.s c.loop-i.i).fits _ c.test.ensures in
    sym (fails_stop t c.args.s.now c.loop-i.i c.loop-i-test.true (sym e ∙ c.if-not-test.true)) ∙ c.loop-i.invariant t a

pub loop-i-preserved : goal.loop-i-preserved
loop-i-preserved g c t a =
    let e = a _ (c.type_inv.s c.loop-i.i).fits _ c.test.ensures in
    fails_go t c.args.s.now c.loop-i.i c.loop-i-test.true (sym e ∙ c.if-not-test.false) ∙ c.loop-i.invariant t a

pub returns : goal.returns
returns g c t a = c.max.ensures ∙ came_to_end (fails t) c.args.s.now c.args.from c.loop-i.i c.loop-i-test.false c.loop-i.auto.i-end (c.loop-i.invariant t a)
