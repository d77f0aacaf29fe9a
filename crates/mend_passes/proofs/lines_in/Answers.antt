-- `mend_passes::lines_in` meets its contract. What is counted and the lines from there on are all lines. Assumes nothing.
use mathlib.Core.Path.{ap}
use native.Mathlib.Omega.{arith}
use lib.ListN.{length}
use Rattle.mend_passes.proofs.Steps.{line-inside, lines-one-more}
use Rattle.line.proofs.Cuts.{lines_end}
use Rattle.mend_passes.proofs.lines_in.Goals as goal

pub loop-from-init : goal.loop-from-init
loop-from-init c = (omega arith, omega arith)

pub overflow_add-from : goal.overflow_add-from
overflow_add-from c = omega (arith, (line-inside c.args.text.now c.loop-from.from c.far_byte_from-from.result c.loop-from-test.true c.far_byte_from-from.ensures).1)

pub loop-from-smaller : goal.loop-from-smaller
loop-from-smaller c = omega (arith, c.far_byte_from-from.ensures, c.loop-from-test.true)

pub loop-from-preserved : goal.loop-from-preserved
loop-from-preserved c =
    let l = c.loop-from in
    let h = c.loop-from-test.true in
    (omega (arith, lines-one-more c.args.text.now l.from c.far_byte_from-from.result h c.far_byte_from-from.ensures, l.invariant.0), omega (arith, c.far_byte_from-from.ensures, l.invariant.1))

pub returns : goal.returns
returns c = omega (arith, ap length (lines_end c.args.text.now c.loop-from.from c.loop-from-test.false), c.loop-from.invariant.0)
