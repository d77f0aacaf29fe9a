-- `shown::start_of` meets its contract: of the lines from here on so many are still to pass. Assumes nothing.
use Prim.Native.Nat.{◌-◌}
use native.Mathlib.Omega.{arith}
use borrow.Author.Rules.{rules}
use Rattle.scan.specs.Reach.{stops_by}
use Rattle.scan.specs.declared.Until.TheVariants.{Byte}
use Rattle.scan.proofs.Reach.{reach_le}
use Rattle.shown.proofs.Lines.{one_less, here, nowhere}
use Rattle.shown.proofs.start_of.Goals as goal

pub returns-then-left-le1 : goal.returns-then-left-le1
returns-then-left-le1 c =
    let l = c.loop-from in
    let a = c.args in
    here a.text.now l.from l.left (a.wanted - 1) c.if-left-le1.true l.invariant

pub overflow_add-from : goal.overflow_add-from
overflow_add-from c =
    let s = c.args.text.now in
    let l = c.loop-from.from in
    let h = c.loop-from-test.true in
    omega (arith, c.far_byte_from-from.ensures, reach_le (stops_by (Byte 10)) s l (omega arith))

pub loop-from-smaller : goal.loop-from-smaller
loop-from-smaller c = search (rules, c.far_byte_from-from.ensures)

pub loop-from-preserved : goal.loop-from-preserved
loop-from-preserved c =
    let l = c.loop-from in
    let a = c.args in
    one_less a.text.now l.from c.far_byte_from-from.result l.left (a.wanted - 1) c.loop-from-test.true c.far_byte_from-from.ensures (let h = c.if-left-le1.false in omega arith) l.invariant

pub returns : goal.returns
returns c =
    let l = c.loop-from in
    let a = c.args in
    nowhere a.text.now l.from l.left (a.wanted - 1) c.loop-from-test.false l.invariant
