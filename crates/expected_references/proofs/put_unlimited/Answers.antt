-- `expected_references::put_unlimited` meets its contract. What is put behind what is out is all that is told. Assumes nothing.
use mathlib.Core.Bool.{not}
use mathlib.Core.Path.{◌≡◌, refl, sym, ap, ◌∙◌}
use Prim.Native.Nat.{◌-◌, ◌≤◌}
use native.Mathlib.Omega.{arith}
use lib.ListN.{take}
use Rattle.line.specs.Lines.{lines_of}
use Rattle.output.specs.Pen.{pen}
use Rattle.output.proofs.Writing.{none}
use Rattle.marks.proofs.Seen.{none-marked}
use Rattle.expected_references.specs.Named.{ids_in, limit_ids, unlimited_in}
use Rattle.expected_references.proofs.Walks.{ids-few, limits-marked, id-put, id-passed, ids-done}
use Rattle.expected_references.proofs.put_unlimited.Goals as goal

pub loop-id-init : goal.loop-id-init
unfolding unlimited_in
loop-id-init c =
    let n : c.ids_in-most.result - 0 ≡ ids_in c.args.rndf.now = omega (arith, c.ids_in-most.ensures) in
    (refl, omega arith, omega arith, rw n refl)

pub overflow_add-id : goal.overflow_add-id
overflow_add-id c = omega (arith, c.loop-id-test.true)

pub overflow_add-count : goal.overflow_add-count
overflow_add-count c = omega (arith, c.loop-id.invariant.2, c.loop-id-test.true)

pub loop-id-smaller-then-not-is_marked : goal.loop-id-smaller-then-not-is_marked
loop-id-smaller-then-not-is_marked c = omega (arith, c.loop-id-test.true)

pub loop-id-preserved-then-not-is_marked : goal.loop-id-preserved-then-not-is_marked
loop-id-preserved-then-not-is_marked c =
    let l = c.loop-id in
    let a = c.args in
    let m = limits-marked a.mdf.now a.line _ _ (none-marked 4096 refl) c.mark_limits.ensures in
    let few : c.ids_in-most.result ≤ 32768 = rw c.ids_in-most.ensures (ids-few a.rndf.now) in
    (c.put_number-to.auto.out ∙ l.invariant.0, omega (arith, c.loop-id-test.true), omega (arith, l.invariant.2), id-put a.head.now a.none.now _ _ m l.id _ c.loop-id-test.true few _ l.count _ c.is_marked.ensures (ap not c.if-not-is_marked.true) c.put_number-to.ensures ∙ l.invariant.3)

pub loop-id-smaller : goal.loop-id-smaller
loop-id-smaller c = omega (arith, c.loop-id-test.true)

pub loop-id-preserved : goal.loop-id-preserved
loop-id-preserved c =
    let l = c.loop-id in
    let a = c.args in
    let m = limits-marked a.mdf.now a.line _ _ (none-marked 4096 refl) c.mark_limits.ensures in
    let few : c.ids_in-most.result ≤ 32768 = rw c.ids_in-most.ensures (ids-few a.rndf.now) in
    (l.invariant.0, omega (arith, c.loop-id-test.true), omega (arith, l.invariant.2), id-passed a.head.now a.none.now _ _ m l.id _ c.loop-id-test.true few (pen l.out l.to) l.count _ c.is_marked.ensures (ap not c.if-not-is_marked.false) ∙ l.invariant.3)

pub shape_of-out : goal.shape_of-out
shape_of-out c = c.put_list_end.auto.out ∙ c.loop-id.invariant.0

pub returns : goal.returns
returns c = record { is = sym c.loop-id.invariant.3 ∙ ids-done c.args.head.now c.args.none.now (limit_ids (take (c.args.line - 1) (lines_of c.args.mdf.now))) c.loop-id.id _ c.loop-id-test.false c.loop-id.count c.put_list_end.ensures }
