-- `mission_column::arrive` meets its contract. Assumes nothing.
use mathlib.Core.Path.{refl, sym, ◌∙◌}
use native.Mathlib.Omega.{arith}
use Rattle.scan.proofs.Reach.{reach_le}
use Rattle.scan.specs.declared.Until.TheVariants.{Byte}
use Rattle.scan.specs.Reach.{stops_by}
use Rattle.mission_column.specs.Before.{arrived}
use Rattle.mission_column.proofs.Lines.{at-end, this-line, other-line}
use Rattle.mission_column.proofs.arrive.Goals.{in-Blank, in-Said}
use Rattle.mission_column.proofs.arrive.Goals as goal

pub loop-from-init : goal.loop-from-init
unfolding arrived
loop-from-init c = (omega arith, omega arith, rw c.start-place.ensures refl)

pub returns-then-line-wanted : goal.returns-then-line-wanted
returns-then-line-wanted c =
    let A = c.args in
    sym (this-line A.text.now c.loop-from.from _ c.loop-from-test.true refl c.loop-from.place c.loop-from.line A.wanted c.if-line-wanted.true) ∙ c.loop-from.invariant.2

pub slice_bounds-mission_judge_line-end : goal.slice_bounds-mission_judge_line-end
slice_bounds-mission_judge_line-end c =
    let s = c.args.text.now in
    omega (arith, c.far_byte_from-e.ensures, reach_le (stops_by (Byte 10)) s c.loop-from.from (omega arith))

pub returns-in-Bad : goal.returns-in-Bad
returns-in-Bad c =
    let A = c.args in
    let t = c.mdf_table-table in
    let h = c.requires in
    sym (rw c.in-Bad.is at (other-line A.text.now c.loop-from.from c.far_byte_from-e.result c.loop-from-test.true c.far_byte_from-e.ensures c.loop-from.place c.loop-from.line A.wanted t.result t.ensures (omega arith) c.if-line-wanted.false c.mission_judge_line-v.result c.mission_judge_line-v.ensures)) ∙ c.loop-from.invariant.2

pub overflow_add-from : goal.overflow_add-from
overflow_add-from c =
    let s = c.args.text.now in
    omega (arith, c.far_byte_from-e.ensures, reach_le (stops_by (Byte 10)) s c.loop-from.from (omega arith))

pub loop-from-preserved : goal.loop-from-preserved
loop-from-preserved c =
    let A = c.args in
    let t = c.mdf_table-table in
    let h = c.requires in
    let k = reach_le (stops_by (Byte 10)) A.text.now c.loop-from.from (omega arith) in
    let e = c.far_byte_from-e.ensures in
    let o = other-line A.text.now c.loop-from.from c.far_byte_from-e.result c.loop-from-test.true e c.loop-from.place c.loop-from.line A.wanted t.result t.ensures (omega arith) c.if-line-wanted.false c.mission_judge_line-v.result c.mission_judge_line-v.ensures in
    elim c.match-v.branch [
      | in-Blank w ↦ (omega arith, omega arith, rw w.place-is (sym (rw w.in-Blank.is at o) ∙ c.loop-from.invariant.2))
      | in-Said w ↦ (omega arith, omega arith, rw w.place-is (sym (rw w.in-Said.is at o) ∙ c.loop-from.invariant.2))
    ]

pub returns : goal.returns
returns c =
    let A = c.args in
    sym (at-end A.text.now c.loop-from.from c.loop-from-test.false c.loop-from.place c.loop-from.line A.wanted) ∙ c.loop-from.invariant.2
