-- `house_lines::put_house` meets its contract. Assumes nothing.
use mathlib.Core.Path.{refl, ◌∙◌}
use mathlib.Core.List.{[], ◌++◌}
use Prim.Native.Nat.{◌+◌, ◌-◌}
use native.Mathlib.Omega.{arith}
use lib.ListN.{take, drop}
use Rattle.scan.specs.Reach.{stops_by}
use Rattle.scan.specs.declared.Until.TheVariants.{Byte}
use Rattle.scan.proofs.Reach.{reach_le}
use Rattle.grammar.specs.Tables.{gather}
use Rattle.output.specs.Pen.{pen}
use Rattle.terms.specs.Words.{pick}
use Rattle.house_lines.specs.Arranged.{line_of, passes, arranged_text}
use Rattle.house_lines.specs.Said.{spoken_from, left_over_of}
use Rattle.house_lines.proofs.Heard.{said-within}
use Rattle.house_lines.proofs.Order.{goes_on, is-over, house-step, house-over}
use Rattle.house_lines.proofs.put_house.Goals as goal

pub loop-from-init : goal.loop-from-init
unfolding arranged_text left_over_of spoken_from
loop-from-init c = (refl, refl)

pub slice_bounds-said_on-count : goal.slice_bounds-said_on-count
slice_bounds-said_on-count c = omega (arith, c.far_byte_from-e.ensures)

pub slice_bounds-said_on-start : goal.slice_bounds-said_on-start
slice_bounds-said_on-start c = omega (arith, c.far_byte_from-e.ensures)

pub slice_bounds-said_on-end : goal.slice_bounds-said_on-end
slice_bounds-said_on-end c =
    let s = c.args.text.now in
    let l = c.loop-from in
    let k = reach_le (stops_by (Byte 10)) s l.from (omega arith) in
    omega (arith, c.far_byte_from-e.ensures, k)

pub slice_bounds-put_ranked-count : goal.slice_bounds-put_ranked-count
slice_bounds-put_ranked-count c = omega (arith, c.far_byte_from-e.ensures)

pub slice_bounds-put_ranked-start : goal.slice_bounds-put_ranked-start
slice_bounds-put_ranked-start c = omega (arith, c.far_byte_from-e.ensures)

pub slice_bounds-put_ranked-end : goal.slice_bounds-put_ranked-end
slice_bounds-put_ranked-end c =
    let s = c.args.text.now in
    let l = c.loop-from in
    let k = reach_le (stops_by (Byte 10)) s l.from (omega arith) in
    omega (arith, c.far_byte_from-e.ensures, k)

pub put_ranked-to-requires : goal.put_ranked-to-requires
put_ranked-to-requires c =
    let s = c.args.text.now in
    let f = c.loop-from.from in
    rw c.said_on-s.ensures (said-within (take (c.far_byte_from-e.result - f) (drop f s)))

pub overflow_add-from : goal.overflow_add-from
overflow_add-from c =
    let s = c.args.text.now in
    let l = c.loop-from in
    let k = reach_le (stops_by (Byte 10)) s l.from (omega arith) in
    omega (arith, c.far_byte_from-e.ensures, k)

pub loop-from-smaller : goal.loop-from-smaller
loop-from-smaller c =
    let s = c.args.text.now in
    let l = c.loop-from in
    let k = reach_le (stops_by (Byte 10)) s l.from (omega arith) in
    omega (arith, c.far_byte_from-e.ensures, k)

pub loop-from-preserved : goal.loop-from-preserved
loop-from-preserved c =
    let a = c.args in
    let l = c.loop-from in
    let more = house-step a.text.now l.from c.far_byte_from-e.result c.loop-from-test.true c.far_byte_from-e.ensures c.said_on-s.result c.said_on-s.ensures l.fresh c.is_due.result c.fresh_after-fresh.result c.is_due.ensures c.fresh_after-fresh.ensures in
    let p = pen a.out.now a.at in
    let x = arranged_text a.text.now in
    let run = pick c.is_due.result (gather line_of (passes (spoken_from a.text.now l.from))) [] in
    let rest = gather line_of (left_over_of c.fresh_after-fresh.result (spoken_from a.text.now (c.far_byte_from-e.result + 1))) in
    (c.put_run-to.auto.out ∙ c.put_ranked-to.auto.out ∙ l.invariant.0, goes_on p x rest (goes_on p x (run ++ rest) l.invariant.1 more c.put_ranked-to.ensures) refl c.put_run-to.ensures)

pub shape_of-out : goal.shape_of-out
shape_of-out c = c.loop-from.invariant.0

pub returns : goal.returns
returns c = is-over c.loop-from.invariant.1 (house-over c.args.text.now c.loop-from.from (omega arith) c.loop-from.fresh)
