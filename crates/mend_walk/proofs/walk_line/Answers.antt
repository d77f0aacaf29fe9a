-- `mend_walk::walk_line` meets its contract. Assumes nothing.
use mathlib.Core.Path.{refl, sym}
use native.Mathlib.Omega.{arith}
use lib.Seq.{length-take-le}
use Rattle.scan.proofs.Reach.{reach_le}
use Rattle.scan.specs.declared.Until.TheVariants.{Byte}
use Rattle.scan.specs.Reach.{stops_by}
use Rattle.edition.specs.Editions.{inner}
use Rattle.mend_tests.specs.Tests.{few}
use Rattle.mend_walk.proofs.Alone.{stop-within}
use Rattle.mend_walk.proofs.Steps.{stays-walked, recounted-walked}
use Rattle.mend_walk.proofs.walk_line.Goals as goal

pub slice_bounds-walk_few-end : goal.slice_bounds-walk_few-end
slice_bounds-walk_few-end c =
    let S = c in
    sym (length-take-le c.line_stop-stop.result S.args.text.now (omega (arith, c.line_stop-stop.ensures, stop-within S.args.text.now S.args.from S.requires.from_in_bounds)))

pub slice_bounds-walk_changed-end : goal.slice_bounds-walk_changed-end
slice_bounds-walk_changed-end c = omega (arith, c.far_byte_from-e.ensures, reach_le (stops_by (Byte 10)) c.args.text.now c.args.from (omega arith))

pub returns-in-Stays : goal.returns-in-Stays
returns-in-Stays c =
    let S = c in
    let A = S.args in
    let inside = stop-within A.text.now A.from S.requires.from_in_bounds in
    let long = length-take-le c.line_stop-stop.result A.text.now (omega (arith, c.line_stop-stop.ensures, inside)) in
    λ right rows small one. stays-walked (inner A.edition) A.at (few A.had A.segments.now A.lanes.now A.zones.now A.checkpoints.now) A.first A.text.now A.from A.becomes c.line_stop-stop.result S.requires.from_in_bounds c.in-Stays.is c.line_stop-stop.ensures (c.walk_few.ensures right (omega (arith, long, c.line_stop-stop.ensures, inside, S.requires.text_len_bound)) rows small)

pub returns-in-Goes : goal.returns-in-Goes
returns-in-Goes c = rw c.in-Goes.is (λ right rows small one. refl)

pub returns-in-Recount : goal.returns-in-Recount
returns-in-Recount c =
    let A = c.args in
    λ right rows small one. recounted-walked (inner A.edition) A.at (few A.had A.segments.now A.lanes.now A.zones.now A.checkpoints.now) A.first A.text.now A.from A.becomes c.in-Recount.start c.in-Recount.stop c.in-Recount.n c.far_byte_from-e.result c.in-Recount.is c.far_byte_from-e.ensures one (λ plain. c.walk_changed.ensures right rows small plain)
