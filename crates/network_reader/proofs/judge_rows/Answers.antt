use mathlib.Core.Path.{sym, ◌∙◌}
use Rattle.network.specs.Storing.{memory}
use Rattle.network_reader.proofs.Steps.{judged, no-parts, no-marks}
use Rattle.network_reader.proofs.judge_rows.Goals as goal

pub returns-then-marks_fit : goal.returns-then-marks_fit
returns-then-marks_fit c = let A = c.args in let m = memory A.gained A.segments.now A.lanes.now A.zones.now A.spots.now A.points.now A.checkpoints.now A.stops.now A.exits.now in judged A.text.now m c.rows_used-c.result c.refer-a.result _ c.answered.result c.rows_used-c.ensures (sym c.parts_fit.ensures ∙ c.if-parts_fit.true) (sym c.marks_fit.ensures ∙ c.if-marks_fit.true) c.refer-a.ensures c.answered.ensures

pub returns-else-marks_fit : goal.returns-else-marks_fit
returns-else-marks_fit c =
    let A = c.args in
    let m = memory A.gained A.segments.now A.lanes.now A.zones.now A.spots.now A.points.now A.checkpoints.now A.stops.now A.exits.now in
    let used = c.rows_used-c in
    no-marks A.text.now m used.result A.exits.now used.ensures (sym c.parts_fit.ensures ∙ c.if-parts_fit.true) (sym c.marks_fit.ensures ∙ c.if-marks_fit.false)

pub returns-else-parts_fit : goal.returns-else-parts_fit
returns-else-parts_fit c =
    let A = c.args in
    let m = memory A.gained A.segments.now A.lanes.now A.zones.now A.spots.now A.points.now A.checkpoints.now A.stops.now A.exits.now in
    let used = c.rows_used-c in
    no-parts A.text.now m used.result A.exits.now used.ensures (sym c.parts_fit.ensures ∙ c.if-parts_fit.false)
