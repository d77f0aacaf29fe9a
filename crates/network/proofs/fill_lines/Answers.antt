-- `network::fill_lines` meets its contract. Assumes nothing.
use Rattle.edition.specs.Editions.{inner}
use Rattle.progress.specs.After.{no_progress}
use Rattle.network.specs.Storing.{memory}
use Rattle.network.proofs.Onward.{filled-from}
use Rattle.network.proofs.fill_lines.Goals as goal

pub returns : goal.returns
returns c =
    let A = c.args in
    let m = memory no_progress A.segments.now A.lanes.now A.zones.now A.spots.now A.points.now A.checkpoints.now A.stops.now A.exits.now in
    filled-from (inner A.edition) A.text.now m c.walk_lines-walked.result c.at_end.result _ c.at_end.ensures (c.walk_lines-walked.ensures c.rndf_table-table.ensures)
