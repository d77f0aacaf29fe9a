-- `packed_parts::is_entry` meets its contract. Assumes nothing.
use native.Mathlib.Omega.{arith}
use Rattle.packed_parts.specs.Parts.{cell_at}
use Rattle.packed_parts.proofs.EntryLaws.{lane_entry, no-point, before-spots, behind-spot}
use Rattle.packed_parts.proofs.is_entry.Goals as goal

pub returns-then-point-end : goal.returns-then-point-end
returns-then-point-end c = lane_entry (cell_at c.args.bytes.now c.args.spots.from 8 2) c.args.spots.count c.args.points c.args.end c.args.point (omega arith)

pub returns-then-points-point : goal.returns-then-points-point
returns-then-points-point c = no-point (cell_at c.args.bytes.now c.args.spots.from 8 2) c.args.spots.count c.args.points c.args.end c.args.point (omega arith) (omega arith)

pub returns-then-to-eq0 : goal.returns-then-to-eq0
returns-then-to-eq0 c = before-spots (cell_at c.args.bytes.now c.args.spots.from 8 2) c.args.spots.count c.args.points c.args.end c.args.point (omega arith) (omega arith) c.spots_to-to.result c.spots_to-to.ensures c.if-to-eq0.true

pub returns : goal.returns
returns c = behind-spot (cell_at c.args.bytes.now c.args.spots.from 8 2) c.args.spots.count c.args.points c.args.end c.args.point (omega arith) (omega arith) c.spots_to-to.result c.spots_to-to.ensures c.if-to-eq0.false c.cell.result c.cell.ensures
