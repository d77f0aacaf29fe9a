-- `packed_parts::lanes_end` meets its contract. Assumes nothing.
use native.Mathlib.Omega.{arith}
use Rattle.packed_parts.proofs.PartLaws.{last-lane}
use Rattle.packed_parts.proofs.lanes_end.Goals as goal

pub returns : goal.returns
returns c = last-lane c.args.bytes.now c.args.lanes.from c.args.lanes.count c.cell-first.result c.cell-counts.result (omega (arith, c.if-lanes-eq0.false)) c.cell-first.ensures c.cell-counts.ensures
