-- `packed_parts::spots_to` meets its contract. Assumes nothing.
use native.Mathlib.Omega.{arith}
use Rattle.packed_parts.specs.Parts.{cell_at}
use Rattle.packed_parts.proofs.EntryLaws.{halving-begins, upper_half, lower_half, halving-ends}
use Rattle.packed_parts.proofs.spots_to.Goals as goal

pub loop-low-init : goal.loop-low-init
loop-low-init c = halving-begins (cell_at c.args.bytes.now c.args.spots.from 8 2) c.args.point c.args.spots.count

pub loop-low-preserved-then-cell-point : goal.loop-low-preserved-then-cell-point
loop-low-preserved-then-cell-point c = upper_half (cell_at c.args.bytes.now c.args.spots.from 8 2) c.args.point c.loop-low.invariant (omega arith) c.cell.result c.cell.ensures (omega arith)

pub loop-low-preserved : goal.loop-low-preserved
loop-low-preserved c = lower_half (cell_at c.args.bytes.now c.args.spots.from 8 2) c.args.point c.loop-low.invariant (omega arith) c.cell.result c.cell.ensures (omega arith)

pub returns : goal.returns
returns c = halving-ends (cell_at c.args.bytes.now c.args.spots.from 8 2) c.args.point c.loop-low.invariant (omega arith)
