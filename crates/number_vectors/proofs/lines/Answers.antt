-- The line ends inside the text.
use Rattle.std.proofs.Common.{◌≤◌, arith, length}
use Rattle.scan.specs.Reach.{stops_by}
use Rattle.scan.specs.declared.Until.TheVariants.{Byte}
use Rattle.scan.proofs.Reach.{reach_le}
use Rattle.number_vectors.proofs.lines.Goals as goal

pub slice_bounds-line-end : goal.slice_bounds-line-end
slice_bounds-line-end g c = omega (arith, c.scan-stop.ensures, reach_le (stops_by (Byte 10)) c.args.t.now c.loop-at.at (omega arith))
