-- A scan ends within the text.
use Rattle.std.proofs.Common.{◌≤◌, ◌-◌, arith, length}
use Rattle.scan.specs.Reach.{stops_by}
use Rattle.scan.specs.declared.Until.TheVariants.{Byte}
use Rattle.scan.proofs.Reach.{reach_le}
use Rattle.line_vectors.proofs.put_lines.Goals as goal

pub slice_bounds-put_line-end : goal.slice_bounds-put_line-end
slice_bounds-put_line-end g c =
    let s = c.args.text.now in
    let from = c.loop-from.from in
    omega (arith, c.scan-stop.ensures, reach_le (stops_by (Byte 10)) s from (omega arith))
