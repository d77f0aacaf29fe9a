-- `output_vectors::write_point` meets its contract: clear, put, finish. Assumes nothing.
use Rattle.std.proofs.Common.{ap₂}
use mir.Facts.{to_z-of_z}
use Rattle.output.proofs.Writing.{same}
use Rattle.output.proofs.Whole.{written}
use Rattle.output_vectors.specs.Point.{point_line}
use Rattle.output_vectors.proofs.write_point.Goals as goal

pub returns : goal.returns
returns c =
    let held = ap₂ (point_line c.args.y) (to_z-of_z c.ranges.latitude) (to_z-of_z c.ranges.longitude) in
    written c.clear_output.ensures (same held c.put_point-at.ensures) c.finish.ensures
