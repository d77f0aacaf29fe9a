-- `output_vectors::put_point` meets its contract: a run of puts. Assumes nothing.
use Rattle.std.proofs.Common.{ap}
use mir.Facts.{to_z-of_z}
use Rattle.terms.specs.Ascii.{ascii}
use Rattle.coordinate.specs.House.{house_coordinate}
use Rattle.output.proofs.Writing.{same, ◌then◌}
use Rattle.output_vectors.specs.Point.{point_line}
use Rattle.output_vectors.proofs.put_point.Goals as goal

pub returns : goal.returns
unfolding point_line ascii
returns c =
    c.put_triple-a.ensures
    then c.put_tab-b.ensures
    then same (ap house_coordinate (to_z-of_z c.ranges.latitude)) c.put_coordinate-c.ensures
    then c.put_tab-d.ensures
    then same (ap house_coordinate (to_z-of_z c.ranges.longitude)) c.put_coordinate-e.ensures
    then c.put_line_end-f.ensures
    then c.put_bytes.ensures
