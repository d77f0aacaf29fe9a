-- Every statement looks as in `Shape`, with its own rank. Assumes nothing.
use mathlib.Core.Path.{refl}
use Rattle.terms.specs.Ascii.{ascii}
use Rattle.scan.specs.Reach.{begins, same_bytes_of}
use Rattle.line.specs.Content.{Field}
use Rattle.word.specs.Keywords.{rndf_keywords}
use Rattle.word.specs.Number.{index_of}
use Rattle.grammar.specs.Statements as R
use Rattle.grammar.specs.MissionStatements as M
use Rattle.text.specs.RndfLines.{rndf_line_in_of, the_rndf_line_of}
use Rattle.text.specs.MdfLines.{the_mdf_line_of}
use Rattle.house_lines.specs.Arranged.{ranks}
use Rattle.house_arranged.specs.Ranks.{rndf_rank, mdf_rank}
use Rattle.house_arranged.proofs.WrittenLines.{Shape}

pub rndf-shapes : (k : R.Kind) (v : R.Says Field k) → Shape (rndf_rank k) (the_rndf_line_of k v)
unfolding rndf_line_in_of ascii begins same_bytes_of index_of rndf_keywords ranks
rndf-shapes R.RNDF_name_of v = (refl, refl, tt)
rndf-shapes R.num_segments v = (refl, refl, tt)
rndf-shapes R.num_zones v = (refl, refl, tt)
rndf-shapes R.format_version_of v = (refl, refl, tt)
rndf-shapes R.creation_date_of v = (refl, refl, tt)
rndf-shapes R.segment v = (refl, refl, tt)
rndf-shapes R.num_lanes v = (refl, refl, tt)
rndf-shapes R.segment_name_of v = (refl, refl, tt)
rndf-shapes R.end_segment v = (refl, refl, tt)
rndf-shapes R.lane v = (refl, refl, tt)
rndf-shapes R.num_waypoints v = (refl, refl, tt)
rndf-shapes R.lane_width_of v = (refl, refl, tt)
rndf-shapes R.left_boundary_of v = (refl, refl, tt)
rndf-shapes R.right_boundary_of v = (refl, refl, tt)
rndf-shapes R.checkpoint v = (refl, refl, (tt, tt))
rndf-shapes R.stop v = (refl, refl, tt)
rndf-shapes R.exit v = (refl, refl, (tt, tt))
rndf-shapes R.end_lane_of v = (refl, refl, tt)
rndf-shapes R.zone v = (refl, refl, tt)
rndf-shapes R.num_spots v = (refl, refl, tt)
rndf-shapes R.zone_name_of v = (refl, refl, tt)
rndf-shapes R.end_zone v = (refl, refl, tt)
rndf-shapes R.perimeter v = (refl, refl, tt)
rndf-shapes R.num_perimeterpoints v = (refl, refl, tt)
rndf-shapes R.end_perimeter v = (refl, refl, tt)
rndf-shapes R.spot v = (refl, refl, tt)
rndf-shapes R.spot_width_of v = (refl, refl, tt)
rndf-shapes R.end_spot v = (refl, refl, tt)
rndf-shapes R.end_file_of v = (refl, refl, tt)
rndf-shapes R.point v = (refl, (tt, tt))

pub mdf-shapes : (k : M.Kind) (v : M.Says Field k) → Shape (mdf_rank k) (the_mdf_line_of k v)
unfolding the_mdf_line_of ascii begins same_bytes_of index_of rndf_keywords ranks
mdf-shapes M.MDF_name_of v = (refl, refl, tt)
mdf-shapes M.RNDF v = (refl, refl, tt)
mdf-shapes M.format_version_of v = (refl, refl, tt)
mdf-shapes M.creation_date_of v = (refl, refl, tt)
mdf-shapes M.checkpoints v = (refl, refl, tt)
mdf-shapes M.num_checkpoints v = (refl, refl, tt)
mdf-shapes M.end_checkpoints v = (refl, refl, tt)
mdf-shapes M.speed_limits v = (refl, refl, tt)
mdf-shapes M.num_speed_limits v = (refl, refl, tt)
mdf-shapes M.end_speed_limits v = (refl, refl, tt)
mdf-shapes M.end_file_of v = (refl, refl, tt)
mdf-shapes M.goal v = (refl, tt)
mdf-shapes M.limit v = (refl, (tt, tt))
