-- Executable: the program's typed row that shows a row of the grammar; a name by its start and length. That it has the words of Words.antt is a law (proofs/Shown.antt). Assumes nothing.
use Rattle.std.specs.Prelude.{ℕ}
use Rattle.grammar.specs.Statements.{Position}
use Rattle.grammar.specs.MissionStatements.{Limit}
use Rattle.grammar.specs.Tables as G
use Rattle.units.specs.Made.{feet, mph, checkpoint_number_of, segment_id_of}
use Rattle.rows.specs.declared.SegmentRow.{SegmentRow}
use Rattle.rows.specs.declared.LaneRow.{LaneRow}
use Rattle.rows.specs.declared.ZoneRow.{ZoneRow}
use Rattle.rows.specs.declared.SpotRow.{SpotRow}
use Rattle.rows.specs.declared.PointRow.{PointRow}
use Rattle.rows.specs.declared.CheckpointRow.{CheckpointRow}
use Rattle.rows.specs.declared.StopRow.{StopRow}
use Rattle.rows.specs.declared.ExitRow.{ExitRow}
use Rattle.rows.specs.declared.GoalRow.{GoalRow}
use Rattle.rows.specs.declared.LimitRow.{LimitRow}
use Rattle.table_words.specs.FileRows.{shown_name}

abbrev pub shown_lane : G.LaneRow → LaneRow
shown_lane r = record { first_point = r.first_point_of; points = r.points; width = feet r.width; left = r.left; right = r.right }

abbrev pub shown_spot : G.SpotRow → SpotRow
shown_spot r = record { first_point = r.first_point_of; width = feet r.width }

abbrev pub shown_point : Position → PointRow
shown_point p = record { latitude = p.latitude; longitude = p.longitude }

abbrev pub shown_checkpoint : G.CheckpointRow → CheckpointRow
shown_checkpoint r = record { number = checkpoint_number_of r.number; point = r.point }

abbrev pub shown_stop : ℕ → StopRow
shown_stop point = record { point = point }

abbrev pub shown_exit : G.ExitRow ℕ → ExitRow
shown_exit r = record { point = r.point; entry = r.entry }

abbrev pub shown_goal : ℕ → GoalRow
shown_goal number = record { number = checkpoint_number_of number }

abbrev pub shown_limit : Limit → LimitRow
shown_limit r = record { id = segment_id_of r.id; minimum = mph r.minimum; maximum = mph r.maximum }

module _ {N : Type 0} (start len : N → ℕ) where
  abbrev pub shown_segment : G.SegmentRow N → SegmentRow
  shown_segment r = record { first_lane = r.first_lane; lanes = r.lanes; name = shown_name start len r.name }

  abbrev pub shown_zone : G.ZoneRow N → ZoneRow
  shown_zone r = record { first_point = r.first_point_of; points = r.points; first_spot = r.first_spot_of; spots = r.spots; name = shown_name start len r.name }
