-- The columns of each table, in the order in which document 01 lists them; a name is its start, then its length. Assumes nothing.
use Rattle.std.specs.Prelude.{List, [], ◌∷◌, ℕ, ℤ}
use Rattle.rows.specs.declared.SegmentRow.{SegmentRow}
use Rattle.rows.specs.declared.LaneRow.{LaneRow}
use Rattle.rows.specs.declared.ZoneRow.{ZoneRow}
use Rattle.rows.specs.declared.SpotRow.{SpotRow}
use Rattle.rows.specs.declared.PointRow.{PointRow}
use Rattle.rows.specs.declared.CheckpointRow.{CheckpointRow}
use Rattle.rows.specs.declared.StopRow.{StopRow}
use Rattle.rows.specs.declared.ExitRow.{ExitRow}
use Rattle.rows.specs.declared.GoalRow.{GoalRow}
use Rattle.rows.specs.declared.LimitRow.{LimitRow}

-- 01: "Segment: first lane, lanes, name."
abbrev pub segment_words_of : SegmentRow → List ℕ
segment_words_of s = s.first_lane ∷ s.lanes ∷ s.name.start ∷ s.name.length ∷ []

-- 01: "Lane: first point, points, width, left and right (1 to 4 in the order above)."
abbrev pub lane_words_of : LaneRow → List ℕ
lane_words_of l = l.first_point ∷ l.points ∷ l.width.0 ∷ l.left ∷ l.right ∷ []

-- 01: "Zone: first perimeter point, points, first spot (0 without spots), spots, name."
abbrev pub zone_words_of : ZoneRow → List ℕ
zone_words_of z = z.first_point ∷ z.points ∷ z.first_spot ∷ z.spots ∷ z.name.start ∷ z.name.length ∷ []

-- 01: "Spot: first point, width."
abbrev pub spot_words_of : SpotRow → List ℕ
spot_words_of s = s.first_point ∷ s.width.0 ∷ []

-- 01: "Point: latitude, longitude."
abbrev pub point_words_of : PointRow → List ℤ
point_words_of p = p.latitude ∷ p.longitude ∷ []

-- 01: "Checkpoint: number, point."
abbrev pub checkpoint_words_of : CheckpointRow → List ℕ
checkpoint_words_of c = c.number.0 ∷ c.point ∷ []

-- 01: "Stop: point."
abbrev pub stop_words_of : StopRow → List ℕ
stop_words_of s = s.point ∷ []

-- 01: "Exit: point, point."
abbrev pub exit_words_of : ExitRow → List ℕ
exit_words_of e = e.point ∷ e.entry ∷ []

-- 01: "Goal: number."
abbrev pub goal_words_of : GoalRow → List ℕ
goal_words_of g = g.number.0 ∷ []

-- 01: "Limit: id, minimum, maximum."
abbrev pub limit_words_of : LimitRow → List ℕ
limit_words_of l = l.id.0 ∷ l.minimum.0 ∷ l.maximum.0 ∷ []
