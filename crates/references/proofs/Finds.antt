-- What is read of the rows on the way to a point. Assumes nothing.
use mathlib.Core.Path.{◌≡◌, ap, ap₂, ◌∙◌}
use mathlib.Core.List.{List, []}
use mathlib.Core.Option.{none}
use Prim.Native.Nat.{ℕ, pred, ◌+◌, ◌-◌, ◌<◌, ◌≤◌}
use borrow.Author.Tests.{lt-ltb, le-leb, lt-leb}
use Rattle.rows.specs.Read.{segment_at_of, lane_at_of, zone_at_of}
use Rattle.rows.specs.declared.SegmentRow.{SegmentRow}
use Rattle.rows.specs.declared.LaneRow.{LaneRow}
use Rattle.rows.specs.declared.ZoneRow.{ZoneRow}
use Rattle.fill.specs.Resolve.{in_part_of, waypoint_at, border_at}
use Rattle.references.specs.Finding.{look_in}

-- a lane's waypoint: segment x has lane y
module _ (S L : List ℕ) (x y z : ℕ) (i : ℕ) (segment : SegmentRow) (is : i ≡ pred x) (read : segment ≡ segment_at_of S i) (some-x : 0 < x) where
  here : segment ≡ segment_at_of S (pred x)
  here = read ∙ ap (segment_at_of S) is

  pub lane-there : (j : ℕ) (lane : LaneRow) → j ≡ pred y → lane ≡ lane_at_of L (segment.first_lane + j) → y ≤ segment.lanes → in_part_of lane.first_point lane.points z ≡ waypoint_at (look_in S L []) x y z
  lane-there j lane js read-lane h =
      let e : lane ≡ lane_at_of L ((segment_at_of S (pred x)).first_lane + pred y) = read-lane ∙ ap₂ (λ (s : SegmentRow) (j : ℕ). lane_at_of L (s.first_lane + j)) here js in
      let k : y ≤ (segment_at_of S (pred x)).lanes = rw here at h in
      rw (lt-ltb 0 x some-x, le-leb y (segment_at_of S (pred x)).lanes k) (ap (λ (l : LaneRow). in_part_of l.first_point l.points z) e)

  pub no-lane-there : segment.lanes < y → none ≡ waypoint_at (look_in S L []) x y z
  no-lane-there h =
      let k : (segment_at_of S (pred x)).lanes < y = rw here at h in
      rw (lt-ltb 0 x some-x, lt-leb y (segment_at_of S (pred x)).lanes k)

-- a zone's border: x is behind the segments
pub zone-there : (Z : List ℕ) (m x z i : ℕ) (zone : ZoneRow) → i ≡ pred (x - m) → zone ≡ zone_at_of Z i → m < x → in_part_of zone.first_point zone.points z ≡ border_at m (look_in [] [] Z) x z
zone-there Z m x z i zone is read h =
    let e : zone ≡ zone_at_of Z (pred (x - m)) = read ∙ ap (zone_at_of Z) is in
    rw (lt-ltb m x h) (ap (λ (l : ZoneRow). in_part_of l.first_point l.points z) e)
