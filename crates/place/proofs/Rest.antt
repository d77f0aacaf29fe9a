-- The arms `_` of the matches on a statement. Assumes nothing.
use mathlib.Core.Path.{◌≡◌, refl}
use mathlib.Core.List.{List, [], ◌∷◌}
use mathlib.Core.Bool.{true}
use mathlib.Core.Logic.{◌⊎◌, inl, inr}
use Prim.Native.Nat.{ℕ}
use types.Run.{OneOf, miss}
use denote.Enum.Declared.{tag_of}
use Rattle.statement.specs.declared.Statement.{Statement}
use Rattle.statement.specs.declared.Statement.TheVariants as st
use Rattle.statement.specs.contracts.Statement.{the_type}
use Rattle.place.specs.declared.Place.{Place}
use Rattle.place.specs.Step.{permits_of, after_of, left_of, placed}

-- any value is permitted of the kinds that `permits` leaves to its last arm
abbrev any-value_keys : List ℕ
any-value_keys = 0 ∷ 3 ∷ 4 ∷ 7 ∷ 8 ∷ 12 ∷ 13 ∷ 17 ∷ 20 ∷ 21 ∷ 24 ∷ 27 ∷ 28 ∷ []

pub any_value : (p : Place) (s : Statement) → OneOf any-value_keys (tag_of the_type s) → permits_of p s ≡ true
any_value p (st.RndfName a l) h = refl
any_value p (st.NumSegments n) h = absurd (miss any-value_keys 1 tt h)
any_value p (st.NumZones n) h = absurd (miss any-value_keys 2 tt h)
any_value p (st.FormatVersion a l) h = refl
any_value p (st.CreationDate a l) h = refl
any_value p (st.Segment n) h = absurd (miss any-value_keys 5 tt h)
any_value p (st.NumLanes n) h = absurd (miss any-value_keys 6 tt h)
any_value p (st.SegmentName a l) h = refl
any_value p st.EndSegment h = refl
any_value p (st.Lane m n) h = absurd (miss any-value_keys 9 tt h)
any_value p (st.NumWaypoints n) h = absurd (miss any-value_keys 10 tt h)
any_value p (st.LaneWidth n) h = absurd (miss any-value_keys 11 tt h)
any_value p (st.LeftBoundary b) h = refl
any_value p (st.RightBoundary b) h = refl
any_value p (st.Checkpoint i n) h = absurd (miss any-value_keys 14 tt h)
any_value p (st.Stop i) h = absurd (miss any-value_keys 15 tt h)
any_value p (st.Exit i e) h = absurd (miss any-value_keys 16 tt h)
any_value p st.EndLane h = refl
any_value p (st.Zone n) h = absurd (miss any-value_keys 18 tt h)
any_value p (st.NumSpots n) h = absurd (miss any-value_keys 19 tt h)
any_value p (st.ZoneName a l) h = refl
any_value p st.EndZone h = refl
any_value p (st.Perimeter m n) h = absurd (miss any-value_keys 22 tt h)
any_value p (st.NumPerimeterpoints n) h = absurd (miss any-value_keys 23 tt h)
any_value p st.EndPerimeter h = refl
any_value p (st.Spot m n) h = absurd (miss any-value_keys 25 tt h)
any_value p (st.SpotWidth n) h = absurd (miss any-value_keys 26 tt h)
any_value p st.EndSpot h = refl
any_value p st.EndFile h = refl
any_value p (st.Point i a o) h = absurd (miss any-value_keys 29 tt h)

-- no option leads anywhere
abbrev stays_keys : List ℕ
stays_keys = 0 ∷ 3 ∷ 4 ∷ 7 ∷ 11 ∷ 12 ∷ 13 ∷ 14 ∷ 15 ∷ 16 ∷ 20 ∷ 26 ∷ []

pub stays : (p : Place) (s : Statement) (row : ℕ) → OneOf stays_keys (tag_of the_type s) → after_of p s row ≡ placed p.part row p.due p.segments p.zones p.parts p.points
stays p (st.RndfName a l) row h = refl
stays p (st.NumSegments n) row h = absurd (miss stays_keys 1 tt h)
stays p (st.NumZones n) row h = absurd (miss stays_keys 2 tt h)
stays p (st.FormatVersion a l) row h = refl
stays p (st.CreationDate a l) row h = refl
stays p (st.Segment n) row h = absurd (miss stays_keys 5 tt h)
stays p (st.NumLanes n) row h = absurd (miss stays_keys 6 tt h)
stays p (st.SegmentName a l) row h = refl
stays p st.EndSegment row h = absurd (miss stays_keys 8 tt h)
stays p (st.Lane m n) row h = absurd (miss stays_keys 9 tt h)
stays p (st.NumWaypoints n) row h = absurd (miss stays_keys 10 tt h)
stays p (st.LaneWidth n) row h = refl
stays p (st.LeftBoundary b) row h = refl
stays p (st.RightBoundary b) row h = refl
stays p (st.Checkpoint i n) row h = refl
stays p (st.Stop i) row h = refl
stays p (st.Exit i e) row h = refl
stays p st.EndLane row h = absurd (miss stays_keys 17 tt h)
stays p (st.Zone n) row h = absurd (miss stays_keys 18 tt h)
stays p (st.NumSpots n) row h = absurd (miss stays_keys 19 tt h)
stays p (st.ZoneName a l) row h = refl
stays p st.EndZone row h = absurd (miss stays_keys 21 tt h)
stays p (st.Perimeter m n) row h = absurd (miss stays_keys 22 tt h)
stays p (st.NumPerimeterpoints n) row h = absurd (miss stays_keys 23 tt h)
stays p st.EndPerimeter row h = absurd (miss stays_keys 24 tt h)
stays p (st.Spot m n) row h = absurd (miss stays_keys 25 tt h)
stays p (st.SpotWidth n) row h = refl
stays p st.EndSpot row h = absurd (miss stays_keys 27 tt h)
stays p st.EndFile row h = absurd (miss stays_keys 28 tt h)
stays p (st.Point i a o) row h = absurd (miss stays_keys 29 tt h)

-- every end word closes its part
pub ends : (p : Place) (s : Statement) (row : ℕ) → ((s ≡ st.EndSegment) ⊎ ((s ≡ st.EndLane) ⊎ ((s ≡ st.EndZone) ⊎ ((s ≡ st.EndPerimeter) ⊎ (s ≡ st.EndSpot))))) → after_of p s row ≡ left_of p row
ends p s row (inl e) = rw e
ends p s row (inr (inl e)) = rw e
ends p s row (inr (inr (inl e))) = rw e
ends p s row (inr (inr (inr (inl e)))) = rw e
ends p s row (inr (inr (inr (inr e)))) = rw e

-- a lane and a perimeter count their points
pub counts_points : (p : Place) (s : Statement) (row k : ℕ) → ((s ≡ st.NumWaypoints k) ⊎ (s ≡ st.NumPerimeterpoints k)) → after_of p s row ≡ placed p.part row 1 p.segments p.zones p.parts k
counts_points p s row k (inl e) = rw e
counts_points p s row k (inr e) = rw e
