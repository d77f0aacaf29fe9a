-- The arms `_` of the matches on a statement: the kinds that change nothing, and those that give no row. Assumes nothing.
use mathlib.Core.Path.{◌≡◌, refl}
use mathlib.Core.List.{List, [], ◌∷◌}
use Prim.Native.Nat.{ℕ}
use types.Run.{OneOf, miss}
use denote.Enum.Declared.{tag_of}
use Rattle.statement.specs.declared.Statement.{Statement}
use Rattle.statement.specs.declared.Statement.TheVariants as st
use Rattle.statement.specs.contracts.Statement.{the_type}
use Rattle.progress.specs.declared.Progress.{Progress}
use Rattle.progress.specs.declared.Row.TheVariants as Row
use Rattle.progress.specs.After.{after_within}
use Rattle.progress.specs.Given.{row_of}

abbrev silent_keys : List ℕ
silent_keys = 1 ∷ 2 ∷ 24 ∷ 28 ∷ []

pub all-kept : (s : Statement) (p : Progress) → OneOf silent_keys (tag_of the_type s) → after_within s p ≡ p
unfolding after_within
all-kept (st.RndfName a l) p h = absurd (miss silent_keys 0 tt h)
all-kept (st.NumSegments n) p h = refl
all-kept (st.NumZones n) p h = refl
all-kept (st.FormatVersion a l) p h = absurd (miss silent_keys 3 tt h)
all-kept (st.CreationDate a l) p h = absurd (miss silent_keys 4 tt h)
all-kept (st.Segment n) p h = absurd (miss silent_keys 5 tt h)
all-kept (st.NumLanes n) p h = absurd (miss silent_keys 6 tt h)
all-kept (st.SegmentName a l) p h = absurd (miss silent_keys 7 tt h)
all-kept st.EndSegment p h = absurd (miss silent_keys 8 tt h)
all-kept (st.Lane m n) p h = absurd (miss silent_keys 9 tt h)
all-kept (st.NumWaypoints n) p h = absurd (miss silent_keys 10 tt h)
all-kept (st.LaneWidth n) p h = absurd (miss silent_keys 11 tt h)
all-kept (st.LeftBoundary b) p h = absurd (miss silent_keys 12 tt h)
all-kept (st.RightBoundary b) p h = absurd (miss silent_keys 13 tt h)
all-kept (st.Checkpoint i n) p h = absurd (miss silent_keys 14 tt h)
all-kept (st.Stop i) p h = absurd (miss silent_keys 15 tt h)
all-kept (st.Exit i e) p h = absurd (miss silent_keys 16 tt h)
all-kept st.EndLane p h = absurd (miss silent_keys 17 tt h)
all-kept (st.Zone n) p h = absurd (miss silent_keys 18 tt h)
all-kept (st.NumSpots n) p h = absurd (miss silent_keys 19 tt h)
all-kept (st.ZoneName a l) p h = absurd (miss silent_keys 20 tt h)
all-kept st.EndZone p h = absurd (miss silent_keys 21 tt h)
all-kept (st.Perimeter m n) p h = absurd (miss silent_keys 22 tt h)
all-kept (st.NumPerimeterpoints n) p h = absurd (miss silent_keys 23 tt h)
all-kept st.EndPerimeter p h = refl
all-kept (st.Spot m n) p h = absurd (miss silent_keys 25 tt h)
all-kept (st.SpotWidth n) p h = absurd (miss silent_keys 26 tt h)
all-kept st.EndSpot p h = absurd (miss silent_keys 27 tt h)
all-kept st.EndFile p h = refl
all-kept (st.Point i a o) p h = absurd (miss silent_keys 29 tt h)

abbrev row_keys : List ℕ
row_keys = 0 ∷ 1 ∷ 2 ∷ 3 ∷ 4 ∷ 5 ∷ 6 ∷ 7 ∷ 9 ∷ 10 ∷ 11 ∷ 12 ∷ 13 ∷ 18 ∷ 19 ∷ 20 ∷ 22 ∷ 23 ∷ 24 ∷ 25 ∷ 26 ∷ 28 ∷ []

pub no_row : (s : Statement) (start : ℕ) (p : Progress) → OneOf row_keys (tag_of the_type s) → row_of s start p ≡ Row.Nothing
unfolding row_of
no_row (st.RndfName a l) start p h = refl
no_row (st.NumSegments n) start p h = refl
no_row (st.NumZones n) start p h = refl
no_row (st.FormatVersion a l) start p h = refl
no_row (st.CreationDate a l) start p h = refl
no_row (st.Segment n) start p h = refl
no_row (st.NumLanes n) start p h = refl
no_row (st.SegmentName a l) start p h = refl
no_row st.EndSegment start p h = absurd (miss row_keys 8 tt h)
no_row (st.Lane m n) start p h = refl
no_row (st.NumWaypoints n) start p h = refl
no_row (st.LaneWidth n) start p h = refl
no_row (st.LeftBoundary b) start p h = refl
no_row (st.RightBoundary b) start p h = refl
no_row (st.Checkpoint i n) start p h = absurd (miss row_keys 14 tt h)
no_row (st.Stop i) start p h = absurd (miss row_keys 15 tt h)
no_row (st.Exit i e) start p h = absurd (miss row_keys 16 tt h)
no_row st.EndLane start p h = absurd (miss row_keys 17 tt h)
no_row (st.Zone n) start p h = refl
no_row (st.NumSpots n) start p h = refl
no_row (st.ZoneName a l) start p h = refl
no_row st.EndZone start p h = absurd (miss row_keys 21 tt h)
no_row (st.Perimeter m n) start p h = refl
no_row (st.NumPerimeterpoints n) start p h = refl
no_row st.EndPerimeter start p h = refl
no_row (st.Spot m n) start p h = refl
no_row (st.SpotWidth n) start p h = refl
no_row st.EndSpot start p h = absurd (miss row_keys 27 tt h)
no_row st.EndFile start p h = refl
no_row (st.Point i a o) start p h = absurd (miss row_keys 29 tt h)
