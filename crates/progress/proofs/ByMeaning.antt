-- What a statement changes, and the row that it gives, go by what it means. Assumes nothing.
use mathlib.Core.Path.{◌≡◌, refl}
use Prim.Native.Nat.{ℕ}
use Rattle.statement.specs.declared.Statement.{Statement}
use Rattle.statement.specs.declared.Statement.TheVariants as st
use Rattle.statement.specs.Meaning.{boundary, meant}
use Rattle.statement.specs.Kinds.{boundary_row, written}
use Rattle.statement.proofs.Laws.{boundary-back}
use Rattle.progress.specs.declared.Progress.{Progress}
use Rattle.progress.specs.After.{side_of, after_of}
use Rattle.progress.specs.Given.{row_of}

side-again : (b : ℕ) → side_of (boundary_row (boundary b)) ≡ side_of b
unfolding side_of
side-again b = rw (boundary-back (boundary b)) refl

pub after-by_meaning : (s : Statement) (p : Progress) → after_of s p ≡ after_of (written (meant s)) p
unfolding after_of
after-by_meaning (st.RndfName a l) p = refl
after-by_meaning (st.NumSegments n) p = refl
after-by_meaning (st.NumZones n) p = refl
after-by_meaning (st.FormatVersion a l) p = refl
after-by_meaning (st.CreationDate a l) p = refl
after-by_meaning (st.Segment n) p = refl
after-by_meaning (st.NumLanes n) p = refl
after-by_meaning (st.SegmentName a l) p = refl
after-by_meaning st.EndSegment p = refl
after-by_meaning (st.Lane m n) p = refl
after-by_meaning (st.NumWaypoints n) p = refl
after-by_meaning (st.LaneWidth n) p = refl
after-by_meaning (st.LeftBoundary b) p = rw (side-again b) refl
after-by_meaning (st.RightBoundary b) p = rw (side-again b) refl
after-by_meaning (st.Checkpoint i n) p = refl
after-by_meaning (st.Stop i) p = refl
after-by_meaning (st.Exit i e) p = refl
after-by_meaning st.EndLane p = refl
after-by_meaning (st.Zone n) p = refl
after-by_meaning (st.NumSpots n) p = refl
after-by_meaning (st.ZoneName a l) p = refl
after-by_meaning st.EndZone p = refl
after-by_meaning (st.Perimeter m n) p = refl
after-by_meaning (st.NumPerimeterpoints n) p = refl
after-by_meaning st.EndPerimeter p = refl
after-by_meaning (st.Spot m n) p = refl
after-by_meaning (st.SpotWidth n) p = refl
after-by_meaning st.EndSpot p = refl
after-by_meaning st.EndFile p = refl
after-by_meaning (st.Point i a o) p = refl

pub row-by_meaning : (s : Statement) (start : ℕ) (p : Progress) → row_of s start p ≡ row_of (written (meant s)) start p
unfolding row_of
row-by_meaning (st.RndfName a l) start p = refl
row-by_meaning (st.NumSegments n) start p = refl
row-by_meaning (st.NumZones n) start p = refl
row-by_meaning (st.FormatVersion a l) start p = refl
row-by_meaning (st.CreationDate a l) start p = refl
row-by_meaning (st.Segment n) start p = refl
row-by_meaning (st.NumLanes n) start p = refl
row-by_meaning (st.SegmentName a l) start p = refl
row-by_meaning st.EndSegment start p = refl
row-by_meaning (st.Lane m n) start p = refl
row-by_meaning (st.NumWaypoints n) start p = refl
row-by_meaning (st.LaneWidth n) start p = refl
row-by_meaning (st.LeftBoundary b) start p = refl
row-by_meaning (st.RightBoundary b) start p = refl
row-by_meaning (st.Checkpoint i n) start p = refl
row-by_meaning (st.Stop i) start p = refl
row-by_meaning (st.Exit i e) start p = refl
row-by_meaning st.EndLane start p = refl
row-by_meaning (st.Zone n) start p = refl
row-by_meaning (st.NumSpots n) start p = refl
row-by_meaning (st.ZoneName a l) start p = refl
row-by_meaning st.EndZone start p = refl
row-by_meaning (st.Perimeter m n) start p = refl
row-by_meaning (st.NumPerimeterpoints n) start p = refl
row-by_meaning st.EndPerimeter start p = refl
row-by_meaning (st.Spot m n) start p = refl
row-by_meaning (st.SpotWidth n) start p = refl
row-by_meaning st.EndSpot start p = refl
row-by_meaning st.EndFile start p = refl
row-by_meaning (st.Point i a o) start p = refl
