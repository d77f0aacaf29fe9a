-- THE THEOREM: from the line that opens a lane, a perimeter or a spot on, no row of points before its first is touched. Assumes nothing.
use mathlib.Core.Path.{◌≡◌, refl, sym, ap, subst, ◌∙◌}
use mathlib.Core.List.{List, [], ◌∷◌, ◌++◌}
use mathlib.Core.Bool.{Bool, true, false}
use Prim.Native.Nat.{ℕ, suc, ◌+◌, ◌*◌, ◌≤◌}
use native.Mathlib.Omega.{arith}
use lib.ListN.{length, take, drop, length-take}
use lib.Seq.{take-append-le, take-take}
use lib.Dec.{leb}
use lib.IntN.{ℤ}
use borrow.Author.Tests.{leb-true}
use Rattle.terms.specs.Ascii.{Bytes}
use Rattle.terms.specs.Words.{pick}
use Rattle.grammar.specs.Editions.{Edition}
use Rattle.statement.specs.declared.Statement.{Statement}
use Rattle.statement.specs.declared.Statement.TheVariants as st
use Rattle.place.specs.declared.Place.{Place}
use Rattle.progress.specs.declared.Progress.{Progress}
use Rattle.progress.specs.declared.Row as DR
use Rattle.progress.specs.declared.Row.TheVariants as Row
use Rattle.progress.specs.After.{after_of}
use Rattle.progress.specs.Given.{row_of}
use Rattle.judge.specs.Judging.{Got, bad, blank, said, line}
use Rattle.edition_judge.specs.EditionLine.{judging_in}
use Rattle.rows.specs.declared.PointRow.{PointRow}
use Rattle.rows.specs.Lay.{put_row_of}
use Rattle.rows.specs.Columns.{point_words_of}
use Rattle.rows.specs.Strides.{point_stride}
use Rattle.walk.specs.Standing.{Where, place}
use Rattle.network.specs.Storing.{Memory, store_part, stored}
use Rattle.network.specs.Reading.{put}
use Rattle.network.specs.Reaching.{WalkEnd, stopped, reached, goes, reaching}
use Rattle.lane_rows.specs.Rows.{OpensPart, a_lane, a_perimeter, a_spot, first_row, rows_before, FillsFrom, FillsFromItsFirstRow}

-- ## A row stored
-- a point stored from a part's first row on leaves the rows before it, and so those before an earlier row
part-kept : (t : List ℤ) (first within : ℕ) (a : PointRow) (row : ℕ) → row ≤ first → take (row * point_stride) (store_part t first within a) ≡ take (row * point_stride) t
unfolding store_part
part-kept t first within a row h = go (leb (first * point_stride) (length t)) refl
  where
    go : (b : Bool) → leb (first * point_stride) (length t) ≡ b → take (row * point_stride) (pick b (take (first * point_stride) t ++ put_row_of point_stride (drop (first * point_stride) t) within (point_words_of a)) t) ≡ take (row * point_stride) t
    go true e =
        let l = leb-true (first * point_stride) (length t) e in
        let k = length-take (first * point_stride) t in
        take-append-le (row * point_stride) (take (first * point_stride) t) (put_row_of point_stride (drop (first * point_stride) t) within (point_words_of a)) (omega arith) ∙ take-take (row * point_stride) (first * point_stride) t (omega arith)
    go false e = refl

-- any row: no other is a point's
stored-kept : (r : DR.Row) (m : Memory) (row : ℕ) → row ≤ m.so_far.first → rows_before row (stored r m) ≡ rows_before row m
unfolding stored
stored-kept Row.Nothing m row h = refl
stored-kept (Row.Segment a) m row h = refl
stored-kept (Row.Lane a) m row h = refl
stored-kept (Row.Zone a) m row h = refl
stored-kept (Row.Spot a) m row h = refl
stored-kept (Row.Point a) m row h = part-kept m.points m.so_far.first m.so_far.within a row h
stored-kept (Row.Checkpoint read point) m row h = refl
stored-kept (Row.Stop a) m row h = refl
stored-kept (Row.Exit a) m row h = refl

put-kept : (w : Where) (s : Statement) (m : Memory) (row : ℕ) → row ≤ m.so_far.first → rows_before row (put w s m) ≡ rows_before row m
unfolding put
put-kept w s m row h = stored-kept (row_of s w.last m.so_far) m row h

-- ## First rows only rise
rises : (s : Statement) (p : Progress) (row : ℕ) → row ≤ p.first → row ≤ (after_of s p).first
unfolding after_of
rises (st.RndfName a l) p row h = h
rises (st.NumSegments n) p row h = h
rises (st.NumZones n) p row h = h
rises (st.FormatVersion a l) p row h = h
rises (st.CreationDate a l) p row h = h
rises (st.Segment n) p row h = h
rises (st.NumLanes n) p row h = h
rises (st.SegmentName a l) p row h = h
rises st.EndSegment p row h = h
rises (st.Lane m n) p row h = omega arith
rises (st.NumWaypoints n) p row h = h
rises (st.LaneWidth n) p row h = h
rises (st.LeftBoundary b) p row h = h
rises (st.RightBoundary b) p row h = h
rises (st.Checkpoint i n) p row h = h
rises (st.Stop i) p row h = h
rises (st.Exit i e) p row h = h
rises st.EndLane p row h = h
rises (st.Zone n) p row h = h
rises (st.NumSpots n) p row h = h
rises (st.ZoneName a l) p row h = h
rises st.EndZone p row h = h
rises (st.Perimeter m n) p row h = omega arith
rises (st.NumPerimeterpoints n) p row h = h
rises st.EndPerimeter p row h = h
rises (st.Spot m n) p row h = omega arith
rises (st.SpotWidth n) p row h = h
rises st.EndSpot p row h = h
rises st.EndFile p row h = h
rises (st.Point i a o) p row h = h

put-rises : (w : Where) (s : Statement) (m : Memory) (row : ℕ) → row ≤ m.so_far.first → row ≤ (put w s m).so_far.first
unfolding put
put-rises w s m row h = rises s m.so_far row h

-- ## Lines
-- where a part is open, or was last: whatever lines follow, no row before its first is touched
pub walk_kept : (e : Edition) (p : Place) (m : Memory) (start i : ℕ) (lines : List Bytes) (r : Place) (after : Memory) (j row : ℕ) → row ≤ m.so_far.first → reaching e p m start i lines ≡ reached r after j → rows_before row after ≡ rows_before row m
unfolding reaching
walk_kept e p m start i [] r after j row h t = let same : after ≡ m = cc in ap (rows_before row) same
walk_kept e p m start i (l ∷ ls) r after j row h t = go (line (judging_in e) l start p) t (λ q d. walk_kept e q d (start + suc (length l)) (suc i) ls r after j row)
  where
    go : (g : Got Statement Place) → goes (place start i l) p m g (λ q d. reaching e q d (start + suc (length l)) (suc i) ls) ≡ reached r after j
        → ((q : Place) (d : Memory) → row ≤ d.so_far.first → reaching e q d (start + suc (length l)) (suc i) ls ≡ reached r after j → rows_before row after ≡ rows_before row d) → rows_before row after ≡ rows_before row m
    go (bad n) t again = absurd (let z : ◌≡◌ {A = ℕ} 0 1 = cc in omega arith)
    go blank t again = again p m h t
    go (said s q) t again = again q (put (place start i l) s m) (put-rises (place start i l) s m row h) t ∙ put-kept (place start i l) s m row h

-- ## The line that opens a part
-- it makes the next row its first, and stores nothing
module _ (w : Where) (m : Memory) where
  opened-first : (s : Statement) → OpensPart s → ((put w s m).so_far.first ≡ first_row m) × ((put w s m).so_far.within ≡ 0)
  unfolding put after_of
  opened-first s (a_lane a b) = (refl, refl)
  opened-first s (a_perimeter a b) = (refl, refl)
  opened-first s (a_spot a b) = (refl, refl)

  opened-points : (s : Statement) → OpensPart s → (put w s m).points ≡ m.points
  unfolding put row_of stored
  opened-points s (a_lane a b) = refl
  opened-points s (a_perimeter a b) = refl
  opened-points s (a_spot a b) = refl

module _ (e : Edition) (p q : Place) (m : Memory) (start i : ℕ) (opening : Bytes) (s : Statement) (says : line (judging_in e) opening start p ≡ said s q) (o : OpensPart s) where
  abbrev w : Where
  w = place start i opening

  behind_it_lem : (inside : List Bytes) (r : Place) (after : Memory) (j : ℕ) → reaching e p m start i (opening ∷ inside) ≡ reached r after j → reaching e q (put w s m) (start + suc (length opening)) (suc i) inside ≡ reached r after j
  unfolding reaching
  behind_it_lem inside r after j t = subst (λ (g : Got Statement Place). goes w p m g (λ q d. reaching e q d (start + suc (length opening)) (suc i) inside) ≡ reached r after j) says t

  untouched : (inside : List Bytes) (r : Place) (after : Memory) (j : ℕ) → reaching e p m start i (opening ∷ inside) ≡ reached r after j → rows_before (first_row m) after ≡ rows_before (first_row m) m
  untouched inside r after j t =
      let first = (opened-first w m s o).0 in
      let low : first_row m ≤ (put w s m).so_far.first = omega arith in
      walk_kept e q (put w s m) (start + suc (length opening)) (suc i) inside r after j (first_row m) low (behind_it_lem inside r after j t) ∙ ap (take (first_row m * point_stride)) (opened-points w m s o)

pub fills-from_its-first-row : FillsFromItsFirstRow
fills-from_its-first-row e p q m start i opening s says o = record { opened = opened-first (place start i opening) m s o; untouched = untouched e p q m start i opening s says o }
