-- THE LAW of the entries: over the rows of a network's tables, resolve finds a point exactly where it is declared, and finds its row. Assumes nothing.
use mathlib.Core.Path.{◌≡◌, refl, sym, ap, ◌∙◌}
use mathlib.Core.List.{List, [], ◌∷◌}
use mathlib.Core.Option.{Option, none, some, some-injective}
use mathlib.Core.Bool.{Bool, true, false}
use mathlib.Core.Logic.{◌⊎◌, inl, inr}
use Prim.Native.Nat.{ℕ, zero, suc, pred, ◌+◌, ◌-◌, ◌<◌, ◌≤◌}
use native.Mathlib.Omega.{arith}
use lib.Dec.{eqb, ltb, leb}
use lib.ListN.{length, get_or, get_or-eq_default}
use borrow.Author.Tests.{ltb-true, ltb-false, leb-true, eqb-true, eqb-false, lt-ltb, le-leb, eq-eqb, ne_eqb}
use Rattle.terms.specs.Words.{pick}
use Rattle.grammar.specs.Statements.{PointId}
use Rattle.grammar.specs.Network.{Lane, Segment, Zone, Network}
use Rattle.grammar.specs.Tables.{SegmentRow, LaneRow, the_row_of, the_no_lane_of, the_no_segment_of, the_no_zone_of, lane_size, lane_row, the_segment_row_of, zone_size, zone_rows_from, all_lanes, segment_rows, lane_rows_of, zone_rows, part_row_of, point_row_of, tables_with, tables_unresolved, first_zone_point}
use Rattle.grammar.specs.References.{Nth, first, later, Declared, waypoint, border}
use Rattle.grammar.proofs.NthRows.{before, one_up, nth_le, nth-along, nth-gather}
use Rattle.grammar.proofs.PointRows.{lanes_in}
use Rattle.fill.specs.Resolve.{Look, only_if, in_part_of, the_lane_at_of, waypoint_at, border_at, resolve, resolve_in}
use Rattle.fill.proofs.RowLaws.{one_each}
use Rattle.fill.proofs.SizeLaws.{zone-each}

-- ## When it finds
record Way (k : Look) (e : PointId) (r : ℕ) : Type 0 where
  pub x : 0 < e.x
  pub y : 0 < e.y
  pub lane : e.y ≤ k.lanes (pred e.x)
  pub z : 0 < e.z
  pub count : e.z ≤ k.lane_points (the_lane_at_of k e.x e.y)
  pub row : the_row_of (k.lane_point (the_lane_at_of k e.x e.y)) e.z ≡ r

record Border (m : ℕ) (k : Look) (e : PointId) (r : ℕ) : Type 0 where
  pub y : e.y ≡ 0
  pub x : m < e.x
  pub z : 0 < e.z
  pub count : e.z ≤ k.zone_points (pred (e.x - m))
  pub row : the_row_of (k.zone_point (pred (e.x - m))) e.z ≡ r

by_way : (m : ℕ) (k : Look) (e : PointId) (r : ℕ) → Way k e r → resolve m k e ≡ some r
unfolding resolve
by_way m k e r w = rw (ne_eqb e.y 0 (λ q. let p = w.y in omega arith), lt-ltb 0 e.x w.x, le-leb e.y (k.lanes (pred e.x)) w.lane, lt-ltb 0 e.z w.z, le-leb e.z (k.lane_points (the_lane_at_of k e.x e.y)) w.count) (ap some w.row)

by-border : (m : ℕ) (k : Look) (e : PointId) (r : ℕ) → Border m k e r → resolve m k e ≡ some r
unfolding resolve
by-border m k e r w = rw (eq-eqb e.y 0 w.y, lt-ltb m e.x w.x, lt-ltb 0 e.z w.z, le-leb e.z (k.zone_points (pred (e.x - m))) w.count) (ap some w.row)

only_if-some : {R : Type 0} (b : Bool) (o : Option ℕ) (r : ℕ) → only_if b o ≡ some r → (b ≡ true → o ≡ some r → R) → R
only_if-some true o r h f = f refl h
only_if-some false o r h f = absurd (let z : ◌≡◌ {A = ℕ} 0 1 = cc in omega arith)

-- nothing else finds
finds-by : (m : ℕ) (k : Look) (e : PointId) (r : ℕ) → resolve m k e ≡ some r → Way k e r ⊎ Border m k e r
unfolding resolve
finds-by m k e r h = go (eqb e.y 0) refl h
  where
    part : (s count z : ℕ) → {R : Type 0} → in_part_of s count z ≡ some r → (0 < z → z ≤ count → the_row_of s z ≡ r → R) → R
    part s count z h f = only_if-some (ltb 0 z) (only_if (leb z count) (some (the_row_of s z))) r h
        (λ a h. only_if-some (leb z count) (some (the_row_of s z)) r h (λ b h. f (ltb-true 0 z a) (leb-true z count b) (some-injective (the_row_of s z) r h)))

    go : (b : Bool) → eqb e.y 0 ≡ b → pick b (border_at m k e.x e.z) (waypoint_at k e.x e.y e.z) ≡ some r → Way k e r ⊎ Border m k e r
    go true q h = only_if-some (ltb m e.x) (in_part_of (k.zone_point (pred (e.x - m))) (k.zone_points (pred (e.x - m))) e.z) r h (λ a h.
        part (k.zone_point (pred (e.x - m))) (k.zone_points (pred (e.x - m))) e.z h (λ b c d. inr (record { y = eqb-true e.y 0 q; x = ltb-true m e.x a; z = b; count = c; row = d })))
    go false q h = let i = the_lane_at_of k e.x e.y in
        only_if-some (ltb 0 e.x) (only_if (leb e.y (k.lanes (pred e.x))) (in_part_of (k.lane_point i) (k.lane_points i) e.z)) r h (λ a h.
        only_if-some (leb e.y (k.lanes (pred e.x))) (in_part_of (k.lane_point i) (k.lane_points i) e.z) r h (λ a₁ h.
        part (k.lane_point i) (k.lane_points i) e.z h (λ b c d. inl (record { x = ltb-true 0 e.x a; y = positive e.y (eqb-false e.y 0 q); lane = leb-true e.y (k.lanes (pred e.x)) a₁; z = b; count = c; row = d }))))
      where
        positive : (y : ℕ) → (y ≡ 0 → ⊥) → 0 < y
        positive zero n = absurd (n refl)
        positive (suc y) n = omega arith

-- ## The i-th of a list, counted from 1, and its row
nth-at : {A : Type 0} (l : List A) (i : ℕ) → i < length l → (a : A) × Nth (suc i) a l
nth-at [] i h = absurd (omega arith)
nth-at (a ∷ l) zero h = (a, first)
nth-at (a ∷ l) (suc i) h = let x = nth-at l i (omega arith) in (x.0, later x.1)

nth_of : {A : Type 0} (l : List A) (i : ℕ) → 0 < i → i ≤ length l → (a : A) × Nth i a l
nth_of l zero p h = absurd (omega arith)
nth_of l (suc i) p h = nth-at l i (omega arith)

-- a row that says more than the missing row is there
pub row-there : {R : Type 0} (rows : List R) (d : R) (i : ℕ) (f : R → ℕ) → f d < f (get_or rows i d) → i < length rows
row-there rows d i f h = go (ltb i (length rows)) refl
  where
    go : (b : Bool) → ltb i (length rows) ≡ b → i < length rows
    go true q = ltb-true i (length rows) q
    go false q = let e = ap f (get_or-eq_default rows d {n = i} (ltb-false i (length rows) q)) in absurd (omega arith)

module _ {N : Type 0} where
  zone-at : (p q : ℕ) {i : ℕ} {z : Zone N} {l : List (Zone N)} → Nth i z l → (get_or (zone_rows_from p q l) (pred i) the_no_zone_of).points ≡ length z.border.points
  zone-at p q first = refl
  zone-at p q (later {i = i} {b = b} {l = l} t) =
      ap (λ (j : ℕ). (get_or (zone_rows_from p q (b ∷ l)) j the_no_zone_of).points) (one_up t) ∙ zone-at (p + zone_size b) (q + length b.spots) t

  abbrev M : Network N → ℕ
  M n = length n.segments

  abbrev K : Network N → Look
  K n = record {
    first_lane = λ i. (get_or (segment_rows n) i the_no_segment_of).first_lane;
    lanes = λ i. (get_or (segment_rows n) i the_no_segment_of).lanes;
    lane_point = λ i. (get_or (lane_rows_of n) i the_no_lane_of).first_point_of;
    lane_points = λ i. (get_or (lane_rows_of n) i the_no_lane_of).points;
    zone_point = λ i. (get_or (zone_rows n) i the_no_zone_of).first_point_of;
    zone_points = λ i. (get_or (zone_rows n) i the_no_zone_of).points;
  }

  -- what is looked up in a network's tables
  looked : (n : Network N) (e : PointId) → resolve_in (tables_unresolved n) e ≡ resolve (M n) (K n) e
  unfolding tables_with
  looked n e = ap (λ (m : ℕ). resolve m (K n) e) (one_each lanes_in the_segment_row_of 0 n.segments)

  -- the rows of segment x and of its lane y
  lanes-there : (n : Network N) (x : ℕ) (s : Segment N) → Nth x s n.segments → (K n).lanes (pred x) ≡ length s.lanes
  lanes-there n x s i = ap (λ (r : SegmentRow N). r.lanes) (nth-along lanes_in the_segment_row_of the_no_segment_of 0 i)

  points-there : (n : Network N) (x y : ℕ) (s : Segment N) (a : Lane) → Nth x s n.segments → Nth y a s.lanes → (K n).lane_points (the_lane_at_of (K n) x y) ≡ length a.points
  points-there n x y s a i j =
      let lane : Nth (before lanes_in i + y) a (all_lanes n) = nth-gather (λ s. s.lanes) i j in
      let f : (K n).first_lane (pred x) ≡ 0 + before lanes_in i = ap (λ (r : SegmentRow N). r.first_lane) (nth-along lanes_in the_segment_row_of the_no_segment_of 0 i) in
      let u = one_up j in let v = one_up lane in
      let w : the_lane_at_of (K n) x y ≡ pred (before lanes_in i + y) = omega arith in
      ap (K n).lane_points w ∙ ap (λ (r : LaneRow). r.points) (nth-along lane_size lane_row the_no_lane_of 0 lane)

  -- ## Declared is found, at its row
  pub found : (n : Network N) (e : PointId) → Declared n e → resolve_in (tables_unresolved n) e ≡ some (point_row_of n e)
  found n e (waypoint s a i j b) =
      let u = one_up i in let v = one_up j in
      let p = b.low in let q = b.high in
      looked n e ∙ by_way (M n) (K n) e (point_row_of n e) (record {
        x = omega arith;
        y = omega arith;
        z = omega arith;
        lane = rw (lanes-there n e.x s i) (nth_le j);
        count = rw (points-there n e.x e.y s a i j) q;
        row = ap (λ (k : ℕ). the_row_of k e.z) (sym (ap (part_row_of n e.x) v));
      })
  found n e (border i z y x t b) =
      let u = one_up t in
      let p = b.low in let q = b.high in
      let w : e.x - M n ≡ i = omega arith in
      looked n e ∙ by-border (M n) (K n) e (point_row_of n e) (record {
        y = y;
        x = omega arith;
        z = omega arith;
        count = rw (w, zone-at (first_zone_point n) 0 t) q;
        row = ap (λ (k : ℕ). the_row_of k e.z) (sym (ap (part_row_of n e.x) y));
      })

  -- ## And nothing else is
  by_way-only : (n : Network N) (e : PointId) (r : ℕ) → Way (K n) e r → Declared n e
  by_way-only n e r w =
      let a = w.x in let b = w.y in let c = w.lane in
      let in-x = row-there (segment_rows n) the_no_segment_of (pred e.x) (λ r. r.lanes) (omega arith) in
      let m = one_each lanes_in the_segment_row_of 0 n.segments in
      let s = nth_of n.segments e.x a (omega arith) in
      let l = lanes-there n e.x s.0 s.1 in
      let ln = nth_of s.0.lanes e.y b (omega arith) in
      waypoint s.0 ln.0 s.1 ln.1 (record { low = let z = w.z in omega arith; high = rw (← points-there n e.x e.y s.0 ln.0 s.1 ln.1) w.count })

  by-border-only : (n : Network N) (e : PointId) (r : ℕ) → Border (M n) (K n) e r → Declared n e
  by-border-only n e r w =
      let a = w.x in let z = w.z in let k = w.count in
      let in-x = row-there (zone_rows n) the_no_zone_of (pred (e.x - M n)) (λ r. r.points) (omega arith) in
      let m = zone-each (first_zone_point n) 0 n.zones in
      let t = nth_of n.zones (e.x - M n) (omega arith) (omega arith) in
      border (e.x - M n) t.0 w.y (omega arith) t.1 (record { low = omega arith; high = rw (← zone-at (first_zone_point n) 0 t.1) w.count })

  pub found_declared : (n : Network N) (e : PointId) (r : ℕ) → resolve_in (tables_unresolved n) e ≡ some r → Declared n e
  found_declared n e r h = go (finds-by (M n) (K n) e r (sym (looked n e) ∙ h))
    where
      go : Way (K n) e r ⊎ Border (M n) (K n) e r → Declared n e
      go (inl w) = by_way-only n e r w
      go (inr w) = by-border-only n e r w

  -- it is the point's row
  pub found-row : (n : Network N) (e : PointId) (r : ℕ) → resolve_in (tables_unresolved n) e ≡ some r → r ≡ point_row_of n e
  found-row n e r h = some-injective r (point_row_of n e) (sym h ∙ found n e (found_declared n e r h))

  -- ## Not found is not declared
  pub not_found : (n : Network N) (e : PointId) → (Declared n e → ⊥) → resolve_in (tables_unresolved n) e ≡ none
  not_found n e h = go (resolve_in (tables_unresolved n) e) refl
    where
      go : (o : Option ℕ) → resolve_in (tables_unresolved n) e ≡ o → resolve_in (tables_unresolved n) e ≡ none
      go none q = q
      go (some r) q = absurd (h (found_declared n e r q))

  pub not-declared : (n : Network N) (e : PointId) → resolve_in (tables_unresolved n) e ≡ none → Declared n e → ⊥
  not-declared n e q d = let f = found n e d in let z : ◌≡◌ {A = ℕ} 0 1 = cc in omega arith
