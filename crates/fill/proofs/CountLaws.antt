-- For any statements: the rows are as many as the tally counts; checkpoints, stops and exits have a row for each of their lines. Assumes nothing.
use mathlib.Core.Path.{◌≡◌, refl, sym, ap, ◌∙◌}
use mathlib.Core.List.{List, [], ◌∷◌, ◌++◌, map}
use Prim.Native.Nat.{ℕ, suc, ◌+◌, ◌≤◌}
use native.Mathlib.Omega.{arith}
use lib.ListN.{length, length-append, length-map}
use Rattle.grammar.specs.Statements.{Kind, Says, Statement, PointId, say, of_kind, RNDF_name_of, num_segments, num_zones, format_version_of, creation_date_of, segment, num_lanes, segment_name_of, end_segment, lane, num_waypoints, lane_width_of, left_boundary_of, right_boundary_of, checkpoint, stop, exit, end_lane_of, zone, num_spots, zone_name_of, end_zone, perimeter, num_perimeterpoints, end_perimeter, spot, spot_width_of, end_spot, end_file_of, point}
use Rattle.fill.specs.NetworkRows.{State, Rows, no_rows, in_tables, ◌⊕◌, next, gives, rows, ends}
use Rattle.fill.specs.Filling as Filling
use Rattle.fill.specs.Counts.{Counts}
use Rattle.fill.specs.Tally.{tally, tallied}

-- ## No table grows by more than one row with a statement
pub record AtMost (c : Counts) (n : ℕ) (d : Counts) : Type 0 where
  pub segments : d.segments ≤ c.segments + n
  pub lanes : d.lanes ≤ c.lanes + n
  pub zones : d.zones ≤ c.zones + n
  pub spots : d.spots ≤ c.spots + n
  pub points : d.points ≤ c.points + n
  pub checkpoints : d.checkpoints ≤ c.checkpoints + n
  pub stops : d.stops ≤ c.stops + n
  pub exits : d.exits ≤ c.exits + n

tally-at-most : (k : Kind) (c : Counts) → AtMost c 1 (tally k c)
tally-at-most RNDF_name_of c = omega arith
tally-at-most num_segments c = omega arith
tally-at-most num_zones c = omega arith
tally-at-most format_version_of c = omega arith
tally-at-most creation_date_of c = omega arith
tally-at-most segment c = omega arith
tally-at-most num_lanes c = omega arith
tally-at-most segment_name_of c = omega arith
tally-at-most end_segment c = omega arith
tally-at-most lane c = omega arith
tally-at-most num_waypoints c = omega arith
tally-at-most lane_width_of c = omega arith
tally-at-most left_boundary_of c = omega arith
tally-at-most right_boundary_of c = omega arith
tally-at-most checkpoint c = omega arith
tally-at-most stop c = omega arith
tally-at-most exit c = omega arith
tally-at-most end_lane_of c = omega arith
tally-at-most zone c = omega arith
tally-at-most num_spots c = omega arith
tally-at-most zone_name_of c = omega arith
tally-at-most end_zone c = omega arith
tally-at-most perimeter c = omega arith
tally-at-most num_perimeterpoints c = omega arith
tally-at-most end_perimeter c = omega arith
tally-at-most spot c = omega arith
tally-at-most spot_width_of c = omega arith
tally-at-most end_spot c = omega arith
tally-at-most end_file_of c = omega arith
tally-at-most point c = omega arith

pub tallied-at-most : {N : Type 0} (l : List (Statement N)) (c : Counts) → AtMost c (length l) (tallied l c)
unfolding tallied
tallied-at-most [] c = omega arith
tallied-at-most (x ∷ l) c = let a = tally-at-most x.kind c in let b = tallied-at-most l (tally x.kind c) in record {
  segments = let u = a.segments in let v = b.segments in omega arith;
  lanes = let u = a.lanes in let v = b.lanes in omega arith;
  zones = let u = a.zones in let v = b.zones in omega arith;
  spots = let u = a.spots in let v = b.spots in omega arith;
  points = let u = a.points in let v = b.points in omega arith;
  checkpoints = let u = a.checkpoints in let v = b.checkpoints in omega arith;
  stops = let u = a.stops in let v = b.stops in omega arith;
  exits = let u = a.exits in let v = b.exits in omega arith;
}

module _ {N : Type 0} where
  -- behind the rows o there are d where there were c
  pub record Counted (c : Counts) (o : Rows N) (d : Counts) : Type 0 where
    pub segments : d.segments ≡ c.segments + length o.segments
    pub lanes : d.lanes ≡ c.lanes + length o.lanes
    pub zones : d.zones ≡ c.zones + length o.zones
    pub spots : d.spots ≡ c.spots + length o.spots
    pub points : d.points ≡ c.points + length o.points
    pub checkpoints : d.checkpoints ≡ c.checkpoints + length o.checkpoints
    pub stops : d.stops ≡ c.stops + length o.stops
    pub exits : d.exits ≡ c.exits + length o.exits

  none-counted : (c : Counts) → Counted c no_rows c
  none-counted c = omega arith

  both-counted : (c d e : Counts) (o p : Rows N) → Counted c o d → Counted d p e → Counted c (o ⊕ p) e
  both-counted c d e o p f g = record {
    segments = let a = f.segments in let b = g.segments in rw length-append (omega arith);
    lanes = let a = f.lanes in let b = g.lanes in rw length-append (omega arith);
    zones = let a = f.zones in let b = g.zones in rw length-append (omega arith);
    spots = let a = f.spots in let b = g.spots in rw length-append (omega arith);
    points = let a = f.points in let b = g.points in rw length-append (omega arith);
    checkpoints = let a = f.checkpoints in let b = g.checkpoints in rw length-append (omega arith);
    stops = let a = f.stops in let b = g.stops in rw length-append (omega arith);
    exits = let a = f.exits in let b = g.exits in rw length-append (omega arith);
  }

  tally-counts : (k : Kind) (v : Says N k) (s : State N) (c : Counts) → Counted c (in_tables (gives k v s)) (tally k c)
  tally-counts RNDF_name_of v s c = none-counted c
  tally-counts num_segments v s c = none-counted c
  tally-counts num_zones v s c = none-counted c
  tally-counts format_version_of v s c = none-counted c
  tally-counts creation_date_of v s c = none-counted c
  tally-counts segment v s c = none-counted c
  tally-counts num_lanes v s c = none-counted c
  tally-counts segment_name_of v s c = none-counted c
  tally-counts end_segment v s c = omega arith
  tally-counts lane v s c = none-counted c
  tally-counts num_waypoints v s c = none-counted c
  tally-counts lane_width_of v s c = none-counted c
  tally-counts left_boundary_of v s c = none-counted c
  tally-counts right_boundary_of v s c = none-counted c
  tally-counts checkpoint v s c = omega arith
  tally-counts stop v s c = omega arith
  tally-counts exit v s c = omega arith
  tally-counts end_lane_of v s c = omega arith
  tally-counts zone v s c = none-counted c
  tally-counts num_spots v s c = none-counted c
  tally-counts zone_name_of v s c = none-counted c
  tally-counts end_zone v s c = omega arith
  tally-counts perimeter v s c = none-counted c
  tally-counts num_perimeterpoints v s c = none-counted c
  tally-counts end_perimeter v s c = none-counted c
  tally-counts spot v s c = none-counted c
  tally-counts spot_width_of v s c = none-counted c
  tally-counts end_spot v s c = omega arith
  tally-counts end_file_of v s c = none-counted c
  tally-counts point v s c = omega arith

  -- the tally counts the rows
  pub tallied-counts : (l : List (Statement N)) (s : State N) (c : Counts) → Counted c (rows l s) (tallied l c)
  unfolding tallied Filling.rows
  tallied-counts [] s c = none-counted c
  tallied-counts (x ∷ l) s c = both-counted c (tally x.kind c) (tallied l (tally x.kind c)) (in_tables (gives x.kind x.val s)) (rows l (next x.kind x.val s))
      (tally-counts x.kind x.val s c) (tallied-counts l (next x.kind x.val s) (tally x.kind c))

  -- one part behind the other
  pub tallied_append : (u v : List (Statement N)) (c : Counts) → tallied (u ++ v) c ≡ tallied v (tallied u c)
  unfolding tallied
  tallied_append [] v c = refl
  tallied_append (x ∷ u) v c = tallied_append u v (tally x.kind c)

  -- the counters of the state are those of the tally
  abbrev pub Agree : State N → Counts → Type 0
  Agree s c = (s.lanes ≡ c.lanes) × (s.spots ≡ c.spots) × (s.points ≡ c.points)

  next-agrees : (k : Kind) (v : Says N k) (s : State N) (c : Counts) → Agree s c → Agree (next k v s) (tally k c)
  next-agrees RNDF_name_of v s c h = h
  next-agrees num_segments v s c h = h
  next-agrees num_zones v s c h = h
  next-agrees format_version_of v s c h = h
  next-agrees creation_date_of v s c h = h
  next-agrees segment v s c h = h
  next-agrees num_lanes v s c h = h
  next-agrees segment_name_of v s c h = h
  next-agrees end_segment v s c h = h
  next-agrees lane v s c h = h
  next-agrees num_waypoints v s c h = h
  next-agrees lane_width_of v s c h = h
  next-agrees left_boundary_of v s c h = h
  next-agrees right_boundary_of v s c h = h
  next-agrees checkpoint v s c h = h
  next-agrees stop v s c h = h
  next-agrees exit v s c h = h
  next-agrees end_lane_of v s c h = (ap suc h.0, h.1, h.2)
  next-agrees zone v s c h = h
  next-agrees num_spots v s c h = h
  next-agrees zone_name_of v s c h = h
  next-agrees end_zone v s c h = h
  next-agrees perimeter v s c h = h
  next-agrees num_perimeterpoints v s c h = h
  next-agrees end_perimeter v s c h = h
  next-agrees spot v s c h = h
  next-agrees spot_width_of v s c h = h
  next-agrees end_spot v s c h = (h.0, ap suc h.1, h.2)
  next-agrees end_file_of v s c h = h
  next-agrees point v s c h = (h.0, h.1, ap suc h.2)

  pub ends-agree : (l : List (Statement N)) (s : State N) (c : Counts) → Agree s c → Agree (ends l s) (tallied l c)
  unfolding tallied Filling.ends
  ends-agree [] s c h = h
  ends-agree (x ∷ l) s c h = ends-agree l (next x.kind x.val s) (tally x.kind c) (next-agrees x.kind x.val s c h)

  -- checkpoints, stops and exits have a row for each of their lines: row i is of line i of that kind
  pub record ByLines (l : List (Statement N)) (o : Rows N) : Type 0 where
    pub numbers : map (λ a. a.number) o.checkpoints ≡ map (λ v. v.number) (of_kind checkpoint l)
    pub stops : length o.stops ≡ length (of_kind stop l)
    pub entries : map (λ a. a.entry) o.exits ≡ map (λ v. v.entry) (of_kind exit l)

  one-by-line : (k : Kind) (v : Says N k) (s : State N) (l : List (Statement N)) (o : Rows N) → ByLines l o → ByLines (say k v ∷ l) (in_tables (gives k v s) ⊕ o)
  one-by-line RNDF_name_of v s l o h = record { numbers = h.numbers; stops = h.stops; entries = h.entries }
  one-by-line num_segments v s l o h = record { numbers = h.numbers; stops = h.stops; entries = h.entries }
  one-by-line num_zones v s l o h = record { numbers = h.numbers; stops = h.stops; entries = h.entries }
  one-by-line format_version_of v s l o h = record { numbers = h.numbers; stops = h.stops; entries = h.entries }
  one-by-line creation_date_of v s l o h = record { numbers = h.numbers; stops = h.stops; entries = h.entries }
  one-by-line segment v s l o h = record { numbers = h.numbers; stops = h.stops; entries = h.entries }
  one-by-line num_lanes v s l o h = record { numbers = h.numbers; stops = h.stops; entries = h.entries }
  one-by-line segment_name_of v s l o h = record { numbers = h.numbers; stops = h.stops; entries = h.entries }
  one-by-line end_segment v s l o h = record { numbers = h.numbers; stops = h.stops; entries = h.entries }
  one-by-line lane v s l o h = record { numbers = h.numbers; stops = h.stops; entries = h.entries }
  one-by-line num_waypoints v s l o h = record { numbers = h.numbers; stops = h.stops; entries = h.entries }
  one-by-line lane_width_of v s l o h = record { numbers = h.numbers; stops = h.stops; entries = h.entries }
  one-by-line left_boundary_of v s l o h = record { numbers = h.numbers; stops = h.stops; entries = h.entries }
  one-by-line right_boundary_of v s l o h = record { numbers = h.numbers; stops = h.stops; entries = h.entries }
  one-by-line checkpoint v s l o h = record { numbers = ap (◌∷◌ v.number) h.numbers; stops = h.stops; entries = h.entries }
  one-by-line stop v s l o h = record { numbers = h.numbers; stops = ap suc h.stops; entries = h.entries }
  one-by-line exit v s l o h = record { numbers = h.numbers; stops = h.stops; entries = ap (◌∷◌ v.entry) h.entries }
  one-by-line end_lane_of v s l o h = record { numbers = h.numbers; stops = h.stops; entries = h.entries }
  one-by-line zone v s l o h = record { numbers = h.numbers; stops = h.stops; entries = h.entries }
  one-by-line num_spots v s l o h = record { numbers = h.numbers; stops = h.stops; entries = h.entries }
  one-by-line zone_name_of v s l o h = record { numbers = h.numbers; stops = h.stops; entries = h.entries }
  one-by-line end_zone v s l o h = record { numbers = h.numbers; stops = h.stops; entries = h.entries }
  one-by-line perimeter v s l o h = record { numbers = h.numbers; stops = h.stops; entries = h.entries }
  one-by-line num_perimeterpoints v s l o h = record { numbers = h.numbers; stops = h.stops; entries = h.entries }
  one-by-line end_perimeter v s l o h = record { numbers = h.numbers; stops = h.stops; entries = h.entries }
  one-by-line spot v s l o h = record { numbers = h.numbers; stops = h.stops; entries = h.entries }
  one-by-line spot_width_of v s l o h = record { numbers = h.numbers; stops = h.stops; entries = h.entries }
  one-by-line end_spot v s l o h = record { numbers = h.numbers; stops = h.stops; entries = h.entries }
  one-by-line end_file_of v s l o h = record { numbers = h.numbers; stops = h.stops; entries = h.entries }
  one-by-line point v s l o h = record { numbers = h.numbers; stops = h.stops; entries = h.entries }

  pub by_lines : (l : List (Statement N)) (s : State N) → ByLines l (rows l s)
  unfolding Filling.rows
  by_lines [] s = record { numbers = refl; stops = refl; entries = refl }
  by_lines (x ∷ l) s = one-by-line x.kind x.val s l (rows l (next x.kind x.val s)) (by_lines l (next x.kind x.val s))

  -- so many rows
  pub record LineCounts (l : List (Statement N)) (o : Rows N) : Type 0 where
    pub checkpoints : length o.checkpoints ≡ length (of_kind checkpoint l)
    pub stops : length o.stops ≡ length (of_kind stop l)
    pub exits : length o.exits ≡ length (of_kind exit l)

  pub line-counts : (l : List (Statement N)) (s : State N) → LineCounts l (rows l s)
  line-counts l s = let h = by_lines l s in record {
    checkpoints = sym (length-map (rows l s).checkpoints (λ a. a.number)) ∙ ap (λ (l : List ℕ). length l) h.numbers ∙ length-map (of_kind checkpoint l) (λ v. v.number);
    stops = h.stops;
    exits = sym (length-map (rows l s).exits (λ a. a.entry)) ∙ ap (λ (l : List PointId). length l) h.entries ∙ length-map (of_kind exit l) (λ v. v.entry);
  }
