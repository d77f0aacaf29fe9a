-- THE LAW of the counts: where a network is spelled, each table has as many rows as its count lines declare together. Assumes nothing.
use mathlib.Core.Path.{◌≡◌, refl, sym, ap, ap₂, ◌∙◌}
use mathlib.Core.List.{List, [], ◌∷◌}
use Prim.Native.Nat.{ℕ, suc, ◌+◌, ◌*◌}
use native.Mathlib.Omega.{arith}
use lib.ListN.{length, length-append}
use Rattle.grammar.specs.Statements.{Statement, of_kind, PointId, num_segments, num_zones, num_lanes, num_waypoints, num_spots, num_perimeterpoints, checkpoint, stop, exit}
use Rattle.grammar.specs.Network.{Zone, Network, SpellsNetwork}
use Rattle.grammar.specs.Tables.{Tables, gather, lane_size, zone_size, the_spot_row_of, lane_row, the_segment_row_of, zone_points, zone_rows_from, over_spots, all_lanes, lane_points, first_zone_point, tables_with, tables_unresolved}
use Rattle.grammar.proofs.Rows.{total, length-gather}
use Rattle.grammar.proofs.RowsInside.{zone-size-is}
use Rattle.fill.specs.NetworkRows.{start, rows, fill}
use Rattle.fill.specs.Counts.{Counts, sizes, together, declared}
use Rattle.fill.specs.Tally.{no_counts, tallied}
use Rattle.fill.proofs.RowLaws.{gather-gather, length-along, one_each, total-each}
use Rattle.fill.proofs.NetworkFills.{network_fills}
use Rattle.fill.proofs.CountLaws.{tallied-counts, line-counts}
use Rattle.fill.proofs.DeclaredLaws.{CountLines, count_lines}

-- ## Numbers together
together-each : {A : Type 0} (size : A → ℕ) (l : List A) → together (gather (λ a. size a ∷ []) l) ≡ total size l
together-each size [] = refl
together-each size (a ∷ l) = ap (◌+◌ (size a)) (together-each size l)

module _ {N : Type 0} where
  pub zone-each : (p q : ℕ) (l : List (Zone N)) → length (zone_rows_from p q l) ≡ length l
  zone-each p q [] = refl
  zone-each p q (z ∷ l) = ap suc (zone-each (p + zone_size z) (q + length z.spots) l)

  zone-sizes : (l : List (Zone N)) → total zone_size l ≡ total (λ z. length z.border.points) l + 2 * total (λ z. length z.spots) l
  zone-sizes [] = refl
  zone-sizes (z ∷ l) = let h = zone-sizes l in let a = zone-size-is z in let b = total-each 2 z.spots in omega arith

  -- what the count lines declare, by the network
  abbrev size_of : Network N → Counts → Counts
  size_of n c = record {
    segments = length n.segments;
    lanes = length (all_lanes n);
    zones = length n.zones;
    spots = total (λ z. length z.spots) n.zones;
    points = total lane_size (all_lanes n) + total zone_size n.zones;
    checkpoints = c.checkpoints;
    stops = c.stops;
    exits = c.exits;
  }

  sizes-are : (n : Network N) → sizes (tables_unresolved n) ≡ size_of n (sizes (tables_unresolved n))
  unfolding tables_with
  sizes-are n =
      let a = one_each (λ s. length s.lanes) the_segment_row_of 0 n.segments in
      let b = one_each lane_size lane_row 0 (all_lanes n) in
      let c = zone-each (first_zone_point n) 0 n.zones in
      let d = length-along zone_size (λ z. length z.spots) (over_spots (λ first s. the_spot_row_of first s ∷ [])) (λ p z. one_each (λ s. 2) the_spot_row_of (p + length z.border.points) z.spots) (first_zone_point n) n.zones in
      let e = length-append (lane_points n) (gather zone_points n.zones) ∙ ap₂ (λ (x y : ℕ). x + y) (length-gather (λ b. b.points) (all_lanes n)) (length-gather zone_points n.zones) in
      λ i. record { segments = a i; lanes = b i; zones = c i; spots = d i; points = e i; checkpoints = (sizes (tables_unresolved n)).checkpoints; stops = (sizes (tables_unresolved n)).stops; exits = (sizes (tables_unresolved n)).exits }

  declared-are : (n : Network N) (u : List (Statement N)) → CountLines n u → declared u ≡ size_of n (declared u)
  declared-are n u c =
      let a : together (of_kind num_segments u) ≡ length n.segments = ap together c.segments ∙ alone (length n.segments) in
      let b : together (of_kind num_lanes u) ≡ length (all_lanes n) = ap together c.lanes ∙ together-each (λ s. length s.lanes) n.segments ∙ sym (length-gather (λ s. s.lanes) n.segments) in
      let d : together (of_kind num_zones u) ≡ length n.zones = ap together c.zones ∙ alone (length n.zones) in
      let e : together (of_kind num_spots u) ≡ total (λ z. length z.spots) n.zones = ap together c.spots ∙ together-each (λ z. length z.spots) n.zones in
      let w : together (of_kind num_waypoints u) ≡ total lane_size (all_lanes n)
      = ap together (c.waypoints ∙ gather-gather (λ s. s.lanes) (λ b. length b.points ∷ []) n.segments) ∙ together-each lane_size (all_lanes n) in
      let p : together (of_kind num_perimeterpoints u) ≡ total (λ z. length z.border.points) n.zones = ap together c.perimeterpoints ∙ together-each (λ z. length z.border.points) n.zones in
      let z = zone-sizes n.zones in
      let f : together (of_kind num_waypoints u) + together (of_kind num_perimeterpoints u) + 2 * together (of_kind num_spots u) ≡ total lane_size (all_lanes n) + total zone_size n.zones = omega arith in
      λ i. record { segments = a i; lanes = b i; zones = d i; spots = e i; points = f i; checkpoints = (declared u).checkpoints; stops = (declared u).stops; exits = (declared u).exits }
    where
      alone : (k : ℕ) → together (k ∷ []) ≡ k
      alone k = omega arith

  -- the tally from nothing is the rows' sizes, for any statements
  pub tallied-sizes : (blank : N) (u : List (Statement N)) → tallied u no_counts ≡ sizes (fill blank u)
  unfolding fill
  tallied-sizes blank u =
      let h = tallied-counts u (start blank) no_counts in
      let o = rows u (start blank) in
      let c = tallied u no_counts in
      let segments : c.segments ≡ length o.segments = let e = h.segments in omega arith in
      let lanes : c.lanes ≡ length o.lanes = let e = h.lanes in omega arith in
      let zones : c.zones ≡ length o.zones = let e = h.zones in omega arith in
      let spots : c.spots ≡ length o.spots = let e = h.spots in omega arith in
      let points : c.points ≡ length o.points = let e = h.points in omega arith in
      let checkpoints : c.checkpoints ≡ length o.checkpoints = let e = h.checkpoints in omega arith in
      let stops : c.stops ≡ length o.stops = let e = h.stops in omega arith in
      let exits : c.exits ≡ length o.exits = let e = h.exits in omega arith in
      λ i. record { segments = segments i; lanes = lanes i; zones = zones i; spots = spots i; points = points i; checkpoints = checkpoints i; stops = stops i; exits = exits i }

  -- the rows of a spelled network's tables are as many as its statements declare
  pub sizes-declared : (n : Network N) (u : List (Statement N)) → SpellsNetwork n u → sizes (tables_unresolved n) ≡ declared u
  unfolding fill
  sizes-declared n u s =
      let h = line-counts u (start n.name) in
      let same : sizes (fill n.name u) ≡ sizes (tables_unresolved n) = ap (λ (t : Tables N PointId). sizes t) (network_fills n.name n u s) in
      let checkpoints : (sizes (tables_unresolved n)).checkpoints ≡ length (of_kind checkpoint u) = sym (ap (λ (c : Counts). c.checkpoints) same) ∙ h.checkpoints in
      let stops : (sizes (tables_unresolved n)).stops ≡ length (of_kind stop u) = sym (ap (λ (c : Counts). c.stops) same) ∙ h.stops in
      let exits : (sizes (tables_unresolved n)).exits ≡ length (of_kind exit u) = sym (ap (λ (c : Counts). c.exits) same) ∙ h.exits in
      let lined : size_of n (sizes (tables_unresolved n)) ≡ size_of n (declared u) = λ i. size_of n (record { segments = 0; lanes = 0; zones = 0; spots = 0; points = 0; checkpoints = checkpoints i; stops = stops i; exits = exits i }) in
      sizes-are n ∙ lined ∙ sym (declared-are n u (count_lines n u s))

  -- so is what the tally counts on the way
  pub tallied-declared : (n : Network N) (u : List (Statement N)) → SpellsNetwork n u → tallied u no_counts ≡ declared u
  tallied-declared n u s = tallied-sizes n.name u ∙ ap (λ (t : Tables N PointId). sizes t) (network_fills n.name n u s) ∙ sizes-declared n u s
