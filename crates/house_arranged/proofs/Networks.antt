-- The statements that spell a network, put in order by rank, are its statements in house order, without its date. Assumes nothing.
use mathlib.Core.Path.{◌≡◌, refl, ap, ◌∙◌}
use mathlib.Core.List.{List, [], ◌∷◌, ◌++◌, map, map-map, append-nil}
use Prim.Native.Nat.{ℕ, suc}
use lib.ListN.{length}
use lib.Dec.{T}
use Rattle.terms.specs.Words.{perhaps}
use Rattle.grammar.specs.Statements.{Position, Kind, Says, Statement, lines, say, of_kind, Only, part_id, point_id, point_line_of, numbered, RNDF_name_of, num_segments, num_zones, format_version_of, creation_date_of, segment, num_lanes, segment_name_of, end_segment, lane, num_waypoints, lane_width_of, left_boundary_of, right_boundary_of, checkpoint, stop, exit, end_lane_of, zone, num_spots, zone_name_of, end_zone, perimeter, num_perimeterpoints, end_perimeter, spot, spot_width_of, end_spot, end_file_of}
use Rattle.grammar.specs.Network.{Lane, Segment, Perimeter, Spot, Zone, Network, the_checkpoint_of, the_exit_of, LaneOptions, SpellsLane, SegmentOptions, SpellsSegment, PerimeterOptions, SpellsPerimeter, SpotOptions, SpellsSpot, ZoneOptions, SpellsZone, FileOptions, SpellsNetwork}
use Rattle.grammar.specs.HouseOrder.{lane_options, segment_options, perimeter_options, spot_options, zone_options, file_options, house_lane, house_segment, house_perimeter, house_spot, house_zone, house_network}
use Rattle.house_text.specs.House.{undated}
use Rattle.house_arranged.specs.Order.{ranked, by_rank, arranged}
use Rattle.house_arranged.specs.Ranks.{rndf_rank}
use Rattle.house_arranged.proofs.Settling.{Options, Sorted, Settles, with, one, ◌▸◌, in_turns, settled, six}
use Rattle.house_arranged.proofs.Settling as Settling
use Rattle.house_arranged.proofs.OptionRanks as Ranks
use Rattle.house_arranged.proofs.OptionRanks.{lacking, alone}

module _ {N : Type 0} where
  abbrev rank : Statement N → ℕ
  rank s = rndf_rank s.kind

  abbrev In-order : List (Statement N) → List (Statement N) → Type 0
  In-order = Settles rank

  -- ## Options
  options : (ks : List Kind) → T (lacking (lines N) rndf_rank 0 ks) → (os : List (Statement N)) → Only ks os → Options rank os
  options = Ranks.only-options (lines N) rndf_rank

  own : (ks : List Kind) (k : Kind) → T (alone (lines N) rndf_rank k ks) → (os : List (Statement N)) → Only ks os → {vs : List (Says N k)} → of_kind k os ≡ vs → ranked rank (rndf_rank k) os ≡ map (say k) vs
  own = Ranks.own-ranked (lines N) rndf_rank

  none : (ks : List Kind) (n : ℕ) → T (lacking (lines N) rndf_rank n ks) → (os : List (Statement N)) → Only ks os → ranked rank n os ≡ []
  none = Ranks.none-ranked (lines N) rndf_rank

  lane-order : (m n : ℕ) (a : Lane) (os : List (Statement N)) → LaneOptions m n a os → Sorted rank os (lane_options m n a)
  unfolding by_rank lane_options
  lane-order m n a os g =
      let ks : List Kind = lane_width_of ∷ left_boundary_of ∷ right_boundary_of ∷ checkpoint ∷ stop ∷ exit ∷ [] in
      let o = g.no_other in
      record {
        options = options ks tt os o;
        order =
            six (own ks lane_width_of tt os o g.width)
            (own ks left_boundary_of tt os o g.left)
            (own ks right_boundary_of tt os o g.right)
            (own ks checkpoint tt os o g.checkpoints ∙ map-map (say checkpoint) (the_checkpoint_of m n) a.checkpoints)
            (own ks stop tt os o g.stops ∙ map-map (say stop) (point_id m n) a.stops)
            (own ks exit tt os o g.exits ∙ map-map (say exit) (the_exit_of m n) a.exits);
      }

  segment-order : (a : Segment N) (os : List (Statement N)) → SegmentOptions a os → Sorted rank os (segment_options a)
  unfolding by_rank segment_options
  segment-order a os g =
      let ks : List Kind = segment_name_of ∷ [] in
      let o = g.no_other in
      record {
        options = options ks tt os o;
        order =
            six (own ks segment_name_of tt os o g.name) (none ks 2 tt os o) (none ks 3 tt os o) (none ks 4 tt os o) (none ks 5 tt os o) (none ks 6 tt os o)
            ∙ append-nil (map (say segment_name_of) (perhaps a.name));
      }

  perimeter-order : (m : ℕ) (a : Perimeter) (os : List (Statement N)) → PerimeterOptions m a os → Sorted rank os (perimeter_options m a)
  unfolding by_rank perimeter_options
  perimeter-order m a os g =
      let ks : List Kind = exit ∷ [] in
      let o = g.no_other in
      record {
        options = options ks tt os o;
        order =
            six (none ks 1 tt os o) (none ks 2 tt os o) (none ks 3 tt os o) (none ks 4 tt os o) (none ks 5 tt os o)
            (own ks exit tt os o g.exits ∙ map-map (say exit) (the_exit_of m 0) a.exits);
      }

  spot-order : (m n : ℕ) (a : Spot) (os : List (Statement N)) → SpotOptions m n a os → Sorted rank os (spot_options m n a)
  unfolding by_rank spot_options
  spot-order m n a os g =
      let ks : List Kind = spot_width_of ∷ checkpoint ∷ [] in
      let o = g.no_other in
      record {
        options = options ks tt os o;
        order =
            six (own ks spot_width_of tt os o g.width) (none ks 2 tt os o) (none ks 3 tt os o)
            (own ks checkpoint tt os o g.checkpoints ∙ map-map (say checkpoint) (the_checkpoint_of m n) (perhaps a.checkpoint))
            (none ks 5 tt os o) (none ks 6 tt os o)
            ∙ ap (◌++◌ (map (say spot_width_of) (perhaps a.width))) (append-nil (map (λ c. say checkpoint (the_checkpoint_of m n c)) (perhaps a.checkpoint)));
      }

  zone-order : (a : Zone N) (os : List (Statement N)) → ZoneOptions a os → Sorted rank os (zone_options a)
  unfolding by_rank zone_options
  zone-order a os g =
      let ks : List Kind = zone_name_of ∷ [] in
      let o = g.no_other in
      record {
        options = options ks tt os o;
        order =
            six (own ks zone_name_of tt os o g.name) (none ks 2 tt os o) (none ks 3 tt os o) (none ks 4 tt os o) (none ks 5 tt os o) (none ks 6 tt os o)
            ∙ append-nil (map (say zone_name_of) (perhaps a.name));
      }

  file-order : (a : Network N) (os : List (Statement N)) → FileOptions a os → Sorted rank os (file_options (undated a))
  unfolding by_rank file_options
  file-order a os g =
      let ks : List Kind = format_version_of ∷ creation_date_of ∷ [] in
      let o = g.no_other in
      record {
        options = options ks tt os o;
        order =
            six (own ks format_version_of tt os o g.version) (none ks 2 tt os o) (none ks 3 tt os o) (none ks 4 tt os o) (none ks 5 tt os o) (none ks 6 tt os o);
      }

  -- ## Parts
  only : (k : Kind) (v : Says N k) → rndf_rank k ≡ 0 → In-order (say k v ∷ []) (say k v ∷ [])
  only k v z = one rank (say k v) z

  points : (m n i : ℕ) (ps : List Position) → In-order (numbered m n i ps) (numbered m n i ps)
  unfolding numbered
  points m n i [] = Settling.none rank
  points m n i (p ∷ ps) = one rank (point_line_of (point_id m n i) p) refl ▸ points m n (suc i) ps

  in_lane : (m n : ℕ) (a : Lane) (l : List (Statement N)) → SpellsLane m n a l → In-order l (house_lane m n a)
  unfolding house_lane
  in_lane m n a l s =
      let o = with rank (say num_waypoints (length a.points)) refl (lane-order m n a s.options s.given) in
      rw s.spelled (only lane (part_id m n) refl ▸ o ▸ points m n 1 a.points ▸ only end_lane_of tt refl)

  in-segment : (m : ℕ) (a : Segment N) (l : List (Statement N)) → SpellsSegment m a l → In-order l (house_segment m a)
  unfolding house_segment
  in-segment m a l s =
      let o = with rank (say num_lanes (length a.lanes)) refl (segment-order a s.options s.given) in
      rw s.spelled (only segment m refl ▸ o ▸ in_turns rank (SpellsLane m) (house_lane m) (in_lane m) s.each ▸ only end_segment tt refl)

  in-perimeter : (m : ℕ) (a : Perimeter) (l : List (Statement N)) → SpellsPerimeter m a l → In-order l (house_perimeter m a)
  unfolding house_perimeter
  in-perimeter m a l s =
      let o = with rank (say num_perimeterpoints (length a.points)) refl (perimeter-order m a s.options s.given) in
      rw s.spelled (only perimeter (part_id m 0) refl ▸ o ▸ points m 0 1 a.points ▸ only end_perimeter tt refl)

  in_spot : (m n : ℕ) (a : Spot) (l : List (Statement N)) → SpellsSpot m n a l → In-order l (house_spot m n a)
  unfolding house_spot
  in_spot m n a l s =
      let o = with rank (say spot (part_id m n)) refl (spot-order m n a s.options s.given) in
      rw s.spelled (o ▸ one rank (point_line_of (point_id m n 1) a.first) refl ▸ one rank (point_line_of (point_id m n 2) a.second) refl ▸ only end_spot tt refl)

  in-zone : (m : ℕ) (a : Zone N) (l : List (Statement N)) → SpellsZone m a l → In-order l (house_zone m a)
  unfolding house_zone
  in-zone m a l s =
      let o = with rank (say num_spots (length a.spots)) refl (zone-order a s.options s.given) in
      rw s.spelled (only zone m refl ▸ o ▸ in-perimeter m a.border s.border s.bordered ▸ in_turns rank (SpellsSpot m) (house_spot m) (in_spot m) s.each ▸ only end_zone tt refl)

  in-network : (a : Network N) (l : List (Statement N)) → SpellsNetwork a l → In-order l (house_network (undated a))
  unfolding house_network
  in-network a l s =
      let o = with rank (say num_zones (length a.zones)) refl (file-order a s.options s.given) in
      rw s.spelled (only RNDF_name_of a.name refl ▸ only num_segments (length a.segments) refl ▸ o ▸ in_turns rank SpellsSegment house_segment in-segment s.each_segment ▸ in_turns rank SpellsZone house_zone in-zone s.each_zone ▸ only end_file_of tt refl)

  pub network-arranged : (a : Network N) (said : List (Statement N)) → SpellsNetwork a said → arranged (λ s. rndf_rank s.kind) said ≡ house_network (undated a)
  network-arranged a said s = settled rank said (house_network (undated a)) (in-network a said s)
