-- Where a network is spelled, each table has as many rows as its count lines declare together. Assumes nothing.
use mathlib.Core.Path.{◌≡◌, refl, sym, ap, ap₂, ◌∙◌}
use mathlib.Core.List.{List, [], ◌∷◌, ◌++◌, append-nil, append_assoc}
use mathlib.Core.Bool.{false}
use mathlib.Core.Logic.{inl, inr}
use Prim.Native.Nat.{ℕ, suc}
use lib.Dec.{T}
use lib.ListN.{length}
use Rattle.terms.specs.Words.{Among}
use Rattle.terms.proofs.Lists.{each_append}
use Rattle.grammar.specs.Statements.{Kind, Says, Statement, lines, say, of_kind, Only, Position, point_id, point_line_of, numbered, num_segments, num_zones, format_version_of, creation_date_of, segment, num_lanes, segment_name_of, end_segment, lane, num_waypoints, lane_width_of, left_boundary_of, right_boundary_of, checkpoint, stop, exit, end_lane_of, zone, num_spots, zone_name_of, end_zone, perimeter, num_perimeterpoints, end_perimeter, spot, spot_width_of, end_spot, end_file_of, point}
use Rattle.grammar.specs.Network.{Lane, Segment, Spot, Perimeter, Zone, Network, SpellsLane, SpellsSegment, SpellsSpot, SpellsPerimeter, SpellsZone, SpellsNetwork}
use Rattle.grammar.specs.Tables.{gather}
use Rattle.grammar.proofs.LanguageLaws.{memb}
use Rattle.grammar.proofs.HouseLaws.{of_append}
use Rattle.terms.proofs.Computed.{every}
use Rattle.fill.proofs.Lines.{among-kinds, absent, widen, in-turn-only, in-turn-of}

-- ## The kinds of each part's lines
abbrev lane-rest : List Kind
lane-rest = lane_width_of ∷ left_boundary_of ∷ right_boundary_of ∷ checkpoint ∷ stop ∷ exit ∷ point ∷ end_lane_of ∷ []

abbrev lane-lines : List Kind
lane-lines = lane ∷ num_waypoints ∷ lane-rest

abbrev segment-rest : List Kind
segment-rest = segment_name_of ∷ end_segment ∷ lane-lines

abbrev segment-lines : List Kind
segment-lines = segment ∷ num_lanes ∷ segment-rest

abbrev perimeter-rest : List Kind
perimeter-rest = exit ∷ point ∷ end_perimeter ∷ []

abbrev perimeter-lines : List Kind
perimeter-lines = perimeter ∷ num_perimeterpoints ∷ perimeter-rest

abbrev spot-lines : List Kind
spot-lines = spot ∷ spot_width_of ∷ checkpoint ∷ point ∷ end_spot ∷ []

abbrev zone-rest : List Kind
zone-rest = zone_name_of ∷ end_zone ∷ perimeter-lines ++ spot-lines

abbrev zone-lines : List Kind
zone-lines = zone ∷ num_spots ∷ zone-rest

points-only : (N : Type 0) (m n i : ℕ) (ps : List Position) (ks : List Kind) → Among point ks → Only ks (numbered {N = N} m n i ps)
unfolding numbered
points-only N m n i [] ks a = tt
points-only N m n i (p ∷ ps) ks a = (a, points-only N m n (suc i) ps ks a)

module _ {N : Type 0} where
  abbrev Of : List Kind → Statement N → Type 0
  Of ks x = Among x.kind ks

  -- options of these kinds, then points, then an end word
  part-only : (ks all : List Kind) (m n i : ℕ) (ps : List Position) (os : List (Statement N)) (end : Statement N) → T (every (λ k. memb (lines N) k all) ks) → Only ks os → Among point all → Among end.kind all
      → Only all (os ++ (numbered m n i ps ++ (end ∷ [])))
  part-only ks all m n i ps os end t o p e = each_append (Of all) os (numbered m n i ps ++ (end ∷ [])) (widen (lines N) ks all t os o)
      (each_append (Of all) (numbered m n i ps) (end ∷ []) (points-only N m n i ps all p) (e, tt))

  -- of a kind that is not among the options and not the end word: what stands between them says it
  between : (k : Kind) (ks : List Kind) → memb (lines N) k ks ≡ false → (os w : List (Statement N)) (end : Statement N) → Only ks os → of_kind k (end ∷ []) ≡ [] → of_kind k (os ++ (w ++ (end ∷ []))) ≡ of_kind k w
  between k ks m os w end o e = of_append (lines N) k os (w ++ (end ∷ []))
      ∙ ap₂ (λ (x y : List (Says N k)). x ++ y) (absent (lines N) k ks m os o) (of_append (lines N) k w (end ∷ []) ∙ ap (◌++◌ (of_kind k w)) e ∙ append-nil (of_kind k w))

  between-two : (k : Kind) (ks : List Kind) → memb (lines N) k ks ≡ false → (os w x : List (Statement N)) (end : Statement N) → Only ks os → of_kind k (end ∷ []) ≡ [] → of_kind k (os ++ (w ++ (x ++ (end ∷ [])))) ≡ of_kind k w ++ of_kind k x
  between-two k ks m os w x end o e = ap (λ (l : List (Statement N)). of_kind k (os ++ l)) (sym (append_assoc w x (end ∷ []))) ∙ between k ks m os (w ++ x) end o e ∙ of_append (lines N) k w x

  -- ## Lanes and segments
  module _ (m n : ℕ) (a : Lane) (u : List (Statement N)) (s : SpellsLane m n a u) where
    abbrev lane-tail : List (Statement N)
    lane-tail = s.options ++ (numbered m n 1 a.points ++ (say end_lane_of tt ∷ []))

    lane-rest-only : Only lane-rest lane-tail
    lane-rest-only = part-only (lane_width_of ∷ left_boundary_of ∷ right_boundary_of ∷ checkpoint ∷ stop ∷ exit ∷ []) lane-rest m n 1 a.points s.options (say end_lane_of tt) tt s.given.no_other (among-kinds (lines N) point lane-rest tt) (among-kinds (lines N) end_lane_of lane-rest tt)

    lane-only : Only lane-lines u
    lane-only = rw s.spelled (inl refl, (inr (inl refl), widen (lines N) lane-rest lane-lines tt lane-tail lane-rest-only))

    lane_declares : of_kind num_waypoints u ≡ length a.points ∷ []
    lane_declares = rw s.spelled (ap (◌∷◌ (length a.points)) (absent (lines N) num_waypoints lane-rest refl lane-tail lane-rest-only))

  module _ (m : ℕ) (a : Segment N) (u : List (Statement N)) (s : SpellsSegment m a u) where
    abbrev segment-tail : List (Statement N)
    segment-tail = s.options ++ (s.lanes ++ (say end_segment tt ∷ []))

    segment-rest-only : Only segment-rest segment-tail
    segment-rest-only = each_append (Of segment-rest) s.options (s.lanes ++ (say end_segment tt ∷ [])) (widen (lines N) (segment_name_of ∷ []) segment-rest tt s.options s.given.no_other)
        (each_append (Of segment-rest) s.lanes (say end_segment tt ∷ []) (widen (lines N) lane-lines segment-rest tt s.lanes (in-turn-only (lines N) lane-lines (lane-only m) s.each)) (inr (inl refl), tt))

    segment-only : Only segment-lines u
    segment-only = rw s.spelled (inl refl, (inr (inl refl), widen (lines N) segment-rest segment-lines tt segment-tail segment-rest-only))

    segment_declares : of_kind num_lanes u ≡ length a.lanes ∷ []
    segment_declares = rw s.spelled (ap (◌∷◌ (length a.lanes)) (absent (lines N) num_lanes segment-rest refl segment-tail segment-rest-only))

    segment-waypoints : of_kind num_waypoints u ≡ gather (λ b. length b.points ∷ []) a.lanes
    segment-waypoints = rw s.spelled (between num_waypoints (segment_name_of ∷ []) refl s.options s.lanes (say end_segment tt) s.given.no_other refl
        ∙ in-turn-of (lines N) num_waypoints (λ b. length b.points ∷ []) (lane_declares m) s.each)

  -- ## Perimeters, spots and zones
  module _ (m : ℕ) (a : Perimeter) (u : List (Statement N)) (s : SpellsPerimeter m a u) where
    abbrev perimeter-tail : List (Statement N)
    perimeter-tail = s.options ++ (numbered m 0 1 a.points ++ (say end_perimeter tt ∷ []))

    perimeter-rest-only : Only perimeter-rest perimeter-tail
    perimeter-rest-only = part-only (exit ∷ []) perimeter-rest m 0 1 a.points s.options (say end_perimeter tt) tt s.given.no_other (inr (inl refl)) (inr (inr (inl refl)))

    perimeter-only : Only perimeter-lines u
    perimeter-only = rw s.spelled (inl refl, (inr (inl refl), widen (lines N) perimeter-rest perimeter-lines tt perimeter-tail perimeter-rest-only))

    perimeter_declares : of_kind num_perimeterpoints u ≡ length a.points ∷ []
    perimeter_declares = rw s.spelled (ap (◌∷◌ (length a.points)) (absent (lines N) num_perimeterpoints perimeter-rest refl perimeter-tail perimeter-rest-only))

  spot-only : (m n : ℕ) (a : Spot) (u : List (Statement N)) → SpellsSpot m n a u → Only spot-lines u
  spot-only m n a u s = rw s.spelled (
    inl refl,
    each_append (Of spot-lines) s.options (point_line_of (point_id m n 1) a.first ∷ point_line_of (point_id m n 2) a.second ∷ say end_spot tt ∷ [])
        (widen (lines N) (spot_width_of ∷ checkpoint ∷ []) spot-lines tt s.options s.given.no_other)
        (among-kinds (lines N) point spot-lines tt, (among-kinds (lines N) point spot-lines tt, (among-kinds (lines N) end_spot spot-lines tt, tt))),
  )

  module _ (m : ℕ) (a : Zone N) (u : List (Statement N)) (s : SpellsZone m a u) where
    abbrev zone-tail : List (Statement N)
    zone-tail = s.options ++ (s.border ++ (s.spots ++ (say end_zone tt ∷ [])))

    spots-only : Only spot-lines s.spots
    spots-only = in-turn-only (lines N) spot-lines (spot-only m) s.each

    zone-rest-only : Only zone-rest zone-tail
    zone-rest-only = each_append (Of zone-rest) s.options (s.border ++ (s.spots ++ (say end_zone tt ∷ []))) (widen (lines N) (zone_name_of ∷ []) zone-rest tt s.options s.given.no_other)
        (each_append (Of zone-rest) s.border (s.spots ++ (say end_zone tt ∷ [])) (widen (lines N) perimeter-lines zone-rest tt s.border (perimeter-only m a.border s.border s.bordered))
        (each_append (Of zone-rest) s.spots (say end_zone tt ∷ []) (widen (lines N) spot-lines zone-rest tt s.spots spots-only) (inr (inl refl), tt)))

    zone-only : Only zone-lines u
    zone-only = rw s.spelled (inl refl, (inr (inl refl), widen (lines N) zone-rest zone-lines tt zone-tail zone-rest-only))

    zone_declares : of_kind num_spots u ≡ length a.spots ∷ []
    zone_declares = rw s.spelled (ap (◌∷◌ (length a.spots)) (absent (lines N) num_spots zone-rest refl zone-tail zone-rest-only))

    zone-perimeter : of_kind num_perimeterpoints u ≡ length a.border.points ∷ []
    zone-perimeter = rw s.spelled (between-two num_perimeterpoints (zone_name_of ∷ []) refl s.options s.border s.spots (say end_zone tt) s.given.no_other refl
        ∙ ap₂ (λ (x y : List ℕ). x ++ y) (perimeter_declares m a.border s.border s.bordered) (absent (lines N) num_perimeterpoints spot-lines refl s.spots spots-only))

  -- ## The network
  -- what its count lines say, in file order
  pub record CountLines (n : Network N) (u : List (Statement N)) : Type 0 where
    pub segments : of_kind num_segments u ≡ length n.segments ∷ []
    pub zones : of_kind num_zones u ≡ length n.zones ∷ []
    pub lanes : of_kind num_lanes u ≡ gather (λ s. length s.lanes ∷ []) n.segments
    pub waypoints : of_kind num_waypoints u ≡ gather (λ s. gather (λ a. length a.points ∷ []) s.lanes) n.segments
    pub spots : of_kind num_spots u ≡ gather (λ z. length z.spots ∷ []) n.zones
    pub perimeterpoints : of_kind num_perimeterpoints u ≡ gather (λ z. length z.border.points ∷ []) n.zones

  pub count_lines : (n : Network N) (u : List (Statement N)) → SpellsNetwork n u → CountLines n u
  count_lines n u s = rw s.spelled (record {
    segments = ap (◌∷◌ (length n.segments)) (tail num_segments refl refl ∙ ap₂ (λ (x y : List ℕ). x ++ y) (the_no_segment_of num_segments refl) (the_no_zone_of num_segments refl));
    zones = ap (◌∷◌ (length n.zones)) (tail num_zones refl refl ∙ ap₂ (λ (x y : List ℕ). x ++ y) (the_no_segment_of num_zones refl) (the_no_zone_of num_zones refl));
    lanes = tail num_lanes refl refl ∙ ap₂ (λ (x y : List ℕ). x ++ y) (in-turn-of (lines N) num_lanes (λ a. length a.lanes ∷ []) segment_declares s.each_segment) (the_no_zone_of num_lanes refl) ∙ append-nil (gather (λ a. length a.lanes ∷ []) n.segments);
    waypoints = tail num_waypoints refl refl
        ∙ ap₂ (λ (x y : List ℕ). x ++ y) (in-turn-of (lines N) num_waypoints (λ a. gather (λ b. length b.points ∷ []) a.lanes) segment-waypoints s.each_segment) (the_no_zone_of num_waypoints refl)
        ∙ append-nil (gather (λ a. gather (λ b. length b.points ∷ []) a.lanes) n.segments);
    spots = tail num_spots refl refl ∙ ap₂ (λ (x y : List ℕ). x ++ y) (the_no_segment_of num_spots refl) (in-turn-of (lines N) num_spots (λ z. length z.spots ∷ []) zone_declares s.each_zone);
    perimeterpoints = tail num_perimeterpoints refl refl ∙ ap₂ (λ (x y : List ℕ). x ++ y) (the_no_segment_of num_perimeterpoints refl) (in-turn-of (lines N) num_perimeterpoints (λ z. length z.border.points ∷ []) zone-perimeter s.each_zone);
  })
    where
      tail : (k : Kind) → memb (lines N) k (format_version_of ∷ creation_date_of ∷ []) ≡ false → of_kind {N = N} k (say end_file_of tt ∷ []) ≡ [] → of_kind k (s.options ++ (s.segments ++ (s.zones ++ (say end_file_of tt ∷ [])))) ≡ of_kind k s.segments ++ of_kind k s.zones
      tail k m e = between-two k (format_version_of ∷ creation_date_of ∷ []) m s.options s.segments s.zones (say end_file_of tt) s.given.no_other e

      the_no_segment_of : (k : Kind) → memb (lines N) k segment-lines ≡ false → of_kind k s.segments ≡ []
      the_no_segment_of k m = absent (lines N) k segment-lines m s.segments (in-turn-only (lines N) segment-lines segment-only s.each_segment)

      the_no_zone_of : (k : Kind) → memb (lines N) k zone-lines ≡ false → of_kind k s.zones ≡ []
      the_no_zone_of k m = absent (lines N) k zone-lines m s.zones (in-turn-only (lines N) zone-lines zone-only s.each_zone)
