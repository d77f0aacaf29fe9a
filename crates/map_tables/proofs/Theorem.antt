-- THE THEOREM: what the program puts of the filled tables of an accepted network is that network's map. Assumes nothing.
use mathlib.Core.Path.{◌≡◌, refl, sym, ap, subst, ◌∙◌}
use mathlib.Core.List.{List, [], ◌∷◌, ◌++◌, map, map-append, append_assoc, append-nil}
use mathlib.Core.Option.{Option, none, some}
use Prim.Native.Nat.{ℕ, zero, suc, ◌+◌, ◌≤◌}
use native.Mathlib.Omega.{arith}
use lib.ListN.{length, length-append, length-map}
use Rattle.terms.specs.Ascii.{Bytes, ascii}
use Rattle.terms.specs.Words.{Each, perhaps}
use Rattle.terms.proofs.Lists.{each_map}
use Rattle.line.specs.Content.{Field}
use Rattle.rows.specs.Read.{point_at_of}
use Rattle.filled_rows.specs.From.{From}
use Rattle.filled_rows.proofs.From.{from_parts}
use Rattle.law.specs.Network.{Segment, Zone, Network, present}
use Rattle.law.specs.Tables.{Lent, filled, gather, total, lane_size, zone_size, lane_points, zone_points, first_zone_point}
use Rattle.law.specs.Tables as Law
use Rattle.law.specs.Along as Along
use Rattle.grammar.specs.Tables.{tables, tables_with}
use Rattle.grammar.specs.HouseOrder.{GoodNetwork, GoodSegment}
use Rattle.grammar.proofs.Rows.{each_both}
use Rattle.grammar.proofs.Theorems.{network_ranges}
use Rattle.table_words.specs.Shown.{shown_point}
use Rattle.law_spelling.proofs.Texts.{rndf-back}
use Rattle.law_tables.proofs.SameTables.{counts_same}
use Rattle.law_tables.proofs.NamesStand.{Given, NamesStand, asked, names_stand}
use Rattle.replies.specs.Replies.{rows_used_of}
use Rattle.replies.specs.Short.{AcceptsRndf}
use Rattle.output.specs.Pen.{Pen, put}
use Rattle.features.specs.Drawn.{Walk, walk, steps, segment_walk, zone_walk, all_lanes, all_perimeters, all_walk, drawn}
use Rattle.map_law.specs.Map as Map
use Rattle.map_law.specs.Map.{commas, geojson}
use Rattle.map_tables.specs.Marked.{marks}
use Rattle.map_tables.specs.Passed.{Behind, Left}
use Rattle.map_tables.proofs.Marks.{marks_append, marks-later, later_append, commas-is}
use Rattle.map_tables.proofs.Lanes.{start_of, length-of, Held}
use Rattle.map_tables.proofs.Segments.{NamedSegment, segments-are, length-along, points-counted}
use Rattle.map_tables.proofs.Perimeters.{perimeters_are}
use Rattle.map_tables.proofs.Passing.{put-put, both-passed}
use Rattle.map_tables.proofs.LaneCheckpoints.{of-lanes, segments-passed}
use Rattle.map_tables.proofs.SpotCheckpoints.{of-zones, zones-low, zones-passed}
use Rattle.map_tables.proofs.Reading.{ReadAs, filled-read}

-- a name that stands in the text
held : (text : Bytes) (v : Option Field) → Given text v → Held text v
held text none g = tt
held text (some v) g = (asked text v g.0, g.0.some_byte)

-- ## How many features and rows there are
marks-from : (k : ℕ) (l : List Bytes) → 1 ≤ k → marks k l ≡ marks 1 l
marks-from zero l h = absurd (omega arith)
marks-from (suc k) l h = marks-later k l

-- there is a lane
some_lane : (ss : List (Segment Field)) → 1 ≤ length ss → Each GoodSegment ss → 1 ≤ length (Map.numbered 1 (λ m s. Map.numbered 1 (λ n a. Map.lane_feature s.name m n a ∷ []) s.lanes) ss)
some_lane [] h good = h
some_lane (s ∷ ss) h good =
    let own = Map.numbered 1 (λ n a. Map.lane_feature s.name 1 n a ∷ []) s.lanes in
    let a = length-append own (Map.numbered (1 + 1) (λ m s. Map.numbered 1 (λ n a. Map.lane_feature s.name m n a ∷ []) s.lanes) ss) in
    let b = length-along (λ a. 1) (λ n a. Map.lane_feature s.name 1 n a) 1 s.lanes in
    let c = good.0.count.low in
    omega arith

zones-counted : (p q : ℕ) (zs : List (Zone Field)) → length (Along.zone_rows_from p q zs) ≡ length zs
zones-counted p q [] = refl
zones-counted p q (z ∷ zs) = ap suc (zones-counted (p + zone_size z) (q + length z.spots) zs)

-- ## The parts of the map, from tables l that read as those of the network n
module _ (text : Bytes) (n : Network Field) (l : Lent) (good : GoodNetwork n) (read : ReadAs n l) (names : NamesStand text n) where
  abbrev segment-count : ℕ
  segment-count = length n.segments

  -- the points of lanes, and those of zones
  points-read : From (point_at_of l.points) 0 (map shown_point (lane_points n)) × From (point_at_of l.points) (first_zone_point n) (map shown_point (gather zone_points n.zones))
  unfolding tables_with
  points-read =
      let lane-side = lane_points n in
      let zone-side = gather zone_points n.zones in
      let parts = from_parts (point_at_of l.points) 0 (map shown_point lane-side) (map shown_point zone-side) (rw (sym (map-append shown_point lane-side zone-side)) read.points) in
      let long : 0 + length (map shown_point lane-side) ≡ length lane-side = (let e = length-map lane-side shown_point in omega arith) in
      (parts.0, subst (λ (k : ℕ). From (point_at_of l.points) k (map shown_point zone-side)) long parts.1)

  lanes_put : all_lanes text l.segments l.lanes l.points segment-count ≡ marks 0 (Map.lane_features n)
  unfolding all_lanes tables_with
  lanes_put =
      let c = good.count in
      let named = each_map (λ s. Given text s.name × GoodSegment s) (NamedSegment text) (λ s g. record { name = held text s.name g.0; few = g.1.count.high }) n.segments
      (each_both (λ s. Given text s.name) GoodSegment n.segments names.segments good.segments) in
      segments-are text l.segments l.lanes l.points 0 0 0 n.segments (omega arith) named read.segments read.lanes points-read.0

  perimeters_put : all_perimeters text l.zones l.points segment-count (length n.zones) ≡ marks 1 (Map.perimeter_features n)
  unfolding all_perimeters tables_with
  perimeters_put =
      let c = good.count in
      let none_before : suc (segment-count + 0) ≡ suc segment-count = omega arith in
      let named = each_map (λ z. Given text z.name) (λ z. Held text z.name) (λ z g. held text z.name g) n.zones names.zones in
      perimeters_are text l.points l.zones segment-count 0 (first_zone_point n) 0 0 n.zones (omega arith) named read.zones points-read.1
      ∙ ap (λ (k : ℕ). marks 1 (Map.numbered k (λ m z. Map.perimeter_feature m z ∷ []) n.zones)) none_before

  module _ (count : ℕ) (counted : count ≡ length (tables n).checkpoints) where
    over-segments : Walk → Walk
    over-segments = steps (segment_walk l.segments l.lanes l.points l.checkpoints count) 0 segment-count

    over-zones : Walk → Walk
    over-zones = steps (zone_walk l.zones l.spots l.points l.checkpoints count segment-count) 0 (length n.zones)

    checkpoints_put : (q : Pen) → (over-zones (over-segments (walk q 0))).pen ≡ put q (marks 1 (Map.checkpoint_features n))
    unfolding over-segments over-zones tables_with
    checkpoints_put q =
        let c = good.count in
        let none_before : suc (segment-count + 0) ≡ suc segment-count = omega arith in
        let all = Law.all_lanes n in
        let first = first_zone_point n in
        let at : 0 + total lane_size all ≡ first = (let e = points-counted all in omega arith) in
        let by-lanes = of-lanes 0 all in
        let by-spots = of-zones first n.zones in
        let segment-side = segments-passed l.points l.checkpoints count l.lanes start_of length-of l.segments 0 0 0 n.segments (omega arith) good.segments read.segments read.lanes points-read.0 in
        let zone-side = zones-passed l.points l.checkpoints count l.spots start_of length-of l.zones segment-count 0 first 0 n.zones (omega arith) good.zones read.zones read.spots points-read.1 in
        let both = both-passed l.checkpoints count over-segments over-zones (0 + total lane_size all) (first + total zone_size n.zones) by-lanes by-spots _ _ segment-side zone-side
        (subst (λ (k : ℕ). Behind k by-spots) (sym at) (zones-low first n.zones)) (omega arith) in
        let rows : count ≡ 0 + length (by-lanes ++ by-spots) = (let e = counted in omega arith) in
        let left = subst (Left l.checkpoints count 0) (sym (append-nil (by-lanes ++ by-spots))) (record { all = rows; read = read.checkpoints }) in
        ap (λ w. w.pen) (both q 0 [] left tt)
        ∙ ap (λ (k : ℕ). put q (marks 1 (Map.numbered 1 (λ m s. Map.numbered 1 (λ n a. gather (Map.checkpoint_feature m n a.points) a.checkpoints) s.lanes) n.segments
        ++ Map.numbered k (λ m z. Map.numbered 1 (λ n s. gather (Map.checkpoint_feature m n (Law.spot_points s)) (perhaps s.checkpoint)) z.spots) n.zones))) none_before

  -- ## The whole
  features_are : commas (Map.lane_features n ++ (Map.perimeter_features n ++ Map.checkpoint_features n)) ≡ marks 0 (Map.lane_features n) ++ (marks 1 (Map.perimeter_features n) ++ marks 1 (Map.checkpoint_features n))
  features_are =
      let a = Map.lane_features n in
      let b = Map.perimeter_features n in
      let c = Map.checkpoint_features n in
      let some : 1 ≤ 0 + length a = (let k = some_lane n.segments good.some-segment good.segments in omega arith) in
      commas-is (a ++ (b ++ c)) ∙ marks_append 0 a (b ++ c) ∙ ap (λ (x : Bytes). marks 0 a ++ x) (marks-from (0 + length a) (b ++ c) some ∙ later_append b c)

  abbrev opening : Bytes
  opening = ascii "{\"type\":\"FeatureCollection\",\"features\":["

  whole : (a b c : Bytes) → commas (Map.lane_features n ++ (Map.perimeter_features n ++ Map.checkpoint_features n)) ≡ a ++ (b ++ c) → opening ++ a ++ b ++ c ++ ascii "]}" ≡ geojson n
  unfolding geojson ascii commas
  whole a b c e =
      append_assoc (opening ++ a ++ b) c (ascii "]}")
      ∙ append_assoc (opening ++ a) b (c ++ ascii "]}")
      ∙ append_assoc opening a (b ++ (c ++ ascii "]}"))
      ∙ ap (λ (x : Bytes). opening ++ (a ++ x)) (sym (append_assoc b c (ascii "]}")))
      ∙ ap (λ (x : Bytes). opening ++ x) (sym (append_assoc a (b ++ c) (ascii "]}")))
      ∙ ap (λ (x : Bytes). opening ++ (x ++ ascii "]}")) (sym e)
      ∙ ap (λ (x : Bytes). opening ++ x) (sym (append_assoc (commas (Map.lane_features n ++ (Map.perimeter_features n ++ Map.checkpoint_features n))) (ascii "]") (ascii "}")))

  drawn-is : (p : Pen) → drawn text l.segments l.lanes l.zones l.spots l.points l.checkpoints (rows_used_of n) p ≡ put p (geojson n)
  unfolding drawn all_walk over-segments over-zones
  drawn-is p =
      let count = length (Law.checkpoint_rows n) in
      let counted = sym (ap (λ c. c.checkpoints) (counts_same n)) in
      let many-segments : length (Law.segment_rows n) ≡ segment-count = length-along (λ s. length s.lanes) (λ first s. first ∷ length s.lanes ∷ Law.name_words s.name) 0 n.segments in
      let many-zones = zones-counted (first_zone_point n) 0 n.zones in
      let a = marks 0 (Map.lane_features n) in
      let b = marks 1 (Map.perimeter_features n) in
      let c = marks 1 (Map.checkpoint_features n) in
      (λ i. put (steps (zone_walk l.zones l.spots l.points l.checkpoints count (many-segments i)) 0 (many-zones i) (steps (segment_walk l.segments l.lanes l.points l.checkpoints count) 0 (many-segments i)
      (walk (put p (opening ++ all_lanes text l.segments l.lanes l.points (many-segments i) ++ all_perimeters text l.zones l.points (many-segments i) (many-zones i))) 0))).pen (ascii "]}"))
      ∙ ap (λ (q : Pen). put q (ascii "]}")) (checkpoints_put count counted (put p (opening ++ all_lanes text l.segments l.lanes l.points segment-count ++ all_perimeters text l.zones l.points segment-count (length n.zones))))
      ∙ (λ i. put (put (put p (opening ++ lanes_put i ++ perimeters_put i)) c) (ascii "]}"))
      ∙ ap (λ (q : Pen). put q (ascii "]}")) (put-put p (opening ++ a ++ b) c)
      ∙ put-put p (opening ++ a ++ b ++ c) (ascii "]}")
      ∙ ap (put p) (whole a b c features_are)

-- THE THEOREM
pub map-drawn : (text : Bytes) (t : Lent) (n : Network Field) → AcceptsRndf present text t n → (p : Pen)
    → drawn text (filled n t).segments (filled n t).lanes (filled n t).zones (filled n t).spots (filled n t).points (filled n t).checkpoints (rows_used_of n) p ≡ put p (geojson n)
map-drawn text t n h p =
    let spelled = rndf-back n text h.spelled in
    let good = network_ranges n spelled.said spelled.net in
    drawn-is text n (filled n t) good (filled-read n t good h.right h.room) (names_stand text n h.spelled) p
