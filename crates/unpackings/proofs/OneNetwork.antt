-- THE THEOREM: one packed form is one network's, with one place for each name. Assumes nothing.
use mathlib.Core.Path.{◌≡◌, refl, sym, ap, ap₂, subst, ◌∙◌}
use mathlib.Core.List.{List, [], ◌∷◌, ◌++◌, map, map-append, append_assoc, append-nil, head-eq_of_cons-eq, tail-eq_of_cons-eq}
use mathlib.Core.Option.{Option, none, some}
use mathlib.Core.Logic.{inl, inr}
use Prim.Native.Nat.{ℕ, zero, suc, ◌+◌, ◌^◌, ◌≤◌, ◌<◌}
use native.Mathlib.Omega.{arith}
use lib.ListN.{length, length-append, length-map}
use lib.IntN.{nat_abs}
use Rattle.terms.specs.Ascii.{Bytes}
use Rattle.terms.specs.Words.{Each}
use Rattle.terms.proofs.Lists.{each_map, each_append}
use Rattle.line.specs.Content.{Field}
use Rattle.law.specs.Network.{Network, Zone, OnEarth}
use Rattle.law.specs.Tables.{gather, total, lane_size, zone_size, all_lanes, first_zone_point, first_spot_of}
use Rattle.law.specs.Along.{along}
use Rattle.law.specs.Faults.{Sound}
use Rattle.grammar.specs.HouseOrder.{GoodNetwork, GoodSegment, GoodZone}
use Rattle.grammar.specs.Network.{GoodLane}
use Rattle.grammar.specs.Tables.{SegmentRow, LaneRow, ZoneRow, Tables, tables, tables_with, point_row_of, the_segment_row_of, lane_row, zone_rows_from}
use Rattle.grammar.proofs.Rows.{cut_at, along-each, each_both}
use Rattle.grammar.proofs.RowsInside.{good-lanes}
use Rattle.grammar.proofs.Determined.{tables_determine}
use Rattle.table_words.proofs.Bounds.{WidthBound, LaneBounds, ZoneBounds, SpotBounds, CheckpointBounds, bounded, entries-inside}
use Rattle.output.specs.Packed.{big_endian}
use Rattle.output.proofs.Packed.{packed-long}
use Rattle.replies.specs.Replies.{longest}
use Rattle.packed_law.specs.Packed.{Slot, figure, angle, title, slot_bytes, laid, with_length, all_slots, this_version, packed_form, NamesLie}
use Rattle.packed_law.proofs.Told.{records, all_told}
use Rattle.unpackings.specs.Unpacks.{IsPackedFormOf}
use Rattle.unpackings.specs.Trip.{OneNetwork}
use Rattle.unpackings.proofs.Kept.{Few, FewNames, network-good, network-few}
use Rattle.unpackings.proofs.Framing.{bytes_in, item-long, laid-long, few-long, whole, gather_append, laid-all, Short}
use Rattle.unpackings.proofs.Cutting.{Kind, of_size, of-coordinate, of-name, shape, Fit, items-cut, placed-cut}
use Rattle.unpackings.proofs.Rows.{segment_rec, lane_rec, zone_rec, spot_rec, point_rec, checkpoint_rec, stop_rec, exit_rec, file_rec, records-of, records-so, at, segment-back, lane-back, zone-back, spot_back, point-back, checkpoint-back, exit-back, rows_cut}

-- ## The slots of tables, table by table
abbrev pub laid_out : {R : Type 0} → (R → List Slot) → List R → List Slot
laid_out rec rows = gather with_length (map rec rows)

abbrev pub rest_of : Tables Field ℕ → List Slot
rest_of t = laid_out segment_rec t.segments ++ (laid_out lane_rec t.lanes ++ (laid_out zone_rec t.zones ++ (laid_out spot_rec t.spots ++ (laid_out point_rec t.points ++ (laid_out checkpoint_rec t.checkpoints ++ (laid_out stop_rec t.stops ++ laid_out exit_rec t.exits))))))

abbrev pub items_of : Tables Field ℕ → List Slot
items_of t = with_length (file_rec t) ++ rest_of t

pub items-are : (t : Tables Field ℕ) → gather with_length (records-of t) ≡ items_of t
unfolding records-of
items-are t =
    let a = map segment_rec t.segments in let b = map lane_rec t.lanes in let c = map zone_rec t.zones in let d = map spot_rec t.spots in
    let e = map point_rec t.points in let g = map checkpoint_rec t.checkpoints in let h = map stop_rec t.stops in let k = map exit_rec t.exits in
    rw (
      gather_append with_length a (b ++ (c ++ (d ++ (e ++ (g ++ (h ++ k)))))),
      gather_append with_length b (c ++ (d ++ (e ++ (g ++ (h ++ k))))),
      gather_append with_length c (d ++ (e ++ (g ++ (h ++ k)))),
      gather_append with_length d (e ++ (g ++ (h ++ k))),
      gather_append with_length e (g ++ (h ++ k)),
      gather_append with_length g (h ++ k),
      gather_append with_length h k,
    )

-- ## Their shape goes by the counts
unfoldable pub copies : ℕ → List Kind → List Kind
copies zero s = []
copies (suc k) s = s ++ copies k s

shape-rows : {R : Type 0} (rec : R → List Slot) (s : List Kind) → ((r : R) → map shape (rec r) ≡ s) → (rows : List R) → map shape (laid_out rec rows) ≡ copies (length rows) (of_size 2 ∷ s)
unfolding copies
shape-rows rec s h [] = refl
shape-rows rec s h (r ∷ rows) = map-append shape (with_length (rec r)) (laid_out rec rows) ∙ ap₂ ◌++◌ (ap (λ (l : List Kind). of_size 2 ∷ l) (h r)) (shape-rows rec s h rows)

abbrev pub shapes : (a b c d e g h k : ℕ) → List Kind
shapes a b c d e g h k =
    copies a (of_size 2 ∷ of_size 4 ∷ of_size 2 ∷ of-name ∷ []) ++ (copies b (of_size 2 ∷ of_size 4 ∷ of_size 2 ∷ of_size 2 ∷ of_size 1 ∷ of_size 1 ∷ []) ++ (copies c (of_size 2 ∷ of_size 4 ∷ of_size 2 ∷ of_size 4 ∷ of_size 2 ∷ of-name ∷ [])
    ++ (copies d (of_size 2 ∷ of_size 4 ∷ of_size 2 ∷ []) ++ (copies e (of_size 2 ∷ of-coordinate ∷ of-coordinate ∷ []) ++ (copies g (of_size 2 ∷ of_size 2 ∷ of_size 4 ∷ []) ++ (copies h (of_size 2 ∷ of_size 4 ∷ []) ++ copies k (of_size 2 ∷ of_size 4 ∷ of_size 4 ∷ [])))))))

both : (x y : List Slot) (s t : List Kind) → map shape x ≡ s → map shape y ≡ t → map shape (x ++ y) ≡ s ++ t
both x y s t p q = map-append shape x y ∙ ap₂ ◌++◌ p q

pub shape-rest : (t : Tables Field ℕ) → map shape (rest_of t) ≡ shapes (length t.segments) (length t.lanes) (length t.zones) (length t.spots) (length t.points) (length t.checkpoints) (length t.stops) (length t.exits)
shape-rest t =
    let x0 = laid_out segment_rec t.segments in let c0 = copies (length t.segments) (of_size 2 ∷ of_size 4 ∷ of_size 2 ∷ of-name ∷ []) in
    let x1 = laid_out lane_rec t.lanes in let c1 = copies (length t.lanes) (of_size 2 ∷ of_size 4 ∷ of_size 2 ∷ of_size 2 ∷ of_size 1 ∷ of_size 1 ∷ []) in
    let x2 = laid_out zone_rec t.zones in let c2 = copies (length t.zones) (of_size 2 ∷ of_size 4 ∷ of_size 2 ∷ of_size 4 ∷ of_size 2 ∷ of-name ∷ []) in
    let x3 = laid_out spot_rec t.spots in let c3 = copies (length t.spots) (of_size 2 ∷ of_size 4 ∷ of_size 2 ∷ []) in
    let x4 = laid_out point_rec t.points in let c4 = copies (length t.points) (of_size 2 ∷ of-coordinate ∷ of-coordinate ∷ []) in
    let x5 = laid_out checkpoint_rec t.checkpoints in let c5 = copies (length t.checkpoints) (of_size 2 ∷ of_size 2 ∷ of_size 4 ∷ []) in
    let x6 = laid_out stop_rec t.stops in let c6 = copies (length t.stops) (of_size 2 ∷ of_size 4 ∷ []) in
    let x7 = laid_out exit_rec t.exits in let c7 = copies (length t.exits) (of_size 2 ∷ of_size 4 ∷ of_size 4 ∷ []) in
    both x0 (x1 ++ (x2 ++ (x3 ++ (x4 ++ (x5 ++ (x6 ++ x7)))))) c0 (c1 ++ (c2 ++ (c3 ++ (c4 ++ (c5 ++ (c6 ++ c7)))))) (shape-rows segment_rec (of_size 4 ∷ of_size 2 ∷ of-name ∷ []) (λ r. refl) t.segments)
    (both x1 (x2 ++ (x3 ++ (x4 ++ (x5 ++ (x6 ++ x7))))) c1 (c2 ++ (c3 ++ (c4 ++ (c5 ++ (c6 ++ c7))))) (shape-rows lane_rec (of_size 4 ∷ of_size 2 ∷ of_size 2 ∷ of_size 1 ∷ of_size 1 ∷ []) (λ r. refl) t.lanes)
    (both x2 (x3 ++ (x4 ++ (x5 ++ (x6 ++ x7)))) c2 (c3 ++ (c4 ++ (c5 ++ (c6 ++ c7)))) (shape-rows zone_rec (of_size 4 ∷ of_size 2 ∷ of_size 4 ∷ of_size 2 ∷ of-name ∷ []) (λ r. refl) t.zones)
    (both x3 (x4 ++ (x5 ++ (x6 ++ x7))) c3 (c4 ++ (c5 ++ (c6 ++ c7))) (shape-rows spot_rec (of_size 4 ∷ of_size 2 ∷ []) (λ r. refl) t.spots)
    (both x4 (x5 ++ (x6 ++ x7)) c4 (c5 ++ (c6 ++ c7)) (shape-rows point_rec (of-coordinate ∷ of-coordinate ∷ []) (λ r. refl) t.points)
    (both x5 (x6 ++ x7) c5 (c6 ++ c7) (shape-rows checkpoint_rec (of_size 2 ∷ of_size 4 ∷ []) (λ r. refl) t.checkpoints)
    (both x6 x7 c6 c7 (shape-rows stop_rec (of_size 4 ∷ []) (λ r. refl) t.stops)
    (shape-rows exit_rec (of_size 4 ∷ of_size 4 ∷ []) (λ r. refl) t.exits)))))))

-- ## Equal slots have equal rows
record SameCounts (t u : Tables Field ℕ) : Type 0 where
  segments : length t.segments ≡ length u.segments
  lanes : length t.lanes ≡ length u.lanes
  zones : length t.zones ≡ length u.zones
  spots : length t.spots ≡ length u.spots
  points : length t.points ≡ length u.points
  checkpoints : length t.checkpoints ≡ length u.checkpoints
  stops : length t.stops ≡ length u.stops
  exits : length t.exits ≡ length u.exits

rows_told : (t u : Tables Field ℕ) → SameCounts t u → t.file.date ≡ u.file.date → file_rec t ≡ file_rec u → rest_of t ≡ rest_of u → t ≡ u
rows_told t u c date f e =
    let a = rows_cut segment_rec segment-back (λ r. refl) (λ r r'. refl) t.segments u.segments _ _ c.segments e in
    let b = rows_cut lane_rec lane-back (λ r. refl) (λ r r'. refl) t.lanes u.lanes _ _ c.lanes a.1 in
    let d = rows_cut zone_rec zone-back (λ r. refl) (λ r r'. refl) t.zones u.zones _ _ c.zones b.1 in
    let g = rows_cut spot_rec spot_back (λ r. refl) (λ r r'. refl) t.spots u.spots _ _ c.spots d.1 in
    let h = rows_cut point_rec point-back (λ r. refl) (λ r r'. refl) t.points u.points _ _ c.points g.1 in
    let k = rows_cut checkpoint_rec checkpoint-back (λ r. refl) (λ r r'. refl) t.checkpoints u.checkpoints _ _ c.checkpoints h.1 in
    let l = rows_cut stop_rec (at 0) (λ r. refl) (λ r r'. refl) t.stops u.stops _ _ c.stops k.1 in
    let m = rows_cut exit_rec exit-back (λ r. refl) (λ r r'. refl) t.exits u.exits [] [] c.exits (append-nil (laid_out exit_rec t.exits) ∙ l.1 ∙ sym (append-nil (laid_out exit_rec u.exits))) in
    let own = ap (file-name t.file.name) f in
    let version = ap (named-at 9) f in
    λ i. record { file = record { name = own i; version = version i; date = date i }; segments = a.0 i; lanes = b.0 i; zones = d.0 i; spots = g.0 i; points = h.0 i; checkpoints = k.0 i; stops = l.0 i; exits = m.0 i }
  where
    named-of : Slot → Option Field
    named-of (figure k n) = none
    named-of (angle z) = none
    named-of (title v) = v

    named-at : ℕ → List Slot → Option Field
    named-at k [] = none
    named-at zero (i ∷ l) = named-of i
    named-at (suc k) (i ∷ l) = named-at k l

    or : Field → Option Field → Field
    or d none = d
    or d (some v) = v

    file-name : Field → List Slot → Field
    file-name d l = or d (named-at 8 l)

-- ## Numbers fit
framed-fit : (r : List Slot) → Short r → Each Fit r → Each Fit (with_length r)
framed-fit r s f = ((let k = laid-long r in let h : length (laid r) < 256 ^ 2 = omega arith in h), f)

fits-rows : {R : Type 0} (rec : R → List Slot) (rows : List R) → Each (λ r. Each Fit (with_length (rec r))) rows → Each Fit (laid_out rec rows)
fits-rows rec [] h = tt
fits-rows rec (r ∷ rows) h = each_append Fit (with_length (rec r)) (laid_out rec rows) h.0 (fits-rows rec rows h.1)

width_few : (w : ℕ) → WidthBound w → w < 256 ^ 2
width_few w (inl e) = omega arith
width_few w (inr h) = omega arith

-- every record has two bytes at least
whole_long : (rs : List (List Slot)) → length rs ≤ length (gather whole rs)
whole_long [] = omega arith
whole_long (r ∷ rs) =
    let a = length-append (whole r) (gather whole rs) in
    let b = laid-long (with_length r) in
    let c = whole_long rs in
    omega arith

record Counted (t : Tables Field ℕ) : Type 0 where
  segments : length t.segments ≤ 16777215
  lanes : length t.lanes ≤ 16777215
  zones : length t.zones ≤ 16777215
  spots : length t.spots ≤ 16777215
  points : length t.points ≤ 16777215
  checkpoints : length t.checkpoints ≤ 16777215
  stops : length t.stops ≤ 16777215
  exits : length t.exits ≤ 16777215

counted : (t : Tables Field ℕ) → length (records-of t) ≤ 16777215 → Counted t
unfolding records-of
counted t h =
    let a = map segment_rec t.segments in let b = map lane_rec t.lanes in let c = map zone_rec t.zones in let d = map spot_rec t.spots in
    let e = map point_rec t.points in let g = map checkpoint_rec t.checkpoints in let l = map stop_rec t.stops in let k = map exit_rec t.exits in
    let a1 = length-append a (b ++ (c ++ (d ++ (e ++ (g ++ (l ++ k)))))) in let b1 = length-append b (c ++ (d ++ (e ++ (g ++ (l ++ k))))) in let c1 = length-append c (d ++ (e ++ (g ++ (l ++ k)))) in
    let d1 = length-append d (e ++ (g ++ (l ++ k))) in let e1 = length-append e (g ++ (l ++ k)) in let g1 = length-append g (l ++ k) in let l1 = length-append l k in
    let a2 = length-map t.segments segment_rec in let b2 = length-map t.lanes lane_rec in let c2 = length-map t.zones zone_rec in let d2 = length-map t.spots spot_rec in
    let e2 = length-map t.points point_rec in let g2 = length-map t.checkpoints checkpoint_rec in let l2 = length-map t.stops stop_rec in let k2 = length-map t.exits exit_rec in
    record { segments = omega arith; lanes = omega arith; zones = omega arith; spots = omega arith; points = omega arith; checkpoints = omega arith; stops = omega arith; exits = omega arith }

module _ (n : Network Field) (good : GoodNetwork n) (sound : Sound n) (few : FewNames n) (cap : Counted (tables n)) where
  segment-few : Each (λ r. (r.lanes ≤ 32768) × Few r.name) (tables n).segments
  unfolding tables_with
  segment-few = along-each (λ (r : SegmentRow Field). (r.lanes ≤ 32768) × Few r.name) (λ s. length s.lanes) (λ p s. the_segment_row_of p s ∷ []) 0 n.segments
      (each_map (λ s. GoodSegment s × Few s.name) _ (λ s h p. ((h.0.count.high, h.1), tt)) n.segments (each_both GoodSegment (λ s. Few s.name) n.segments good.segments few.segments))

  lane-few : Each (λ r. r.points ≤ 32768) (tables n).lanes
  unfolding tables_with
  lane-few = along-each (λ (r : LaneRow). r.points ≤ 32768) lane_size (λ p a. lane_row p a ∷ []) 0 (all_lanes n) (each_map GoodLane _ (λ a h p. (h.count.high, tt)) (all_lanes n) (good-lanes n good))

  zones-few : (p q : ℕ) (zs : List (Zone Field)) → Each (λ z. GoodZone z × Few z.name) zs → Each (λ r. (r.points ≤ 32768) × (r.spots ≤ 32768) × Few r.name) (zone_rows_from p q zs)
  zones-few p q [] h = tt
  zones-few p q (z ∷ zs) h = ((h.0.0.border.count.high, h.0.0.count, h.0.1), zones-few (p + zone_size z) (q + length z.spots) zs h.1)

  zone-few : Each (λ r. (r.points ≤ 32768) × (r.spots ≤ 32768) × Few r.name) (tables n).zones
  unfolding tables_with
  zone-few = zones-few (first_zone_point n) 0 n.zones (each_both GoodZone (λ z. Few z.name) n.zones good.zones few.zones)

  all_fit : Each Fit (rest_of (tables n))
  all_fit =
      let t = tables n in
      let b = bounded n good (point_row_of n) in
      let l1 = cap.lanes in let l2 = cap.points in let l3 = cap.spots in
      each_append Fit (laid_out segment_rec t.segments) _ (fits-rows segment_rec t.segments (each_map (λ r. (r.first_lane + r.lanes ≤ length t.lanes) × ((r.lanes ≤ 32768) × Few r.name)) (λ r. Each Fit (with_length (segment_rec r)))
      (λ r h. let x = h.0 in let y = h.1.0 in let z = few-long r.name h.1.1 in framed-fit (segment_rec r) (omega arith) (omega arith, (omega arith, (h.1.1, tt)))) t.segments (each_both (λ r. r.first_lane + r.lanes ≤ length t.lanes) (λ r. (r.lanes ≤ 32768) × Few r.name) t.segments b.segments segment-few)))
      (each_append Fit (laid_out lane_rec t.lanes) _ (fits-rows lane_rec t.lanes (each_map (λ r. LaneBounds (length t.points) r × (r.points ≤ 32768)) (λ r. Each Fit (with_length (lane_rec r)))
      (λ r h. let x = h.0.inside in let y = h.1 in let u = h.0.left in let v = h.0.right in framed-fit (lane_rec r) (omega arith) (omega arith, (omega arith, (width_few r.width h.0.width, (omega arith, (omega arith, tt)))))) t.lanes (each_both (LaneBounds (length t.points)) (λ r. r.points ≤ 32768) t.lanes b.lanes lane-few)))
      (each_append Fit (laid_out zone_rec t.zones) _ (fits-rows zone_rec t.zones (each_map (λ r. ZoneBounds (length t.points) (length t.spots) r × ((r.points ≤ 32768) × (r.spots ≤ 32768) × Few r.name)) (λ r. Each Fit (with_length (zone_rec r)))
      (λ r h. let x = h.0.inside in let w = h.0.spots_inside in let y = h.1.0 in let u = h.1.1 in let z = few-long r.name h.1.2 in framed-fit (zone_rec r) (omega arith) (omega arith, (omega arith, (omega arith, (omega arith, (h.1.2, tt)))))) t.zones (each_both (ZoneBounds (length t.points) (length t.spots)) (λ r. (r.points ≤ 32768) × (r.spots ≤ 32768) × Few r.name) t.zones b.zones zone-few)))
      (each_append Fit (laid_out spot_rec t.spots) _ (fits-rows spot_rec t.spots (each_map (SpotBounds (length t.points)) (λ r. Each Fit (with_length (spot_rec r))) (λ r h. let x = h.inside in framed-fit (spot_rec r) (omega arith) (omega arith, (width_few r.width h.width, tt))) t.spots b.spots))
      (each_append Fit (laid_out point_rec t.points) _ (fits-rows point_rec t.points (each_map OnEarth (λ r. Each Fit (with_length (point_rec r))) (λ r h. let x = h.latitude in framed-fit (point_rec r) (omega arith) (omega arith, (h.longitude, tt))) t.points b.points))
      (each_append Fit (laid_out checkpoint_rec t.checkpoints) _ (fits-rows checkpoint_rec t.checkpoints (each_map (CheckpointBounds (length t.points)) (λ r. Each Fit (with_length (checkpoint_rec r))) (λ r h. let x = h.inside in let y = h.number.high in framed-fit (checkpoint_rec r) (omega arith) (omega arith, (omega arith, tt))) t.checkpoints b.checkpoints))
      (each_append Fit (laid_out stop_rec t.stops) (laid_out exit_rec t.exits) (fits-rows stop_rec t.stops (each_map (λ p. p < length t.points) (λ r. Each Fit (with_length (stop_rec r))) (λ p h. framed-fit (stop_rec p) (omega arith) (omega arith, tt)) t.stops b.stops))
      (fits-rows exit_rec t.exits (each_map (λ r. (r.point < length t.points) × (r.entry < length t.points)) (λ r. Each Fit (with_length (exit_rec r))) (λ r h. let x = h.0 in let y = h.1 in framed-fit (exit_rec r) (omega arith) (omega arith, (omega arith, tt))) t.exits (each_both (λ r. r.point < length t.points) (λ r. r.entry < length t.points) t.exits b.exits (entries-inside n good sound))))))))))

  file-fit : Each Fit (with_length (file_rec (tables n)))
  unfolding tables_with
  file-fit =
      let a = few-long (some n.name) few.name in let b = few-long n.version few.version in let c = few-long n.date few.date in
      let k1 = cap.segments in let k2 = cap.lanes in let k3 = cap.zones in let k4 = cap.spots in let k5 = cap.points in let k6 = cap.checkpoints in let k7 = cap.stops in let k8 = cap.exits in
      framed-fit (file_rec (tables n)) (omega arith) (omega arith, (omega arith, (omega arith, (omega arith, (omega arith, (omega arith, (omega arith, (omega arith, (few.name, (few.version, tt))))))))))

-- ## A form
pub record Told (bytes : Bytes) (n : Network Field) : Type 0 where
  pub good : GoodNetwork n
  pub sound : Sound n
  pub placed : NamesLie 5 (items_of (tables n))
  pub file_fits : Each Fit (with_length (file_rec (tables n)))
  pub rest-fits : Each Fit (rest_of (tables n))
  pub is : bytes ≡ this_version ∷ big_endian 4 (length (laid (items_of (tables n)))) ++ laid (items_of (tables n))

pub told : (bytes : Bytes) (n : Network Field) → length bytes ≤ longest → IsPackedFormOf n bytes → Told bytes n
unfolding packed_form
told bytes n h x =
    let good = network-good n x.network in
    let sound = x.network.sound in
    let few = network-few n x.network in
    let p : all_slots n ≡ items_of (tables n) = all_told n ∙ ap (λ (l : List (List Slot)). gather with_length l) (sym (records-so n sound)) ∙ items-are (tables n) in
    let k1 = ap length x.form in
    let k2 = length-append (big_endian 4 (length (laid (all_slots n)))) (laid (all_slots n)) in
    let k3 = packed-long 4 (length (laid (all_slots n))) in
    let k4 = ap length (laid-all n) in
    let k5 = whole_long (records n) in
    let k6 = ap length (records-so n sound) in
    let few-records : length (records-of (tables n)) ≤ 16777215 = omega arith in
    let cap = counted (tables n) few-records in
    record {
      good = good;
      sound = sound;
      placed = subst (NamesLie 5) p x.names;
      file_fits = file-fit n good sound few cap;
      rest-fits = all_fit n good sound few cap;
      is = x.form ∙ ap (λ (l : List Slot). this_version ∷ big_endian 4 (length (laid l)) ++ laid l) p;
    }

pub laid_append : (x y : List Slot) → laid (x ++ y) ≡ laid x ++ laid y
unfolding laid
laid_append x y = gather_append slot_bytes x y

-- neither has a date
same_dates : (n n' : Network Field) → n.date ≡ none → n'.date ≡ none → (tables n).file.date ≡ (tables n').file.date
unfolding tables_with
same_dates n n' d d' = d ∙ sym d'

-- THE THEOREM
pub one-network : OneNetwork
one-network bytes n n' h x x' =
    let a = told bytes n h x in
    let b = told bytes n' h x' in
    let t = tables n in
    let u = tables n' in
    let e = (cut_at (big_endian 4 (length (laid (items_of t)))) (big_endian 4 (length (laid (items_of u)))) (laid (items_of t)) (laid (items_of u)) (packed-long 4 (length (laid (items_of t))) ∙ sym (packed-long 4 (length (laid (items_of u))))) (tail-eq_of_cons-eq (sym a.is ∙ b.is))).1 in
    let p = placed-cut 5 (with_length (file_rec t)) (rest_of t) a.placed in
    let q = placed-cut 5 (with_length (file_rec u)) (rest_of u) b.placed in
    let c = items-cut 5 (with_length (file_rec t)) (with_length (file_rec u)) (laid (rest_of t)) (laid (rest_of u)) refl a.file_fits b.file_fits p.0 q.0 (sym (laid_append (with_length (file_rec t)) (rest_of t)) ∙ e ∙ laid_append (with_length (file_rec u)) (rest_of u)) in
    let f = c.0 in
    let counts : SameCounts t u = record { segments = ap (at 1) f; lanes = ap (at 2) f; zones = ap (at 3) f; spots = ap (at 4) f; points = ap (at 5) f; checkpoints = ap (at 6) f; stops = ap (at 7) f; exits = ap (at 8) f } in
    let s : map shape (rest_of t) ≡ map shape (rest_of u) = shape-rest t ∙ (λ i. shapes (counts.segments i) (counts.lanes i) (counts.zones i) (counts.spots i) (counts.points i) (counts.checkpoints i) (counts.stops i) (counts.exits i)) ∙ sym (shape-rest u) in
    let place : 5 + length (laid (with_length (file_rec u))) ≡ 5 + length (laid (with_length (file_rec t))) = ap (λ (l : List Slot). 5 + length (laid l)) (sym f) in
    let d = items-cut (5 + length (laid (with_length (file_rec t)))) (rest_of t) (rest_of u) [] [] s a.rest-fits b.rest-fits p.1 (subst (λ (k : ℕ). NamesLie k (rest_of u)) place q.1) (ap (λ (y : Bytes). y ++ []) c.1) in
    tables_determine n n' a.good b.good a.sound b.sound (rows_told t u counts (same_dates n n' x.dateless x'.dateless) (tail-eq_of_cons-eq f) d.0)
