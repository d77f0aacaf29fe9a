-- The records of a network said out, table by table, as the proofs go; that these are the records of its packed form. Assumes nothing.
use mathlib.Core.Path.{◌≡◌, refl, ap, ap₂, ◌∙◌}
use mathlib.Core.List.{List, [], ◌∷◌, ◌++◌, map, map-map, map-append, append-nil, zip_with}
use mathlib.Core.Option.{Option, none, some}
use Prim.Native.Nat.{ℕ, suc, ◌+◌}
use lib.ListN.{length, length-map}
use Rattle.terms.specs.Words.{perhaps}
use Rattle.line.specs.Line.{Field}
use Rattle.law.specs.Network.{Position, Checkpoint, Exit, Segment, Spot, Zone, Network}
use Rattle.law.specs.Tables.{feet, side, gather, lane_size, the_row_of, first_spot_of, all_lanes, zone_points, zone_size, lane_points, first_zone_point, first_point_of, name_words, segment_rows, lane_rows_of, zone_rows, spot_rows, point_rows, checkpoint_rows, stop_rows, exit_row, exit_rows}
use Rattle.law.specs.Along.{along, over_spots, zone_rows_from}
use Rattle.packed_law.specs.Packed.{Slot, figure, angle, title, by_table, file_slots, with_length, all_slots}

-- ## The records
abbrev pub file_record : Network Field → List Slot
file_record n = figure 4 (length (segment_rows n)) ∷ figure 4 (length (lane_rows_of n)) ∷ figure 4 (length (zone_rows n)) ∷ figure 4 (length (spot_rows n)) ∷ figure 4 (length (point_rows n)) ∷ figure 4 (length (checkpoint_rows n)) ∷ figure 4 (length (stop_rows n)) ∷ figure 4 (length (exit_rows n))
    ∷ title (some n.name) ∷ title n.version ∷ []

abbrev pub segment-records : Network Field → List (List Slot)
segment-records n = along (λ s. length s.lanes) (λ first s. (figure 4 first ∷ figure 2 (length s.lanes) ∷ title s.name ∷ []) ∷ []) 0 n.segments

abbrev pub lane-records : Network Field → List (List Slot)
lane-records n = along lane_size (λ first a. (figure 4 first ∷ figure 2 (length a.points) ∷ figure 2 (feet a.width) ∷ figure 1 (side a.left) ∷ figure 1 (side a.right) ∷ []) ∷ []) 0 (all_lanes n)

abbrev pub zone-records-from : (point spot : ℕ) → List (Zone Field) → List (List Slot)
zone-records-from point spot [] = []
zone-records-from point spot (z ∷ l) = (figure 4 point ∷ figure 2 (length z.border.points) ∷ figure 4 (first_spot_of spot (length z.spots)) ∷ figure 2 (length z.spots) ∷ title z.name ∷ []) ∷ zone-records-from (point + zone_size z) (spot + length z.spots) l

abbrev pub zone-records : Network Field → List (List Slot)
zone-records n = zone-records-from (first_zone_point n) 0 n.zones

abbrev pub spot-records : Network Field → List (List Slot)
spot-records n = along zone_size (over_spots (λ first s. (figure 4 first ∷ figure 2 (feet s.width) ∷ []) ∷ [])) (first_zone_point n) n.zones

abbrev pub point-records : Network Field → List (List Slot)
point-records n = map (λ p. angle p.latitude ∷ angle p.longitude ∷ []) (lane_points n ++ gather zone_points n.zones)

abbrev pub checkpoint_record : (first : ℕ) → Checkpoint → List Slot
checkpoint_record first c = figure 2 c.number ∷ figure 4 (the_row_of first c.waypoint) ∷ []

abbrev pub checkpoint-records : Network Field → List (List Slot)
checkpoint-records n = along lane_size (λ first a. map (checkpoint_record first) a.checkpoints) 0 (all_lanes n)
    ++ along zone_size (over_spots (λ first s. map (checkpoint_record first) (perhaps s.checkpoint))) (first_zone_point n) n.zones

abbrev pub stop-records : Network Field → List (List Slot)
stop-records n = along lane_size (λ first a. map (λ i. figure 4 (the_row_of first i) ∷ []) a.stops) 0 (all_lanes n)

abbrev pub exit_record : Network Field → (first : ℕ) → Exit → List Slot
exit_record n first e = figure 4 (the_row_of first e.waypoint) ∷ figure 4 (the_row_of (first_point_of n e.entry.x e.entry.y) e.entry.z) ∷ []

abbrev pub exit-records : Network Field → List (List Slot)
exit-records n = along lane_size (λ first a. map (exit_record n first) a.exits) 0 (all_lanes n)
    ++ along zone_size (λ first z. map (exit_record n first) z.border.exits) (first_zone_point n) n.zones

unfoldable pub records : Network Field → List (List Slot)
records n = file_record n ∷ segment-records n ++ (lane-records n ++ (zone-records n ++ (spot-records n ++ (point-records n ++ (checkpoint-records n ++ (stop-records n ++ exit-records n))))))

-- ## They are those of the form
-- what each thing of a list gives, told in another way
along_map : {A B C : Type 0} (g : B → C) (size : A → ℕ) (f : ℕ → A → List B) (f' : ℕ → A → List C) → ((p : ℕ) (a : A) → map g (f p a) ≡ f' p a) → (first : ℕ) (l : List A) → map g (along size f first l) ≡ along size f' first l
along_map g size f f' e first [] = refl
along_map g size f f' e first (a ∷ l) = map-append g (f first a) (along size f (first + size a) l) ∙ ap₂ ◌++◌ (e first a) (along_map g size f f' e (first + size a) l)

-- the words of a row in so many bytes each
abbrev figures : List ℕ → List ℕ → List Slot
figures = zip_with figure

abbrev named-segment : List ℕ → Segment Field → List Slot
named-segment row s = figures (4 ∷ 2 ∷ []) row ++ (title s.name ∷ [])

abbrev named-zone : List ℕ → Zone Field → List Slot
named-zone row z = figures (4 ∷ 2 ∷ 4 ∷ 2 ∷ []) row ++ (title z.name ∷ [])

abbrev segment-rows-from : ℕ → List (Segment Field) → List (List ℕ)
segment-rows-from p l = along (λ s. length s.lanes) (λ first s. (first ∷ length s.lanes ∷ name_words s.name) ∷ []) p l

segments-from : (p : ℕ) (l : List (Segment Field)) → zip_with named-segment (segment-rows-from p l) l ≡ along (λ s. length s.lanes) (λ first s. (figure 4 first ∷ figure 2 (length s.lanes) ∷ title s.name ∷ []) ∷ []) p l
unfolding zip_with
segments-from p [] = refl
segments-from p (s ∷ l) = ap (λ (x : List (List Slot)). (figure 4 p ∷ figure 2 (length s.lanes) ∷ title s.name ∷ []) ∷ x) (segments-from (p + length s.lanes) l)

segments-long : (p : ℕ) (l : List (Segment Field)) → length (zip_with named-segment (segment-rows-from p l) l) ≡ length (segment-rows-from p l)
unfolding zip_with
segments-long p [] = refl
segments-long p (s ∷ l) = ap suc (segments-long (p + length s.lanes) l)

zones-from : (p q : ℕ) (l : List (Zone Field)) → zip_with named-zone (zone_rows_from p q l) l ≡ zone-records-from p q l
unfolding zip_with
zones-from p q [] = refl
zones-from p q (z ∷ l) = ap (λ (x : List (List Slot)). (figure 4 p ∷ figure 2 (length z.border.points) ∷ figure 4 (first_spot_of q (length z.spots)) ∷ figure 2 (length z.spots) ∷ title z.name ∷ []) ∷ x) (zones-from (p + zone_size z) (q + length z.spots) l)

zones-long : (p q : ℕ) (l : List (Zone Field)) → length (zip_with named-zone (zone_rows_from p q l) l) ≡ length (zone_rows_from p q l)
unfolding zip_with
zones-long p q [] = refl
zones-long p q (z ∷ l) = ap suc (zones-long (p + zone_size z) (q + length z.spots) l)

module _ (n : Network Field) where
  lanes_so : map (figures (4 ∷ 2 ∷ 2 ∷ 1 ∷ 1 ∷ [])) (lane_rows_of n) ≡ lane-records n
  unfolding zip_with
  lanes_so = along_map (figures (4 ∷ 2 ∷ 2 ∷ 1 ∷ 1 ∷ [])) lane_size (λ p l. (p ∷ lane_size l ∷ feet l.width ∷ side l.left ∷ side l.right ∷ []) ∷ []) _ (λ p a. refl) 0 (all_lanes n)

  spots_so : map (figures (4 ∷ 2 ∷ [])) (spot_rows n) ≡ spot-records n
  unfolding zip_with
  spots_so = along_map (figures (4 ∷ 2 ∷ [])) zone_size (over_spots row) (over_spots record_of) (λ p z. along_map (figures (4 ∷ 2 ∷ [])) (λ s. 2) row record_of (λ q s. refl) (p + length z.border.points) z.spots) (first_zone_point n) n.zones
    where
      row : ℕ → Spot → List (List ℕ)
      row first s = (first ∷ feet s.width ∷ []) ∷ []

      record_of : ℕ → Spot → List (List Slot)
      record_of first s = (figure 4 first ∷ figure 2 (feet s.width) ∷ []) ∷ []

  points_so : map (map angle) (point_rows n) ≡ point-records n
  points_so = map-map (map angle) (λ p. p.latitude ∷ p.longitude ∷ []) (lane_points n ++ gather zone_points n.zones)

  checkpoints-so : map (figures (2 ∷ 4 ∷ [])) (checkpoint_rows n) ≡ checkpoint-records n
  unfolding zip_with
  checkpoints-so =
      let row : ℕ → Checkpoint → List ℕ = λ first c. c.number ∷ the_row_of first c.waypoint ∷ [] in
      map-append (figures (2 ∷ 4 ∷ [])) (along lane_size (λ first a. map (row first) a.checkpoints) 0 (all_lanes n)) (along zone_size (over_spots (λ first s. map (row first) (perhaps s.checkpoint))) (first_zone_point n) n.zones)
      ∙ ap₂ ◌++◌ (along_map (figures (2 ∷ 4 ∷ [])) lane_size _ _ (λ p a. map-map (figures (2 ∷ 4 ∷ [])) (row p) a.checkpoints) 0 (all_lanes n))
      (along_map (figures (2 ∷ 4 ∷ [])) zone_size _ _ (λ p z. along_map (figures (2 ∷ 4 ∷ [])) (λ s. 2) _ _ (λ q s. map-map (figures (2 ∷ 4 ∷ [])) (row q) (perhaps s.checkpoint)) (p + length z.border.points) z.spots) (first_zone_point n) n.zones)

  stops_so : map (figures (4 ∷ [])) (stop_rows n) ≡ stop-records n
  unfolding zip_with
  stops_so = along_map (figures (4 ∷ [])) lane_size _ _ (λ p a. map-map (figures (4 ∷ [])) (λ i. the_row_of p i ∷ []) a.stops) 0 (all_lanes n)

  exits-so : map (figures (4 ∷ 4 ∷ [])) (exit_rows n) ≡ exit-records n
  unfolding zip_with
  exits-so =
      map-append (figures (4 ∷ 4 ∷ [])) (along lane_size (λ first a. map (exit_row n first) a.exits) 0 (all_lanes n)) (along zone_size (λ first z. map (exit_row n first) z.border.exits) (first_zone_point n) n.zones)
      ∙ ap₂ ◌++◌ (along_map (figures (4 ∷ 4 ∷ [])) lane_size _ _ (λ p a. map-map (figures (4 ∷ 4 ∷ [])) (exit_row n p) a.exits) 0 (all_lanes n))
      (along_map (figures (4 ∷ 4 ∷ [])) zone_size _ _ (λ p z. map-map (figures (4 ∷ 4 ∷ [])) (exit_row n p) z.border.exits) (first_zone_point n) n.zones)

  file-so : file_slots n ≡ file_record n
  file-so = rw (segments-long 0 n.segments, zones-long (first_zone_point n) 0 n.zones) (simp length-map)

  -- THE BRIDGE
  pub records-told : file_slots n ∷ gather (λ table. table) (by_table n) ≡ records n
  unfolding records
  records-told =
      let a = segments-from 0 n.segments in let c = zones-from (first_zone_point n) 0 n.zones in
      let h = append-nil (map (figures (4 ∷ 4 ∷ [])) (exit_rows n)) ∙ exits-so in
      λ i. file-so i ∷ a i ++ (lanes_so i ++ (c i ++ (spots_so i ++ (points_so i ++ (checkpoints-so i ++ (stops_so i ++ h i))))))

  pub all_told : all_slots n ≡ gather with_length (records n)
  unfolding all_slots
  all_told = ap (λ (l : List (List Slot)). gather with_length l) records-told
