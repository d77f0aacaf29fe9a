-- A packed form by typed rows: the records of a sound network are those of its tables; and equal records have equal rows. Assumes nothing.
use mathlib.Core.Path.{◌≡◌, refl, sym, ap, ap₂, subst, ◌∙◌}
use mathlib.Core.List.{List, [], ◌∷◌, ◌++◌, map, map-append, append_assoc, head-eq_of_cons-eq, tail-eq_of_cons-eq}
use mathlib.Core.Option.{Option, none, some}
use Prim.Native.Nat.{ℕ, zero, suc, ◌+◌}
use native.Mathlib.Omega.{arith}
use lib.ListN.{length}
use lib.IntN.{ℤ, pos}
use Rattle.terms.specs.Words.{Each, perhaps}
use Rattle.terms.proofs.Lists.{each-any}
use Rattle.line.specs.Content.{Field}
use Rattle.law.specs.Network.{Network, Zone, Spot, Checkpoint, Exit, Position}
use Rattle.law.specs.Tables.{feet, side, gather, lane_size, zone_size, the_row_of, first_spot_of, all_lanes, zone_points, lane_points, first_zone_point, first_point_of}
use Rattle.law.specs.Along.{along, over_spots}
use Rattle.law.specs.Faults.{Declared, Sound}
use Rattle.grammar.specs.Tables.{FileRow, SegmentRow, LaneRow, ZoneRow, SpotRow, CheckpointRow, ExitRow, Tables, tables, tables_with, point_row_of, the_segment_row_of, lane_row, the_zone_row_of, zone_rows_from, the_spot_row_of, checkpoint_row, spot_checkpoint, exit_row}
use Rattle.grammar.proofs.Rows.{cut_at, each-front, each-behind, each-gather}
use Rattle.law_tables.proofs.Entries.{point_as-law}
use Rattle.law_tables.proofs.SameTables.{counts_same}
use Rattle.packed_law.specs.Packed.{Slot, figure, angle, title, with_length}
use Rattle.packed_law.proofs.Told.{file_record, segment-records, lane-records, zone-records-from, zone-records, spot-records, point-records, checkpoint_record, checkpoint-records, stop-records, exit_record, exit-records, records}

-- ## The record of a row
abbrev pub segment_rec : SegmentRow Field → List Slot
segment_rec r = figure 4 r.first_lane ∷ figure 2 r.lanes ∷ title r.name ∷ []

abbrev pub lane_rec : LaneRow → List Slot
lane_rec r = figure 4 r.first_point_of ∷ figure 2 r.points ∷ figure 2 r.width ∷ figure 1 r.left ∷ figure 1 r.right ∷ []

abbrev pub zone_rec : ZoneRow Field → List Slot
zone_rec r = figure 4 r.first_point_of ∷ figure 2 r.points ∷ figure 4 r.first_spot_of ∷ figure 2 r.spots ∷ title r.name ∷ []

abbrev pub spot_rec : SpotRow → List Slot
spot_rec r = figure 4 r.first_point_of ∷ figure 2 r.width ∷ []

abbrev pub point_rec : Position → List Slot
point_rec p = angle p.latitude ∷ angle p.longitude ∷ []

abbrev pub checkpoint_rec : CheckpointRow → List Slot
checkpoint_rec r = figure 2 r.number ∷ figure 4 r.point ∷ []

abbrev pub stop_rec : ℕ → List Slot
stop_rec p = figure 4 p ∷ []

abbrev pub exit_rec : ExitRow ℕ → List Slot
exit_rec r = figure 4 r.point ∷ figure 4 r.entry ∷ []

abbrev pub file_rec : Tables Field ℕ → List Slot
file_rec t = figure 4 (length t.segments) ∷ figure 4 (length t.lanes) ∷ figure 4 (length t.zones) ∷ figure 4 (length t.spots) ∷ figure 4 (length t.points) ∷ figure 4 (length t.checkpoints) ∷ figure 4 (length t.stops) ∷ figure 4 (length t.exits)
    ∷ title (some t.file.name) ∷ title t.file.version ∷ []

unfoldable pub records-of : Tables Field ℕ → List (List Slot)
records-of t = file_rec t ∷ map segment_rec t.segments ++ (map lane_rec t.lanes ++ (map zone_rec t.zones ++ (map spot_rec t.spots ++ (map point_rec t.points ++ (map checkpoint_rec t.checkpoints ++ (map stop_rec t.stops ++ map exit_rec t.exits))))))

-- ## They are the network's
along-told : {A B C : Type 0} (g : B → C) (size : A → ℕ) (f : ℕ → A → List B) (f' : ℕ → A → List C) (P : A → Type 0) → ((p : ℕ) (a : A) → P a → map g (f p a) ≡ f' p a) → (p : ℕ) (l : List A) → Each P l → map g (along size f p l) ≡ along size f' p l
along-told g size f f' P e p [] h = refl
along-told g size f f' P e p (a ∷ l) h = map-append g (f p a) (along size f (p + size a) l) ∙ ap₂ ◌++◌ (e p a h.0) (along-told g size f f' P e (p + size a) l h.1)

map-told : {A B C : Type 0} (g : B → C) (f : A → B) (h : A → C) → ((a : A) → g (f a) ≡ h a) → (l : List A) → map g (map f l) ≡ map h l
map-told g f h e [] = refl
map-told g f h e (a ∷ l) = ap₂ (λ (x : _) (y : List _). x ∷ y) (e a) (map-told g f h e l)

module _ (n : Network Field) (sound : Sound n) where
  segments-so : map segment_rec (tables n).segments ≡ segment-records n
  unfolding tables_with
  segments-so = along-told segment_rec (λ s. length s.lanes) (λ p s. the_segment_row_of p s ∷ []) _ (λ s. Unit {0}) (λ p s u. refl) 0 n.segments (each-any n.segments)

  lanes_so : map lane_rec (tables n).lanes ≡ lane-records n
  unfolding tables_with
  lanes_so = along-told lane_rec lane_size (λ p a. lane_row p a ∷ []) _ (λ a. Unit {0}) (λ p a u. refl) 0 (all_lanes n) (each-any (all_lanes n))

  zones-from : (p q : ℕ) (zs : List (Zone Field)) → map zone_rec (zone_rows_from p q zs) ≡ zone-records-from p q zs
  zones-from p q [] = refl
  zones-from p q (z ∷ zs) = ap (λ (l : List (List Slot)). zone_rec (the_zone_row_of p q z) ∷ l) (zones-from (p + zone_size z) (q + length z.spots) zs)

  zones-so : map zone_rec (tables n).zones ≡ zone-records n
  unfolding tables_with
  zones-so = zones-from (first_zone_point n) 0 n.zones

  spots_so : map spot_rec (tables n).spots ≡ spot-records n
  unfolding tables_with
  spots_so = along-told spot_rec zone_size (over_spots (λ p s. the_spot_row_of p s ∷ [])) _ (λ z. Unit {0}) (λ p z u. along-told spot_rec (λ s. 2) (λ p s. the_spot_row_of p s ∷ []) _ (λ s. Unit {0}) (λ q s v. refl) (p + length z.border.points) z.spots (each-any z.spots)) (first_zone_point n) n.zones (each-any n.zones)

  points_so : map point_rec (tables n).points ≡ point-records n
  unfolding tables_with
  points_so = refl

  spot-mark : (q : ℕ) (o : Option Checkpoint) → map checkpoint_rec (spot_checkpoint q o) ≡ map (checkpoint_record q) (perhaps o)
  spot-mark q none = refl
  spot-mark q (some c) = refl

  checkpoints-so : map checkpoint_rec (tables n).checkpoints ≡ checkpoint-records n
  unfolding tables_with
  checkpoints-so =
      map-append checkpoint_rec (along lane_size (λ p a. map (checkpoint_row p) a.checkpoints) 0 (all_lanes n)) (along zone_size (over_spots (λ p s. spot_checkpoint p s.checkpoint)) (first_zone_point n) n.zones)
      ∙ ap₂ ◌++◌ (along-told checkpoint_rec lane_size (λ p a. map (checkpoint_row p) a.checkpoints) _ (λ a. Unit {0}) (λ p a u. map-told checkpoint_rec (checkpoint_row p) (checkpoint_record p) (λ c. refl) a.checkpoints) 0 (all_lanes n) (each-any (all_lanes n)))
      (along-told checkpoint_rec zone_size (over_spots (λ p s. spot_checkpoint p s.checkpoint)) _ (λ z. Unit {0}) (λ p z u. along-told checkpoint_rec (λ s. 2) (λ p s. spot_checkpoint p s.checkpoint) _ (λ s. Unit {0}) (λ q s v. spot-mark q s.checkpoint) (p + length z.border.points) z.spots (each-any z.spots)) (first_zone_point n) n.zones (each-any n.zones))

  stops_so : map stop_rec (tables n).stops ≡ stop-records n
  unfolding tables_with
  stops_so = along-told stop_rec lane_size (λ p a. map (the_row_of p) a.stops) _ (λ a. Unit {0}) (λ p a u. map-told stop_rec (the_row_of p) (λ i. figure 4 (the_row_of p i) ∷ []) (λ i. refl) a.stops) 0 (all_lanes n) (each-any (all_lanes n))

  exits_of : (p : ℕ) (es : List Exit) → Each (λ e. Declared n e.entry) es → map exit_rec (map (exit_row (point_row_of n) p) es) ≡ map (exit_record n p) es
  exits_of p [] d = refl
  exits_of p (e ∷ es) d = ap₂ (λ (q : ℕ) (l : List (List Slot)). (figure 4 (the_row_of p e.waypoint) ∷ figure 4 q ∷ []) ∷ l) (point_as-law n e.entry d.0) (exits_of p es d.1)

  exits-so : map exit_rec (tables n).exits ≡ exit-records n
  unfolding tables_with
  exits-so =
      let lane-side = each-gather (λ e. Declared n e.entry) (λ a. a.exits) (all_lanes n) (each-front (λ e. Declared n e.entry) (gather (λ a. a.exits) (all_lanes n)) (gather (λ z. z.border.exits) n.zones) sound.entries) in
      let zone-side = each-gather (λ e. Declared n e.entry) (λ z. z.border.exits) n.zones (each-behind (λ e. Declared n e.entry) (gather (λ a. a.exits) (all_lanes n)) (gather (λ z. z.border.exits) n.zones) sound.entries) in
      map-append exit_rec (along lane_size (λ p a. map (exit_row (point_row_of n) p) a.exits) 0 (all_lanes n)) (along zone_size (λ p z. map (exit_row (point_row_of n) p) z.border.exits) (first_zone_point n) n.zones)
      ∙ ap₂ ◌++◌ (along-told exit_rec lane_size (λ p a. map (exit_row (point_row_of n) p) a.exits) _ (λ a. Each (λ e. Declared n e.entry) a.exits) (λ p a d. exits_of p a.exits d) 0 (all_lanes n) lane-side)
      (along-told exit_rec zone_size (λ p z. map (exit_row (point_row_of n) p) z.border.exits) _ (λ z. Each (λ e. Declared n e.entry) z.border.exits) (λ p z d. exits_of p z.border.exits d) (first_zone_point n) n.zones zone-side)

  file-so : file_rec (tables n) ≡ file_record n
  unfolding tables_with
  file-so = let c = counts_same n in λ i. figure 4 (c i).segments ∷ figure 4 (c i).lanes ∷ figure 4 (c i).zones ∷ figure 4 (c i).spots ∷ figure 4 (c i).points ∷ figure 4 (c i).checkpoints ∷ figure 4 (c i).stops ∷ figure 4 (c i).exits ∷ title (some n.name) ∷ title n.version ∷ []

  -- THE LAW
  pub records-so : records-of (tables n) ≡ records n
  unfolding records-of records
  records-so = λ i. file-so i ∷ segments-so i ++ (lanes_so i ++ (zones-so i ++ (spots_so i ++ (points_so i ++ (checkpoints-so i ++ (stops_so i ++ exits-so i))))))

-- ## Rows from records
abbrev value : Slot → ℕ
value (figure k n) = n
value (angle z) = 0
value (title v) = 0

abbrev degrees : Slot → ℤ
degrees (figure k n) = pos 0
degrees (angle z) = z
degrees (title v) = pos 0

abbrev named : Slot → Option Field
named (figure k n) = none
named (angle z) = none
named (title v) = v

abbrev item_at_of : ℕ → List Slot → Slot
item_at_of k [] = figure 0 0
item_at_of zero (i ∷ l) = i
item_at_of (suc k) (i ∷ l) = item_at_of k l

abbrev pub at : ℕ → List Slot → ℕ
at k l = value (item_at_of k l)

abbrev pub segment-back : List Slot → SegmentRow Field
segment-back l = record { first_lane = at 0 l; lanes = at 1 l; name = named (item_at_of 2 l) }

abbrev pub lane-back : List Slot → LaneRow
lane-back l = record { first_point_of = at 0 l; points = at 1 l; width = at 2 l; left = at 3 l; right = at 4 l }

abbrev pub zone-back : List Slot → ZoneRow Field
zone-back l = record { first_point_of = at 0 l; points = at 1 l; first_spot_of = at 2 l; spots = at 3 l; name = named (item_at_of 4 l) }

abbrev pub spot_back : List Slot → SpotRow
spot_back l = record { first_point_of = at 0 l; width = at 1 l }

abbrev pub point-back : List Slot → Position
point-back l = record { latitude = degrees (item_at_of 0 l); longitude = degrees (item_at_of 1 l) }

abbrev pub checkpoint-back : List Slot → CheckpointRow
checkpoint-back l = record { number = at 0 l; point = at 1 l }

abbrev pub exit-back : List Slot → ExitRow ℕ
exit-back l = record { point = at 0 l; entry = at 1 l }

-- records one behind the other, and what follows
pub rows_cut : {R : Type 0} (rec : R → List Slot) (back : List Slot → R) → ((r : R) → back (rec r) ≡ r) → ((r r' : R) → length (rec r) ≡ length (rec r')) → (rows rows' : List R) (x x' : List Slot) → length rows ≡ length rows'
    → gather with_length (map rec rows) ++ x ≡ gather with_length (map rec rows') ++ x' → (rows ≡ rows') × (x ≡ x')
rows_cut rec back b s [] [] x x' l e = (refl, e)
rows_cut rec back b s [] (r ∷ rows) x x' l e = absurd (omega arith)
rows_cut rec back b s (r ∷ rows) [] x x' l e = absurd (omega arith)
rows_cut rec back b s (r ∷ rows) (r' ∷ rows') x x' l e =
    let c = cut_at (with_length (rec r)) (with_length (rec r')) (gather with_length (map rec rows) ++ x) (gather with_length (map rec rows') ++ x') (ap suc (s r r')) (sym (append_assoc (with_length (rec r)) (gather with_length (map rec rows)) x) ∙ e ∙ append_assoc (with_length (rec r')) (gather with_length (map rec rows')) x') in
    let d = rows_cut rec back b s rows rows' x x' (omega arith) c.1 in
    (ap₂ (λ (y : _) (z : List _). y ∷ z) (sym (b r) ∙ ap back (tail-eq_of_cons-eq c.0) ∙ b r') d.0, d.1)
