-- THE THEOREM: what the program puts of the filled tables of an accepted network is that network's packed form. Assumes nothing.
use mathlib.Core.Path.{◌≡◌, refl, sym, ap, ap₂, ◌∙◌}
use mathlib.Core.Bool.{Bool, true, false}
use mathlib.Core.List.{List, [], ◌∷◌, ◌++◌, map, append_assoc, append-nil}
use mathlib.Core.Option.{Option, none, some}
use Prim.Native.Nat.{ℕ, suc, ◌+◌, ◌%◌, ◌≤◌, min}
use native.Mathlib.Omega.{arith}
use lib.ListN.{length, length-map, take, drop}
use lib.Dec.{leb}
use Rattle.terms.specs.Ascii.{Bytes}
use Rattle.terms.specs.Words.{pick, Each, perhaps}
use Rattle.terms.proofs.Lists.{each_map, each-any}
use Rattle.line.specs.Content.{Field}
use Rattle.rows.specs.Read.{the_stretch_of, segment_at_of, lane_at_of, zone_at_of, spot_at_of, point_at_of, checkpoint_at_of, stop_at, exit_at}
use Rattle.rows.specs.Name.{name_of}
use Rattle.filled_rows.specs.From.{From}
use Rattle.law.specs.Network.{Network, Lane, Segment, Spot, Zone, Checkpoint, Exit, Position, present}
use Rattle.law.specs.Tables.{Lent, filled, gather, lane_size, zone_size, zone_points, lane_points, first_zone_point, all_lanes, the_row_of, first_point_of}
use Rattle.law.specs.Along.{along, over_spots}
use Rattle.law.specs.Tables as Law
use Rattle.law.specs.Faults.{Declared, Sound}
use Rattle.grammar.specs.Tables.{tables, tables_with, point_row_of, the_segment_row_of, lane_row, the_zone_row_of, zone_rows_from, the_spot_row_of, checkpoint_row, spot_checkpoint, exit_row}
use Rattle.grammar.specs.HouseOrder.{GoodNetwork}
use Rattle.grammar.proofs.Rows.{each_both, each-front, each-behind, each-gather}
use Rattle.grammar.proofs.Theorems.{network_ranges}
use Rattle.table_words.specs.Shown.{shown_segment, shown_lane, shown_zone, shown_spot, shown_point, shown_checkpoint, shown_stop, shown_exit}
use Rattle.law_spelling.proofs.Texts.{rndf-back}
use Rattle.law_tables.proofs.Entries.{point_as-law}
use Rattle.law_tables.proofs.SameTables.{counts_same}
use Rattle.law_tables.proofs.NamesStand.{Given, NamesStand, asked, names_stand}
use Rattle.house_text.specs.Names.{IsName, NetworkNames}
use Rattle.house_text.proofs.Named.{rndf-names}
use Rattle.replies.specs.Replies.{rows_used_of, network_file}
use Rattle.replies.specs.Short.{AcceptsRndf}
use Rattle.output.specs.Packed.{big_endian}
use Rattle.packed_law.specs.Packed.{Slot, figure, angle, title, slot_bytes, laid, with_length, all_slots}
use Rattle.packed_law.proofs.Told.{file_record, segment-records, lane-records, zone-records-from, zone-records, spot-records, point-records, checkpoint_record, checkpoint-records, stop-records, exit_record, exit-records, records, all_told}
use Rattle.records.specs.Put.{each, file_put, segment_put, segment_from, segments_put, lane_put, lane_from, lanes_put, zone_put, zone_from, zones_put, spot_put, spot_from, spots_put, point_put, point_from, points_put, checkpoint_put, checkpoint_from, checkpoints_put, stop_put, stop_from, stops_put, exit_put, exit_from, exits_put, all_put, form_put}
use Rattle.record_tables.proofs.Pieces.{start_of, length-of, bytes_in, Held, segment-is, lane-is, zone-is, spot_is, point-is, checkpoint-is, stop_is, exit-is, file_is}
use Rattle.record_tables.proofs.Reading.{ReadAs, filled-read}

-- ## Lists
-- a record with its length
abbrev whole : List Slot → Bytes
whole r = laid (with_length r)

gather_append : {A B : Type 0} (g : A → List B) (x y : List A) → gather g (x ++ y) ≡ gather g x ++ gather g y
gather_append g [] y = refl
gather_append g (a ∷ x) y = ap (λ (l : List _). g a ++ l) (gather_append g x y) ∙ sym (append_assoc (g a) (gather g x) (gather g y))

gather_map : {A B C : Type 0} (g : B → List C) (h : A → B) (l : List A) → gather g (map h l) ≡ gather (λ a. g (h a)) l
gather_map g h [] = refl
gather_map g h (a ∷ l) = ap (λ (x : List _). g (h a) ++ x) (gather_map g h l)

laid-records : (rs : List (List Slot)) → laid (gather with_length rs) ≡ gather whole rs
unfolding laid
laid-records [] = refl
laid-records (r ∷ rs) = gather_append slot_bytes (with_length r) (gather with_length rs) ∙ ap (λ (x : Bytes). gather slot_bytes (with_length r) ++ x) (laid-records rs)

-- things with their rows, told in two ways
along-gather : {A B C : Type 0} (g : B → Bytes) (h : C → Bytes) (size : A → ℕ) (f : ℕ → A → List B) (k : ℕ → A → List C) (P : A → Type 0) → ((p : ℕ) (a : A) → P a → gather g (f p a) ≡ gather h (k p a)) → (p : ℕ) (l : List A) → Each P l → gather g (along size f p l) ≡ gather h (along size k p l)
along-gather g h size f k P e p [] u = refl
along-gather g h size f k P e p (a ∷ l) u =
    gather_append g (f p a) (along size f (p + size a) l) ∙ ap₂ ◌++◌ (e p a u.0) (along-gather g h size f k P e (p + size a) l u.1) ∙ sym (gather_append h (k p a) (along size k (p + size a) l))

one : {B C : Type 0} (g : B → Bytes) (h : C → Bytes) (b : B) (c : C) → g b ≡ h c → gather g (b ∷ []) ≡ gather h (c ∷ [])
one g h b c e = ap (λ (x : Bytes). x ++ []) e

-- what rows put that are read one behind the other
each_from : {R : Type 0} (read : ℕ → R) (f : ℕ → Bytes) (g : R → Bytes) → ((k : ℕ) → f k ≡ g (read k)) → (i : ℕ) (rs : List R) → From read i rs → each f i (length rs) ≡ gather g rs
unfolding each
each_from read f g e i [] h = refl
each_from read f g e i (r ∷ rs) h = ap₂ ◌++◌ (e i ∙ ap g h.0) (each_from read f g e (suc i) rs h.1)

table_is : {R G : Type 0} (read : ℕ → R) (f : ℕ → Bytes) (put : R → Bytes) → ((k : ℕ) → f k ≡ put (read k)) → (shown : G → R) (gs : List G) (count : ℕ) → count ≡ length gs → From read 0 (map shown gs) → (rs : List (List Slot)) → gather (λ g. put (shown g)) gs ≡ gather whole rs → each f 0 count ≡ gather whole rs
table_is read f put e shown gs count c h rs q =
    ap (λ (k : ℕ). each f 0 k) (c ∙ sym (length-map gs shown)) ∙ each_from read f put e 0 (map shown gs) h ∙ gather_map put shown gs ∙ q

-- ## Names
no_name : (text : Bytes) → name_of text (the_stretch_of 0 0) ≡ []
unfolding name_of
no_name text = go (leb (0 + 0) (length text))
  where
    go : (b : Bool) → pick b (take 0 (drop 0 text)) [] ≡ []
    go true = refl
    go false = refl

held : (text : Bytes) (v : Option Field) → Given text v → Each IsName (perhaps v) → Held text v
held text none g i = record { asked = no_name text; few = omega arith }
held text (some v) g i = record { asked = asked text v g.0; few = i.0.long.high }

-- ## Each table, of tables l that read as those of the network n
module _ (text : Bytes) (n : Network Field) (l : Lent) (read : ReadAs n l) (sound : Sound n) (segment-names : Each (λ s. Held text s.name) n.segments) (zone-names : Each (λ z. Held text z.name) n.zones) where
  segments-are : segments_put text l.segments (rows_used_of n).segments ≡ gather whole (segment-records n)
  unfolding segments_put segment_from tables_with
  segments-are = table_is (segment_at_of l.segments) (segment_from text l.segments) (segment_put text) (λ k. refl) (shown_segment start_of length-of) (tables n).segments (rows_used_of n).segments (sym (ap (λ c. c.segments) (counts_same n))) read.segments (segment-records n)
      (along-gather (λ r. segment_put text (shown_segment start_of length-of r)) whole (λ s. length s.lanes) (λ p s. the_segment_row_of p s ∷ []) (λ p s. (figure 4 p ∷ figure 2 (length s.lanes) ∷ title s.name ∷ []) ∷ []) (λ s. Held text s.name)
      (λ p s h. one (λ r. segment_put text (shown_segment start_of length-of r)) whole (the_segment_row_of p s) (figure 4 p ∷ figure 2 (length s.lanes) ∷ title s.name ∷ []) (segment-is text p s h)) 0 n.segments segment-names)

  lanes-are : lanes_put l.lanes (rows_used_of n).lanes ≡ gather whole (lane-records n)
  unfolding lanes_put lane_from tables_with
  lanes-are = table_is (lane_at_of l.lanes) (lane_from l.lanes) lane_put (λ k. refl) shown_lane (tables n).lanes (rows_used_of n).lanes (sym (ap (λ c. c.lanes) (counts_same n))) read.lanes (lane-records n)
      (along-gather (λ r. lane_put (shown_lane r)) whole lane_size (λ p a. lane_row p a ∷ []) (λ p a. (figure 4 p ∷ figure 2 (length a.points) ∷ figure 2 (Law.feet a.width) ∷ figure 1 (Law.side a.left) ∷ figure 1 (Law.side a.right) ∷ []) ∷ []) (λ a. Unit {0})
      (λ p a u. one (λ r. lane_put (shown_lane r)) whole (lane_row p a) (figure 4 p ∷ figure 2 (length a.points) ∷ figure 2 (Law.feet a.width) ∷ figure 1 (Law.side a.left) ∷ figure 1 (Law.side a.right) ∷ []) (lane-is p a)) 0 (all_lanes n) (each-any (all_lanes n)))

  zones-from : (p q : ℕ) (zs : List (Zone Field)) → Each (λ z. Held text z.name) zs → gather (λ r. zone_put text (shown_zone start_of length-of r)) (zone_rows_from p q zs) ≡ gather whole (zone-records-from p q zs)
  zones-from p q [] h = refl
  zones-from p q (z ∷ zs) h = ap₂ ◌++◌ (zone-is text p q z h.0) (zones-from (p + zone_size z) (q + length z.spots) zs h.1)

  zones-are : zones_put text l.zones (rows_used_of n).zones ≡ gather whole (zone-records n)
  unfolding zones_put zone_from tables_with
  zones-are = table_is (zone_at_of l.zones) (zone_from text l.zones) (zone_put text) (λ k. refl) (shown_zone start_of length-of) (tables n).zones (rows_used_of n).zones (sym (ap (λ c. c.zones) (counts_same n))) read.zones (zone-records n) (zones-from (first_zone_point n) 0 n.zones zone-names)

  spots-are : spots_put l.spots (rows_used_of n).spots ≡ gather whole (spot-records n)
  unfolding spots_put spot_from tables_with
  spots-are = table_is (spot_at_of l.spots) (spot_from l.spots) spot_put (λ k. refl) shown_spot (tables n).spots (rows_used_of n).spots (sym (ap (λ c. c.spots) (counts_same n))) read.spots (spot-records n)
      (along-gather (λ r. spot_put (shown_spot r)) whole zone_size (over_spots (λ p s. the_spot_row_of p s ∷ [])) (over_spots (λ p s. (figure 4 p ∷ figure 2 (Law.feet s.width) ∷ []) ∷ [])) (λ z. Unit {0})
      (λ p z u. along-gather (λ r. spot_put (shown_spot r)) whole (λ s. 2) (λ p s. the_spot_row_of p s ∷ []) (λ p s. (figure 4 p ∷ figure 2 (Law.feet s.width) ∷ []) ∷ []) (λ s. Unit {0})
      (λ q s v. one (λ r. spot_put (shown_spot r)) whole (the_spot_row_of q s) (figure 4 q ∷ figure 2 (Law.feet s.width) ∷ []) (spot_is q s)) (p + length z.border.points) z.spots (each-any z.spots))
      (first_zone_point n) n.zones (each-any n.zones))

  points-of : (ps : List Position) → gather (λ p. point_put (shown_point p)) ps ≡ gather whole (map (λ p. angle p.latitude ∷ angle p.longitude ∷ []) ps)
  points-of [] = refl
  points-of (p ∷ ps) = ap₂ ◌++◌ (point-is p) (points-of ps)

  points-are : points_put l.points (rows_used_of n).points ≡ gather whole (point-records n)
  unfolding points_put point_from tables_with
  points-are = table_is (point_at_of l.points) (point_from l.points) point_put (λ k. refl) shown_point (tables n).points (rows_used_of n).points (sym (ap (λ c. c.points) (counts_same n))) read.points (point-records n) (points-of (lane_points n ++ gather zone_points n.zones))

  checkpoints-of : (p : ℕ) (cs : List Checkpoint) → gather (λ r. checkpoint_put (shown_checkpoint r)) (map (checkpoint_row p) cs) ≡ gather whole (map (checkpoint_record p) cs)
  checkpoints-of p [] = refl
  checkpoints-of p (c ∷ cs) = ap₂ ◌++◌ (checkpoint-is p c) (checkpoints-of p cs)

  spot-marks : (p : ℕ) (o : Option Checkpoint) → gather (λ r. checkpoint_put (shown_checkpoint r)) (spot_checkpoint p o) ≡ gather whole (map (checkpoint_record p) (perhaps o))
  spot-marks p none = refl
  spot-marks p (some c) = ap (λ (x : Bytes). x ++ []) (checkpoint-is p c)

  checkpoints-are : checkpoints_put l.checkpoints (rows_used_of n).checkpoints ≡ gather whole (checkpoint-records n)
  unfolding checkpoints_put checkpoint_from tables_with
  checkpoints-are =
      table_is (checkpoint_at_of l.checkpoints) (checkpoint_from l.checkpoints) checkpoint_put (λ k. refl) shown_checkpoint (tables n).checkpoints (rows_used_of n).checkpoints (sym (ap (λ c. c.checkpoints) (counts_same n))) read.checkpoints (checkpoint-records n)
      (gather_append (λ r. checkpoint_put (shown_checkpoint r)) (along lane_size (λ p a. map (checkpoint_row p) a.checkpoints) 0 (all_lanes n)) (along zone_size (over_spots (λ p s. spot_checkpoint p s.checkpoint)) (first_zone_point n) n.zones)
      ∙ ap₂ ◌++◌
      (along-gather (λ r. checkpoint_put (shown_checkpoint r)) whole lane_size (λ p a. map (checkpoint_row p) a.checkpoints) (λ p a. map (checkpoint_record p) a.checkpoints) (λ a. Unit {0}) (λ p a u. checkpoints-of p a.checkpoints) 0 (all_lanes n) (each-any (all_lanes n)))
      (along-gather (λ r. checkpoint_put (shown_checkpoint r)) whole zone_size (over_spots (λ p s. spot_checkpoint p s.checkpoint)) (over_spots (λ p s. map (checkpoint_record p) (perhaps s.checkpoint))) (λ z. Unit {0})
      (λ p z u. along-gather (λ r. checkpoint_put (shown_checkpoint r)) whole (λ s. 2) (λ p s. spot_checkpoint p s.checkpoint) (λ p s. map (checkpoint_record p) (perhaps s.checkpoint)) (λ s. Unit {0}) (λ q s v. spot-marks q s.checkpoint) (p + length z.border.points) z.spots (each-any z.spots))
      (first_zone_point n) n.zones (each-any n.zones))
      ∙ sym (gather_append whole (along lane_size (λ p a. map (checkpoint_record p) a.checkpoints) 0 (all_lanes n)) (along zone_size (over_spots (λ p s. map (checkpoint_record p) (perhaps s.checkpoint))) (first_zone_point n) n.zones)))

  stops-of : (p : ℕ) (is : List ℕ) → gather (λ r. stop_put (shown_stop r)) (map (the_row_of p) is) ≡ gather whole (map (λ i. figure 4 (the_row_of p i) ∷ []) is)
  stops-of p [] = refl
  stops-of p (i ∷ is) = ap₂ ◌++◌ (stop_is (the_row_of p i)) (stops-of p is)

  stops-are : stops_put l.stops (rows_used_of n).stops ≡ gather whole (stop-records n)
  unfolding stops_put stop_from tables_with
  stops-are = table_is (stop_at l.stops) (stop_from l.stops) stop_put (λ k. refl) shown_stop (tables n).stops (rows_used_of n).stops (sym (ap (λ c. c.stops) (counts_same n))) read.stops (stop-records n)
      (along-gather (λ r. stop_put (shown_stop r)) whole lane_size (λ p a. map (the_row_of p) a.stops) (λ p a. map (λ i. figure 4 (the_row_of p i) ∷ []) a.stops) (λ a. Unit {0}) (λ p a u. stops-of p a.stops) 0 (all_lanes n) (each-any (all_lanes n)))

  exits_of : (p : ℕ) (es : List Exit) → Each (λ e. Declared n e.entry) es → gather (λ r. exit_put (shown_exit r)) (map (exit_row (point_row_of n) p) es) ≡ gather whole (map (exit_record n p) es)
  exits_of p [] d = refl
  exits_of p (e ∷ es) d =
      ap₂ ◌++◌ (ap (λ (q : ℕ). exit_put (record { point = the_row_of p e.waypoint; entry = q })) (point_as-law n e.entry d.0) ∙ exit-is (the_row_of p e.waypoint) (the_row_of (first_point_of n e.entry.x e.entry.y) e.entry.z)) (exits_of p es d.1)

  exits-are : exits_put l.exits (rows_used_of n).exits ≡ gather whole (exit-records n)
  unfolding exits_put exit_from tables_with
  exits-are =
      let lane-side = each-gather (λ e. Declared n e.entry) (λ a. a.exits) (all_lanes n) (each-front (λ e. Declared n e.entry) (gather (λ a. a.exits) (all_lanes n)) (gather (λ z. z.border.exits) n.zones) sound.entries) in
      let zone-side = each-gather (λ e. Declared n e.entry) (λ z. z.border.exits) n.zones (each-behind (λ e. Declared n e.entry) (gather (λ a. a.exits) (all_lanes n)) (gather (λ z. z.border.exits) n.zones) sound.entries) in
      table_is (exit_at l.exits) (exit_from l.exits) exit_put (λ k. refl) shown_exit (tables n).exits (rows_used_of n).exits (sym (ap (λ c. c.exits) (counts_same n))) read.exits (exit-records n)
      (gather_append (λ r. exit_put (shown_exit r)) (along lane_size (λ p a. map (exit_row (point_row_of n) p) a.exits) 0 (all_lanes n)) (along zone_size (λ p z. map (exit_row (point_row_of n) p) z.border.exits) (first_zone_point n) n.zones)
      ∙ ap₂ ◌++◌
      (along-gather (λ r. exit_put (shown_exit r)) whole lane_size (λ p a. map (exit_row (point_row_of n) p) a.exits) (λ p a. map (exit_record n p) a.exits) (λ a. Each (λ e. Declared n e.entry) a.exits) (λ p a d. exits_of p a.exits d) 0 (all_lanes n) lane-side)
      (along-gather (λ r. exit_put (shown_exit r)) whole zone_size (λ p z. map (exit_row (point_row_of n) p) z.border.exits) (λ p z. map (exit_record n p) z.border.exits) (λ z. Each (λ e. Declared n e.entry) z.border.exits) (λ p z d. exits_of p z.border.exits d) (first_zone_point n) n.zones zone-side)
      ∙ sym (gather_append whole (along lane_size (λ p a. map (exit_record n p) a.exits) 0 (all_lanes n)) (along zone_size (λ p z. map (exit_record n p) z.border.exits) (first_zone_point n) n.zones)))

  -- ## All of them
  spread : (f : List Slot) (a b c d e g h k : List (List Slot)) → gather whole (f ∷ a ++ (b ++ (c ++ (d ++ (e ++ (g ++ (h ++ k))))))) ≡ whole f ++ gather whole a ++ gather whole b ++ gather whole c ++ gather whole d ++ gather whole e ++ gather whole g ++ gather whole h ++ gather whole k
  spread f a b c d e g h k = rw (
    gather_append whole a (b ++ (c ++ (d ++ (e ++ (g ++ (h ++ k)))))),
    gather_append whole b (c ++ (d ++ (e ++ (g ++ (h ++ k))))),
    gather_append whole c (d ++ (e ++ (g ++ (h ++ k)))),
    gather_append whole d (e ++ (g ++ (h ++ k))),
    gather_append whole e (g ++ (h ++ k)),
    gather_append whole g (h ++ k),
    gather_append whole h k,
  ) (simp append_assoc)

  module _ (own : Held text (some n.name)) (version : Held text n.version) where
    all_are : all_put text l.segments l.lanes l.zones l.spots l.points l.checkpoints l.stops l.exits (rows_used_of n) (network_file n) ≡ laid (all_slots n)
    unfolding all_put records
    all_are =
        (λ i. file_is text n own version i ++ segments-are i ++ lanes-are i ++ zones-are i ++ spots-are i ++ points-are i ++ checkpoints-are i ++ stops-are i ++ exits-are i)
        ∙ sym (ap laid (all_told n) ∙ laid-records (file_record n ∷ segment-records n ++ (lane-records n ++ (zone-records n ++ (spot-records n ++ (point-records n ++ (checkpoint-records n ++ (stop-records n ++ exit-records n)))))))
        ∙ spread (file_record n) (segment-records n) (lane-records n) (zone-records n) (spot-records n) (point-records n) (checkpoint-records n) (stop-records n) (exit-records n))

-- THE THEOREM
pub form-packed : (text : Bytes) (t : Lent) (n : Network Field) → AcceptsRndf present text t n
    → all_put text (filled n t).segments (filled n t).lanes (filled n t).zones (filled n t).spots (filled n t).points (filled n t).checkpoints (filled n t).stops (filled n t).exits (rows_used_of n) (network_file n) ≡ laid (all_slots n)
form-packed text t n h =
    let spelled = rndf-back n text h.spelled in
    let good = network_ranges n spelled.said spelled.net in
    let stand = names_stand text n h.spelled in
    let names = rndf-names n text spelled in
    let segment-names = each_map (λ s. Given text s.name × Each IsName (perhaps s.name)) (λ s. Held text s.name) (λ s g. held text s.name g.0 g.1) n.segments (each_both (λ s. Given text s.name) (λ s. Each IsName (perhaps s.name)) n.segments stand.segments names.segments) in
    let zone-names = each_map (λ z. Given text z.name × Each IsName (perhaps z.name)) (λ z. Held text z.name) (λ z g. held text z.name g.0 g.1) n.zones (each_both (λ z. Given text z.name) (λ z. Each IsName (perhaps z.name)) n.zones stand.zones names.zones) in
    all_are text n (filled n t) (filled-read n t good h.right h.room) h.right segment-names zone-names
    (held text (some n.name) (stand.name, tt) (names.name, tt)) (held text n.version stand.version names.version)
