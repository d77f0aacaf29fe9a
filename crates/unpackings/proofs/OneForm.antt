-- THE THEOREM: one network has one packed form, wherever its names stood. Assumes nothing.
use mathlib.Core.Path.{◌≡◌, refl, sym, ap, ap₂, subst, ◌∙◌}
use mathlib.Core.List.{List, [], ◌∷◌, ◌++◌, map, append_assoc}
use mathlib.Core.Option.{Option, none, some}
use Prim.Native.Nat.{ℕ, zero, suc, pred, ◌+◌, ◌-◌}
use lib.ListN.{length, length-map, take}
use Rattle.terms.specs.Ascii.{Bytes}
use Rattle.terms.specs.Words.{perhaps}
use Rattle.line.specs.Content.{Field}
use Rattle.law.specs.Network.{Network, Lane, Segment, Zone, Position, Exit}
use Rattle.law.specs.Tables.{segment_rows, lane_rows_of, zone_rows, spot_rows, point_rows, checkpoint_rows, stop_rows, feet, side, gather, total, lane_size, zone_size, the_row_of, first_spot_of, all_lanes, zone_points, lane_points, first_zone_point, first_point_of}
use Rattle.law.specs.Along.{along, over_spots}
use Rattle.grammar.specs.Names.{perhaps_name, segment_named_of, zone_named_of, network_named}
use Rattle.text.specs.Spelling.{Name, bytes, bytes_of}
use Rattle.fill.specs.Counts.{Counts}
use Rattle.counts.specs.declared.Counts as Declared
use Rattle.law_tables.specs.Used as N
use Rattle.house_text.specs.House.{undated}
use Rattle.house_text.proofs.Undated.{undated-exits}
use Rattle.house_text.proofs.References.{sizes-alike}
use Rattle.replies.specs.Replies.{rows_used_of}
use Rattle.replies.proofs.Counted.{counts_are}
use Rattle.output.specs.Packed.{big_endian}
use Rattle.same.specs.Same.{SameNetwork}
use Rattle.packed_law.specs.Packed.{Slot, figure, angle, title, slot_bytes, laid, with_length, all_slots, this_version, packed_form}
use Rattle.packed_law.proofs.Told.{file_record, segment-records, lane-records, zone-records-from, zone-records, spot-records, point-records, checkpoint_record, checkpoint-records, stop-records, exit-records, records, all_told}
use Rattle.unpackings.specs.Trip.{OneForm}
use Rattle.unpackings.proofs.Framing.{whole, gather_append, laid-all}

-- ## Lists told in another way
along-through : {A A' B : Type 0} (g : A → A') (size : A → ℕ) (size' : A' → ℕ) (f : ℕ → A → List B) (f' : ℕ → A' → List B) → ((a : A) → size a ≡ size' (g a)) → ((p : ℕ) (a : A) → f p a ≡ f' p (g a)) → (p : ℕ) (l : List A) → along size f p l ≡ along size' f' p (map g l)
along-through g size size' f f' s e p [] = refl
along-through g size size' f f' s e p (a ∷ l) = ap₂ ◌++◌ (e p a) (along-through g size size' f f' s e (p + size a) l ∙ ap (λ (k : ℕ). along size' f' (p + k) (map g l)) (s a))

gather-through : {A A' B : Type 0} (g : A → A') (f : A → List B) (f' : A' → List B) → ((a : A) → f a ≡ f' (g a)) → (l : List A) → gather f l ≡ gather f' (map g l)
gather-through g f f' e [] = refl
gather-through g f f' e (a ∷ l) = ap₂ ◌++◌ (e a) (gather-through g f f' e l)

total-through : {A A' : Type 0} (g : A → A') (size : A → ℕ) (size' : A' → ℕ) → ((a : A) → size a ≡ size' (g a)) → (k : ℕ) (l : List A) → total size (take k l) ≡ total size' (take k (map g l))
total-through g size size' s zero l = refl
total-through g size size' s (suc k) [] = refl
total-through g size size' s (suc k) (a ∷ l) = ap₂ ◌+◌ (s a) (total-through g size size' s k l)

gather-whole : {A : Type 0} (size : A → ℕ) (f : ℕ → A → List Slot) (p : ℕ) (l : List A) → gather whole (along size (λ q a. f q a ∷ []) p l) ≡ along size (λ q a. whole (f q a)) p l
gather-whole size f p [] = refl
gather-whole size f p (a ∷ l) = ap (λ (x : Bytes). whole (f p a) ++ x) (gather-whole size f (p + size a) l)

-- ## Names by their bytes
abbrev name_bytes : Option Name → Bytes
name_bytes none = big_endian 2 0
name_bytes (some (bytes b)) = big_endian 2 (length b) ++ b

name-so : (v : Option Field) → slot_bytes (title v) ≡ name_bytes (perhaps_name bytes_of v)
name-so none = refl
name-so (some v) = refl

-- a record with its length, by its bytes
abbrev long : Bytes → Bytes
long b = big_endian 2 (length b) ++ b

segment-bytes : ℕ → Segment Name → Bytes
segment-bytes p s = long (big_endian 4 p ++ (big_endian 2 (length s.lanes) ++ (name_bytes s.name ++ [])))

zone-bytes : (p q : ℕ) → List (Zone Name) → Bytes
zone-bytes p q [] = []
zone-bytes p q (z ∷ l) = long (big_endian 4 p ++ (big_endian 2 (length z.border.points) ++ (big_endian 4 (first_spot_of q (length z.spots)) ++ (big_endian 2 (length z.spots) ++ (name_bytes z.name ++ []))))) ++ zone-bytes (p + zone_size z) (q + length z.spots) l

file-bytes : Declared.Counts → (x y : Bytes) → Bytes
file-bytes c x y = long (big_endian 4 c.segments ++ (big_endian 4 c.lanes ++ (big_endian 4 c.zones ++ (big_endian 4 c.spots ++ (big_endian 4 c.points ++ (big_endian 4 c.checkpoints ++ (big_endian 4 c.stops ++ (big_endian 4 c.exits ++ (x ++ (y ++ []))))))))))

file-so : (n : Network Field) → whole (file_record n) ≡ file-bytes (rows_used_of n) (name_bytes (some (bytes_of n.name))) (name_bytes (perhaps_name bytes_of n.version))
unfolding laid file-bytes
file-so n = λ i. file-bytes (rows_used_of n) (name_bytes (some (bytes_of n.name))) (name-so n.version i)

segments-so : (n : Network Field) → gather whole (segment-records n) ≡ along (λ s. length s.lanes) segment-bytes 0 (map (segment_named_of bytes_of) n.segments)
unfolding laid segment-bytes
segments-so n =
    gather-whole (λ s. length s.lanes) (λ p s. figure 4 p ∷ figure 2 (length s.lanes) ∷ title s.name ∷ []) 0 n.segments
    ∙ along-through (segment_named_of bytes_of) (λ s. length s.lanes) (λ s. length s.lanes) (λ p s. whole (figure 4 p ∷ figure 2 (length s.lanes) ∷ title s.name ∷ [])) segment-bytes (λ s. refl)
    (λ p s. ap (λ (x : Bytes). long (big_endian 4 p ++ (big_endian 2 (length s.lanes) ++ (x ++ [])))) (name-so s.name)) 0 n.segments

zones-from : (p q : ℕ) (zs : List (Zone Field)) → gather whole (zone-records-from p q zs) ≡ zone-bytes p q (map (zone_named_of bytes_of) zs)
unfolding laid zone-bytes
zones-from p q [] = refl
zones-from p q (z ∷ zs) =
    ap₂ (λ (x y : Bytes). long (big_endian 4 p ++ (big_endian 2 (length z.border.points) ++ (big_endian 4 (first_spot_of q (length z.spots)) ++ (big_endian 2 (length z.spots) ++ (x ++ []))))) ++ y) (name-so z.name) (zones-from (p + zone_size z) (q + length z.spots) zs)

-- ## What does not look into names
abbrev lanes_in : {M : Type 0} → Segment M → ℕ
lanes_in s = length s.lanes

-- the first point of a part, of any network
abbrev start_of : {M : Type 0} → Network M → (x y : ℕ) → ℕ
start_of n x zero = first_zone_point n + total zone_size (take (x - suc (length n.segments)) n.zones)
start_of n x (suc y) = total lane_size (take (total lanes_in (take (pred x) n.segments) + y) (all_lanes n))

module _ (n : Network Field) where
  abbrev told : Network Name
  told = network_named bytes_of n

  lanes-told : all_lanes n ≡ all_lanes told
  unfolding network_named
  lanes-told = gather-through (segment_named_of bytes_of) (λ s. s.lanes) (λ s. s.lanes) (λ s. refl) n.segments

  first-told : first_zone_point n ≡ first_zone_point told
  first-told = ap (λ (l : List Lane). length (gather (λ a. a.points) l)) lanes-told

  start-told : (x y : ℕ) → first_point_of n x y ≡ start_of told x y
  unfolding network_named
  start-told x zero =
      ap (λ (k : ℕ). first_zone_point n + total zone_size (take (x - suc k) n.zones)) (sym (length-map n.segments (segment_named_of bytes_of)))
      ∙ ap₂ ◌+◌ first-told (total-through (zone_named_of bytes_of) zone_size zone_size (λ z. refl) (x - suc (length (map (segment_named_of bytes_of) n.segments))) n.zones)
  start-told x (suc y) = ap₂ (λ (k : ℕ) (l : List Lane). total lane_size (take (k + y) l)) (total-through (segment_named_of bytes_of) lanes_in lanes_in (λ s. refl) (pred x) n.segments) lanes-told

  -- what zones give, from the first of their points on
  zones_told : {B : Type 0} (f : ℕ → Zone Field → List B) (f' : ℕ → Zone Name → List B) → ((p : ℕ) (z : Zone Field) → f p z ≡ f' p (zone_named_of bytes_of z)) → along zone_size f (first_zone_point n) n.zones ≡ along zone_size f' (first_zone_point told) told.zones
  unfolding network_named
  zones_told f f' e = ap (λ (p : ℕ). along zone_size f p n.zones) first-told ∙ along-through (zone_named_of bytes_of) zone_size zone_size f f' (λ z. refl) e (first_zone_point told) n.zones

abbrev exit_by : ((x y : ℕ) → ℕ) → (p : ℕ) → Exit → List Slot
exit_by start p e = figure 4 (the_row_of p e.waypoint) ∷ figure 4 (the_row_of (start e.entry.x e.entry.y) e.entry.z) ∷ []

-- ## The records of the tables without names, of any network
abbrev others : {M : Type 0} → Network M → List (List Slot)
others n =
    along zone_size (over_spots (λ first s. (figure 4 first ∷ figure 2 (feet s.width) ∷ []) ∷ [])) (first_zone_point n) n.zones
    ++ (map (λ p. angle p.latitude ∷ angle p.longitude ∷ []) (lane_points n ++ gather zone_points n.zones)
    ++ ((along lane_size (λ first a. map (checkpoint_record first) a.checkpoints) 0 (all_lanes n) ++ along zone_size (over_spots (λ first s. map (checkpoint_record first) (perhaps s.checkpoint))) (first_zone_point n) n.zones)
    ++ (along lane_size (λ first a. map (λ i. figure 4 (the_row_of first i) ∷ []) a.stops) 0 (all_lanes n)
    ++ (along lane_size (λ first a. map (exit_by (start_of n) first) a.exits) 0 (all_lanes n) ++ along zone_size (λ first z. map (exit_by (start_of n) first) z.border.exits) (first_zone_point n) n.zones))))

others-so : (n : Network Field) → spot-records n ++ (point-records n ++ (checkpoint-records n ++ (stop-records n ++ exit-records n))) ≡ others (network_named bytes_of n)
unfolding network_named
others-so n =
    let a = network_named bytes_of n in
    let spots = zones_told n (over_spots (λ first s. (figure 4 first ∷ figure 2 (feet s.width) ∷ []) ∷ [])) (over_spots (λ first s. (figure 4 first ∷ figure 2 (feet s.width) ∷ []) ∷ [])) (λ p z. refl) in
    let points : lane_points n ++ gather zone_points n.zones ≡ lane_points a ++ gather zone_points a.zones = ap₂ ◌++◌ (ap (λ (l : List Lane). gather (λ a. a.points) l) (lanes-told n)) (gather-through (zone_named_of bytes_of) zone_points zone_points (λ z. refl) n.zones) in
    let marks = zones_told n (over_spots (λ first s. map (checkpoint_record first) (perhaps s.checkpoint))) (over_spots (λ first s. map (checkpoint_record first) (perhaps s.checkpoint))) (λ p z. refl) in
    let exits = zones_told n (λ first z. map (exit_by (start_of a) first) z.border.exits) (λ first z. map (exit_by (start_of a) first) z.border.exits) (λ p z. refl) in
    let start : (x y : ℕ) → first_point_of n x y ≡ start_of a x y = start-told n in
    (λ i. spots i ++ (map (λ p. angle p.latitude ∷ angle p.longitude ∷ []) (points i)
    ++ ((along lane_size (λ first a. map (checkpoint_record first) a.checkpoints) 0 (lanes-told n i) ++ marks i)
    ++ (along lane_size (λ first a. map (λ i. figure 4 (the_row_of first i) ∷ []) a.stops) 0 (lanes-told n i)
    ++ (along lane_size (λ first a. map (exit_by (λ x y. start x y i) first) a.exits) 0 (lanes-told n i) ++ along zone_size (λ first z. map (exit_by (λ x y. start x y i) first) z.border.exits) (first_zone_point n) n.zones)))))
    ∙ ap (λ (x : List (List Slot)). along zone_size (over_spots (λ first s. (figure 4 first ∷ figure 2 (feet s.width) ∷ []) ∷ [])) (first_zone_point a) a.zones
    ++ (map (λ p. angle p.latitude ∷ angle p.longitude ∷ []) (lane_points a ++ gather zone_points a.zones)
    ++ ((along lane_size (λ first a. map (checkpoint_record first) a.checkpoints) 0 (all_lanes a) ++ along zone_size (over_spots (λ first s. map (checkpoint_record first) (perhaps s.checkpoint))) (first_zone_point a) a.zones)
    ++ (along lane_size (λ first a. map (λ i. figure 4 (the_row_of first i) ∷ []) a.stops) 0 (all_lanes a)
    ++ (along lane_size (λ first b. map (exit_by (start_of a) first) b.exits) 0 (all_lanes a) ++ x))))) exits

lane-list : List Lane → List (List Slot)
lane-list l = along lane_size (λ first a. (figure 4 first ∷ figure 2 (length a.points) ∷ figure 2 (feet a.width) ∷ figure 1 (side a.left) ∷ figure 1 (side a.right) ∷ []) ∷ []) 0 l

-- ## The whole
-- the bytes of all records, by the network with its names as bytes and by the counts
whole_of : Declared.Counts → Network Name → Bytes
whole_of c a =
    file-bytes c (name_bytes (some a.name)) (name_bytes a.version)
    ++ (along (λ s. length s.lanes) segment-bytes 0 a.segments ++ (gather whole (lane-list (all_lanes a)) ++ (zone-bytes (first_zone_point a) 0 a.zones ++ gather whole (others a))))

whole-so : (n : Network Field) → gather whole (records n) ≡ whole_of (rows_used_of n) (network_named bytes_of n)
unfolding records whole_of lane-list network_named
whole-so n =
    let a = segment-records n in let b = lane-records n in let c = zone-records n in
    let d = spot-records n ++ (point-records n ++ (checkpoint-records n ++ (stop-records n ++ exit-records n))) in
    let zones : gather whole c ≡ zone-bytes (first_zone_point (network_named bytes_of n)) 0 (map (zone_named_of bytes_of) n.zones) = zones-from (first_zone_point n) 0 n.zones ∙ ap (λ (p : ℕ). zone-bytes p 0 (map (zone_named_of bytes_of) n.zones)) (first-told n) in
    ap (λ (x : Bytes). whole (file_record n) ++ x) (gather_append whole a (b ++ (c ++ d)) ∙ ap (λ (x : Bytes). gather whole a ++ x) (gather_append whole b (c ++ d) ∙ ap (λ (x : Bytes). gather whole b ++ x) (gather_append whole c d)))
    ∙ (λ i. file-so n i ++ (segments-so n i ++ (gather whole (lane-list (lanes-told n i)) ++ (zones i ++ gather whole (others-so n i)))))

pub counts-alike : (n n' : Network Field) → SameNetwork n n' → rows_used_of n ≡ rows_used_of n'
counts-alike n n' e = sym (counts_are n) ∙ ap (λ (c : Counts). N.rows_used_of c) (sizes-alike bytes_of n n' e) ∙ counts_are n'

same-form : (n n' : Network Field) → SameNetwork n n' → packed_form n ≡ packed_form n'
unfolding packed_form
same-form n n' e =
    let p : laid (all_slots n) ≡ laid (all_slots n') = laid-all n ∙ whole-so n ∙ ap₂ whole_of (counts-alike n n' e) e ∙ sym (whole-so n') ∙ sym (laid-all n') in
    ap (λ (b : Bytes). this_version ∷ big_endian 4 (length b) ++ b) p

-- ## Without the date
first-undated : (n : Network Field) (x y : ℕ) → first_point_of (undated n) x y ≡ first_point_of n x y
first-undated n x zero = refl
first-undated n x (suc y) = refl

undated-records : (n : Network Field) → records (undated n) ≡ records n
unfolding records
undated-records n = λ i.
    (figure 4 (length (segment_rows n)) ∷ figure 4 (length (lane_rows_of n)) ∷ figure 4 (length (zone_rows n)) ∷ figure 4 (length (spot_rows n)) ∷ figure 4 (length (point_rows n)) ∷ figure 4 (length (checkpoint_rows n)) ∷ figure 4 (length (stop_rows n)) ∷ figure 4 (length (undated-exits n i)) ∷ title (some n.name) ∷ title n.version ∷ [])
    ∷ segment-records n ++ (lane-records n ++ (zone-records n ++ (spot-records n ++ (point-records n ++ (checkpoint-records n ++ (stop-records n
    ++ (along lane_size (λ first a. map (exit_by (λ x y. first-undated n x y i) first) a.exits) 0 (all_lanes n) ++ along zone_size (λ first z. map (exit_by (λ x y. first-undated n x y i) first) z.border.exits) (first_zone_point n) n.zones)))))))

form-undated : (n : Network Field) → packed_form (undated n) ≡ packed_form n
unfolding packed_form
form-undated n = ap (λ (l : List Slot). this_version ∷ big_endian 4 (length (laid l)) ++ laid l) (all_told (undated n) ∙ ap (λ (rs : List (List Slot)). gather with_length rs) (undated-records n) ∙ sym (all_told n))

-- THE THEOREM
pub one_form : OneForm
one_form n n' e = sym (form-undated n) ∙ same-form (undated n) (undated n') e ∙ form-undated n'
