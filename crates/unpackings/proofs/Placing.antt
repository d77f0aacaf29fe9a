-- A network with its names where its packed form has them: it is the same network, its names lie in place, and asking the form for each gives its bytes. Assumes nothing.
use mathlib.Core.Path.{◌≡◌, refl, sym, ap, ap₂, subst, ◌∙◌}
use mathlib.Core.Bool.{Bool, true, false}
use mathlib.Core.List.{List, [], ◌∷◌, ◌++◌, map, append_assoc}
use mathlib.Core.Option.{Option, none, some}
use Prim.Native.Nat.{ℕ, ◌+◌, ◌≤◌}
use native.Mathlib.Omega.{arith}
use borrow.Author.Tests.{le-leb}
use lib.ListN.{length, length-append, take, drop}
use lib.Seq.{take_at, drop_at}
use lib.Dec.{leb}
use Rattle.terms.specs.Ascii.{Bytes}
use Rattle.terms.specs.Words.{pick, Each, perhaps}
use Rattle.terms.proofs.Lists.{each_map, each-any, each_append}
use Rattle.line.specs.Content.{Field}
use Rattle.rows.specs.Name.{name_of}
use Rattle.law.specs.Network.{Network, Segment, Zone}
use Rattle.law.specs.Tables.{gather, total, lane_size, zone_size, all_lanes, zone_points, lane_points, first_zone_point, first_spot_of}
use Rattle.law.specs.Along.{along, over_spots}
use Rattle.grammar.specs.Names.{perhaps_name, segment_named_of, zone_named_of, network_named}
use Rattle.grammar.proofs.Rows.{along-each, each-of_map}
use Rattle.text.specs.Spelling.{Name, bytes_of}
use Rattle.output.specs.Packed.{big_endian}
use Rattle.output.proofs.Packed.{packed-long}
use Rattle.replies.specs.Replies.{stretch}
use Rattle.same.specs.Same.{SameNetwork}
use Rattle.house_text.specs.House.{undated}
use Rattle.packed_law.specs.Packed.{Slot, figure, angle, title, slot_bytes, laid, with_length, all_slots, LiesAt, NamesLie}
use Rattle.packed_law.proofs.Told.{file_record, segment-records, lane-records, zone-records-from, zone-records, spot-records, point-records, checkpoint_record, checkpoint-records, stop-records, exit_record, exit-records, records, all_told}
use Rattle.unpackings.proofs.Framing.{lane-record, spot-record, bytes_in, item-long, item-is-long, laid-long, gather_append}

-- ## In place, by lengths
abbrev PlacedBy : (at : ℕ) → List Slot → Type 0
PlacedBy at [] = Unit {0}
PlacedBy at (i ∷ l) = LiesAt at i × PlacedBy (at + item-long i) l

placed_by : (at : ℕ) (l : List Slot) → PlacedBy at l → NamesLie at l
unfolding NamesLie
placed_by at [] p = tt
placed_by at (i ∷ l) p = (p.0, subst (λ (k : ℕ). NamesLie (at + k) l) (sym (item-is-long i)) (placed_by (at + item-long i) l p.1))

pub placed_append : (at : ℕ) (x y : List Slot) → NamesLie at x → NamesLie (at + length (laid x)) y → NamesLie at (x ++ y)
unfolding laid NamesLie
placed_append at [] y p q = subst (λ (k : ℕ). NamesLie k y) (let e : at + 0 ≡ at = omega arith in e) q
placed_append at (i ∷ x) y p q =
    let e : at + length (slot_bytes i ++ gather slot_bytes x) ≡ at + length (slot_bytes i) + length (gather slot_bytes x) = (let k = length-append (slot_bytes i) (gather slot_bytes x) in omega arith) in
    (p.0, placed_append (at + length (slot_bytes i)) x y p.1 (subst (λ (k : ℕ). NamesLie k y) e q))

-- ## Slots without names
abbrev Nameless : Slot → Type 0
Nameless (figure k n) = Unit {0}
Nameless (angle z) = Unit {0}
Nameless (title v) = ⊥

nameless-at : (at : ℕ) (i : Slot) → Nameless i → LiesAt at i
nameless-at at (figure k n) h = tt
nameless-at at (angle z) h = tt
nameless-at at (title v) h = absurd h

nameless-placed : (at : ℕ) (l : List Slot) → Each Nameless l → NamesLie at l
unfolding NamesLie
nameless-placed at [] h = tt
nameless-placed at (i ∷ l) h = (nameless-at at i h.0, nameless-placed (at + length (slot_bytes i)) l h.1)

abbrev Plain : List Slot → Type 0
Plain r = Each Nameless r

plain-records : (rs : List (List Slot)) → Each Plain rs → Each Nameless (gather with_length rs)
plain-records [] h = tt
plain-records (r ∷ rs) h = each_append Nameless (with_length r) (gather with_length rs) (tt, h.0) (plain-records rs h.1)

maps-plain : {A : Type 0} (f : A → List Slot) → ((a : A) → Plain (f a)) → (l : List A) → Each Plain (map f l)
maps-plain f h l = each-of_map Plain f l (each_map (λ a. Unit {0}) (λ a. Plain (f a)) (λ a u. h a) l (each-any l))

any-along : {A : Type 0} (size : A → ℕ) (f : ℕ → A → List (List Slot)) → ((p : ℕ) (a : A) → Each Plain (f p a)) → (p : ℕ) (l : List A) → Each Plain (along size f p l)
any-along size f h p [] = tt
any-along size f h p (a ∷ l) = each_append Plain (f p a) (along size f (p + size a) l) (h p a) (any-along size f h (p + size a) l)

lanes-plain : (n : Network Field) → Each Plain (lane-records n)
lanes-plain n = any-along lane_size lane-record (λ p a. ((tt, (tt, (tt, (tt, (tt, tt))))), tt)) 0 (all_lanes n)

rest_plain : (n : Network Field) → Each Plain (spot-records n ++ (point-records n ++ (checkpoint-records n ++ (stop-records n ++ exit-records n))))
rest_plain n =
    each_append Plain (spot-records n) (point-records n ++ (checkpoint-records n ++ (stop-records n ++ exit-records n)))
    (any-along zone_size (over_spots spot-record) (λ p z. any-along (λ s. 2) spot-record (λ q s. ((tt, (tt, tt)), tt)) (p + length z.border.points) z.spots) (first_zone_point n) n.zones)
    (each_append Plain (point-records n) (checkpoint-records n ++ (stop-records n ++ exit-records n))
    (maps-plain (λ p. angle p.latitude ∷ angle p.longitude ∷ []) (λ p. (tt, (tt, tt))) (lane_points n ++ gather zone_points n.zones))
    (each_append Plain (checkpoint-records n) (stop-records n ++ exit-records n)
    (each_append Plain (along lane_size (λ first a. map (checkpoint_record first) a.checkpoints) 0 (all_lanes n)) (along zone_size (over_spots (λ first s. map (checkpoint_record first) (perhaps s.checkpoint))) (first_zone_point n) n.zones)
    (any-along lane_size _ (λ p a. maps-plain (checkpoint_record p) (λ c. (tt, (tt, tt))) a.checkpoints) 0 (all_lanes n))
    (any-along zone_size _ (λ p z. any-along (λ s. 2) _ (λ q s. maps-plain (checkpoint_record q) (λ c. (tt, (tt, tt))) (perhaps s.checkpoint)) (p + length z.border.points) z.spots) (first_zone_point n) n.zones))
    (each_append Plain (stop-records n) (exit-records n)
    (any-along lane_size _ (λ p a. maps-plain (λ i. figure 4 _ ∷ []) (λ i. (tt, tt)) a.stops) 0 (all_lanes n))
    (each_append Plain (along lane_size (λ first a. map (exit_record n first) a.exits) 0 (all_lanes n)) (along zone_size (λ first z. map (exit_record n first) z.border.exits) (first_zone_point n) n.zones)
    (any-along lane_size _ (λ p a. maps-plain (exit_record n p) (λ e. (tt, (tt, tt))) a.exits) 0 (all_lanes n))
    (any-along zone_size _ (λ p z. maps-plain (exit_record n p) (λ e. (tt, (tt, tt))) z.border.exits) (first_zone_point n) n.zones)))))

-- ## Names with their places
abbrev place : Option Field → ℕ → Option Field
place none at = none
place (some v) at = some (record { start = at; bytes = v.bytes })

place_same : (v : Option Field) (at : ℕ) → perhaps_name bytes_of (place v at) ≡ perhaps_name bytes_of v
place_same none at = refl
place_same (some v) at = refl

place-long : (v : Option Field) (at : ℕ) → length (bytes_in (place v at)) ≡ length (bytes_in v)
place-long none at = refl
place-long (some v) at = refl

place_in : (v : Option Field) (at k : ℕ) → k ≡ at + 2 → LiesAt at (title (place v k))
place_in none at k e = tt
place_in (some v) at k e = e

unfoldable pub placed-segments : ℕ → List (Segment Field) → List (Segment Field)
placed-segments at [] = []
placed-segments at (s ∷ l) = record { name = place s.name (at + 10); lanes = s.lanes } ∷ placed-segments (at + (10 + length (bytes_in s.name))) l

unfoldable pub placed_zones : ℕ → List (Zone Field) → List (Zone Field)
placed_zones at [] = []
placed_zones at (z ∷ l) = record { name = place z.name (at + 16); border = z.border; spots = z.spots } ∷ placed_zones (at + (16 + length (bytes_in z.name))) l

segments-same : (at : ℕ) (l : List (Segment Field)) → map (segment_named_of bytes_of) (placed-segments at l) ≡ map (segment_named_of bytes_of) l
unfolding placed-segments
segments-same at [] = refl
segments-same at (s ∷ l) = ap₂ (λ (v : Option Name) (x : List (Segment Name)). record { name = v; lanes = s.lanes } ∷ x) (place_same s.name (at + 10)) (segments-same (at + (10 + length (bytes_in s.name))) l)

zones-same : (at : ℕ) (l : List (Zone Field)) → map (zone_named_of bytes_of) (placed_zones at l) ≡ map (zone_named_of bytes_of) l
unfolding placed_zones
zones-same at [] = refl
zones-same at (z ∷ l) = ap₂ (λ (v : Option Name) (x : List (Zone Name)). record { name = v; border = z.border; spots = z.spots } ∷ x) (place_same z.name (at + 16)) (zones-same (at + (16 + length (bytes_in z.name))) l)

segments_in : (at p : ℕ) (l : List (Segment Field)) → NamesLie at (gather with_length (along (λ s. length s.lanes) (λ first s. (figure 4 first ∷ figure 2 (length s.lanes) ∷ title s.name ∷ []) ∷ []) p (placed-segments at l)))
unfolding placed-segments
segments_in at p [] = nameless-placed at [] tt
segments_in at p (s ∷ l) =
    let r = figure 4 p ∷ figure 2 (length s.lanes) ∷ title (place s.name (at + 10)) ∷ [] in
    let k = laid-long (with_length r) in
    let q = place-long s.name (at + 10) in
    let e : at + (10 + length (bytes_in s.name)) ≡ at + length (laid (with_length r)) = omega arith in
    placed_append at (with_length r) _ (placed_by at (with_length r) (tt, (tt, (tt, (place_in s.name (at + 2 + 4 + 2) (at + 10) (omega arith), tt)))))
    (subst (λ (j : ℕ). NamesLie j (gather with_length (along (λ s. length s.lanes) (λ first s. (figure 4 first ∷ figure 2 (length s.lanes) ∷ title s.name ∷ []) ∷ []) (p + length s.lanes) (placed-segments (at + (10 + length (bytes_in s.name))) l)))) e (segments_in (at + (10 + length (bytes_in s.name))) (p + length s.lanes) l))

zones_in : (at p q : ℕ) (l : List (Zone Field)) → NamesLie at (gather with_length (zone-records-from p q (placed_zones at l)))
unfolding placed_zones
zones_in at p q [] = nameless-placed at [] tt
zones_in at p q (z ∷ l) =
    let r = figure 4 p ∷ figure 2 (length z.border.points) ∷ figure 4 (first_spot_of q (length z.spots)) ∷ figure 2 (length z.spots) ∷ title (place z.name (at + 16)) ∷ [] in
    let k = laid-long (with_length r) in
    let w = place-long z.name (at + 16) in
    let e : at + (16 + length (bytes_in z.name)) ≡ at + length (laid (with_length r)) = omega arith in
    placed_append at (with_length r) _ (placed_by at (with_length r) (tt, (tt, (tt, (tt, (tt, (place_in z.name (at + 2 + 4 + 2 + 4 + 2) (at + 16) (omega arith), tt)))))))
    (subst (λ (j : ℕ). NamesLie j (gather with_length (zone-records-from (p + zone_size z) (q + length z.spots) (placed_zones (at + (16 + length (bytes_in z.name))) l)))) e (zones_in (at + (16 + length (bytes_in z.name))) (p + zone_size z) (q + length z.spots) l))

-- ## The network
abbrev with_places_of : Network Field → (segments zones : ℕ) → Network Field
with_places_of n a z = record {
  name = record { start = 41; bytes = n.name.bytes };
  version = place n.version (43 + length n.name.bytes);
  date = none;
  segments = placed-segments a n.segments;
  zones = placed_zones z n.zones;
}

places_same : (n : Network Field) (a z : ℕ) → SameNetwork (with_places_of n a z) (undated n)
unfolding network_named
places_same n a z =
    let v = place_same n.version (43 + length n.name.bytes) in
    let s = segments-same a n.segments in
    let t = zones-same z n.zones in
    λ i. record { name = bytes_of n.name; version = v i; date = none; segments = s i; zones = t i }

file_in : (n : Network Field) (a z : ℕ) → NamesLie 5 (with_length (file_record (with_places_of n a z)))
file_in n a z =
    placed_by 5 (with_length (file_record (with_places_of n a z))) (
      tt,
      (
        tt,
        (
          tt,
          (
            tt,
            (
              tt,
              (
                tt,
                (
                  tt,
                  (
                    tt,
                    (
                      tt,
                      (
                        place_in (some n.name) (5 + 2 + 4 + 4 + 4 + 4 + 4 + 4 + 4 + 4) 41 (omega arith),
                        (
                          place_in n.version (5 + 2 + 4 + 4 + 4 + 4 + 4 + 4 + 4 + 4 + (2 + length n.name.bytes)) (43 + length n.name.bytes) (omega arith),
                          tt,
                        ),
                      ),
                    ),
                  ),
                ),
              ),
            ),
          ),
        ),
      ),
    )

-- where the segments' records begin, and the zones': lengths do not look at places
module _ (n : Network Field) where
  abbrev before-segments : ℕ
  before-segments = 5 + length (laid (with_length (file_record (with_places_of n 0 0))))

  abbrev before-zones : ℕ
  before-zones = before-segments + length (laid (gather with_length (segment-records (with_places_of n before-segments 0)))) + length (laid (gather with_length (lane-records (with_places_of n before-segments 0))))

  unfoldable pub placed : Network Field
  placed = with_places_of n before-segments before-zones

  pub placed_same : SameNetwork placed (undated n)
  unfolding placed
  placed_same = places_same n before-segments before-zones

  -- THE LAW
  pub in_place : NamesLie 5 (all_slots placed)
  unfolding placed records
  in_place =
      let m = with_places_of n before-segments before-zones in
      let r = spot-records m ++ (point-records m ++ (checkpoint-records m ++ (stop-records m ++ exit-records m))) in
      let long : before-segments ≡ 5 + length (laid (with_length (file_record m))) = ap (λ (k : ℕ). 5 + k) (laid-long (with_length (file_record (with_places_of n 0 0))) ∙ sym (laid-long (with_length (file_record m)))) in
      subst (NamesLie 5) (sym (all_told m)) (subst (λ (l : List Slot). NamesLie 5 (with_length (file_record m) ++ l))
      (sym (gather_append with_length (segment-records m) (lane-records m ++ (zone-records m ++ r)) ∙ ap (λ (l : List Slot). gather with_length (segment-records m) ++ l) (gather_append with_length (lane-records m) (zone-records m ++ r) ∙ ap (λ (l : List Slot). gather with_length (lane-records m) ++ l) (gather_append with_length (zone-records m) r))))
      (placed_append 5 (with_length (file_record m)) (gather with_length (segment-records m) ++ (gather with_length (lane-records m) ++ (gather with_length (zone-records m) ++ gather with_length r))) (file_in n before-segments before-zones)
      (subst (λ (k : ℕ). NamesLie k (gather with_length (segment-records m) ++ (gather with_length (lane-records m) ++ (gather with_length (zone-records m) ++ gather with_length r)))) long
      (placed_append before-segments (gather with_length (segment-records m)) (gather with_length (lane-records m) ++ (gather with_length (zone-records m) ++ gather with_length r)) (segments_in before-segments 0 n.segments)
      (placed_append (before-segments + length (laid (gather with_length (segment-records m)))) (gather with_length (lane-records m)) (gather with_length (zone-records m) ++ gather with_length r) (nameless-placed _ (gather with_length (lane-records m)) (plain-records (lane-records m) (lanes-plain m)))
      (placed_append before-zones (gather with_length (zone-records m)) (gather with_length r) (zones_in before-zones (first_zone_point m) 0 n.zones) (nameless-placed _ (gather with_length r) (plain-records r (rest_plain m)))))))))

-- ## Asking for a name
abbrev pub Asked : Bytes → Slot → Type 0
Asked form (figure k n) = Unit {0}
Asked form (angle z) = Unit {0}
Asked form (title v) = name_of form (stretch v) ≡ bytes_in v

pub nothing-asked : (form : Bytes) → name_of form (stretch none) ≡ []
unfolding name_of
nothing-asked form = go (leb (0 + 0) (length form))
  where
    go : (b : Bool) → pick b (take 0 (drop 0 form)) [] ≡ []
    go true = refl
    go false = refl

name-asked : (front behind : Bytes) (v : Field) → v.start ≡ length front → name_of (front ++ (v.bytes ++ behind)) (stretch (some v)) ≡ v.bytes
unfolding name_of
name-asked front behind v e =
    let a = length-append front (v.bytes ++ behind) in
    let b = length-append v.bytes behind in
    let h : v.start + length v.bytes ≤ length (front ++ (v.bytes ++ behind)) = omega arith in
    rw (le-leb (v.start + length v.bytes) (length (front ++ (v.bytes ++ behind))) h) (ap (take (length v.bytes)) (drop_at front (v.bytes ++ behind) v.start (sym e)) ∙ take_at v.bytes behind (length v.bytes) refl)

item-asked : (front behind : Bytes) (i : Slot) → LiesAt (length front) i → Asked (front ++ (slot_bytes i ++ behind)) i
item-asked front behind (figure k n) p = tt
item-asked front behind (angle z) p = tt
item-asked front behind (title none) p = nothing-asked (front ++ (big_endian 2 0 ++ behind))
item-asked front behind (title (some v)) p =
    let w = big_endian 2 (length v.bytes) in
    let k = length-append front w in
    let l = packed-long 2 (length v.bytes) in
    let start : v.start ≡ length (front ++ w) = p ∙ (let e : length front + 2 ≡ length (front ++ w) = omega arith in e) in
    subst (λ (form : Bytes). name_of form (stretch (some v)) ≡ v.bytes) (append_assoc front w (v.bytes ++ behind) ∙ ap (λ (x : Bytes). front ++ x) (sym (append_assoc w v.bytes behind))) (name-asked (front ++ w) behind v start)

-- of every name that lies in place
pub all_asked : (front : Bytes) (l : List Slot) → NamesLie (length front) l → Each (Asked (front ++ laid l)) l
unfolding laid NamesLie
all_asked front [] p = tt
all_asked front (i ∷ l) p =
    let k = length-append front (slot_bytes i) in
    (item-asked front (gather slot_bytes l) i p.0, subst (λ (form : Bytes). Each (Asked form) l) (append_assoc front (slot_bytes i) (gather slot_bytes l)) (all_asked (front ++ slot_bytes i) l (subst (λ (j : ℕ). NamesLie j l) (sym k) p.1)))
