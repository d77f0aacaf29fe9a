-- A packed form is framed. Assumes nothing.
use mathlib.Core.Path.{◌≡◌, refl, sym, ap, subst, ◌∙◌}
use mathlib.Core.List.{List, [], ◌∷◌, ◌++◌, map, append_assoc}
use mathlib.Core.Option.{Option, none, some}
use Prim.Native.Nat.{ℕ, ◌+◌, ◌≤◌, ◌<◌}
use native.Mathlib.Omega.{arith}
use lib.ListN.{length, length-append}
use Rattle.terms.specs.Ascii.{Bytes}
use Rattle.terms.specs.Words.{Each, perhaps}
use Rattle.terms.proofs.Lists.{each_map, each-any, each_append}
use Rattle.line.specs.Content.{Field}
use Rattle.law.specs.Network.{Network, Segment, Lane, Zone, Spot, Checkpoint, Exit, Position}
use Rattle.law.specs.Tables.{feet, side, gather, total, lane_size, zone_size, all_lanes, zone_points, lane_points, first_zone_point}
use Rattle.law.specs.Along.{along, over_spots}
use Rattle.grammar.specs.Names.{perhaps_name}
use Rattle.grammar.proofs.Rows.{along-each, each-of_map}
use Rattle.text.specs.Spelling.{bytes_of}
use Rattle.output.specs.Packed.{big_endian}
use Rattle.output.proofs.Packed.{packed-long}
use Rattle.replies.specs.Replies.{longest}
use Rattle.packed_law.specs.Packed.{Slot, figure, angle, title, slot_bytes, laid, with_length, all_slots, this_version, packed_form, AreRecords, nothing, more, LengthsRight}
use Rattle.packed_law.proofs.Told.{file_record, segment-records, lane-records, zone-records-from, zone-records, spot-records, point-records, checkpoint_record, checkpoint-records, stop-records, exit_record, exit-records, records, all_told}
use Rattle.unpackings.specs.Unpacks.{IsPackedFormOf}
use Rattle.unpackings.proofs.Kept.{Few, FewNames, network-few}

-- ## Lengths
abbrev pub bytes_in : Option Field → Bytes
bytes_in none = []
bytes_in (some v) = v.bytes

abbrev pub item-long : Slot → ℕ
item-long (figure k n) = k
item-long (angle z) = 4
item-long (title v) = 2 + length (bytes_in v)

pub item-is-long : (i : Slot) → length (slot_bytes i) ≡ item-long i
item-is-long (figure k n) = packed-long k n
item-is-long (angle z) = packed-long 4 _
item-is-long (title none) = packed-long 2 0
item-is-long (title (some v)) = length-append (big_endian 2 (length v.bytes)) v.bytes ∙ ap (λ (k : ℕ). k + length v.bytes) (packed-long 2 (length v.bytes))

pub laid-long : (l : List Slot) → length (laid l) ≡ total item-long l
unfolding laid
laid-long [] = refl
laid-long (i ∷ l) = length-append (slot_bytes i) (gather slot_bytes l) ∙ (let a = item-is-long i in let b = laid-long l in omega arith)

-- a record with its length
abbrev pub whole : List Slot → Bytes
whole r = laid (with_length r)

pub gather_append : {A B : Type 0} (g : A → List B) (x y : List A) → gather g (x ++ y) ≡ gather g x ++ gather g y
gather_append g [] y = refl
gather_append g (a ∷ x) y = ap (λ (l : List _). g a ++ l) (gather_append g x y) ∙ sym (append_assoc (g a) (gather g x) (gather g y))

pub laid-records : (rs : List (List Slot)) → laid (gather with_length rs) ≡ gather whole rs
unfolding laid
laid-records [] = refl
laid-records (r ∷ rs) = gather_append slot_bytes (with_length r) (gather with_length rs) ∙ ap (λ (x : Bytes). gather slot_bytes (with_length r) ++ x) (laid-records rs)

-- the form's bytes behind its first length
pub laid-all : (n : Network Field) → laid (all_slots n) ≡ gather whole (records n)
laid-all n = ap laid (all_told n) ∙ laid-records (records n)

-- ## Records that are short enough
abbrev pub Short : List Slot → Type 0
Short r = total item-long r < 65536

are-records : (rs : List (List Slot)) → Each Short rs → AreRecords (gather whole rs)
unfolding laid
are-records [] h = nothing
are-records (r ∷ rs) h =
    let s = h.0 in
    let e = laid-long r in
    subst AreRecords (sym (append_assoc (big_endian 2 (length (laid r))) (laid r) (gather whole rs))) (more (laid r) (gather whole rs) (omega arith) (are-records rs h.1))

pub few-long : (v : Option Field) → Few v → length (bytes_in v) ≤ 128
few-long none h = omega arith
few-long (some v) h = h.high

-- the records of a segment, a lane and a spot, as `packed_law`/Told has them
abbrev pub segment-record : ℕ → Segment Field → List (List Slot)
segment-record first s = (figure 4 first ∷ figure 2 (length s.lanes) ∷ title s.name ∷ []) ∷ []

abbrev pub lane-record : ℕ → Lane → List (List Slot)
lane-record first a = (figure 4 first ∷ figure 2 (length a.points) ∷ figure 2 (feet a.width) ∷ figure 1 (side a.left) ∷ figure 1 (side a.right) ∷ []) ∷ []

abbrev pub spot-record : ℕ → Spot → List (List Slot)
spot-record first s = (figure 4 first ∷ figure 2 (feet s.width) ∷ []) ∷ []

module _ (n : Network Field) (few : FewNames n) where
  short-zones : (p q : ℕ) (zs : List (Zone Field)) → Each (λ z. Few z.name) zs → Each Short (zone-records-from p q zs)
  short-zones p q [] h = tt
  short-zones p q (z ∷ zs) h = ((let k = few-long z.name h.0 in omega arith), short-zones (p + zone_size z) (q + length z.spots) zs h.1)

  maps-short : {A : Type 0} (f : A → List Slot) → ((a : A) → Short (f a)) → (l : List A) → Each Short (map f l)
  maps-short f h l = each-of_map Short f l (each_map (λ a. Unit {0}) (λ a. Short (f a)) (λ a u. h a) l (each-any l))

  pub short : Each Short (records n)
  unfolding records
  short =
      let a = few-long (some n.name) few.name in
      let b = few-long n.version few.version in
      let c = few-long n.date few.date in (
        omega arith,
        each_append Short (segment-records n) (lane-records n ++ (zone-records n ++ (spot-records n ++ (point-records n ++ (checkpoint-records n ++ (stop-records n ++ exit-records n))))))
            (along-each Short (λ s. length s.lanes) segment-record 0 n.segments (each_map (λ s. Few s.name) (λ s. (p : ℕ) → Each Short (segment-record p s)) (λ s h p. ((let k = few-long s.name h in omega arith), tt)) n.segments few.segments))
            (each_append Short (lane-records n) (zone-records n ++ (spot-records n ++ (point-records n ++ (checkpoint-records n ++ (stop-records n ++ exit-records n)))))
            (along-each Short lane_size lane-record 0 (all_lanes n) (each_map (λ a. Unit {0}) (λ a. (p : ℕ) → Each Short (lane-record p a)) (λ a u p. (omega arith, tt)) (all_lanes n) (each-any (all_lanes n))))
            (each_append Short (zone-records n) (spot-records n ++ (point-records n ++ (checkpoint-records n ++ (stop-records n ++ exit-records n))))
            (short-zones (first_zone_point n) 0 n.zones few.zones)
            (each_append Short (spot-records n) (point-records n ++ (checkpoint-records n ++ (stop-records n ++ exit-records n)))
            (along-each Short zone_size (over_spots spot-record) (first_zone_point n) n.zones (each_map (λ z. Unit {0}) (λ z. (p : ℕ) → Each Short (over_spots spot-record p z)) (λ z u p. along-each Short (λ s. 2) spot-record (p + length z.border.points) z.spots (each_map (λ s. Unit {0}) (λ s. (q : ℕ) → Each Short (spot-record q s)) (λ s v q. (omega arith, tt)) z.spots (each-any z.spots))) n.zones (each-any n.zones)))
            (each_append Short (point-records n) (checkpoint-records n ++ (stop-records n ++ exit-records n))
            (maps-short (λ p. angle p.latitude ∷ angle p.longitude ∷ []) (λ p. omega arith) (lane_points n ++ gather zone_points n.zones))
            (each_append Short (checkpoint-records n) (stop-records n ++ exit-records n)
            (each_append Short (along lane_size (λ first a. map (checkpoint_record first) a.checkpoints) 0 (all_lanes n)) (along zone_size (over_spots (λ first s. map (checkpoint_record first) (perhaps s.checkpoint))) (first_zone_point n) n.zones)
            (along-each Short lane_size _ 0 (all_lanes n) (each_map (λ a. Unit {0}) _ (λ a u p. maps-short (checkpoint_record p) (λ c. omega arith) a.checkpoints) (all_lanes n) (each-any (all_lanes n))))
            (along-each Short zone_size _ (first_zone_point n) n.zones (each_map (λ z. Unit {0}) _ (λ z u p. along-each Short (λ s. 2) _ (p + length z.border.points) z.spots (each_map (λ s. Unit {0}) _ (λ s v q. maps-short (checkpoint_record q) (λ c. omega arith) (perhaps s.checkpoint)) z.spots (each-any z.spots))) n.zones (each-any n.zones))))
            (each_append Short (stop-records n) (exit-records n)
            (along-each Short lane_size _ 0 (all_lanes n) (each_map (λ a. Unit {0}) _ (λ a u p. maps-short (λ i. figure 4 _ ∷ []) (λ i. omega arith) a.stops) (all_lanes n) (each-any (all_lanes n))))
            (each_append Short (along lane_size (λ first a. map (exit_record n first) a.exits) 0 (all_lanes n)) (along zone_size (λ first z. map (exit_record n first) z.border.exits) (first_zone_point n) n.zones)
            (along-each Short lane_size _ 0 (all_lanes n) (each_map (λ a. Unit {0}) _ (λ a u p. maps-short (exit_record n p) (λ e. omega arith) a.exits) (all_lanes n) (each-any (all_lanes n))))
            (along-each Short zone_size _ (first_zone_point n) n.zones (each_map (λ z. Unit {0}) _ (λ z u p. maps-short (exit_record n p) (λ e. omega arith) z.border.exits) n.zones (each-any n.zones)))))))))),
      )

-- THE LAW
pub form-framed : (bytes : Bytes) (n : Network Field) → length bytes ≤ longest → IsPackedFormOf n bytes → LengthsRight bytes
unfolding packed_form
form-framed bytes n h x = record { version = this_version; behind = laid (all_slots n); is = x.form; each = subst AreRecords (sym (laid-all n)) (are-records (records n) (short n (network-few n x.network))) }
