-- What is put of a row is the record of it. Assumes nothing.
use mathlib.Core.Path.{◌≡◌, refl, sym, ap, ◌∙◌}
use mathlib.Core.List.{List, [], ◌∷◌, ◌++◌, append_assoc, append-nil}
use mathlib.Core.Option.{Option, none, some}
use Prim.Native.Nat.{ℕ, ◌+◌, ◌%◌, ◌≤◌}
use native.Mathlib.Omega.{arith}
use lib.ListN.{length, length-append}
use Rattle.terms.specs.Ascii.{Bytes}
use Rattle.line.specs.Content.{Field}
use Rattle.law.specs.Network.{Network, Boundary, double_yellow_of, solid_yellow_of, solid_white_of, broken_white_of, Lane, Segment, Spot, Zone, Position, Checkpoint}
use Rattle.law.specs.Tables.{feet, side, gather, the_row_of, first_spot_of}
use Rattle.grammar.specs.Tables.{lane_row, the_spot_row_of, checkpoint_row, the_segment_row_of, the_zone_row_of}
use Rattle.table_words.specs.FileRows.{shown_name}
use Rattle.table_words.specs.Shown.{shown_segment, shown_lane, shown_zone, shown_spot, shown_point, shown_checkpoint, shown_stop, shown_exit}
use Rattle.rows.specs.declared.Stretch.{Stretch}
use Rattle.rows.specs.Name.{name_of}
use Rattle.law.specs.Tables.{segment_rows, lane_rows_of, zone_rows, spot_rows, point_rows, checkpoint_rows, stop_rows, exit_rows}
use Rattle.replies.specs.Replies.{rows_used_of, stretch, network_file}
use Rattle.output.specs.Packed.{big_endian}
use Rattle.output.proofs.Packed.{packed-long}
use Rattle.packed_law.specs.Packed.{Slot, figure, angle, title, unsigned, slot_bytes, laid, with_length}
use Rattle.packed_law.proofs.Told.{file_record, checkpoint_record}
use Rattle.records.specs.Put.{name_put, counts_put, file_put, segment_put, lane_put, zone_put, spot_put, point_put, checkpoint_put, stop_put, exit_put}

-- a name's place in the text
abbrev pub start_of : Field → ℕ
start_of v = v.start

abbrev pub length-of : Field → ℕ
length-of v = length v.bytes

abbrev pub bytes_in : Option Field → Bytes
bytes_in none = []
bytes_in (some v) = v.bytes

-- asking for it gives its bytes, and there are few
pub record Held (text : Bytes) (v : Option Field) : Type 0 where
  pub asked : name_of text (shown_name start_of length-of v) ≡ bytes_in v
  pub few : length (bytes_in v) ≤ 128

name-same : (v : Option Field) → slot_bytes (title v) ≡ name_put (bytes_in v)
unfolding name_put
name-same none = sym (append-nil (big_endian 2 0))
name-same (some v) = refl

side-byte : (o : Option Boundary) → big_endian 1 (side o) ≡ side o ∷ []
unfolding big_endian
side-byte none = refl
side-byte (some double_yellow_of) = refl
side-byte (some solid_yellow_of) = refl
side-byte (some solid_white_of) = refl
side-byte (some broken_white_of) = refl

-- the length of a record whose fields have these lengths
abbrev lengths : List Bytes → ℕ
lengths [] = 0
lengths (x ∷ l) = length x + lengths l

long : (l : List Bytes) → length (gather (λ x. x) l) ≡ lengths l
long [] = refl
long (x ∷ l) = length-append x (gather (λ x. x) l) ∙ ap (λ (n : ℕ). length x + n) (long l)

-- ## Records without a name
pub lane-is : (p : ℕ) (a : Lane) → lane_put (shown_lane (lane_row p a)) ≡ laid (with_length (figure 4 p ∷ figure 2 (length a.points) ∷ figure 2 (feet a.width) ∷ figure 1 (side a.left) ∷ figure 1 (side a.right) ∷ []))
unfolding lane_put laid
lane-is p a =
    let b = big_endian 4 p in
    let c = big_endian 2 (length a.points) in
    let d = big_endian 2 (feet a.width) in
    let e = big_endian 1 (side a.left) in
    let f = big_endian 1 (side a.right) in
    let k : length (b ++ (c ++ (d ++ (e ++ (f ++ []))))) ≡ 10 = long (b ∷ c ∷ d ∷ e ∷ f ∷ []) ∙ (let x1 = packed-long 4 p in let x2 = packed-long 2 (length a.points) in let x3 = packed-long 2 (feet a.width) in let x4 = packed-long 1 (side a.left) in let x5 = packed-long 1 (side a.right) in omega arith) in
    rw (sym (side-byte a.left), sym (side-byte a.right), k) (simp (append_assoc, append-nil))

pub spot_is : (p : ℕ) (s : Spot) → spot_put (shown_spot (the_spot_row_of p s)) ≡ laid (with_length (figure 4 p ∷ figure 2 (feet s.width) ∷ []))
unfolding spot_put laid
spot_is p s =
    let b = big_endian 4 p in
    let c = big_endian 2 (feet s.width) in
    let k : length (b ++ (c ++ [])) ≡ 6 = long (b ∷ c ∷ []) ∙ (let x1 = packed-long 4 p in let x2 = packed-long 2 (feet s.width) in omega arith) in
    rw k (simp (append_assoc, append-nil))

pub point-is : (p : Position) → point_put (shown_point p) ≡ laid (with_length (angle p.latitude ∷ angle p.longitude ∷ []))
unfolding point_put laid
point-is p =
    let b = big_endian 4 (unsigned p.latitude) in
    let c = big_endian 4 (unsigned p.longitude) in
    let k : length (b ++ (c ++ [])) ≡ 8 = long (b ∷ c ∷ []) ∙ (let x1 = packed-long 4 (unsigned p.latitude) in let x2 = packed-long 4 (unsigned p.longitude) in omega arith) in
    rw k (simp (append_assoc, append-nil))

pub checkpoint-is : (p : ℕ) (a : Checkpoint) → checkpoint_put (shown_checkpoint (checkpoint_row p a)) ≡ laid (with_length (checkpoint_record p a))
unfolding checkpoint_put laid
checkpoint-is p a =
    let b = big_endian 2 a.number in
    let c = big_endian 4 (the_row_of p a.waypoint) in
    let k : length (b ++ (c ++ [])) ≡ 6 = long (b ∷ c ∷ []) ∙ (let x1 = packed-long 2 a.number in let x2 = packed-long 4 (the_row_of p a.waypoint) in omega arith) in
    rw k (simp (append_assoc, append-nil))

pub stop_is : (p : ℕ) → stop_put (shown_stop p) ≡ laid (with_length (figure 4 p ∷ []))
unfolding stop_put laid
stop_is p =
    let b = big_endian 4 p in
    let k : length (b ++ []) ≡ 4 = long (b ∷ []) ∙ (let x1 = packed-long 4 p in omega arith) in
    rw k (simp append-nil)

pub exit-is : (p q : ℕ) → exit_put (record { point = p; entry = q }) ≡ laid (with_length (figure 4 p ∷ figure 4 q ∷ []))
unfolding exit_put laid
exit-is p q =
    let b = big_endian 4 p in
    let c = big_endian 4 q in
    let k : length (b ++ (c ++ [])) ≡ 8 = long (b ∷ c ∷ []) ∙ (let x1 = packed-long 4 p in let x2 = packed-long 4 q in omega arith) in
    rw k (simp (append_assoc, append-nil))

-- ## Records with a name
name-long : (v : Option Field) → length (slot_bytes (title v)) ≡ 2 + length (bytes_in v)
name-long none = packed-long 2 0
name-long (some v) = length-append (big_endian 2 (length v.bytes)) v.bytes ∙ ap (λ (k : ℕ). k + length v.bytes) (packed-long 2 (length v.bytes))

module _ (text : Bytes) where
  pub segment-is : (p : ℕ) (s : Segment Field) → Held text s.name → segment_put text (shown_segment start_of length-of (the_segment_row_of p s)) ≡ laid (with_length (figure 4 p ∷ figure 2 (length s.lanes) ∷ title s.name ∷ []))
  unfolding segment_put laid
  segment-is p s h =
      let b = big_endian 4 p in
      let c = big_endian 2 (length s.lanes) in
      let d = slot_bytes (title s.name) in
      let few = h.few in
      let k : length (b ++ (c ++ (d ++ []))) ≡ 8 + length (bytes_in s.name) % 65536 = long (b ∷ c ∷ d ∷ []) ∙ (let x1 = packed-long 4 p in let x2 = packed-long 2 (length s.lanes) in let x3 = name-long s.name in omega arith) in
      ap (λ (x : Bytes). big_endian 2 (8 + length x % 65536) ++ b ++ c ++ name_put x) h.asked
      ∙ ap (λ (x : Bytes). big_endian 2 (8 + length (bytes_in s.name) % 65536) ++ b ++ c ++ x) (sym (name-same s.name))
      ∙ ap (λ (j : ℕ). big_endian 2 j ++ b ++ c ++ d) (sym k)
      ∙ inward (big_endian 2 (length (b ++ (c ++ (d ++ []))))) b c d
    where
      inward : (a b c d : Bytes) → a ++ b ++ c ++ d ≡ a ++ (b ++ (c ++ (d ++ [])))
      inward a b c d = simp (append_assoc, append-nil)

  pub zone-is : (p q : ℕ) (z : Zone Field) → Held text z.name → zone_put text (shown_zone start_of length-of (the_zone_row_of p q z)) ≡ laid (with_length (figure 4 p ∷ figure 2 (length z.border.points) ∷ figure 4 (first_spot_of q (length z.spots)) ∷ figure 2 (length z.spots) ∷ title z.name ∷ []))
  unfolding zone_put laid
  zone-is p q z h =
      let b = big_endian 4 p in
      let c = big_endian 2 (length z.border.points) in
      let e = big_endian 4 (first_spot_of q (length z.spots)) in
      let f = big_endian 2 (length z.spots) in
      let d = slot_bytes (title z.name) in
      let few = h.few in
      let k : length (b ++ (c ++ (e ++ (f ++ (d ++ []))))) ≡ 14 + length (bytes_in z.name) % 65536 = long (b ∷ c ∷ e ∷ f ∷ d ∷ []) ∙ (let x1 = packed-long 4 p in let x2 = packed-long 2 (length z.border.points) in let x3 = packed-long 4 (first_spot_of q (length z.spots)) in let x4 = packed-long 2 (length z.spots) in let x5 = name-long z.name in omega arith) in
      ap (λ (x : Bytes). big_endian 2 (14 + length x % 65536) ++ b ++ c ++ e ++ f ++ name_put x) h.asked
      ∙ ap (λ (x : Bytes). big_endian 2 (14 + length (bytes_in z.name) % 65536) ++ b ++ c ++ e ++ f ++ x) (sym (name-same z.name))
      ∙ ap (λ (j : ℕ). big_endian 2 j ++ b ++ c ++ e ++ f ++ d) (sym k)
      ∙ inward (big_endian 2 (length (b ++ (c ++ (e ++ (f ++ (d ++ []))))))) b c e f d
    where
      inward : (a b c e f d : Bytes) → a ++ b ++ c ++ e ++ f ++ d ≡ a ++ (b ++ (c ++ (e ++ (f ++ (d ++ [])))))
      inward a b c e f d = simp (append_assoc, append-nil)

  -- the file's
  outward : (a b c d e f g h i x y : Bytes) → a ++ (b ++ c ++ d ++ e ++ f ++ g ++ h ++ i) ++ x ++ y ≡ a ++ (b ++ (c ++ (d ++ (e ++ (f ++ (g ++ (h ++ (i ++ (x ++ (y ++ []))))))))))
  outward a b c d e f g h i x y = simp (append_assoc, append-nil)

  version-asked : (v : Option Field) → name_of text (shown_name start_of length-of v) ≡ bytes_in v → name_of text (stretch v) ≡ bytes_in v
  version-asked none e = e
  version-asked (some v) e = e

  pub file_is : (n : Network Field) → Held text (some n.name) → Held text n.version → file_put text (rows_used_of n) (network_file n) ≡ laid (with_length (file_record n))
  unfolding file_put counts_put laid
  file_is n own version =
      let b1 = big_endian 4 (length (segment_rows n)) in
      let b2 = big_endian 4 (length (lane_rows_of n)) in
      let b3 = big_endian 4 (length (zone_rows n)) in
      let b4 = big_endian 4 (length (spot_rows n)) in
      let b5 = big_endian 4 (length (point_rows n)) in
      let b6 = big_endian 4 (length (checkpoint_rows n)) in
      let b7 = big_endian 4 (length (stop_rows n)) in
      let b8 = big_endian 4 (length (exit_rows n)) in
      let x = slot_bytes (title (some n.name)) in
      let y = slot_bytes (title n.version) in
      let f1 = own.few in let f2 = version.few in
      let k : length (b1 ++ (b2 ++ (b3 ++ (b4 ++ (b5 ++ (b6 ++ (b7 ++ (b8 ++ (x ++ (y ++ [])))))))))) ≡ 36 + length n.name.bytes % 65536 + length (bytes_in n.version) % 65536 =
      long (b1 ∷ b2 ∷ b3 ∷ b4 ∷ b5 ∷ b6 ∷ b7 ∷ b8 ∷ x ∷ y ∷ []) ∙ (
      let l1 = packed-long 4 (length (segment_rows n)) in let l2 = packed-long 4 (length (lane_rows_of n)) in let l3 = packed-long 4 (length (zone_rows n)) in let l4 = packed-long 4 (length (spot_rows n)) in
      let l5 = packed-long 4 (length (point_rows n)) in let l6 = packed-long 4 (length (checkpoint_rows n)) in let l7 = packed-long 4 (length (stop_rows n)) in let l8 = packed-long 4 (length (exit_rows n)) in
      let l9 = name-long (some n.name) in let m1 = name-long n.version in
      omega arith) in
      let named : (u v : Bytes) → Bytes = λ u v. big_endian 2 (36 + length u % 65536 + length v % 65536) ++ (b1 ++ b2 ++ b3 ++ b4 ++ b5 ++ b6 ++ b7 ++ b8) ++ name_put u ++ name_put v in
      (λ i. named (own.asked i) (version-asked n.version version.asked i))
      ∙ (λ i. big_endian 2 (36 + length n.name.bytes % 65536 + length (bytes_in n.version) % 65536) ++ (b1 ++ b2 ++ b3 ++ b4 ++ b5 ++ b6 ++ b7 ++ b8) ++ sym (name-same (some n.name)) i ++ sym (name-same n.version) i)
      ∙ ap (λ (j : ℕ). big_endian 2 j ++ (b1 ++ b2 ++ b3 ++ b4 ++ b5 ++ b6 ++ b7 ++ b8) ++ x ++ y) (sym k)
      ∙ outward (big_endian 2 (length (b1 ++ (b2 ++ (b3 ++ (b4 ++ (b5 ++ (b6 ++ (b7 ++ (b8 ++ (x ++ (y ++ [])))))))))))) b1 b2 b3 b4 b5 b6 b7 b8 x y
