-- Slots and rows back from bytes, whatever these are; of bytes that are a form's, those of the form. Assumes nothing.
use mathlib.Core.Path.{◌≡◌, refl, sym, ap, ap₂, subst, ◌∙◌}
use mathlib.Core.List.{List, [], ◌∷◌, ◌++◌, map, append_assoc, append-nil}
use mathlib.Core.Option.{Option, none, some}
use Prim.Native.Nat.{ℕ, zero, suc, ◌+◌, ◌-◌, ◌^◌, ◌≤◌, ◌<◌}
use native.Mathlib.Omega.{arith}
use lib.ListN.{length, take, drop, length-append}
use lib.Seq.{take_at, drop_at, drop-drop}
use lib.IntN.{ℤ, pos, negsuc, nat_abs}
use Rattle.terms.specs.Ascii.{Bytes}
use Rattle.terms.specs.Words.{Each, Between}
use Rattle.line.specs.Content.{Field}
use Rattle.law.specs.Tables.{gather}
use Rattle.grammar.specs.Tables.{SegmentRow, LaneRow, ZoneRow, SpotRow, CheckpointRow, ExitRow, Tables}
use Rattle.output.specs.Packed.{big_endian}
use Rattle.output.proofs.Packed.{packed-long}
use Rattle.packed_law.specs.Packed.{this_version, Slot, figure, angle, title, unsigned, slot_bytes, laid, with_length, LiesAt, NamesLie}
use Rattle.unpackings.proofs.Kept.{Few}
use Rattle.unpackings.proofs.Cutting.{Kind, of_size, of-coordinate, of-name, shape, Fit, placed-cut}
use Rattle.unpackings.proofs.Rows.{segment_rec, lane_rec, zone_rec, spot_rec, point_rec, checkpoint_rec, stop_rec, exit_rec, file_rec, at, segment-back, lane-back, zone-back, spot_back, point-back, checkpoint-back, exit-back}
use Rattle.unpackings.proofs.OneNetwork.{laid_out, rest_of, items_of, shapes, shape-rest, laid_append}
use Rattle.packed_tables.proofs.Numbers.{value, value_there, signed, signed-there}

-- ## One slot
-- place: where it stands
abbrev pub named-at : (place size : ℕ) → Bytes → Option Field
named-at place zero b = none
named-at place (suc k) b = some (record { start = place + 2; bytes = take (suc k) b })

abbrev pub read_one : ℕ → Kind → Bytes → Slot
read_one place (of_size k) b = figure k (value (take k b))
read_one place of-coordinate b = angle (signed (value (take 4 b)))
read_one place of-name b = title (named-at place (value (take 2 b)) (drop 2 b))

abbrev pub size-here : Kind → Bytes → ℕ
size-here (of_size k) b = k
size-here of-coordinate b = 4
size-here of-name b = 2 + value (take 2 b)

-- ## Slots one behind the other
unfoldable pub read : ℕ → List Kind → Bytes → List Slot
read place [] b = []
read place (k ∷ ks) b = read_one place k b ∷ read (place + size-here k b) ks (drop (size-here k b) b)

front : (k n : ℕ) (x : Bytes) → take k (big_endian k n ++ x) ≡ big_endian k n
front k n x = take_at (big_endian k n) x k (packed-long k n)

back-of : (k n : ℕ) (x : Bytes) → drop k (big_endian k n ++ x) ≡ x
back-of k n x = drop_at (big_endian k n) x k (packed-long k n)

unsigned-fits : (z : ℤ) → nat_abs z ≤ 180000000 → unsigned z < 256 ^ 4
unsigned-fits (pos m) h = omega arith
unsigned-fits (negsuc m) h = omega arith

number_read : (k n : ℕ) (x : Bytes) → n < 256 ^ k → value (take k (big_endian k n ++ x)) ≡ n
number_read k n x h = ap value (front k n x) ∙ value_there k n h

named-there : (place : ℕ) (v : Field) (x : Bytes) → 1 ≤ length v.bytes → v.start ≡ place + 2 → named-at place (length v.bytes) (v.bytes ++ x) ≡ some v
named-there place v x h p = go v.bytes refl h
  where
    go : (l : Bytes) → v.bytes ≡ l → 1 ≤ length l → named-at place (length l) (l ++ x) ≡ some v
    go [] e h = absurd (omega arith)
    go (c ∷ l) e h = let t = take_at (c ∷ l) x (length (c ∷ l)) refl ∙ sym e in λ i. some (record { start = sym p i; bytes = t i })

pub item-read : (place : ℕ) (i : Slot) (x : Bytes) → Fit i → LiesAt place i → (read_one place (shape i) (slot_bytes i ++ x) ≡ i) × (size-here (shape i) (slot_bytes i ++ x) ≡ length (slot_bytes i))
item-read place (figure k n) x f p = (ap (figure k) (number_read k n x f), sym (packed-long k n))
item-read place (angle z) x f p = (ap angle (ap signed (number_read 4 (unsigned z) x (unsigned-fits z f)) ∙ signed-there z f), sym (packed-long 4 (unsigned z)))
item-read place (title none) x f p =
    let e = number_read 2 0 x (omega arith) in
    (ap (λ (k : ℕ). title (named-at place k (drop 2 (big_endian 2 0 ++ x)))) e, ap (λ (k : ℕ). 2 + k) e ∙ sym (packed-long 2 0))
item-read place (title (some v)) x f p =
    let low = f.low in let high = f.high in
    let long = length v.bytes in
    let joined = append_assoc (big_endian 2 long) v.bytes x in
    let e : value (take 2 ((big_endian 2 long ++ v.bytes) ++ x)) ≡ long = ap (λ (l : Bytes). value (take 2 l)) joined ∙ number_read 2 long (v.bytes ++ x) (omega arith) in
    let d : drop 2 ((big_endian 2 long ++ v.bytes) ++ x) ≡ v.bytes ++ x = ap (drop 2) joined ∙ back-of 2 long (v.bytes ++ x) in (
      ap₂ (λ (k : ℕ) (l : Bytes). title (named-at place k l)) e d ∙ ap title (named-there place v x low p),
      ap (λ (k : ℕ). 2 + k) e ∙ (let a = length-append (big_endian 2 long) v.bytes in let b = packed-long 2 long in let c : 2 + long ≡ length (big_endian 2 long ++ v.bytes) = omega arith in c),
    )

-- THE LAW of slots
pub items-read : (place : ℕ) (l : List Slot) (x : Bytes) → Each Fit l → NamesLie place l → read place (map shape l) (laid l ++ x) ≡ l
unfolding laid NamesLie read
items-read place [] x f p = refl
items-read place (i ∷ l) x f p =
    let joined = append_assoc (slot_bytes i) (gather slot_bytes l) x in
    let one = item-read place i (gather slot_bytes l ++ x) f.0 p.0 in
    let size : size-here (shape i) ((slot_bytes i ++ gather slot_bytes l) ++ x) ≡ length (slot_bytes i) = ap (size-here (shape i)) joined ∙ one.1 in
    let left : drop (length (slot_bytes i)) ((slot_bytes i ++ gather slot_bytes l) ++ x) ≡ gather slot_bytes l ++ x = ap (drop (length (slot_bytes i))) joined ∙ drop_at (slot_bytes i) (gather slot_bytes l ++ x) (length (slot_bytes i)) refl in
    ap₂ (λ (j : Slot) (r : List Slot). j ∷ r) (ap (read_one place (shape i)) joined ∙ one.0)
    (ap (λ (k : ℕ). read (place + k) (map shape l) (drop k ((slot_bytes i ++ gather slot_bytes l) ++ x))) size
    ∙ ap (read (place + length (slot_bytes i)) (map shape l)) left
    ∙ items-read (place + length (slot_bytes i)) l x f.1 p.1)

-- ## Rows from slots: so many to a record, the first its length
abbrev pub rows_from : {R : Type 0} → ℕ → (List Slot → R) → ℕ → List Slot → List R
rows_from m back zero l = []
rows_from m back (suc k) l = back (drop 1 (take m l)) ∷ rows_from m back k (drop m l)

abbrev pub rest_from : ℕ → ℕ → List Slot → List Slot
rest_from m zero l = l
rest_from m (suc k) l = rest_from m k (drop m l)

rows-read : {R : Type 0} (m : ℕ) (rec : R → List Slot) (back : List Slot → R) → ((r : R) → back (rec r) ≡ r) → ((r : R) → length (with_length (rec r)) ≡ m) → (rows : List R) (x : List Slot)
    → (rows_from m back (length rows) (laid_out rec rows ++ x) ≡ rows) × (rest_from m (length rows) (laid_out rec rows ++ x) ≡ x)
rows-read m rec back b s [] x = (refl, refl)
rows-read m rec back b s (r ∷ rows) x =
    let joined = append_assoc (with_length (rec r)) (laid_out rec rows) x in
    let t : take m ((with_length (rec r) ++ laid_out rec rows) ++ x) ≡ with_length (rec r) = ap (take m) joined ∙ take_at (with_length (rec r)) (laid_out rec rows ++ x) m (s r) in
    let d : drop m ((with_length (rec r) ++ laid_out rec rows) ++ x) ≡ laid_out rec rows ++ x = ap (drop m) joined ∙ drop_at (with_length (rec r)) (laid_out rec rows ++ x) m (s r) in
    let more = rows-read m rec back b s rows x in (
      ap₂ (λ (y : _) (z : List _). y ∷ z) (ap (λ (l : List Slot). back (drop 1 l)) t ∙ b r) (ap (rows_from m back (length rows)) d ∙ more.0),
      ap (rest_from m (length rows)) d ∙ more.1,
    )

-- ## Tables from slots
abbrev named-of : Slot → Option Field
named-of (figure k n) = none
named-of (angle z) = none
named-of (title v) = v

abbrev name_in : ℕ → List Slot → Option Field
name_in k [] = none
name_in zero (i ∷ l) = named-of i
name_in (suc k) (i ∷ l) = name_in k l

abbrev or-none : Option Field → Field
or-none none = record { start = 0; bytes = [] }
or-none (some v) = v

-- f: the slots of the file's record; a to k: the counts; l: all slots behind it
abbrev pub tables-from : List Slot → (a b c d e g h k : ℕ) → List Slot → Tables Field ℕ
tables-from f a b c d e g h k l = record {
  file = record { name = or-none (name_in 9 f); version = name_in 10 f; date = none };
  segments = rows_from 4 segment-back a l;
  lanes = rows_from 6 lane-back b (rest_from 4 a l);
  zones = rows_from 6 zone-back c (rest_from 6 b (rest_from 4 a l));
  spots = rows_from 3 spot_back d (rest_from 6 c (rest_from 6 b (rest_from 4 a l)));
  points = rows_from 3 point-back e (rest_from 3 d (rest_from 6 c (rest_from 6 b (rest_from 4 a l))));
  checkpoints = rows_from 3 checkpoint-back g (rest_from 3 e (rest_from 3 d (rest_from 6 c (rest_from 6 b (rest_from 4 a l)))));
  stops = rows_from 2 (at 0) h (rest_from 3 g (rest_from 3 e (rest_from 3 d (rest_from 6 c (rest_from 6 b (rest_from 4 a l))))));
  exits = rows_from 3 exit-back k (rest_from 2 h (rest_from 3 g (rest_from 3 e (rest_from 3 d (rest_from 6 c (rest_from 6 b (rest_from 4 a l)))))));
}

-- a form tells no date
tables-read : (t : Tables Field ℕ) → t.file.date ≡ none → tables-from (with_length (file_rec t)) (length t.segments) (length t.lanes) (length t.zones) (length t.spots) (length t.points) (length t.checkpoints) (length t.stops) (length t.exits) (rest_of t) ≡ t
tables-read t dateless =
    let x7 = laid_out exit_rec t.exits in
    let x6 = laid_out stop_rec t.stops ++ x7 in
    let x5 = laid_out checkpoint_rec t.checkpoints ++ x6 in
    let x4 = laid_out point_rec t.points ++ x5 in
    let x3 = laid_out spot_rec t.spots ++ x4 in
    let x2 = laid_out zone_rec t.zones ++ x3 in
    let x1 = laid_out lane_rec t.lanes ++ x2 in
    let a = rows-read 4 segment_rec segment-back (λ r. refl) (λ r. refl) t.segments x1 in
    let b = rows-read 6 lane_rec lane-back (λ r. refl) (λ r. refl) t.lanes x2 in
    let c = rows-read 6 zone_rec zone-back (λ r. refl) (λ r. refl) t.zones x3 in
    let d = rows-read 3 spot_rec spot_back (λ r. refl) (λ r. refl) t.spots x4 in
    let e = rows-read 3 point_rec point-back (λ r. refl) (λ r. refl) t.points x5 in
    let g = rows-read 3 checkpoint_rec checkpoint-back (λ r. refl) (λ r. refl) t.checkpoints x6 in
    let h = rows-read 2 stop_rec (at 0) (λ r. refl) (λ r. refl) t.stops x7 in
    let k = rows-read 3 exit_rec exit-back (λ r. refl) (λ r. refl) t.exits [] in
    let r1 = a.1 in
    let r2 = ap (rest_from 6 (length t.lanes)) r1 ∙ b.1 in
    let r3 = ap (rest_from 6 (length t.zones)) r2 ∙ c.1 in
    let r4 = ap (rest_from 3 (length t.spots)) r3 ∙ d.1 in
    let r5 = ap (rest_from 3 (length t.points)) r4 ∙ e.1 in
    let r6 = ap (rest_from 3 (length t.checkpoints)) r5 ∙ g.1 in
    let r7 = ap (rest_from 2 (length t.stops)) r6 ∙ h.1 in
    let y1 = ap (rows_from 6 lane-back (length t.lanes)) r1 ∙ b.0 in
    let y2 = ap (rows_from 6 zone-back (length t.zones)) r2 ∙ c.0 in
    let y3 = ap (rows_from 3 spot_back (length t.spots)) r3 ∙ d.0 in
    let y4 = ap (rows_from 3 point-back (length t.points)) r4 ∙ e.0 in
    let y5 = ap (rows_from 3 checkpoint-back (length t.checkpoints)) r5 ∙ g.0 in
    let y6 = ap (rows_from 2 (at 0) (length t.stops)) r6 ∙ h.0 in
    let y7 = ap (rows_from 3 exit-back (length t.exits)) (r7 ∙ sym (append-nil x7)) ∙ k.0 in
    λ i. record { file = record { name = t.file.name; version = t.file.version; date = sym dateless i }; segments = a.0 i; lanes = y1 i; zones = y2 i; spots = y3 i; points = y4 i; checkpoints = y5 i; stops = y6 i; exits = y7 i }

-- ## Tables from bytes
abbrev file-kinds : List Kind
file-kinds = of_size 2 ∷ of_size 4 ∷ of_size 4 ∷ of_size 4 ∷ of_size 4 ∷ of_size 4 ∷ of_size 4 ∷ of_size 4 ∷ of_size 4 ∷ of-name ∷ of-name ∷ []

abbrev from-file : List Slot → Bytes → Tables Field ℕ
from-file f b = tables-from f (at 1 f) (at 2 f) (at 3 f) (at 4 f) (at 5 f) (at 6 f) (at 7 f) (at 8 f) (read (5 + length (laid f)) (shapes (at 1 f) (at 2 f) (at 3 f) (at 4 f) (at 5 f) (at 6 f) (at 7 f) (at 8 f)) (drop (length (laid f)) b))

unfoldable pub rows-of : Bytes → Tables Field ℕ
rows-of bytes = from-file (read 5 file-kinds (drop 5 bytes)) (drop 5 bytes)

-- the form of any rows
unfoldable pub form_of : Tables Field ℕ → Bytes
form_of t = this_version ∷ big_endian 4 (length (laid (items_of t))) ++ laid (items_of t)

-- THE LAW of rows
pub rows_there_of : (t : Tables Field ℕ) → Each Fit (with_length (file_rec t)) → Each Fit (rest_of t) → NamesLie 5 (items_of t) → t.file.date ≡ none → rows-of (form_of t) ≡ t
unfolding rows-of form_of
rows_there_of t f r p dateless =
    let head = with_length (file_rec t) in
    let placed = placed-cut 5 head (rest_of t) p in
    let b : drop 5 (this_version ∷ big_endian 4 (length (laid (items_of t))) ++ laid (items_of t)) ≡ laid head ++ laid (rest_of t) = back-of 4 (length (laid (items_of t))) (laid (items_of t)) ∙ laid_append head (rest_of t) in
    let file : read 5 file-kinds (laid head ++ laid (rest_of t)) ≡ head = items-read 5 head (laid (rest_of t)) f placed.0 in
    let left : drop (length (laid head)) (laid head ++ laid (rest_of t)) ≡ laid (rest_of t) = drop_at (laid head) (laid (rest_of t)) (length (laid head)) refl in
    let rest : read (5 + length (laid head)) (map shape (rest_of t)) (laid (rest_of t)) ≡ rest_of t = ap (read (5 + length (laid head)) (map shape (rest_of t))) (sym (append-nil (laid (rest_of t)))) ∙ items-read (5 + length (laid head)) (rest_of t) [] r placed.1 in
    ap (λ (x : Bytes). from-file (read 5 file-kinds x) x) b
    ∙ ap (λ (h : List Slot). from-file h (laid head ++ laid (rest_of t))) file
    ∙ ap (λ (x : Bytes). tables-from head (length t.segments) (length t.lanes) (length t.zones) (length t.spots) (length t.points) (length t.checkpoints) (length t.stops) (length t.exits) (read (5 + length (laid head)) (shapes (length t.segments) (length t.lanes) (length t.zones) (length t.spots) (length t.points) (length t.checkpoints) (length t.stops) (length t.exits)) x)) left
    ∙ ap (λ (l : List Slot). tables-from head (length t.segments) (length t.lanes) (length t.zones) (length t.spots) (length t.points) (length t.checkpoints) (length t.stops) (length t.exits) l) (ap (λ (s : List Kind). read (5 + length (laid head)) s (laid (rest_of t))) (sym (shape-rest t)) ∙ rest)
    ∙ tables-read t dateless
