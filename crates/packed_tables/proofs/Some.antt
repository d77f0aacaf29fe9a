-- Unpacking: whether bytes are a network's form is decided, and there is a reply that the contract allows, for all bytes and tables. Assumes nothing.
use Rattle.std.specs.Prelude.{Ok, Err}
use Rattle.replies.specs.Types.{RndfReply}
use mathlib.Core.Path.{◌≡◌, refl, sym, ap, subst, ◌∙◌}
use mathlib.Core.List.{List, [], ◌∷◌, ◌++◌, head-eq_of_cons-eq, tail-eq_of_cons-eq, nil≢cons, cons≢nil}
use mathlib.Core.Option.{Option, none, some}
use mathlib.Core.Bool.{Bool, true, false}
use mathlib.Core.Logic.{◌⊎◌, inl, inr}
use Prim.Native.Nat.{ℕ, zero, suc, ◌+◌, ◌/◌, ◌≤◌, ◌<◌}
use native.Mathlib.Omega.{arith}
use lib.ListN.{length, take, drop, take-append-drop}
use lib.Seq.{drop_at}
use Rattle.terms.specs.Ascii.{Bytes}
use Rattle.terms.specs.Words.{Each, perhaps, pick}
use Rattle.scan.specs.Allowed.{field_byte, all}
use Rattle.line.specs.Content.{Field, IsField}
use Rattle.law.specs.Network.{Network}
use Rattle.law.specs.Tables.{Lent, HasRoom, filled, zeros, segment_rows, lane_rows_of, zone_rows, spot_rows, point_rows, checkpoint_rows, stop_rows, exit_rows}
use Rattle.grammar.specs.Tables.{Tables}
use Rattle.grammar.proofs.Rows.{each-behind}
use Rattle.house_text.specs.Names.{IsName}
use Rattle.output.specs.Packed.{big_endian}
use Rattle.output.proofs.Packed.{packed-long}
use Rattle.packed_law.specs.Packed.{this_version, Slot, figure, angle, title, slot_bytes, LiesAt, NamesLie, OfThisVersion, LengthsRight, AreRecords}
use Rattle.packed_rows.specs.Walk.{walk, walked}
use Rattle.packed_rows.proofs.Walked.{walk-right, walk-all}
use Rattle.replies.specs.Replies.{longest, refusal, rows_used_of, network_file}
use Rattle.unpackings.specs.Unpacks.{IsPackedFormOf, UnpackRefuses, Unpacks, too_long, other_version, cut_short, no_network, no_room, refused, unpacked}
use Rattle.unpackings.proofs.OneNetwork.{items_of}
use Rattle.row_network.specs.Consistent.{Consistent}
use Rattle.row_network.specs.Made.{network_of}
use Rattle.row_network.proofs.Decided.{Decided, also, same_as, each-decided, equal, at_most, below, between, decided}
use Rattle.packed_tables.proofs.Reading.{rows-of, form_of}
use Rattle.packed_tables.proofs.Names.{TableNames}
use Rattle.packed_tables.proofs.Forms.{IsForm, form-made, form-only}

-- ## Each part is decided
same_bytes : (l l' : Bytes) → Decided (l ≡ l')
same_bytes [] [] = inl refl
same_bytes [] (b ∷ l') = inr (λ e. nil≢cons e)
same_bytes (a ∷ l) [] = inr (λ e. cons≢nil e)
same_bytes (a ∷ l) (b ∷ l') = same_as (λ x. λ i. x.0 i ∷ x.1 i) (λ e. (head-eq_of_cons-eq e, tail-eq_of_cons-eq e)) (also (equal a b) (same_bytes l l'))

in_place : (place : ℕ) (i : Slot) → Decided (LiesAt place i)
in_place place (figure k n) = inl tt
in_place place (angle z) = inl tt
in_place place (title none) = inl tt
in_place place (title (some v)) = equal v.start (place + 2)

placed : (place : ℕ) (l : List Slot) → Decided (NamesLie place l)
unfolding NamesLie
placed place [] = inl tt
placed place (i ∷ l) = also (in_place place i) (placed (place + length (slot_bytes i)) l)

so : (b : Bool) → Decided (b ≡ true)
so true = inl refl
so false = inr (λ (e : false ≡ true). subst (λ (x : Bool). pick x ⊥ (Unit {0})) e tt)

is_name : (v : Field) → Decided (IsName v)
is_name v = same_as (λ x. record { is_field = record { some = x.0; allowed = x.1.0 }; long = x.1.1 }) (λ x. (x.is_field.some, (x.is_field.allowed, x.long))) (also (below 0 (length v.bytes)) (also (so (all field_byte v.bytes)) (between 1 128 (length v.bytes))))

are-names : (v : Option Field) → Decided (Each IsName (perhaps v))
are-names v = each-decided IsName is_name (perhaps v)

table-names : (t : Tables Field ℕ) → Decided (TableNames t)
table-names t = same_as (λ x. record { name = x.0; version = x.1.0; date = x.1.1.0; segments = x.1.1.1.0; zones = x.1.1.1.1 }) (λ x. (x.name, (x.version, (x.date, (x.segments, x.zones)))))
    (also (is_name t.file.name) (also (are-names t.file.version) (also (are-names t.file.date)
    (also (each-decided (λ r. Each IsName (perhaps r.name)) (λ r. are-names r.name) t.segments) (each-decided (λ r. Each IsName (perhaps r.name)) (λ r. are-names r.name) t.zones)))))

no-date : (v : Option Field) → Decided (v ≡ none)
no-date none = inl refl
no-date (some v) = inr (λ (e : some v ≡ none). let z : ◌≡◌ {A = ℕ} 0 1 = cc in omega arith)

-- 29 is decided
pub is_form : (t : Tables Field ℕ) (bytes : Bytes) → Decided (IsForm t bytes)
is_form t bytes = same_as (λ x. record { form = x.0; placed = x.1.0; dateless = x.1.1.0; consistent = x.1.1.1.0; names = x.1.1.1.1 }) (λ x. (x.form, (x.placed, (x.dateless, (x.consistent, x.names)))))
    (also (same_bytes bytes (form_of t)) (also (placed 5 (items_of t)) (also (no-date t.file.date) (also (decided t) (table-names t)))))

of-version : (bytes : Bytes) → Decided (OfThisVersion bytes)
of-version [] = inr (λ x. nil≢cons x.is)
of-version (b ∷ l) = same_as (λ e. record { behind = l; is = λ i. e i ∷ l }) (λ x. head-eq_of_cons-eq x.is) (equal b this_version)

abbrev Small : Bytes → Type 0
Small = Each (λ b. b < 256)

framed-so : (bytes : Bytes) → Small bytes → Decided (LengthsRight bytes)
framed-so [] s = inr (λ x. nil≢cons x.is)
framed-so (b ∷ l) s = same_as
    (λ x. record { version = b; behind = drop 4 l; is = ap (λ (r : Bytes). b ∷ r) x.0; each = walk-right (length (drop 4 l)) (drop 4 l) (each-behind (λ b. b < 256) (take 4 l) (drop 4 l) (subst Small (sym (take-append-drop 4 l)) s.1)) x.1 })
    (λ x. let e = tail-eq_of_cons-eq x.is in
    let d : drop 4 l ≡ x.behind = ap (drop 4) e ∙ drop_at (big_endian 4 (length x.behind)) x.behind 4 (packed-long 4 (length x.behind)) in
    (subst (λ (r : Bytes). l ≡ big_endian 4 (length r) ++ r) (sym d) e, subst (λ (r : Bytes). walked r ≡ true) (sym d) (walk-all x.each (length x.behind) (omega arith))))
    (also (same_bytes l (big_endian 4 (length (drop 4 l)) ++ drop 4 l)) (so (walked (drop 4 l))))

roomy : (n : Network Field) (t : Lent) → Decided (HasRoom n t)
roomy n t = same_as (λ x. record { segments = x.0; lanes = x.1.0; zones = x.1.1.0; spots = x.1.1.1.0; points = x.1.1.1.1.0; checkpoints = x.1.1.1.1.1.0; stops = x.1.1.1.1.1.1.0; exits = x.1.1.1.1.1.1.1 })
    (λ x. (x.segments, (x.lanes, (x.zones, (x.spots, (x.points, (x.checkpoints, (x.stops, x.exits))))))))
    (also (at_most (length (segment_rows n)) (length t.segments / 4)) (also (at_most (length (lane_rows_of n)) (length t.lanes / 5)) (also (at_most (length (zone_rows n)) (length t.zones / 6)) (also (at_most (length (spot_rows n)) (length t.spots / 2))
    (also (at_most (length (point_rows n)) (length t.points / 2)) (also (at_most (length (checkpoint_rows n)) (length t.checkpoints / 2)) (also (at_most (length (stop_rows n)) (length t.stops / 1)) (at_most (length (exit_rows n)) (length t.exits / 2)))))))))

-- ## THE REPLY
module _ (bytes : Bytes) (t : Lent) (small : Small bytes) where
  abbrev Replied : Type 0
  Replied = (r : RndfReply) × ((l : Lent) × Unpacks bytes t r l)

  refusing : (file number : ℕ) → UnpackRefuses bytes t file number → Replied
  refusing file k x = (Err (refusal file 0 k 0), (zeros t, refused file k x refl refl))

  roomed : (n : Network Field) → length bytes ≤ longest → IsPackedFormOf n bytes → Decided (HasRoom n t) → Replied
  roomed n h x (inl r) = (Ok (rows_used_of n, network_file n), (filled n t, unpacked n h x r refl refl))
  roomed n h x (inr r) = refusing 1 11 (no_room n h x r)

  formed : length bytes ≤ longest → OfThisVersion bytes → LengthsRight bytes → Decided (IsForm (rows-of bytes) bytes) → Replied
  formed h v f (inl x) = let n = network_of (rows-of bytes) in roomed n h (form-made (rows-of bytes) bytes x) (roomy n t)
  formed h v f (inr x) = refusing 0 29 (no_network h v f (λ n y. x (form-only n bytes h y).1))

  framed-or : length bytes ≤ longest → OfThisVersion bytes → Decided (LengthsRight bytes) → Replied
  framed-or h v (inl f) = formed h v f (is_form (rows-of bytes) bytes)
  framed-or h v (inr f) = refusing 0 28 (cut_short h v f)

  versioned : length bytes ≤ longest → Decided (OfThisVersion bytes) → Replied
  versioned h (inl v) = framed-or h v (framed-so bytes small)
  versioned h (inr v) = refusing 0 27 (other_version h v)

  sized : Decided (length bytes ≤ longest) → Replied
  sized (inl h) = versioned h (of-version bytes)
  sized (inr h) = refusing 1 1 (too_long (over (length bytes) longest h))
    where
      over : (a b : ℕ) → (a ≤ b → ⊥) → b < a
      over a b h = omega (arith, h)

  -- one reply there is, for bytes; unpackings/proofs/Settled: no second
  pub unpack-some : (r : RndfReply) × ((l : Lent) × Unpacks bytes t r l)
  unpack-some = sized (at_most (length bytes) longest)
