-- Fields of a record: read four bytes at a time, as code reads them, and one by one, as the law reads them. Assumes nothing.
use mathlib.Core.Path.{◌≡◌, refl, sym, ap, subst, ◌∙◌}
use mathlib.Core.List.{List, [], ◌∷◌}
use mathlib.Core.Bool.{true, ◌&&◌}
use Prim.Native.Nat.{ℕ, zero, suc, ◌+◌, ◌/◌, ◌%◌, ◌≤◌}
use native.Mathlib.Omega.{arith}
use lib.Dec.{leb, eqb}
use lib.ListN.{length, take, drop, length-drop}
use lib.Seq.{drop-drop, length-take-le}
use borrow.Author.Tests.{leb-true}
use Rattle.terms.specs.Ascii.{Bytes}
use Rattle.rows.specs.Read.{the_stretch_of}
use Rattle.room.specs.Room.{fitted}
use Rattle.room.proofs.Fitted.{fitted-kept}
use Rattle.table_words.specs.FileRows.{shown_name}
use Rattle.law_tables.proofs.SameRows.{start_of, length-of}
use Rattle.packed_rows.specs.Points.{four_at_of}
use Rattle.unpackings.proofs.Cutting.{Kind}
use Rattle.packed_tables.proofs.Numbers.{value, value-from}
use Rattle.packed_tables.proofs.Reading.{size-here, named-at}
use Rattle.packed_tables.proofs.Records.{Small, small_drop, both_true, sizes, there, here, whole-size}
use Rattle.packed_tables.proofs.Points.{four-value}
use Rattle.unpacked_rows.specs.Told.{upper, lower, name_told}

-- ## Four bytes and their parts
pub record Halves (x : Bytes) : Type 0 where
  pub front : upper (value (take 4 x)) ≡ value (take 2 x)
  pub back : lower (value (take 4 x)) ≡ value (take 2 (drop 2 x))
  pub third : value (take 4 x) / 256 % 256 ≡ value (take 1 (drop 2 x))
  pub fourth : value (take 4 x) % 256 ≡ value (take 1 (drop 1 (drop 2 x)))

halves : (x : Bytes) → Small x → 4 ≤ length x → Halves x
unfolding value-from
halves [] s h = absurd (omega arith)
halves (a ∷ []) s h = absurd (omega arith)
halves (a ∷ (b ∷ [])) s h = absurd (omega arith)
halves (a ∷ (b ∷ (c ∷ []))) s h = absurd (omega arith)
halves (a ∷ (b ∷ (c ∷ (d ∷ x)))) s h = let y = s.1.1.0 in let z = s.1.1.1.0 in record { front = omega arith; back = omega arith; third = omega arith; fourth = omega arith }

-- four bytes of the whole, at a place, and what stands there
pub record Word (b : Bytes) (place : ℕ) (x : Bytes) : Type 0 where
  pub stands : drop place b ≡ x
  pub is : four_at_of b place ≡ value (take 4 x)
  pub parts : Halves x

-- from one place on to the next
pub word_on : (b : Bytes) → Small b → (p q k : ℕ) (x : Bytes) → drop p b ≡ x → q ≡ p + k → 4 + k ≤ length x → Word b q (drop k x)
word_on b s p q k x e on h =
    let d : drop q b ≡ drop k x = ap (λ (j : ℕ). drop j b) on ∙ sym (drop-drop k p b) ∙ ap (drop k) e in
    let m = length-drop k x in
    let n = length-drop q b in
    let l : length (drop q b) ≡ length (drop k x) = ap (λ (y : Bytes). length y) d in
    record {
      stands = d;
      is = four-value b q (omega arith) ∙ ap (λ (y : Bytes). value (take 4 y)) d;
      parts = halves (drop k x) (subst Small d (small_drop q b s)) (omega arith);
    }

-- what is left behind so many bytes
pub left_over : (k m : ℕ) (x : Bytes) → k + m ≤ length x → m ≤ length (drop k x)
left_over k m x h = let d = length-drop k x in omega arith

-- ## A record that is here is inside
there-inside : (ks : List Kind) (b : Bytes) → there ks b ≡ true → sizes ks b ≤ length b
unfolding there sizes
there-inside [] b e = omega arith
there-inside (k ∷ ks) b e =
    let t = both_true (leb (size-here k b) (length b)) (there ks (drop (size-here k b) b)) e in
    let l = leb-true (size-here k b) (length b) t.0 in
    let m = there-inside ks (drop (size-here k b) b) t.1 in
    let d = length-drop (size-here k b) b in
    omega arith

pub here-inside : (ks : List Kind) (b : Bytes) → here ks b ≡ true → whole-size ks b ≤ length b
unfolding here
here-inside ks b e =
    let t = both_true (leb 2 (length b)) (there ks (drop 2 b) && eqb (value (take 2 b)) (sizes ks (drop 2 b))) e in
    let u = both_true (there ks (drop 2 b)) (eqb (value (take 2 b)) (sizes ks (drop 2 b))) t.1 in
    let l = leb-true 2 (length b) t.0 in
    let m = there-inside ks (drop 2 b) u.0 in
    let d = length-drop 2 b in
    omega arith

-- ## A name: its start and length
pub name-so : (place start size : ℕ) (x : Bytes) → size ≤ length x → start ≡ place + 2 → start ≤ 4294967295 → shown_name start_of length-of (named-at place size x) ≡ name_told (fitted start) size
name-so place start zero x h e f = refl
name-so place start (suc k) x h e f =
    let begins = sym e ∙ sym (fitted-kept start f) in
    let long = length-take-le (suc k) x h in
    λ i. the_stretch_of (begins i) (long i)
