-- The laws of records of checkpoints. Assumes nothing.
use mathlib.Core.Path.{◌≡◌, refl, sym, ap, ◌∙◌}
use mathlib.Core.List.{List, [], ◌∷◌, ◌++◌}
use mathlib.Core.Bool.{Bool, true, false, not}
use Prim.Native.Nat.{ℕ, suc, ◌+◌, ◌-◌, ◌≤◌, ◌<◌}
use native.Mathlib.Omega.{arith}
use lib.ListN.{length, drop}
use Rattle.terms.specs.Ascii.{Bytes}
use Rattle.terms.specs.Words.{pick}
use Rattle.terms.proofs.Tests.{clash}
use Rattle.units.specs.Made.{within}
use Rattle.units.proofs.Ranges.{inside, below, above}
use Rattle.fill.specs.FirstFaults.{is_among}
use Rattle.marks.specs.Marks.{Marks, is_marked_of, with_mark}
use Rattle.marks.proofs.Seen.{Marked, one_more}
use Rattle.packed_rows.specs.Fixed.{record_here}
use Rattle.packed_rows.proofs.Laws.{one_done}
use Rattle.packed_rows.proofs.FixedLaws.{here-inside}
use Rattle.packed_parts.specs.Numbers.{number_at, number_right, numbers_right}

-- ## One
module _ (b : Bytes) (at : ℕ) (there : ℕ → Bool) where
  abbrev fresh : Bool
  fresh = not (there (number_at b at))

  pub no_record : record_here 6 (drop at b) ≡ false → false ≡ number_right b at there
  unfolding number_right
  no_record e = sym (ap (λ (t : Bool). pick t (pick (within 1 (number_at b at)) fresh false) false) e)

  framed : record_here 6 (drop at b) ≡ true → number_right b at there ≡ pick (within 1 (number_at b at)) fresh false
  unfolding number_right
  framed e = ap (λ (t : Bool). pick t (pick (within 1 (number_at b at)) fresh false) false) e

  module _ (e : record_here 6 (drop at b) ≡ true) (n : ℕ) (d : n ≡ number_at b at) where
    pub too-low : n < 1 → false ≡ number_right b at there
    too-low h = sym (framed e ∙ ap (λ (t : Bool). pick t fresh false) (ap (within 1) (sym d) ∙ below 1 n h))

    pub too-high : 32768 < n → false ≡ number_right b at there
    too-high h = sym (framed e ∙ ap (λ (t : Bool). pick t fresh false) (ap (within 1) (sym d) ∙ above 1 n h))

    pub in-range : 1 ≤ n → n ≤ 32768 → not (there n) ≡ number_right b at there
    in-range l h = ap (λ (m : ℕ). not (there m)) d ∙ sym (framed e ∙ ap (λ (t : Bool). pick t fresh false) (ap (within 1) (sym d) ∙ inside (record { low = l; high = h })))

  pub number-inside : number_right b at there ≡ true → at + 8 ≤ length b
  unfolding number_right
  number-inside e = go (record_here 6 (drop at b)) refl e
    where
      go : (x : Bool) → record_here 6 (drop at b) ≡ x → pick x (pick (within 1 (number_at b at)) fresh false) false ≡ true → at + 8 ≤ length b
      go true d h = let k = here-inside b at 6 d in omega arith
      go false d h = clash (sym h)

-- ## The marks tell what was there
by-marks : {front : List ℕ} {marks : Marks} → Marked front marks → (b : Bytes) (at : ℕ) → number_right b at (is_marked_of marks) ≡ number_right b at (λ a. is_among a front)
unfolding number_right
by-marks {front} {marks} m b at = ap (λ (t : Bool). pick (record_here 6 (drop at b)) t false) (go (within 1 (number_at b at)) (m.tells (number_at b at)))
  where
    go : (x : Bool) → is_marked_of marks (number_at b at) ≡ pick x (is_among (number_at b at) front) false → pick x (not (is_marked_of marks (number_at b at))) false ≡ pick x (not (is_among (number_at b at) front)) false
    go true e = ap not e
    go false e = refl

-- ## So many
-- k of count are done: the marks at hand are those of their numbers, and what is left says the whole
pub record Marking (b : Bytes) (count from : ℕ) (marks : Marks) (at k : ℕ) : Type 0 where
  pub front : List ℕ
  pub marked : Marked front marks
  pub same : numbers_right (count - k) b at front ≡ numbers_right count b from []

pub none-done : (b : Bytes) (count from : ℕ) {marks : Marks} → Marked [] marks → Marking b count from marks from 0
none-done b count from m = let e : count - 0 ≡ count = omega arith in record { front = []; marked = m; same = ap (λ (j : ℕ). numbers_right j b from []) e }

more_numbers : (k : ℕ) (b : Bytes) (at : ℕ) (front : List ℕ) → numbers_right (suc k) b at front ≡ pick (number_right b at (λ a. is_among a front)) (numbers_right k b (at + 8) (front ++ (number_at b at ∷ []))) false
unfolding numbers_right
more_numbers k b at front = refl

module _ {b : Bytes} {count from at k : ℕ} {marks : Marks} (m : Marking b count from marks at k) where
  abbrev rest-of : ℕ → Bool
  rest-of n = numbers_right (count - (k + 1)) b (at + 8) (m.front ++ (n ∷ []))

  next-number : k < count → numbers_right count b from [] ≡ pick (number_right b at (is_marked_of marks)) (rest-of (number_at b at)) false
  next-number h =
      sym m.same ∙ one_done (λ (j : ℕ). numbers_right j b at m.front) count k h ∙ more_numbers (count - (k + 1)) b at m.front
      ∙ ap (λ (y : Bool). pick y (rest-of (number_at b at)) false) (sym (by-marks m.marked b at))

  pub again-number : (n : ℕ) → k < count → number_right b at (is_marked_of marks) ≡ true → n ≡ number_at b at → Marking b count from (with_mark marks n) (at + 8) (k + 1)
  again-number n h t e = record { front = m.front ++ (n ∷ []); marked = one_more m.marked n; same = ap rest-of e ∙ sym (next-number h ∙ ap (λ (y : Bool). pick y (rest-of (number_at b at)) false) t) }

  pub stopped-number : k < count → number_right b at (is_marked_of marks) ≡ false → false ≡ numbers_right count b from []
  stopped-number h t = sym (next-number h ∙ ap (λ (y : Bool). pick y (rest-of (number_at b at)) false) t)

  pub ended-numbers : count ≤ k → true ≡ numbers_right count b from []
  unfolding numbers_right
  ended-numbers h = let e : count - k ≡ 0 = omega arith in sym (ap (λ (j : ℕ). numbers_right j b at m.front) e) ∙ m.same
