-- The laws of records that all have the same size. Assumes nothing.
use mathlib.Core.Path.{◌≡◌, refl, sym, ap, ◌∙◌}
use mathlib.Core.Bool.{Bool, true, false, ◌&&◌}
use Prim.Native.Nat.{ℕ, suc, ◌+◌, ◌-◌, ◌≤◌, ◌<◌}
use native.Mathlib.Omega.{arith}
use borrow.Author.Tests.{leb-true, le-leb, lt-leb}
use lib.ListN.{length, length-drop, get_or, drop}
use lib.Seq.{drop-drop}
use lib.Dec.{leb, eqb}
use Rattle.terms.specs.Ascii.{Bytes}
use Rattle.terms.specs.Words.{pick}
use Rattle.terms.proofs.Tests.{clash}
use Rattle.packed_rows.specs.Walk.{two}
use Rattle.packed_rows.specs.Fixed.{record_here, records_here}
use Rattle.packed_rows.proofs.Laws.{one_done, two-on}

-- ## One
pub here-short : (b : Bytes) (at size : ℕ) → length b - at < 2 + size → false ≡ record_here size (drop at b)
unfolding record_here
here-short b at size h =
    let d = length-drop at b in
    sym (ap (λ (t : Bool). t && eqb (two (get_or (drop at b) 0 0) (get_or (drop at b) 1 0)) size) (lt-leb (2 + size) (length (drop at b)) (omega arith)))

pub here-read : (b : Bytes) (at size n : ℕ) → 2 + size ≤ length b - at → n ≡ two (get_or b at 0) (get_or b (at + 1) 0) → eqb n size ≡ record_here size (drop at b)
unfolding record_here
here-read b at size n h e =
    let d = length-drop at b in
    ap (λ (m : ℕ). eqb m size) e
    ∙ sym (ap (λ (t : Bool). t && eqb (two (get_or (drop at b) 0 0) (get_or (drop at b) 1 0)) size) (le-leb (2 + size) (length (drop at b)) (omega arith))
    ∙ ap (λ (l : Bytes). eqb (two (get_or l 0 0) (get_or l 1 0)) size) (two-on b at (omega arith)))

first_true : (a b : Bool) → (a && b) ≡ true → a ≡ true
first_true true b e = refl
first_true false b e = clash (sym e)

pub here-inside : (b : Bytes) (at size : ℕ) → record_here size (drop at b) ≡ true → at + 2 + size ≤ length b
unfolding record_here
here-inside b at size h =
    let d = length-drop at b in
    let l = leb-true (2 + size) (length (drop at b)) (first_true (leb (2 + size) (length (drop at b))) (eqb (two (get_or (drop at b) 0 0) (get_or (drop at b) 1 0)) size) h) in
    omega arith

-- ## So many
more_of : (k size : ℕ) (b : Bytes) → records_here (suc k) size b ≡ pick (record_here size b) (records_here k size (drop (2 + size) b)) false
unfolding records_here
more_of k size b = refl

module _ (b : Bytes) (at size n k : ℕ) where
  next-of : k < n → records_here (n - k) size (drop at b) ≡ pick (record_here size (drop at b)) (records_here (n - (k + 1)) size (drop (2 + size) (drop at b))) false
  next-of h = one_done (λ (i : ℕ). records_here i size (drop at b)) n k h ∙ more_of (n - (k + 1)) size (drop at b)

  pub again : k < n → record_here size (drop at b) ≡ true → records_here (n - (k + 1)) size (drop (at + 2 + size) b) ≡ records_here (n - k) size (drop at b)
  again h e =
      let s : at + 2 + size ≡ at + (2 + size) = omega arith in
      ap (λ (i : ℕ). records_here (n - (k + 1)) size (drop i b)) s ∙ ap (records_here (n - (k + 1)) size) (sym (drop-drop (2 + size) at b))
      ∙ sym (next-of h ∙ ap (λ (t : Bool). pick t (records_here (n - (k + 1)) size (drop (2 + size) (drop at b))) false) e)

  pub stopped : k < n → record_here size (drop at b) ≡ false → false ≡ records_here (n - k) size (drop at b)
  stopped h e = sym (next-of h ∙ ap (λ (t : Bool). pick t (records_here (n - (k + 1)) size (drop (2 + size) (drop at b))) false) e)

  pub ended-all : n ≤ k → true ≡ records_here (n - k) size (drop at b)
  unfolding records_here
  ended-all h = let e : n - k ≡ 0 = omega arith in sym (ap (λ (i : ℕ). records_here i size (drop at b)) e)
