-- THE LAW of the search by halving: where the rows before one are below and the others are not, it finds that one. And the laws of its loop. Assumes nothing.
use mathlib.Core.Path.{◌≡◌, refl, sym, ap, ◌∙◌}
use mathlib.Core.Bool.{Bool, true, false}
use Prim.Native.Nat.{ℕ, zero, suc, ◌+◌, ◌-◌, ◌*◌, ◌/◌, ◌≤◌, ◌<◌}
use native.Mathlib.Nat.{div-zero}
use native.Mathlib.Omega.{arith}
use lib.Dec.{ltb}
use borrow.Author.Tests.{lt-ltb, le-ltb, ltb-true, ltb-false}
use Rattle.terms.specs.Words.{pick}
use Rattle.rows.specs.Lay.{rows_of}
use Rattle.rows.proofs.Lay.{row_fits}
use Rattle.moves.specs.Halving.{halved}

-- the first word of a row that is there
pub word-there : (len stride row : ℕ) → row < rows_of len stride → row * stride < len
word-there len zero row h = let z = div-zero len in absurd (omega arith)
word-there len (suc s) row h = let f = row_fits len (suc s) row h in omega arith

module _ (column : ℕ → ℕ) (least : ℕ) where
  -- more halvings than rows are left change nothing
  pub halvings-enough : (k m low left : ℕ) → left ≤ k → left ≤ m → halved column least k low left ≡ halved column least m low left
  unfolding halved
  halvings-enough zero zero low left h g = refl
  halvings-enough zero (suc m) low zero h g = refl
  halvings-enough zero (suc m) low (suc left) h g = absurd (omega arith)
  halvings-enough (suc k) zero low zero h g = refl
  halvings-enough (suc k) zero low (suc left) h g = absurd (omega arith)
  halvings-enough (suc k) (suc m) low zero h g = refl
  halvings-enough (suc k) (suc m) low (suc left) h g =
      let up = halvings-enough k m (suc (low + suc left / 2)) (left - suc left / 2) (omega arith) (omega arith) in
      let down = halvings-enough k m low (suc left / 2) (omega arith) (omega arith) in
      λ i. pick (ltb (column (low + suc left / 2)) least) (up i) (down i)

  -- ## One step of the loop
  module _ (low left : ℕ) (some : 0 < left) where
    pub upper_half : column (low + left / 2) < least → halved column least (left - 1 - left / 2) (low + left / 2 + 1) (left - 1 - left / 2) ≡ halved column least left low left
    unfolding halved
    upper_half h = go left some h
      where
        go : (left : ℕ) → 0 < left → column (low + left / 2) < least → halved column least (left - 1 - left / 2) (low + left / 2 + 1) (left - 1 - left / 2) ≡ halved column least left low left
        go zero s h = absurd (omega arith)
        go (suc k) s h =
            let e : suc k - 1 - suc k / 2 ≡ k - suc k / 2 = omega arith in
            let f : low + suc k / 2 + 1 ≡ suc (low + suc k / 2) = omega arith in
            (λ i. halved column least (e i) (f i) (e i))
            ∙ halvings-enough (k - suc k / 2) k (suc (low + suc k / 2)) (k - suc k / 2) (omega arith) (omega arith)
            ∙ rw (lt-ltb (column (low + suc k / 2)) least h)

    pub lower_half : least ≤ column (low + left / 2) → halved column least (left / 2) low (left / 2) ≡ halved column least left low left
    unfolding halved
    lower_half h = go left some h
      where
        go : (left : ℕ) → 0 < left → least ≤ column (low + left / 2) → halved column least (left / 2) low (left / 2) ≡ halved column least left low left
        go zero s h = absurd (omega arith)
        go (suc k) s h =
            halvings-enough (suc k / 2) k low (suc k / 2) (omega arith) (omega arith)
            ∙ rw (le-ltb (column (low + suc k / 2)) least h)

  pub nothing_left : (low left : ℕ) → left ≤ 0 → halved column least left low left ≡ low
  unfolding halved
  nothing_left low zero h = refl
  nothing_left low (suc left) h = absurd (omega arith)

  -- ## What is found
  pub parted : (k low left row : ℕ) → left ≤ k → low ≤ row → row ≤ low + left → ((i : ℕ) → low ≤ i → i < row → column i < least) → ((i : ℕ) → row ≤ i → i < low + left → least ≤ column i) → halved column least k low left ≡ row
  unfolding halved
  parted zero low left row h a b before behind = omega arith
  parted (suc k) low zero row h a b before behind = omega arith
  parted (suc k) low (suc left) row h a b before behind = go (ltb (column (low + suc left / 2)) least) refl
      (λ s. parted k (suc (low + suc left / 2)) (left - suc left / 2) row (omega arith) s (omega arith) (λ i l m. before i (omega arith) m) (λ i l m. behind i l (omega arith)))
      (λ s. parted k low (suc left / 2) row (omega arith) a s before (λ i l m. behind i l (omega arith)))
    where
      go : (t : Bool) → ltb (column (low + suc left / 2)) least ≡ t
          → (suc (low + suc left / 2) ≤ row → halved column least k (suc (low + suc left / 2)) (left - suc left / 2) ≡ row)
          → (row ≤ low + suc left / 2 → halved column least k low (suc left / 2) ≡ row)
          → pick t (halved column least k (suc (low + suc left / 2)) (left - suc left / 2)) (halved column least k low (suc left / 2)) ≡ row
      go true e up down = up (side (ltb row (suc (low + suc left / 2))) refl)
        where
          side : (t : Bool) → ltb row (suc (low + suc left / 2)) ≡ t → suc (low + suc left / 2) ≤ row
          side true f = let x = behind (low + suc left / 2) (let y = ltb-true row (suc (low + suc left / 2)) f in omega arith) (omega arith) in let z = ltb-true (column (low + suc left / 2)) least e in absurd (omega arith)
          side false f = ltb-false row (suc (low + suc left / 2)) f
      go false e up down = down (side (ltb (low + suc left / 2) row) refl)
        where
          side : (t : Bool) → ltb (low + suc left / 2) row ≡ t → row ≤ low + suc left / 2
          side true f = let x = before (low + suc left / 2) (omega arith) (ltb-true (low + suc left / 2) row f) in let z = ltb-false (column (low + suc left / 2)) least e in absurd (omega arith)
          side false f = ltb-false (low + suc left / 2) row f

  -- and it never goes behind the last
  pub not_behind : (k low left : ℕ) → halved column least k low left ≤ low + left
  unfolding halved
  not_behind zero low left = omega arith
  not_behind (suc k) low zero = omega arith
  not_behind (suc k) low (suc left) = go (ltb (column (low + suc left / 2)) least) (not_behind k (suc (low + suc left / 2)) (left - suc left / 2)) (not_behind k low (suc left / 2))
    where
      go : (t : Bool) → halved column least k (suc (low + suc left / 2)) (left - suc left / 2) ≤ suc (low + suc left / 2) + (left - suc left / 2) → halved column least k low (suc left / 2) ≤ low + suc left / 2
          → pick t (halved column least k (suc (low + suc left / 2)) (left - suc left / 2)) (halved column least k low (suc left / 2)) ≤ low + suc left
      go true up down = omega arith
      go false up down = omega arith
