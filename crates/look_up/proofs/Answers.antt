-- THE THEOREM of the look-up: an answer is right for every table and number (`point-some`; the function gives it), and no second one is (`point-one`).
-- And the laws of its loop. Assumes nothing.
use mathlib.Core.Path.{◌≡◌, refl, sym, ap, ◌∙◌}
use mathlib.Core.List.{List, [], ◌∷◌}
use mathlib.Core.Logic.{inl, inr}
use mathlib.Core.Bool.{Bool, true, false}
use Prim.Native.Nat.{ℕ, zero, suc, ◌+◌, ◌*◌, ◌<◌, ◌≤◌}
use native.Mathlib.Omega.{arith}
use lib.Dec.{ltb, eqb}
use lib.ListN.{length, get_or, take, drop, length-drop}
use borrow.Author.Tests.{ltb-true, ltb-false, eqb-true, eqb-false}
use Rattle.rows.specs.Lay.{rows_of, row_at}
use Rattle.rows.specs.Strides.{checkpoint_stride}
use Rattle.rows.proofs.Lay.{fits-row, row_inside, length-row, word-of-row}
use Rattle.look_up.specs.LookUp.{Row, NoneBefore, PointOf, first_row, no_row}

-- two numbers, neither below the other
ordered : {X : Type 0} (i j : ℕ) → (i < j → X) → (j < i → X) → (i ≡ j → X) → X
ordered {X} i j less more same = go (ltb i j) (ltb j i) refl refl
  where
    go : (s t : Bool) → ltb i j ≡ s → ltb j i ≡ t → X
    go true t e f = less (ltb-true i j e)
    go false true e f = more (ltb-true j i f)
    go false false e f = same (let a = ltb-false i j e in let b = ltb-false j i f in omega arith)

one-row : (t : List ℕ) (i j number p q : ℕ) → Row t i number p → Row t j number q → NoneBefore t i number → NoneBefore t j number → p ≡ q
one-row t i j number p q a b before before' =
    ordered i j (λ l. absurd (before' i p l a)) (λ l. absurd (before j q l b)) (λ e. let f : take 2 (drop (i * 2) t) ≡ take 2 (drop (j * 2) t) = ap (λ (k : ℕ). take 2 (drop (k * 2) t)) e in cc)

pub point-one : (t : List ℕ) (number p q : ℕ) → PointOf t number p → PointOf t number q → p ≡ q
point-one t number p q (first_row i n a before) (first_row j m b before') = one-row t i j number p q a b before before'
point-one t number p q (first_row i n a before) (no_row (inl z) e) = absurd (n z)
point-one t number p q (first_row i n a before) (no_row (inr none) e) = absurd (none i p a)
point-one t number p q (no_row (inl z) e) (first_row j m b before) = absurd (m z)
point-one t number p q (no_row (inr none) e) (first_row j m b before) = absurd (none j q b)
point-one t number p q (no_row x e) (no_row y f) = e ∙ sym f

-- ## The loop's laws
two-words : (w : List ℕ) → length w ≡ 2 → w ≡ get_or w 0 0 ∷ get_or w 1 0 ∷ []
two-words [] e = absurd (omega arith)
two-words (a ∷ []) e = absurd (omega arith)
two-words (a ∷ b ∷ []) e = refl
two-words (a ∷ b ∷ c ∷ l) e = absurd (omega arith)

-- one word is no row
short : (l : List ℕ) (a b : ℕ) → (2 ≤ length l → ⊥) → take 2 l ≡ a ∷ b ∷ [] → ⊥
short [] a b h e = let z : ◌≡◌ {A = ℕ} 0 2 = ap length e in omega arith
short (x ∷ []) a b h e = let z : ◌≡◌ {A = ℕ} 1 2 = ap length e in omega arith
short (x ∷ y ∷ l) a b h e = h (omega arith)

module _ (t : List ℕ) (i : ℕ) where
  -- the words of a row that is there
  pub row_words : i < rows_of (length t) checkpoint_stride → take 2 (drop (i * 2) t) ≡ get_or t (i * checkpoint_stride) 0 ∷ get_or t (i * checkpoint_stride + 1) 0 ∷ []
  row_words h =
      sym (row_inside checkpoint_stride t i h)
      ∙ two-words (row_at checkpoint_stride t i) (length-row checkpoint_stride t i h)
      ∙ rw (word-of-row checkpoint_stride t i 0 0 h (omega arith), word-of-row checkpoint_stride t i 1 0 h (omega arith)) (ap (λ (n : ℕ). get_or t n 0 ∷ get_or t (i * checkpoint_stride + 1) 0 ∷ []) (let e : i * checkpoint_stride + 0 ≡ i * checkpoint_stride = omega arith in e))

  -- one more row that is not it
  pub one_more : (number : ℕ) → i < rows_of (length t) checkpoint_stride → (get_or t (i * checkpoint_stride) 0 ≡ number → ⊥) → NoneBefore t i number → NoneBefore t (i + 1) number
  one_more number h other before j point l a = ordered i j (λ m. omega arith) (λ m. before j point m a) (λ e. other (let f : take 2 (drop (i * 2) t) ≡ take 2 (drop (j * 2) t) = ap (λ (k : ℕ). take 2 (drop (k * 2) t)) e in let g = row_words h in cc))

  -- none before the last is none at all
  pub none_at_all : (number : ℕ) → rows_of (length t) checkpoint_stride ≤ i → NoneBefore t i number → (j point : ℕ) → Row t j number point → ⊥
  none_at_all number h before j point a = ordered i j (λ m. outside j (omega arith) a) (λ m. before j point m a) (λ e. outside j (omega arith) a)
    where
      outside : (j : ℕ) → rows_of (length t) checkpoint_stride ≤ j → take 2 (drop (j * 2) t) ≡ number ∷ point ∷ [] → ⊥
      outside j h a = short (drop (j * 2) t) number point (λ l. let k = fits-row (length t) 2 j (omega arith) (let d = length-drop (j * 2) t in omega arith) in omega arith) a

-- ## An answer for every table and number
pub record Answered (t : List ℕ) (number : ℕ) : Type 0 where
  pub answer : ℕ
  pub right : PointOf t number answer

-- from row i on, where n rows are left
from : (t : List ℕ) (number : ℕ) → (number ≡ 0 → ⊥) → (n i : ℕ) → rows_of (length t) checkpoint_stride ≤ i + n → NoneBefore t i number → Answered t number
from t number some zero i h before = record { answer = 4294967295; right = no_row (inr (none_at_all t i number (omega arith) before)) refl }
from t number some (suc n) i h before = go (ltb i (rows_of (length t) checkpoint_stride)) (eqb (get_or t (i * checkpoint_stride) 0) number) refl refl (from t number some n (i + 1) (omega arith))
  where
    go : (s e : Bool) → ltb i (rows_of (length t) checkpoint_stride) ≡ s → eqb (get_or t (i * checkpoint_stride) 0) number ≡ e → (NoneBefore t (i + 1) number → Answered t number) → Answered t number
    go false e p q behind = record { answer = 4294967295; right = no_row (inr (none_at_all t i number (ltb-false i (rows_of (length t) checkpoint_stride) p) before)) refl }
    go true true p q behind =
        let there = row_words t i (ltb-true i (rows_of (length t) checkpoint_stride) p) in
        let same = eqb-true (get_or t (i * checkpoint_stride) 0) number q in
        record { answer = get_or t (i * checkpoint_stride + 1) 0; right = first_row i some (there ∙ rw same) before }
    go true false p q behind = behind (one_more t i number (ltb-true i (rows_of (length t) checkpoint_stride) p) (eqb-false (get_or t (i * checkpoint_stride) 0) number q) before)

pub point-some : (t : List ℕ) (number : ℕ) → Answered t number
point-some t number = go (eqb number 0) refl
  where
    go : (e : Bool) → eqb number 0 ≡ e → Answered t number
    go true q = record { answer = 4294967295; right = no_row (inl (eqb-true number 0 q)) refl }
    go false q = from t number (eqb-false number 0 q) (rows_of (length t) checkpoint_stride) 0 (omega arith) (λ j point l row. omega arith)
