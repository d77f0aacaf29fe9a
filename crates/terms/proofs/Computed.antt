-- What antt computes over a whole table, once: a rule written out is the rule at each place, and a test that passes at all places passes at each.
-- Assumes nothing.
use mathlib.Core.Path.{◌≡◌, refl, ap, sym, subst, ◌∙◌}
use mathlib.Core.List.{List, [], ◌∷◌}
use mathlib.Core.Bool.{Bool, true, ◌&&◌}
use Prim.Native.Nat.{ℕ, zero, suc, ◌+◌, ◌<◌}
use native.Mathlib.Nat.{add-zero, zero-add, add-suc, suc-add, le_of_suc-le-suc, not-suc-le-zero}
use lib.ListN.{length, get_or}
use Rattle.terms.proofs.Tests.{both}

module _ {A : Type 0} where
  -- the n values of f from i on
  abbrev pub tab : (ℕ → A) → ℕ → ℕ → List A
  tab f i zero = []
  tab f i (suc n) = f i ∷ tab f (suc i) n

  length-tab : (f : ℕ → A) (i n : ℕ) → length (tab f i n) ≡ n
  length-tab f i zero = refl
  length-tab f i (suc n) = ap suc (length-tab f (suc i) n)

  from : (f : ℕ → A) (d : A) (i n k : ℕ) → k < n → get_or (tab f i n) k d ≡ f (i + k)
  from f d i zero k h = absurd (not-suc-le-zero h)
  from f d i (suc n) zero h = ap f (sym (add-zero i))
  from f d i (suc n) (suc k) h = from f d (suc i) n k (le_of_suc-le-suc h) ∙ ap f (suc-add i k ∙ sym (add-suc i k))

  pub tab-at : (f : ℕ → A) (d : A) (n k : ℕ) → k < n → get_or (tab f 0 n) k d ≡ f k
  tab-at f d n k h = from f d 0 n k h ∙ ap f (zero-add k)

-- a test passes at each place of a list
abbrev pub every : {A : Type 0} → (A → Bool) → List A → Bool
every f [] = true
every f (a ∷ l) = f a && every f l

-- A TABLE'S RULE, PROVED ONCE: what one computed test says of all rows holds of each
pub every-at : {A : Type 0} (f : A → Bool) (l : List A) (i : ℕ) (d : A) → every f l ≡ true → i < length l → f (get_or l i d) ≡ true
every-at f [] i d e h = absurd (not-suc-le-zero h)
every-at f (a ∷ l) zero d e h = (both (f a) (every f l) e).0
every-at f (a ∷ l) (suc i) d e h = every-at f l i d (both (f a) (every f l) e).1 (le_of_suc-le-suc h)

-- the same, at each number below n
abbrev pub all_below : (ℕ → Bool) → ℕ → Bool
all_below f n = every f (tab (λ i. i) 0 n)

pub below : (f : ℕ → Bool) (n : ℕ) → all_below f n ≡ true → (k : ℕ) → k < n → f k ≡ true
below f n e k h =
    ap f (sym (tab-at (λ i. i) 0 n k h)) ∙ every-at f (tab (λ i. i) 0 n) k 0 e (subst (λ (m : ℕ). k < m) (sym (length-tab (λ i. i) 0 n)) h)
