-- A later statement stands on a later line. Assumes nothing.
use mathlib.Core.Path.{◌≡◌, refl, ap}
use mathlib.Core.List.{List, [], ◌∷◌}
use mathlib.Core.Bool.{Bool, true, false}
use Prim.Native.Nat.{ℕ, zero, suc, ◌+◌, ◌≤◌, ◌<◌}
use native.Mathlib.Omega.{arith}
use lib.ListN.{length}
use Rattle.terms.specs.Ascii.{Bytes}
use Rattle.line.specs.Lines.{lines_of}
use Rattle.walk.specs.Standing.{Where, place, speaks, if_speaking, standing, places_in}
use Rattle.walk.proofs.SeenLaws.{line_at}

-- lines are numbered from the first on
not-before : (start i : ℕ) (ls : List Bytes) (j : ℕ) → j < length (standing start i ls) → i ≤ line_at (standing start i ls) j
unfolding standing
not-before start i [] j h = absurd (omega arith)
not-before start i (l ∷ ls) j h = go (speaks start l) j h (not-before (start + suc (length l)) (suc i) ls)
  where
    ws : List Where
    ws = standing (start + suc (length l)) (suc i) ls

    go : (b : Bool) (j : ℕ) → j < length (if_speaking b (place start i l) ws) → ((j : ℕ) → j < length ws → suc i ≤ line_at ws j) → i ≤ line_at (if_speaking b (place start i l) ws) j
    go true zero h ih = omega arith
    go true (suc j) h ih = let x = ih j (omega arith) in omega arith
    go false j h ih = let x = ih j h in omega arith

grow : (start i : ℕ) (ls : List Bytes) (j k : ℕ) → j < k → k < length (standing start i ls) → line_at (standing start i ls) j < line_at (standing start i ls) k
unfolding standing
grow start i [] j k e h = absurd (omega arith)
grow start i (l ∷ ls) j k e h = go (speaks start l) j k e h (not-before (start + suc (length l)) (suc i) ls) (grow (start + suc (length l)) (suc i) ls)
  where
    ws : List Where
    ws = standing (start + suc (length l)) (suc i) ls

    go : (b : Bool) (j k : ℕ) → j < k → k < length (if_speaking b (place start i l) ws) → ((j : ℕ) → j < length ws → suc i ≤ line_at ws j) → ((j k : ℕ) → j < k → k < length ws → line_at ws j < line_at ws k)
        → line_at (if_speaking b (place start i l) ws) j < line_at (if_speaking b (place start i l) ws) k
    go true zero zero e h low ih = absurd (omega arith)
    go true zero (suc k) e h low ih = let x = low k (omega arith) in omega arith
    go true (suc j) zero e h low ih = absurd (omega arith)
    go true (suc j) (suc k) e h low ih = ih j k (omega arith) (omega arith)
    go false j k e h low ih = ih j k e h

-- one of two numbers is less, or they are equal
pub order : {R : Type 0} (i j : ℕ) → (i < j → R) → (i ≡ j → R) → (j < i → R) → R
order zero zero f g h = g refl
order zero (suc j) f g h = f (omega arith)
order (suc i) zero f g h = h (omega arith)
order (suc i) (suc j) f g h = order i j (λ l. f (omega arith)) (λ e. g (ap suc e)) (λ l. h (omega arith))

-- so the earlier of two statements is that of the earlier of two lines
module _ (text : Bytes) where
  pub earlier-line : (i j : ℕ) → i < j → j < length (places_in text) → line_at (places_in text) i < line_at (places_in text) j
  earlier-line = grow 0 1 (lines_of text)

  pub earlier-place : (i j : ℕ) → i < length (places_in text) → line_at (places_in text) i < line_at (places_in text) j → i < j
  earlier-place i j h l = order i j (λ d. d) (λ e. let n = ap (line_at (places_in text)) e in absurd (omega arith)) (λ d. let n = earlier-line j i d h in absurd (omega arith))

  pub same_place : (i j : ℕ) → i < length (places_in text) → j < length (places_in text) → line_at (places_in text) i ≡ line_at (places_in text) j → i ≡ j
  same_place i j h g e = order i j (λ d. let n = earlier-line i j d g in absurd (omega arith)) (λ d. d) (λ d. let n = earlier-line j i d h in absurd (omega arith))
