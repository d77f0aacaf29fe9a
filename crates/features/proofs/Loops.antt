-- The laws of the loops: what is left to be put or done, one row further on, and when nothing is left. Assumes nothing.
use mathlib.Core.Path.{◌≡◌, refl, sym, ap, ◌∙◌}
use mathlib.Core.List.{List, []}
use Prim.Native.Nat.{ℕ, suc, ◌+◌, ◌-◌, ◌≤◌, ◌<◌}
use native.Mathlib.Omega.{arith}
use native.Mathlib.Numerals.{add-one}
use borrow.Author.Tests.{le-leb, lt-leb}
use Rattle.rows.specs.Read.{checkpoint_at_of}
use Rattle.features.specs.Drawn.{steps, part_end}

-- ## `steps`: what is left from row k on, of n rows
module _ {S : Type 0} (f : ℕ → S → S) where
  pub steps_all : (s : S) (n : ℕ) → steps f 0 (n - 0) s ≡ steps f 0 n s
  steps_all s n = ap (λ (i : ℕ). steps f 0 i s) (let e : n - 0 ≡ n = omega arith in e)

  step-again : (s : S) (k m : ℕ) → steps f (suc k) m (f k s) ≡ steps f k (suc m) s
  unfolding steps
  step-again s k m = refl

  pub steps-again : (s t : S) (k n : ℕ) → k < n → t ≡ f k s → steps f (k + 1) (n - (k + 1)) t ≡ steps f k (n - k) s
  steps-again s t k n h w =
      let e : suc (n - (k + 1)) ≡ n - k = omega arith in
      ap (λ (i : ℕ). steps f i (n - (k + 1)) t) (add-one k) ∙ ap (λ (x : S). steps f (suc k) (n - (k + 1)) x) w ∙ step-again s k (n - (k + 1)) ∙ ap (λ (i : ℕ). steps f k i s) e

  no_step : (s : S) (k : ℕ) → steps f k 0 s ≡ s
  unfolding steps
  no_step s k = refl

  pub steps-done : (s : S) (k n : ℕ) → n ≤ k → steps f k (n - k) s ≡ s
  steps-done s k n h = ap (λ (i : ℕ). steps f k i s) (let e : n - k ≡ 0 = omega arith in e) ∙ no_step s k

-- ## The end of a part
part-stop : (cs : List ℕ) (behind next k : ℕ) → behind ≤ (checkpoint_at_of cs next).point → part_end cs behind next (suc k) ≡ next
unfolding part_end
part-stop cs behind next k h = rw (le-leb behind (checkpoint_at_of cs next).point h)

part-go : (cs : List ℕ) (behind next k : ℕ) → (checkpoint_at_of cs next).point < behind → part_end cs behind next (suc k) ≡ part_end cs behind (suc next) k
unfolding part_end
part-go cs behind next k h = rw (lt-leb behind (checkpoint_at_of cs next).point h)

part_none : (cs : List ℕ) (behind next : ℕ) → part_end cs behind next 0 ≡ next
unfolding part_end
part_none cs behind next = refl

pub end-here : (cs : List ℕ) (behind row count : ℕ) → row < count → behind ≤ (checkpoint_at_of cs row).point → part_end cs behind row (count - row) ≡ row
end-here cs behind row count h l = ap (part_end cs behind row) (let e : count - row ≡ suc (count - (row + 1)) = omega arith in e) ∙ part-stop cs behind row (count - (row + 1)) l

pub end-further : (cs : List ℕ) (behind row count : ℕ) → row < count → (checkpoint_at_of cs row).point < behind → part_end cs behind (row + 1) (count - (row + 1)) ≡ part_end cs behind row (count - row)
end-further cs behind row count h l =
    ap (λ (i : ℕ). part_end cs behind i (count - (row + 1))) (add-one row) ∙ sym (part-go cs behind row (count - (row + 1)) l) ∙ ap (part_end cs behind row) (let e : suc (count - (row + 1)) ≡ count - row = omega arith in e)

pub end-last : (cs : List ℕ) (behind row count : ℕ) → count ≤ row → part_end cs behind row (count - row) ≡ row
end-last cs behind row count h = ap (part_end cs behind row) (let e : count - row ≡ 0 = omega arith in e) ∙ part_none cs behind row
