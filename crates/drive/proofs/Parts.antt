-- The work space, of which the first words are lent: zero again where it was zero and they come back zero. The verdict, test by test. Assumes nothing.
use Rattle.std.specs.Prelude.{Ok, Err}
use mathlib.Core.Path.{◌≡◌, refl, sym, ap, ◌∙◌}
use mathlib.Core.Bool.{Bool}
use mathlib.Core.List.{List, [], ◌∷◌, ◌++◌}
use Prim.Native.Nat.{ℕ, zero, suc, ◌≤◌, ◌<◌}
use native.Mathlib.Omega.{arith}
use lib.ListN.{take, drop, replicate, take-append-drop}
use borrow.Author.Tests.{lt-ltb, le-ltb}
use Rattle.room.specs.Room.{fitted}
use Rattle.legs.specs.Legs.{first_stuck_of}
use Rattle.drive.specs.Verdict.{verdict}

-- ## The work space
front : (k n : ℕ) → k ≤ n → ◌≡◌ {A = List ℕ} (take k (replicate n 0)) (replicate k 0)
front zero n h = refl
front (suc k) zero h = absurd (omega arith)
front (suc k) (suc n) h = ap (λ (l : List ℕ). 0 ∷ l) (front k n (omega arith))

-- x: the first words, as they come back
pub zero-whole : (k n : ℕ) (w x : List ℕ) → k ≤ n → w ≡ replicate n 0 → x ≡ replicate k 0 → x ++ drop k w ≡ replicate n 0
zero-whole k n w x h e f = (λ i. f i ++ drop k (e i)) ∙ ap (λ (l : List ℕ). l ++ drop k (replicate n 0)) (sym (front k n h)) ∙ take-append-drop k (replicate n 0)

-- ## The verdict
module _ (leads : ℕ → ℕ → Bool) (point : ℕ → ℕ) (points rows count start : ℕ) where
  pub short : rows < points → Err (0, 11) ≡ verdict leads point points rows count start
  unfolding verdict
  short h = rw (lt-ltb rows points h)

  pub undeclared : points ≤ rows → points ≤ start → Err (0, 30) ≡ verdict leads point points rows count start
  unfolding verdict
  undeclared r h = rw (le-ltb rows points r, le-ltb start points h)

  module _ (k : ℕ) (r : points ≤ rows) (d : start < points) (e : k ≡ first_stuck_of leads point count start) where
    pub stuck : k < count → (line : ℕ) → line ≡ fitted k → Err (line, 31) ≡ verdict leads point points rows count start
    unfolding verdict
    stuck h line f =
        let g : first_stuck_of leads point count start < count = omega arith in
        ap (λ (x : ℕ). Err (x, 31)) (f ∙ ap fitted e) ∙ rw (le-ltb rows points r, lt-ltb start points d, lt-ltb (first_stuck_of leads point count start) count g)

    pub free : count ≤ k → Ok tt ≡ verdict leads point points rows count start
    unfolding verdict
    free h =
        let g : count ≤ first_stuck_of leads point count start = omega arith in
        rw (le-ltb rows points r, lt-ltb start points d, le-ltb (first_stuck_of leads point count start) count g)
