-- Laws of scanning: where a scan stops, what holds there, and what does not hold before. Assumes nothing.
use mathlib.Core.Path.{◌≡◌, refl, sym, ap, ◌∙◌}
use mathlib.Core.List.{[], ◌∷◌}
use mathlib.Core.Bool.{Bool, true, false, not, ◌&&◌}
use Prim.Native.Nat.{ℕ, zero, suc, ◌+◌, ◌-◌, ◌≤◌, ◌<◌}
use native.Mathlib.Numerals.{add-one}
use native.Mathlib.Nat.{add-zero, zero-add}
use native.Mathlib.Omega.{arith}
use borrow.Author.Tests.{eqb-true, ne_eqb}
use lib.ListN.{length, get_or, take, drop, drop_of_length-le, length-drop}
use lib.Seq.{drop-cons, drop-drop, get_or-drop}
use lib.Dec.{eqb, eqb-suc-suc}
use Rattle.terms.specs.Ascii.{Bytes}
use Rattle.terms.specs.Words.{pick}
use Rattle.scan.specs.Allowed.{separates, outside, inside, digit, all}
use Rattle.scan.specs.Reach.{up_to, reach, begins, fails, first, two, stops_by}
use Rattle.scan.specs.declared.Until.TheVariants.{Byte, Two, NotSeparator, NotOutside, NotInside, NotDigit}
use Rattle.terms.proofs.Tests.{clash, both, and}

-- what comes next, at a place of the whole
pub head_drop : (s : Bytes) (i : ℕ) → get_or (drop i s) 0 0 ≡ get_or s i 0
head_drop s i = get_or-drop i s 0 0 ∙ simp add-zero

module _ (test : Bytes → Bool) where
  pub up_to_stop : (l : Bytes) → test l ≡ true → up_to test l ≡ 0
  unfolding up_to
  up_to_stop [] e = refl
  up_to_stop (b ∷ t) e = rw e

  pub up_to_go : (b : ℕ) (t : Bytes) → test (b ∷ t) ≡ false → up_to test (b ∷ t) ≡ suc (up_to test t)
  unfolding up_to
  up_to_go b t e = rw e

  -- it is at most the length
  pub up_to_le : (l : Bytes) → up_to test l ≤ length l
  unfolding up_to
  up_to_le [] = omega arith
  up_to_le (b ∷ t) = go (test (b ∷ t)) (up_to_le t)
    where
      go : (x : Bool) → up_to test t ≤ length t → pick x 0 (suc (up_to test t)) ≤ length (b ∷ t)
      go true h = omega arith
      go false h = omega arith

  -- inside the list, the test holds there
  pub up_to_hit : (l : Bytes) → up_to test l < length l → test (drop (up_to test l) l) ≡ true
  unfolding up_to
  up_to_hit [] h = absurd (omega arith)
  up_to_hit (b ∷ t) h = go (test (b ∷ t)) refl h (up_to_hit t)
    where
      go : (x : Bool) → test (b ∷ t) ≡ x → pick x 0 (suc (up_to test t)) < length (b ∷ t) → (up_to test t < length t → test (drop (up_to test t) t) ≡ true) → test (drop (pick x 0 (suc (up_to test t))) (b ∷ t)) ≡ true
      go true e h ih = e
      go false e h ih = ih (omega arith)

  -- and nowhere before
  pub up_to_before : (l : Bytes) (k : ℕ) → k < up_to test l → test (drop k l) ≡ false
  unfolding up_to
  up_to_before [] k h = absurd (omega arith)
  up_to_before (b ∷ t) k h = go (test (b ∷ t)) refl k h (up_to_before t)
    where
      go : (x : Bool) → test (b ∷ t) ≡ x → (k : ℕ) → k < pick x 0 (suc (up_to test t)) → ((k : ℕ) → k < up_to test t → test (drop k t) ≡ false) → test (drop k (b ∷ t)) ≡ false
      go true e k h ih = absurd (omega arith)
      go false e zero h ih = e
      go false e (suc k) h ih = ih k (omega arith)

  module _ (s : Bytes) (i : ℕ) where
    pub reach-stop : test (drop i s) ≡ true → reach test s i ≡ i
    reach-stop e = omega (arith, up_to_stop (drop i s) e)

    pub reach-end : length s ≤ i → reach test s i ≡ i
    unfolding up_to
    reach-end h = rw (drop_of_length-le s h) (omega arith)

    pub reach-go : i < length s → test (drop i s) ≡ false → reach test s (i + 1) ≡ reach test s i
    reach-go h e =
        let e' = rw (drop-cons s i 0 h) at e in
        rw (add-one, drop-cons s i 0 h, up_to_go) (omega arith)

    -- the answer is not before the start
    pub reach-from : i ≤ reach test s i
    reach-from = omega arith

    -- the answer is at most the length
    pub reach_le : i ≤ length s → reach test s i ≤ length s
    reach_le h = omega (arith, up_to_le (drop i s), length-drop i s)

    -- at it the test holds, if it is inside
    pub reach-hit : i ≤ length s → reach test s i < length s → test (drop (reach test s i) s) ≡ true
    reach-hit l h =
        let n : up_to test (drop i s) < length (drop i s) = omega (arith, length-drop i s) in
        ap test (sym (drop-drop (up_to test (drop i s)) i s)) ∙ up_to_hit (drop i s) n

    -- before it the test fails everywhere
    pub reach-before : (k : ℕ) → i ≤ k → k < reach test s i → test (drop k s) ≡ false
    reach-before k l h =
        let e : i + (k - i) ≡ k = omega arith in
        let n : k - i < up_to test (drop i s) = omega arith in
        ap (λ (k : ℕ). test (drop k s)) (sym e) ∙ ap test (sym (drop-drop (k - i) i s)) ∙ up_to_before (drop i s) (k - i) n

-- a scan from the start
pub from_start : (test : Bytes → Bool) (s : Bytes) → reach test s 0 ≡ up_to test s
from_start test s = zero-add (up_to test s)

-- ## Every byte passes: the scan for one that fails reaches the end
pub all_scan : (test : Bytes → Bool) (t : ℕ → Bool) → ((l : Bytes) → test l ≡ fails t l) → (l : Bytes) → eqb (up_to test l) (length l) ≡ all t l
unfolding all up_to fails
all_scan test t h [] = refl
all_scan test t h (b ∷ l) = rw (h (b ∷ l)) (go (t b) (all_scan test t h l))
  where
    go : (x : Bool) → eqb (up_to test l) (length l) ≡ all t l → eqb (pick (not x) 0 (suc (up_to test l))) (length (b ∷ l)) ≡ (x && all t l)
    go true e = eqb-suc-suc (up_to test l) (length l) ∙ e
    go false e = ne_eqb 0 (suc (length l)) (λ (q : 0 ≡ suc (length l)). omega arith)

-- every byte before the first that fails passes
pub all-before : (test : Bytes → Bool) (t : ℕ → Bool) → ((l : Bytes) → test l ≡ fails t l) → (l : Bytes) → all t (take (up_to test l) l) ≡ true
unfolding all up_to fails
all-before test t h [] = refl
all-before test t h (b ∷ l) = rw (h (b ∷ l)) (go (t b) refl (all-before test t h l))
  where
    go : (x : Bool) → t b ≡ x → all t (take (up_to test l) l) ≡ true → all t (take (pick (not x) 0 (suc (up_to test l))) (b ∷ l)) ≡ true
    go true e h = and e h
    go false e h = refl

-- ## The first byte
pub begins-none : (t : ℕ → Bool) (l : Bytes) → length l ≡ 0 → begins t l ≡ false
unfolding begins
begins-none t [] e = refl
begins-none t (b ∷ l) e = absurd (omega arith)

pub begins-at : (t : ℕ → Bool) (l : Bytes) → 0 < length l → begins t l ≡ t (get_or l 0 0)
unfolding begins
begins-at t [] h = absurd (omega arith)
begins-at t (b ∷ l) h = refl

pub begins-some : (t : ℕ → Bool) (l : Bytes) → begins t l ≡ true → 0 < length l
unfolding begins
begins-some t [] e = clash (sym e)
begins-some t (b ∷ l) e = omega arith

-- ## Two bytes
two-long : (x y : ℕ) (l : Bytes) → two x y l ≡ true → 2 ≤ length l
unfolding two first
two-long x y [] e = clash (sym e)
two-long x y (b ∷ []) e = clash (sym (both (eqb b x) false e).1)
two-long x y (b ∷ d ∷ t) e = omega arith

-- two bytes that are found fit in
pub two-fit : (x y : ℕ) (l : Bytes) → up_to (stops_by (Two x y)) l < length l → up_to (stops_by (Two x y)) l + 2 ≤ length l
unfolding stops_by
two-fit x y l h =
    let u = up_to (stops_by (Two x y)) l in
    let k : 2 ≤ length (drop u l) = two-long x y (drop u l) (up_to_hit (stops_by (Two x y)) l h) in
    omega (arith, length-drop u l)

-- ## What the kinds of stop are, for the laws on every byte
pub not-separator : (l : Bytes) → stops_by NotSeparator l ≡ fails separates l
unfolding stops_by
not-separator l = refl

pub not-outside : (l : Bytes) → stops_by NotOutside l ≡ fails outside l
unfolding stops_by
not-outside l = refl

pub not-inside : (l : Bytes) → stops_by NotInside l ≡ fails inside l
unfolding stops_by
not-inside l = refl

pub not_digit : (l : Bytes) → stops_by NotDigit l ≡ fails digit l
unfolding stops_by
not_digit l = refl

-- ## What a test of the first byte says at a place of the whole
pub first-at : (x : ℕ) (s : Bytes) (i : ℕ) → i < length s → stops_by (Byte x) (drop i s) ≡ eqb (get_or s i 0) x
unfolding stops_by first
first-at x s i h = rw (drop-cons s i 0 h)

pub not-passing : (test : Bytes → Bool) (t : ℕ → Bool) → ((l : Bytes) → test l ≡ fails t l) → (s : Bytes) (i : ℕ) → i < length s → test (drop i s) ≡ not (t (get_or s i 0))
unfolding fails
not-passing test t h s i l = h (drop i s) ∙ rw (drop-cons s i 0 l)

pub two_here : (x y : ℕ) (l : Bytes) → stops_by (Two x y) l ≡ two x y l
unfolding stops_by
two_here x y l = refl

-- ## One byte
-- a byte that is found stands there
pub byte-here : (x : ℕ) (l : Bytes) → up_to (stops_by (Byte x)) l < length l → drop (up_to (stops_by (Byte x)) l) l ≡ x ∷ drop (up_to (stops_by (Byte x)) l + 1) l
unfolding stops_by
byte-here x l h =
    let u = up_to (first x) l in
    starts (drop u l) (up_to_hit (first x) l h) ∙ ap (◌∷◌ x) (drop-drop 1 u l)
  where
    starts : (r : Bytes) → first x r ≡ true → r ≡ x ∷ drop 1 r
    starts [] e = clash (sym (unfold first in e))
    starts (b ∷ r) e = ap (λ (b : ℕ). b ∷ r) (eqb-true b x (unfold first in e))
