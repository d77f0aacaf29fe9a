-- Laws of the byte classes: what every definition above needs to know of them, so that nothing else opens `separates`. Assumes nothing.
use mathlib.Core.Path.{◌≡◌, refl, ap}
use mathlib.Core.List.{[], ◌∷◌, ◌++◌}
use mathlib.Core.Bool.{Bool, true, false, not, ◌&&◌, ◌||◌, and_assoc}
use Prim.Native.Nat.{ℕ, ◌≤◌}
use native.Mathlib.Omega.{arith}
use borrow.Author.Tests.{eqb-true, eqb-false, ne_eqb, le-leb, lt-leb, leb-true, leb-false}
use lib.Dec.{eqb, leb}
use Rattle.terms.specs.Ascii.{Bytes}
use Rattle.terms.proofs.Tests.{both, and, or_right}
use Rattle.scan.specs.Allowed.{within, tab, separates, field_byte, outside, inside, all}
use Rattle.scan.specs.Reach.{plain}

-- ## Classes
pub within-is : (m n b : ℕ) → within m n b ≡ true → (m ≤ b) × (b ≤ n)
within-is m n b e = let p = both (leb m b) (leb b n) e in (leb-true m b p.0, leb-true b n p.1)

-- a byte of a field does not separate fields
pub field-no-separator : (b : ℕ) → field_byte b ≡ true → separates b ≡ false
unfolding separates
field-no-separator b e =
    let p = both (within 33 126 b) (not (eqb b 92) && not (eqb b 42)) e in
    let w = within-is 33 126 b p.0 in
    rw (ne_eqb b 9 (λ q. omega arith), ne_eqb b 32 (λ q. omega arith))

pub field-outside : (b : ℕ) → field_byte b ≡ true → outside b ≡ true
field-outside b e = or_right (separates b) e

-- what is allowed outside is a separator or a byte of a field
pub outside-field : (b : ℕ) → separates b ≡ false → outside b ≡ true → field_byte b ≡ true
outside-field b e f = rw e at f

field-inside : (b : ℕ) → field_byte b ≡ true → inside b ≡ true
field-inside b e =
    let p = both (within 33 126 b) (not (eqb b 92) && not (eqb b 42)) e in
    let w = within-is 33 126 b p.0 in
    or_right (tab b) (and (le-leb 32 b (omega arith)) (le-leb b 126 (omega arith)))

pub separator-outside : (b : ℕ) → separates b ≡ true → outside b ≡ true
separator-outside b e = rw e

pub separator-inside : (b : ℕ) → separates b ≡ true → inside b ≡ true
unfolding separates
separator-inside b e = go (tab b) refl e
  where
    go : (x : Bool) → tab b ≡ x → (x || eqb b 32) ≡ true → inside b ≡ true
    go true q e = rw q
    go false q e = rw (eqb-true b 32 e)

-- what is allowed outside comments is allowed inside
pub outside-inside : (b : ℕ) → outside b ≡ true → inside b ≡ true
outside-inside b e = go (separates b) refl e
  where
    go : (x : Bool) → separates b ≡ x → (x || field_byte b) ≡ true → inside b ≡ true
    go true q e = separator-inside b q
    go false q e = field-inside b e

-- neither LF nor CR is allowed anywhere, and no * outside
pub lf-not-inside : inside 10 ≡ false
lf-not-inside = refl

pub cr-not-inside : inside 13 ≡ false
cr-not-inside = refl

pub star-not-outside : outside 42 ≡ false
unfolding separates
star-not-outside = refl

-- but for the space, 32 and 33 are the same bound
from_33 : (b : ℕ) → (b ≡ 32 → ⊥) → leb 32 b ≡ leb 33 b
from_33 b n = go (leb 33 b) refl
  where
    go : (x : Bool) → leb 33 b ≡ x → leb 32 b ≡ x
    go true e = let h = leb-true 33 b e in le-leb 32 b (omega arith)
    go false e = let h = leb-false 33 b e in lt-leb 32 b (omega arith)

-- a plain byte, test by test
pub plain_flat : (b : ℕ) → (tab b || (leb 32 b && leb b 126 && not (eqb b 92) && not (eqb b 42) && not (eqb b 47))) ≡ plain b
unfolding separates
plain_flat b = go (tab b) (eqb b 32) refl refl
  where
    go : (x y : Bool) → tab b ≡ x → eqb b 32 ≡ y → (x || (leb 32 b && leb b 126 && not (eqb b 92) && not (eqb b 42) && not (eqb b 47))) ≡ (((x || y) || field_byte b) && not (eqb b 47))
    go true y e f = rw (eqb-true b 9 e)
    go false true e f = rw (eqb-true b 32 f)
    go false false e f = rw (from_33 b (eqb-false b 32 f)) (ap (λ x. x && not (eqb b 47)) (and_assoc (leb 33 b && leb b 126) (not (eqb b 92)) (not (eqb b 42))))

-- ## Every byte
pub all_imp : (s t : ℕ → Bool) → ((b : ℕ) → s b ≡ true → t b ≡ true) → (l : Bytes) → all s l ≡ true → all t l ≡ true
unfolding all
all_imp s t h [] e = refl
all_imp s t h (b ∷ l) e = let p = both (s b) (all s l) e in and (h b p.0) (all_imp s t h l p.1)

pub all_append : (t : ℕ → Bool) (l r : Bytes) → all t l ≡ true → all t r ≡ true → all t (l ++ r) ≡ true
unfolding all
all_append t [] r e f = f
all_append t (b ∷ l) r e f = let p = both (t b) (all t l) e in and p.0 (all_append t l r p.1 f)

pub all-parts : (t : ℕ → Bool) (l r : Bytes) → all t (l ++ r) ≡ true → (all t l ≡ true) × (all t r ≡ true)
unfolding all
all-parts t [] r e = (refl, e)
all-parts t (b ∷ l) r e =
    let p = both (t b) (all t (l ++ r)) e in
    let q = all-parts t l r p.1 in
    (and p.0 q.0, q.1)
