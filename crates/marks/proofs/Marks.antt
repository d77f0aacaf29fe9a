-- INNER. How marks are kept: cleared marks say no, and a mark that is set says yes and changes no other. Nothing else is said of them elsewhere. Assumes nothing.
use mathlib.Core.Path.{◌≡◌, refl, sym, ap, ap₂, ◌∙◌}
use mathlib.Core.Bool.{Bool, true, false}
use Prim.Native.Nat.{ℕ, suc, max, ◌+◌, ◌-◌, ◌*◌, ◌/◌, ◌%◌, ◌^◌, ◌<◌, ◌≤◌}
use native.Mathlib.Nat.{div-eq_of_lt, mod-lt, max-zero, zero-lt-suc}
use native.Mathlib.Omega.{arith}
use lib.Arith.{digits_mod}
use lib.Bits.{bit_or, or_step, or_shr, shifted_even}
use lib.Dec.{eqb, ltb}
use lib.ListN.{length, get_or, set, replicate, length-set, length-replicate, get_or-replicate}
use lib.Pow.{pow_pos, pow-lt, pow-add, shl-shr, shl_exact}
use lib.Seq.{get_or-set_same, get_or-set_other}
use borrow.Author.Tests.{eqb-true, eqb-false, eq-eqb, ne_eqb, ltb-true, ltb-false}
use Rattle.terms.specs.Words.{pick}
use Rattle.marks.specs.Marks.{Marks, eight_at_of, mark_at, set_at}

-- ## A bit of a byte
-- one bit alone, as the code makes it
pub one_bit : (k : ℕ) → k < 8 → 1 * 2 ^ k % 256 ≡ 2 ^ k
one_bit k h =
    let one : 1 * 2 ^ k ≡ 2 ^ k = omega arith in
    let low : 1 < 2 ^ 1 = omega arith in
    let fits : 1 + k ≤ 8 = omega arith in
    shl_exact {a = 1} 1 k 8 low fits ∙ one

-- it is set, and no other is
own_bit : (k : ℕ) → 2 ^ k / 2 ^ k % 2 ≡ 1
own_bit k = let e : 1 * 2 ^ k ≡ 2 ^ k = omega arith in ap (λ (x : ℕ). x % 2) (ap (λ (x : ℕ). x / 2 ^ k) (sym e) ∙ shl-shr 1 k)

lower_bit : (m k : ℕ) → m < k → 2 ^ m / 2 ^ k % 2 ≡ 0
lower_bit m k h = ap (λ (x : ℕ). x % 2) (div-eq_of_lt (pow-lt h))

higher_bit : (m k : ℕ) → k < m → 2 ^ m / 2 ^ k % 2 ≡ 0
higher_bit m k h =
    let d : suc (m - suc k) + k ≡ m = omega arith in
    let one : 1 * 2 ^ suc (m - suc k) ≡ 2 ^ suc (m - suc k) = omega arith in
    ap (λ (x : ℕ). 2 ^ x / 2 ^ k % 2) (sym d)
    ∙ ap (λ (x : ℕ). x / 2 ^ k % 2) (pow-add 2 (suc (m - suc k)) k)
    ∙ ap (λ (x : ℕ). x % 2) (shl-shr (2 ^ suc (m - suc k)) k)
    ∙ ap (λ (x : ℕ). x % 2) (sym one)
    ∙ shifted_even 1 (m - suc k)

-- the bits of two numbers taken together
two_pos : 0 < 2
two_pos = zero-lt-suc 1

or_odd : (a b : ℕ) → bit_or a b % 2 ≡ max (a % 2) (b % 2)
or_odd a b =
    let x : a % 2 < 2 = mod-lt a two_pos in
    let y : b % 2 < 2 = mod-lt b two_pos in
    let m : max (a % 2) (b % 2) < 2 = omega arith in
    ap (λ (n : ℕ). n % 2) (or_step a b) ∙ digits_mod (bit_or (a / 2) (b / 2)) m

bit-of-or : (a b k : ℕ) → bit_or a b / 2 ^ k % 2 ≡ max (a / 2 ^ k % 2) (b / 2 ^ k % 2)
bit-of-or a b k = ap (λ (x : ℕ). x % 2) (or_shr a b k) ∙ or_odd (a / 2 ^ k) (b / 2 ^ k)

or-false : (t : Bool) → t ≡ pick t true false
or-false true = refl
or-false false = refl

or-true : (t : Bool) → true ≡ pick t true true
or-true true = refl
or-true false = refl

-- bit k of a byte in which bit m is set too
with_bit : (eight k m : ℕ) → eqb (bit_or eight (2 ^ m) / 2 ^ k % 2) 1 ≡ pick (eqb (eight / 2 ^ k % 2) 1) true (eqb k m)
with_bit eight k m = ap (λ (x : ℕ). eqb x 1) (bit-of-or eight (2 ^ m) k) ∙ go (eqb k m) refl
  where
    apart : (k ≡ m → ⊥) → (t : Bool) → ltb m k ≡ t → 2 ^ m / 2 ^ k % 2 ≡ 0
    apart n true q = lower_bit m k (ltb-true m k q)
    apart n false q = let h = ltb-false m k q in higher_bit m k (omega (arith, n))

    go : (t : Bool) → eqb k m ≡ t → eqb (max (eight / 2 ^ k % 2) (2 ^ m / 2 ^ k % 2)) 1 ≡ pick (eqb (eight / 2 ^ k % 2) 1) true t
    go true q =
        let x : eight / 2 ^ k % 2 < 2 = mod-lt (eight / 2 ^ k) two_pos in
        let top : max (eight / 2 ^ k % 2) 1 ≡ 1 = omega arith in
        ap (λ (y : ℕ). eqb (max (eight / 2 ^ k % 2) (2 ^ y / 2 ^ k % 2)) 1) (sym (eqb-true k m q))
        ∙ ap (λ (y : ℕ). eqb (max (eight / 2 ^ k % 2) y) 1) (own_bit k)
        ∙ eq-eqb (max (eight / 2 ^ k % 2) 1) 1 top
        ∙ or-true (eqb (eight / 2 ^ k % 2) 1)
    go false q = ap (λ (y : ℕ). eqb (max (eight / 2 ^ k % 2) y) 1) (apart (eqb-false k m q) (ltb m k) refl) ∙ ap (λ (y : ℕ). eqb y 1) (max-zero (eight / 2 ^ k % 2)) ∙ or-false (eqb (eight / 2 ^ k % 2) 1)

-- ## Marks
-- so many marks are kept
pub record Kept (size : ℕ) (marks : Marks) : Type 0 where
  pub many : length marks * 8 ≡ size

-- so many bytes, no bit of which is set
abbrev pub cleared : ℕ → Marks
cleared bytes = replicate bytes 0

pub kept-cleared : (bytes : ℕ) → Kept (bytes * 8) (cleared bytes)
kept-cleared bytes = record { many = ap (λ (n : ℕ). n * 8) (length-replicate bytes 0) }

pub kept_set : (size : ℕ) (marks : Marks) (i : ℕ) → Kept size marks → Kept size (set_at marks i)
unfolding set_at
kept_set size marks i k = record { many = ap (λ (n : ℕ). n * 8) (length-set marks (i / 8) (bit_or (eight_at_of marks i) (2 ^ (i % 8)))) ∙ k.many }

pub cleared_at : (bytes i : ℕ) → i < bytes * 8 → mark_at (cleared bytes) i ≡ false
unfolding mark_at
cleared_at bytes i h =
    let l : i / 8 < bytes = omega arith in
    ap (λ (x : ℕ). eqb (x / 2 ^ (i % 8) % 2) 1) (get_or-replicate bytes (i / 8) 0 0 l) ∙ ap (λ (x : ℕ). eqb (x % 2) 1) (div-eq_of_lt (pow_pos (i % 8)))

pub set_tells : (size : ℕ) (marks : Marks) → Kept size marks → (i j : ℕ) → i < size → mark_at (set_at marks j) i ≡ pick (mark_at marks i) true (eqb i j)
unfolding mark_at set_at
set_tells size marks k i j h = go (eqb (i / 8) (j / 8)) refl
  where
    same_bit : i / 8 ≡ j / 8 → (t : Bool) → eqb i j ≡ t → eqb (i % 8) (j % 8) ≡ t
    same_bit e true q = eq-eqb (i % 8) (j % 8) (ap (λ (x : ℕ). x % 8) (eqb-true i j q))
    same_bit e false q = let n = eqb-false i j q in ne_eqb (i % 8) (j % 8) (λ (f : i % 8 ≡ j % 8). n (omega arith))

    go : (t : Bool) → eqb (i / 8) (j / 8) ≡ t → eqb (get_or (set marks (j / 8) (bit_or (eight_at_of marks j) (2 ^ (j % 8)))) (i / 8) 0 / 2 ^ (i % 8) % 2) 1 ≡ pick (eqb (eight_at_of marks i / 2 ^ (i % 8) % 2) 1) true (eqb i j)
    go true q =
        let e = eqb-true (i / 8) (j / 8) q in
        let n = k.many in
        let l : j / 8 < length marks = omega arith in
        ap (λ (x : ℕ). eqb (get_or (set marks (j / 8) (bit_or (eight_at_of marks j) (2 ^ (j % 8)))) x 0 / 2 ^ (i % 8) % 2) 1) e
        ∙ ap (λ (x : ℕ). eqb (x / 2 ^ (i % 8) % 2) 1) (get_or-set_same marks (j / 8) (bit_or (eight_at_of marks j) (2 ^ (j % 8))) 0 l)
        ∙ with_bit (eight_at_of marks j) (i % 8) (j % 8)
        ∙ ap₂ (λ (x : ℕ) (t : Bool). pick (eqb (get_or marks x 0 / 2 ^ (i % 8) % 2) 1) true t) (sym e) (same_bit e (eqb i j) refl)
    go false q =
        let n = eqb-false (i / 8) (j / 8) q in
        rw (ne_eqb i j (λ (e : i ≡ j). n (ap (λ (x : ℕ). x / 8) e)))
        (ap (λ (x : ℕ). eqb (x / 2 ^ (i % 8) % 2) 1) (get_or-set_other marks (j / 8) (i / 8) (bit_or (eight_at_of marks j) (2 ^ (j % 8))) 0 n) ∙ or-false (eqb (eight_at_of marks i / 2 ^ (i % 8) % 2) 1))
