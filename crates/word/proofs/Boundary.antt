-- A boundary's number and its word determine each other. Assumes nothing.
use mathlib.Core.Path.{◌≡◌, refl, ap, sym, ◌∙◌}
use mathlib.Core.Bool.{Bool, true, false}
use Prim.Native.Nat.{ℕ, zero, suc, ◌≤◌, ◌<◌}
use native.Mathlib.Omega.{arith}
use borrow.Author.Tests.{ltb-true, lt-ltb}
use lib.Dec.{ltb}
use Rattle.terms.specs.Ascii.{Bytes}
use Rattle.terms.specs.Words.{pick, Between}
use Rattle.word.specs.Keywords.{boundary_words, boundary_of, Boundary, ShortField}
use Rattle.word.specs.Number.{index_of, from_one_of, boundary_number, digit_first}
use Rattle.word.proofs.Index.{word-index, index_word}
use Rattle.word.proofs.Keywords.{boundary-length, boundary-differ, boundary-field, boundary-no-digit}

pub boundary-most : (s : Bytes) → boundary_number s ≤ 4
unfolding boundary_number
boundary-most s = go (ltb (index_of s boundary_words) 4) refl
  where
    go : (x : Bool) → ltb (index_of s boundary_words) 4 ≡ x → pick x (suc (index_of s boundary_words)) 0 ≤ 4
    go true e = ltb-true (index_of s boundary_words) 4 e
    go false e = omega arith

-- the answer is right: a number that is not 0 is that of the boundary which the field is
pub boundary-only : (s : Bytes) → 0 < boundary_number s → Boundary (boundary_number s) s
unfolding boundary_number boundary_of
boundary-only s h = go (ltb (index_of s boundary_words) 4) refl h
  where
    go : (x : Bool) → ltb (index_of s boundary_words) 4 ≡ x → 0 < pick x (suc (index_of s boundary_words)) 0 → Boundary (pick x (suc (index_of s boundary_words)) 0) s
    go true e h =
        let l : index_of s boundary_words < 4 = ltb-true _ _ e in
        record { number = record { low = omega arith; high = omega arith }; word = index_word s boundary_words (omega (arith, boundary-length)) }
    go false e h = absurd (omega arith)

-- only this answer is right
pub boundary-all : (n : ℕ) (s : Bytes) → Boundary n s → boundary_number s ≡ n
unfolding boundary_number boundary_of
boundary-all zero s b = absurd (omega (arith, b.number.low))
boundary-all (suc k) s b =
    let h : k < 4 = omega (arith, b.number.high) in
    let e : index_of s boundary_words ≡ k = word-index boundary_words boundary-differ k (omega (arith, boundary-length)) s b.word in
    ap from_one_of e ∙ ap (λ (x : Bool). pick x (suc k) 0) (lt-ltb k 4 h)

-- where it is 0 the field is no boundary word
pub boundary-none : (s : Bytes) → boundary_number s ≡ 0 → (n : ℕ) → Boundary n s → ⊥
boundary-none s e n b = omega (arith, boundary-all n s b, b.number.low)

-- the house writing of a number is read as that number ..
pub boundary-house : (n : ℕ) → Between 1 4 n → boundary_number (boundary_of n) ≡ n
boundary-house n h = boundary-all n (boundary_of n) (record { number = h; word = refl })

-- .. and no other word is
pub boundary-unique : (n : ℕ) (s : Bytes) → Between 1 4 n → boundary_number s ≡ n → s ≡ boundary_of n
boundary-unique n s h e = (boundary-only s (omega (arith, h.low))).word ∙ ap boundary_of e

pub boundary-one-number : (m n : ℕ) (s : Bytes) → Boundary m s → Boundary n s → m ≡ n
boundary-one-number m n s a b = sym (boundary-all m s a) ∙ boundary-all n s b

pub boundary-one-word : (n : ℕ) (s t : Bytes) → Boundary n s → Boundary n t → s ≡ t
boundary-one-word n s t a b = a.word ∙ sym b.word

-- a boundary's word can be a field, and does not begin with a digit
below_four : (n : ℕ) (s : Bytes) → Boundary n s → index_of s boundary_words < 4
unfolding boundary_of
below_four zero s b = absurd (omega (arith, b.number.low))
below_four (suc k) s b =
    let h : k < 4 = omega (arith, b.number.high) in
    omega (arith, word-index boundary_words boundary-differ k (omega (arith, boundary-length)) s b.word)

pub boundary-word-field : (n : ℕ) → Between 1 4 n → ShortField (boundary_of n)
boundary-word-field n h = boundary-field (boundary_of n) (below_four n (boundary_of n) (record { number = h; word = refl }))

pub boundary-word-no-digit : (n : ℕ) → Between 1 4 n → digit_first (boundary_of n) ≡ false
boundary-word-no-digit n h = boundary-no-digit (boundary_of n) (below_four n (boundary_of n) (record { number = h; word = refl }))
