-- A number that the table of reasons does not have, as its last arm meets it; and the two cases of 11. Assumes nothing.
use mathlib.Core.Path.{◌≡◌, refl, sym}
use mathlib.Core.Bool.{Bool, true, false}
use mathlib.Core.Logic.{◌⊎◌, inl, inr, ⊎_elim}
use Prim.Native.Nat.{ℕ, zero, suc, ◌+◌, ◌<◌, ◌≤◌}
use native.Mathlib.Omega.{arith}
use lib.Dec.{eqb, ltb}
use lib.ListN.{get_or-eq_default}
use borrow.Author.Tests.{eq-eqb, ne_eqb, ltb-true, ltb-false}
use Rattle.terms.specs.Words.{pick}
use Rattle.reasons.specs.Reasons.{reason, reasons, no_reason, reason_of, short_work}

-- none of so many numbers from this one on
abbrev pub NoneOf : (first many n : ℕ) → Type 0
NoneOf first zero n = Unit {0}
NoneOf first (suc many) n = NoneOf first many n × (n ≡ first + many → ⊥)

below_or_not : (n first : ℕ) → (n < first) ⊎ (first ≤ n)
below_or_not n first = go (ltb n first) refl
  where
    go : (x : Bool) → ltb n first ≡ x → (n < first) ⊎ (first ≤ n)
    go true e = inl (ltb-true n first e)
    go false e = inr (ltb-false n first e)

outside : (first many n : ℕ) → NoneOf first many n → (n < first) ⊎ (first + many ≤ n)
outside first zero n h = ⊎_elim (λ (l : n < first). inl l) (λ (l : first ≤ n). inr (omega arith)) (below_or_not n first)
outside first (suc many) n h = ⊎_elim (λ (l : n < first). inl l) (λ (l : first + many ≤ n). inr (let d = h.1 in omega (arith, d))) (outside first many n h.0)

-- it begins at 1
before : (n : ℕ) → n < 1 → reason n ≡ no_reason
unfolding reason reasons
before zero l = refl
before (suc n) l = absurd (omega arith)

-- it ends before 32
behind : (n : ℕ) → 32 ≤ n → reason n ≡ no_reason
unfolding reason reasons
behind n l = get_or-eq_default reasons no_reason {n = n} (omega arith)

-- a number that is none of the table's
pub none_else : (n : ℕ) → NoneOf 1 31 n → no_reason ≡ reason n
none_else n h = sym (⊎_elim (λ (l : n < 1). before n l) (λ (l : 32 ≤ n). behind n l) (outside 1 31 n h))

-- ## 11 of file 0, and every other
module _ (file number : ℕ) where
  pub of-a-file : (file ≡ 0 → ⊥) → reason number ≡ reason_of file number
  unfolding reason_of
  of-a-file d = rw (ne_eqb file 0 d)

  pub of_another : (number ≡ 11 → ⊥) → reason number ≡ reason_of file number
  unfolding reason_of
  of_another d = rw (ne_eqb number 11 d) (go (eqb file 0))
    where
      go : (x : Bool) → reason number ≡ pick x (reason number) (reason number)
      go true = refl
      go false = refl

  pub of_work : file ≡ 0 → number ≡ 11 → short_work ≡ reason_of file number
  unfolding reason_of
  of_work e f = rw (eq-eqb file 0 e, eq-eqb number 11 f)
