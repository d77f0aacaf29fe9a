-- A loop over the rows of a table that looks for the first fault: its laws. Assumes nothing.
use mathlib.Core.Path.{◌≡◌, refl, ap, ◌∙◌}
use mathlib.Core.List.{List, [], ◌∷◌, ◌++◌}
use mathlib.Core.Option.{Option, none, some}
use mathlib.Core.Bool.{Bool, true, false}
use Prim.Native.Nat.{ℕ, zero, suc, min, ◌+◌, ◌<◌, ◌≤◌}
use native.Mathlib.Numerals.{add-one}
use native.Mathlib.Omega.{arith}
use lib.Dec.{ltb, leb}
use lib.ListN.{length, get_or, take, drop, length-append, get_or-append}
use lib.Seq.{take_all, take-append-le, get_or_at}
use borrow.Author.Tests.{ltb-true, ltb-false, leb-true, leb-false, le-leb, lt-leb}
use Rattle.fill.specs.FirstFaults.{Fault, fault, or_behind, first_fault, in_parts}
use Rattle.fill.proofs.FaultLaws.{first-end, first-hit, first_step}
use Rattle.marks.specs.Rows.{said}

-- ## What rows say, by the row
pub length-said : (says : ℕ → ℕ) (n : ℕ) → length (said says n) ≡ n
unfolding said
length-said says zero = refl
length-said says (suc n) = let h = length-said says n in let e = length-append (said says n) (says n ∷ []) in omega arith

pub said_at : (says : ℕ → ℕ) (n i d : ℕ) → i < n → get_or (said says n) i d ≡ says i
unfolding said
said_at says zero i d h = absurd (omega arith)
said_at says (suc n) i d h = go (ltb i n) refl (said_at says n i d)
  where
    go : (t : Bool) → ltb i n ≡ t → (i < n → get_or (said says n) i d ≡ says i) → get_or (said says n ++ (says n ∷ [])) i d ≡ says i
    go true q ih = let b = ltb-true i n q in let l = length-said says n in get_or-append (said says n) (says n ∷ []) d i (omega arith) ∙ ih b
    go false q ih =
        let b = ltb-false i n q in
        let e : n ≡ i = omega arith in
        get_or_at (said says n) (says n) [] d i (length-said says n ∙ e) ∙ ap says e

pub take-said : (says : ℕ → ℕ) (n i : ℕ) → i ≤ n → take i (said says n) ≡ said says i
unfolding said
take-said says zero zero h = refl
take-said says zero (suc i) h = absurd (omega arith)
take-said says (suc n) i h = go (ltb n i) refl (take-said says n i)
  where
    go : (t : Bool) → ltb n i ≡ t → (i ≤ n → take i (said says n) ≡ said says i) → take i (said says n ++ (says n ∷ [])) ≡ said says i
    go true q ih =
        let b = ltb-true n i q in
        let e : suc n ≡ i = omega arith in
        let l = length-said says (suc n) in
        take_all i (said says n ++ (says n ∷ [])) (omega arith) ∙ ap (said says) e
    go false q ih =
        let b = ltb-false n i q in
        let l = length-said says n in
        take-append-le i (said says n) (says n ∷ []) (omega arith) ∙ ih b

-- ## The first fault, from row i on
module _ (test : List ℕ → ℕ → Option ℕ) (says : ℕ → ℕ) (n : ℕ) where
  unfoldable pub from_row : ℕ → Option Fault
  from_row i = first_fault test (take i (said says n)) (drop i (said says n))

  pub whole : from_row 0 ≡ first_fault test [] (said says n)
  unfolding from_row
  whole = refl

  pub at-end : (i : ℕ) → n ≤ i → from_row i ≡ none
  unfolding from_row
  at-end i h = let l = length-said says n in first-end test (said says n) i (omega arith)

  at_row : (i : ℕ) → i < n → test (take i (said says n)) (get_or (said says n) i 0) ≡ test (said says i) (says i)
  at_row i h = rw (take-said says n i (omega arith), said_at says n i 0 h)

  pub hit : (i k : ℕ) → i < n → test (said says i) (says i) ≡ some k → from_row i ≡ some (fault i k)
  unfolding from_row
  hit i k h q = let l = length-said says n in first-hit test (said says n) i 0 k (omega arith) (at_row i h ∙ q)

  pub passed : (i : ℕ) → i < n → test (said says i) (says i) ≡ none → from_row i ≡ from_row (i + 1)
  unfolding from_row
  passed i h q = let l = length-said says n in rw add-one (first_step test (said says n) i 0 (omega arith) (at_row i h ∙ q))

-- ## Two tests that agree find the same
pub same-fault : (f g : List ℕ → ℕ → Option ℕ) → ((front : List ℕ) (a : ℕ) → f front a ≡ g front a) → (front l : List ℕ) → first_fault f front l ≡ first_fault g front l
unfolding first_fault
same-fault f g e front [] = refl
same-fault f g e front (a ∷ l) = rw (e front a) (ap (or_behind (length front) (g front a)) (same-fault f g e (front ++ (a ∷ [])) l))

-- ## The RNDF's ids
pub never-there : (parts id : ℕ) → id < 1 → in_parts parts id ≡ false
never-there parts id h = rw (lt-leb 1 id h)

module _ (parts most id : ℕ) (low : 1 ≤ id) where
  pub there-by-most : id ≤ parts → in_parts (min parts most) id ≡ leb id most
  there-by-most h = rw (le-leb 1 id low) (go (leb id most) refl)
    where
      go : (t : Bool) → leb id most ≡ t → leb id (min parts most) ≡ t
      go true q = let l = leb-true id most q in le-leb id (min parts most) (omega arith)
      go false q = let l = leb-false id most q in lt-leb id (min parts most) (omega arith)

  pub above-parts : parts < id → in_parts (min parts most) id ≡ false
  above-parts h = rw (le-leb 1 id low) (lt-leb id (min parts most) (omega arith))
