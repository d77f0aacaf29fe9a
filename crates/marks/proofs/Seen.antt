-- What marks say that were cleared and then set for numbers, one after the other: of every number, whether it was there (`seen`). Assumes nothing.
use mathlib.Core.Path.{◌≡◌, refl, sym, ap, subst, ◌∙◌}
use mathlib.Core.List.{List, [], ◌∷◌, ◌++◌, append_assoc, append-nil}
use mathlib.Core.Bool.{Bool, true, false, not}
use Prim.Native.Nat.{ℕ, zero, suc, pred, ◌-◌, ◌*◌, ◌<◌, ◌≤◌}
use native.Mathlib.Omega.{arith}
use lib.Dec.{eqb}
use borrow.Author.Tests.{eqb-true, eqb-false, eq-eqb, ne_eqb}
use Rattle.terms.specs.Words.{pick}
use Rattle.terms.proofs.Tests.{clash}
use Rattle.units.specs.Range.{largest}
use Rattle.units.specs.Made.{within}
use Rattle.units.proofs.Ranges.{only-inside}
use Rattle.fill.specs.FirstFaults.{is_among, fault_if, first_fault}
use Rattle.fill.proofs.AmongLaws.{is-among-more}
use Rattle.marks.specs.Tests.{seen, foreign}
use Rattle.marks.specs.Marks.{Marks, mark_at, set_at, is_marked_of, with_mark, mark_all, unmarked}
use Rattle.marks.proofs.Marks.{Kept, kept-cleared, kept_set, cleared, cleared_at, set_tells}
use Rattle.marks.proofs.Walked.{same-fault}

-- the marks of these numbers
pub record Marked (numbers : List ℕ) (marks : Marks) : Type 0 where
  pub kept : Kept largest marks
  pub tells : (a : ℕ) → is_marked_of marks a ≡ seen numbers a

pub one_less : (n : ℕ) → n - 1 ≡ pred n
one_less zero = omega arith
one_less (suc n) = omega arith

-- a number that has a mark has it at the number - 1
has-place : (a : ℕ) → within 1 a ≡ true → pred a < largest
has-place a q = let b = only-inside 1 a q in go a b.low b.high
  where
    go : (a : ℕ) → 1 ≤ a → a ≤ largest → pred a < largest
    go zero l h = absurd (omega arith)
    go (suc i) l h = omega arith

-- and no other number has it there
same_place : (a b : ℕ) → 1 ≤ a → 1 ≤ b → eqb (pred a) (pred b) ≡ eqb a b
same_place zero b l h = absurd (omega arith)
same_place (suc i) zero l h = absurd (omega arith)
same_place (suc i) (suc j) l h = go (eqb i j) refl
  where
    go : (t : Bool) → eqb i j ≡ t → t ≡ eqb (suc i) (suc j)
    go true q = sym (eq-eqb (suc i) (suc j) (ap suc (eqb-true i j q)))
    go false q = let n = eqb-false i j q in sym (ne_eqb (suc i) (suc j) (λ (e : suc i ≡ suc j). n (omega arith)))

pub none-marked : (bytes : ℕ) → bytes * 8 ≡ largest → Marked [] (cleared bytes)
unfolding is_marked_of is_among
none-marked bytes e = record { kept = rw (← e) (kept-cleared bytes); tells = λ a. go a (within 1 a) refl }
  where
    go : (a : ℕ) (t : Bool) → within 1 a ≡ t → pick t (mark_at (cleared bytes) (pred a)) false ≡ pick t false false
    go a true q = cleared_at bytes (pred a) (rw e (has-place a q))
    go a false q = refl

module _ {numbers : List ℕ} {marks : Marks} (M : Marked numbers marks) (a : ℕ) where
  kept_more : Kept largest (with_mark marks a)
  unfolding with_mark
  kept_more = go (within 1 a)
    where
      go : (t : Bool) → Kept largest (pick t (set_at marks (pred a)) marks)
      go true = kept_set largest marks (pred a) M.kept
      go false = M.kept

  at_place : (b : ℕ) → within 1 b ≡ true → mark_at marks (pred b) ≡ is_among b numbers
  unfolding is_marked_of
  at_place b q = let e = M.tells b in rw q at e

  with-one : (b : ℕ) → within 1 b ≡ true → (t : Bool) → within 1 a ≡ t → mark_at (pick t (set_at marks (pred a)) marks) (pred b) ≡ pick (is_among b numbers) true (eqb b a)
  with-one b q true p =
      let l = (only-inside 1 a p).low in
      let k = (only-inside 1 b q).low in
      set_tells largest marks M.kept (pred b) (pred a) (has-place b q) ∙ rw (at_place b q, same_place b a k l)
  with-one b q false p = rw (ne_eqb b a (λ (e : b ≡ a). clash (sym q ∙ ap (within 1) e ∙ p)), at_place b q) (go (is_among b numbers))
    where
      go : (t : Bool) → t ≡ pick t true false
      go true = refl
      go false = refl

  more-tells : (b : ℕ) → is_marked_of (with_mark marks a) b ≡ seen (numbers ++ (a ∷ [])) b
  unfolding is_marked_of with_mark
  more-tells b = rw (is-among-more b numbers a) (go (within 1 b) refl)
    where
      go : (t : Bool) → within 1 b ≡ t → pick t (mark_at (pick (within 1 a) (set_at marks (pred a)) marks) (pred b)) false ≡ pick t (pick (is_among b numbers) true (eqb b a)) false
      go true q = with-one b q (within 1 a) refl
      go false q = refl

  -- one number more
  pub one_more : Marked (numbers ++ (a ∷ [])) (with_mark marks a)
  one_more = record { kept = kept_more; tells = more-tells }

-- for a loop that marks every row
pub mark-more : (marks : Marks) (l : List ℕ) (a : ℕ) → mark_all marks (l ++ (a ∷ [])) ≡ with_mark (mark_all marks l) a
unfolding mark_all
mark-more marks [] a = refl
mark-more marks (b ∷ l) a = mark-more (with_mark marks b) l a

pub all_marked : (front l : List ℕ) (marks : Marks) → Marked front marks → Marked (front ++ l) (mark_all marks l)
unfolding mark_all
all_marked front [] marks M = rw append-nil M
all_marked front (a ∷ l) marks M = subst (λ (n : List ℕ). Marked n (mark_all (with_mark marks a) l)) (append_assoc front (a ∷ []) l) (all_marked (front ++ (a ∷ [])) l (with_mark marks a) (one_more M a))

-- 15 by the marks of the numbers
pub goals-by-marks : (marks : Marks) (numbers goals : List ℕ) → Marked numbers marks → first_fault (unmarked marks) [] goals ≡ first_fault (foreign numbers) [] goals
goals-by-marks marks numbers goals M = same-fault (unmarked marks) (foreign numbers) (λ front a. ap (λ (t : Bool). fault_if (not t) 15) (M.tells a)) [] goals
