-- The parts of a network stand one behind the other: those before one begin at it or before it, those behind it where it ends or later. Assumes nothing.
use mathlib.Core.Path.{◌≡◌, refl, sym, ap, subst, ◌∙◌}
use mathlib.Core.Logic.{inl, inr}
use mathlib.Core.List.{List, [], ◌∷◌, ◌++◌}
use Prim.Native.Nat.{ℕ, zero, suc, ◌+◌, ◌≤◌}
use native.Mathlib.Omega.{arith}
use Rattle.terms.specs.Words.{Each, Among}
use Rattle.law.specs.Along.{along}
use Rattle.grammar.proofs.Rows.{total}
use Rattle.route_law.specs.Moves.{Span}

pub record Stands (l : List Span) (low high : ℕ) (s : Span) : Type 0 where
  pub front : List Span
  pub back : List Span
  pub is : l ≡ front ++ (s ∷ back)
  pub before : Each (λ q. q.first ≤ s.first) front
  pub behind : Each (λ q. s.first + s.size ≤ q.first) back
  pub from : low ≤ s.first
  pub to : s.first + s.size ≤ high

module _ {A : Type 0} (size : A → ℕ) where
  abbrev pub spans : ℕ → List A → List Span
  spans p l = along size (λ first a. record { first = first; size = size a } ∷ []) p l

  firsts-from : (low p : ℕ) (l : List A) → low ≤ p → Each (λ q. low ≤ q.first) (spans p l)
  firsts-from low p [] h = tt
  firsts-from low p (a ∷ l) h = (h, firsts-from low (p + size a) l (omega arith))

  pub stands : (p : ℕ) (l : List A) (s : Span) → Among s (spans p l) → Stands (spans p l) p (p + total size l) s
  stands p [] s h = absurd h
  stands p (a ∷ l) s (inl e) = subst (Stands (spans p (a ∷ l)) p (p + (size a + total size l))) (sym e)
      (record { front = []; back = spans (p + size a) l; is = refl; before = tt; behind = firsts-from (p + size a) (p + size a) l (omega arith); from = omega arith; to = omega arith })
  stands p (a ∷ l) s (inr h) =
      let t = stands (p + size a) l s h in
      let from = t.from in
      let to = t.to in
      record {
        front = record { first = p; size = size a } ∷ t.front;
        back = t.back;
        is = ap (◌∷◌ (record { first = p; size = size a })) t.is;
        before = (omega arith, t.before);
        behind = t.behind;
        from = omega arith;
        to = omega arith;
      }
