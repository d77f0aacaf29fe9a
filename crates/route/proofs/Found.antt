-- THE LAW of the verdict: where `move` decides the moves and `point` tells the goals' points, it is the law's. Assumes nothing.
use Rattle.std.specs.Prelude.{⊤, Ok, Err, Result}
use mathlib.Core.Path.{◌≡◌, refl, sym, ap, subst, ◌∙◌}
use mathlib.Core.Logic.{◌↔◌}
use mathlib.Core.Bool.{Bool, true, false}
use mathlib.Core.List.{List, [], ◌∷◌, ◌++◌}
use Prim.Native.Nat.{ℕ, zero, suc, ◌+◌, ◌-◌, ◌≤◌, ◌<◌}
use native.Mathlib.Omega.{arith}
use lib.Dec.{ltb, eqb}
use lib.ListN.{length, get_or, length-append}
use borrow.Author.Tests.{ltb-true, ltb-false, eqb-true, eqb-false}
use Rattle.terms.specs.Words.{pick}
use Rattle.terms.proofs.Tests.{clash}
use Rattle.room.specs.Room.{fitted}
use Rattle.route_law.specs.Routes.{At, Last, Taken, Moves, Ends, BeginsAtStart, GoodRoute, RouteFault, no_beginning, no_move, not_met, wrong_end}
use Rattle.route_law.proofs.Places.{at-below, last_one, taken-met}
use Rattle.route.specs.Judged.{begins, stray, goals_met_of, ends, met_verdict_of, verdict}
use Rattle.route.proofs.Steps.{at_here, at-is, last-here, stray-from, moved, not-moved}
use Rattle.route.proofs.Taking.{Met, all, stuck, met}

module _ (points : ℕ) (Move : ℕ → ℕ → Type 0) (start : ℕ) (route goals : List ℕ) where
  -- what a verdict says
  abbrev pub Says : Result ⊤ (ℕ × ℕ) → Type 0
  Says (Ok _) = GoodRoute points Move start route goals
  Says (Err (line, number)) = (place : ℕ) × (line ≡ fitted place) × RouteFault points Move start route goals place number

  module _ (move : ℕ → ℕ → Bool) (decides : (a b : ℕ) → (move a b ≡ true) ↔ Move a b) (point : ℕ → ℕ) (are : (k : ℕ) → k < length goals → point k ≡ get_or goals k 0) (some : 1 ≤ length goals) where
    -- 21
    begun : begins points start route ≡ true → BeginsAtStart points Move start route
    unfolding begins
    begun = go (ltb 0 (length route)) (eqb (get_or route 0 0) start) (ltb start points) refl refl refl
      where
        go : (x y z : Bool) → ltb 0 (length route) ≡ x → eqb (get_or route 0 0) start ≡ y → ltb start points ≡ z → pick x (pick y z false) false ≡ true → BeginsAtStart points Move start route
        go true true true e f g h = record { declared = ltb-true start points g; there = subst (At route 0) (eqb-true (get_or route 0 0) start f) (at_here route 0 (ltb-true 0 (length route) e)) }
        go true true false e f g h = clash (sym h)
        go true false z e f g h = clash (sym h)
        go false y z e f g h = clash (sym h)

    unbegun : begins points start route ≡ false → BeginsAtStart points Move start route → ⊥
    unfolding begins
    unbegun h b = go (ltb 0 (length route)) (eqb (get_or route 0 0) start) (ltb start points) refl refl refl h
      where
        go : (x y z : Bool) → ltb 0 (length route) ≡ x → eqb (get_or route 0 0) start ≡ y → ltb start points ≡ z → pick x (pick y z false) false ≡ false → ⊥
        go true true true e f g h = clash h
        go true true false e f g h = let l = ltb-false start points g in let d = b.declared in omega arith
        go true false z e f g h = eqb-false (get_or route 0 0) start f (sym (at-is route 0 start b.there))
        go false y z e f g h = let l = ltb-false 0 (length route) e in let d = at-below route 0 start b.there in omega arith

    module _ (b : BeginsAtStart points Move start route) where
      long : 1 ≤ length route
      long = at-below route 0 start b.there

      first : ℕ
      first = stray move route 1 (length route - 1)

      steps-before : (k : ℕ) → k < first → Moves Move route k
      unfolding first
      steps-before k h i x y l p q = (decides x y).0 ((λ j. move (at-is route i x p j) (at-is route (suc i) y q j)) ∙ moved move route 1 (length route - 1) i (omega arith) (omega arith))

      -- 22
      strays : first < length route → RouteFault points Move start route goals first 22
      unfolding first
      strays h =
          let low = stray-from move route 1 (length route - 1) in
          let n = long in
          let place : suc (first - 1) ≡ first = omega arith in
          let no = not-moved move route 1 (length route - 1) (omega arith) in
          subst (λ (k : ℕ). RouteFault points Move start route goals k 22) place
          (no_move (first - 1) (get_or route (first - 1) 0) (get_or route first 0) b (steps-before (first - 1) (omega arith)) (at_here route (first - 1) (omega arith)) (subst (λ (k : ℕ). At route k (get_or route first 0)) (sym place) (at_here route first h))
          (λ m. clash (sym ((decides (get_or route (first - 1) 0) (get_or route first 0)).1 m) ∙ no)))

      all-move : length route ≤ first → Moves Move route (length route)
      unfolding first
      all-move h i x y l p q =
          let e = at-below route (suc i) y q in
          (decides x y).0 ((λ j. move (at-is route i x p j) (at-is route (suc i) y q j)) ∙ moved move route 1 (length route - 1) i (omega arith) (omega arith))

      module _ (moves : Moves Move route (length route)) where
        -- 24
        ended : (left : ℕ) → Taken route 0 goals left → (x : Bool) → ends point (length goals) route ≡ x → Says (pick x (Ok tt) (Err (0, 24)))
        unfolding ends
        ended left t true e = record { begins = b; moves = moves; met = taken-met route goals left t; ends = record { end = get_or route (length route - 1) 0; of_route = last-here route long; of_goals = subst (Last goals) (sym (eqb-true (get_or route (length route - 1) 0) (point (length goals - 1)) e ∙ are (length goals - 1) (omega arith))) (last-here goals some) } }
        ended left t false e = (
          0,
          omega arith,
          wrong_end left b moves t (λ h. eqb-false (get_or route (length route - 1) 0) (point (length goals - 1)) e
              (last_one route (get_or route (length route - 1) 0) h.end (last-here route long) h.of_route ∙ last_one goals h.end (get_or goals (length goals - 1) 0) h.of_goals (last-here goals some) ∙ sym (are (length goals - 1) (omega arith)))),
        )

        -- 23
        met-says : Says (met_verdict_of point (length goals) route)
        unfolding met_verdict_of
        met-says = go m.2 (ltb (goals_met_of point (length goals) route 0 0 (length route)) (length goals)) refl
          where
            m : (k : ℕ) × (goals_met_of point (length goals) route 0 0 (length route) ≡ 0 + k) × Met route 0 goals k
            m = met route point (length goals) (length route) 0 0 goals (omega arith) (omega arith) (λ j l. ap point (let e : 0 + j ≡ j = omega arith in e) ∙ are j l)

            go : Met route 0 goals m.0 → (x : Bool) → ltb (goals_met_of point (length goals) route 0 0 (length route)) (length goals) ≡ x
                → Says (pick x (Err (fitted (goals_met_of point (length goals) route 0 0 (length route)), 23)) (pick (ends point (length goals) route) (Ok tt) (Err (0, 24))))
            go (all left t e) true f = let l = ltb-true (goals_met_of point (length goals) route 0 0 (length route)) (length goals) f in let k = m.1 in absurd (omega arith)
            go (all left t e) false f = ended left t (ends point (length goals) route) refl
            go (stuck before p after left split t h e) true f = (length before, ap fitted (m.1 ∙ (let z : 0 + m.0 ≡ m.0 = omega arith in z) ∙ e), not_met before p after left b moves split t h)
            go (stuck before p after left split t h e) false f =
                let l = ltb-false (goals_met_of point (length goals) route 0 0 (length route)) (length goals) f in
                let k = m.1 in
                let n : length goals ≡ length before + suc (length after) = ap length split ∙ length-append before (p ∷ after) in
                absurd (omega arith)

      moving : (x : Bool) → ltb first (length route) ≡ x → Says (pick x (Err (fitted first, 22)) (met_verdict_of point (length goals) route))
      moving true e = (first, refl, strays (ltb-true first (length route) e))
      moving false e = met-says (all-move (ltb-false first (length route) e))

    pub verdict-says : Says (verdict move point points (length goals) start route)
    unfolding verdict first
    verdict-says = go (begins points start route) refl
      where
        go : (x : Bool) → begins points start route ≡ x
            → Says (pick x (pick (ltb (stray move route 1 (length route - 1)) (length route)) (Err (fitted (stray move route 1 (length route - 1)), 22)) (met_verdict_of point (length goals) route)) (Err (0, 21)))
        go true e = moving (begun e) (ltb (stray move route 1 (length route - 1)) (length route)) refl
        go false e = (0, omega arith, no_beginning (unbegun e))
