-- THE LAW of 14 to 18 by lines: the first statement of an MDF at fault is the earliest of those of the first rows at fault; it is right, and only it is. Assumes nothing.
use mathlib.Core.Path.{◌≡◌, refl, sym, ap, ap₂, subst, ◌∙◌}
use mathlib.Core.List.{List, [], ◌∷◌, ◌++◌, map, append_assoc, append-nil, cons≢nil}
use mathlib.Core.Option.{Option, none, some}
use mathlib.Core.Bool.{Bool, true, false, not}
use Prim.Native.Nat.{ℕ}
use native.Mathlib.Omega.{arith}
use lib.Dec.{T}
use lib.ListN.{length}
use borrow.Author.Tests.{not-true}
use Rattle.terms.proofs.Lists.{map-id}
use Rattle.grammar.specs.Language.{Lang, S, as_kind, all_of}
use Rattle.grammar.specs.MissionStatements.{Statement, orders, say, of_kind, RNDF, goal, limit, end_speed_limits}
use Rattle.grammar.proofs.LanguageLaws.{as_same, as-inv, all-some, all_none}
use Rattle.fill.specs.Faults.{First, MissionFault, other_name, foreign_goal, bad_limit_of, id_missing}
use Rattle.fill.specs.FirstFaults.{Fault, fault, fault_if, or_behind, or_else, first_fault, goal_fault, the_first_foreign_goal_of, limit_fault, the_first_bad_limit_of, some_missing}
use Rattle.fill.specs.FirstLines.{on, said, placed, earlier, name_fault, end_fault, mission_fault, first_mission_fault}
use Rattle.fill.proofs.FaultLaws.{Decides, first-right, first-only}
use Rattle.fill.proofs.ReferenceLaws.{fault_if-told}
use Rattle.fill.proofs.MissionLaws.{goal_decides, limit_decides, missing-right, missing-only}
use Rattle.fill.proofs.LineFaults.{first-of-two, first_said}

-- the first of two tests, or the other
or_else-told : {R : Type 0} (a b : Option ℕ) (k : ℕ) → or_else a b ≡ some k → (a ≡ some k → R) → (b ≡ some k → R) → R
or_else-told (some i) b k h f g = f h
or_else-told none b k h f g = g h

on-told : {A R : Type 0} (f : A → Option ℕ) (o : Option A) (k : ℕ) → on f o ≡ some k → ((v : A) → o ≡ some v → f v ≡ some k → R) → R
on-told f none k h c = absurd (let z : ◌≡◌ {A = ℕ} 0 1 = cc in omega arith)
on-told f (some v) k h c = c v refl h

-- nothing of a kind: not in the first, nor behind it
pub other : (L : Lang) (k : L.Kind) {R : Type 0} (x : S L) (l : List (S L)) → all_of L k (x ∷ l) ≡ [] → (as_kind L k x ≡ none → all_of L k l ≡ [] → R) → R
other L k {R} x l e f = go (as_kind L k x) refl
  where
    go : (o : Option (L.Pay k)) → as_kind L k x ≡ o → R
    go none q = f q (sym (all_none L k x l q) ∙ e)
    go (some v) q = absurd (cons≢nil (sym (all-some L k x l v q) ∙ e))

module _ {N : Type 0} (named : N → Bool) (numbers : List ℕ) (parts : ℕ) where
  abbrev ids : List (Statement N) → List ℕ
  ids l = map (λ a. a.id) (of_kind limit l)

  -- ## By rows, for any statements
  pub mission-rows : (u : List (Statement N)) → first_mission_fault named numbers parts u
      ≡ earlier (placed (orders N) RNDF u (first_fault (name_fault named) [] (of_kind RNDF u)))
      (earlier (placed (orders N) goal u (the_first_foreign_goal_of numbers (of_kind goal u)))
      (earlier (placed (orders N) limit u (the_first_bad_limit_of parts (ids u)))
      (first_fault (end_fault parts) [] u)))
  mission-rows u =
      first-of-two (said (orders N) RNDF (λ v. v) (name_fault named)) (λ front x. or_else (said (orders N) goal (λ v. v) (goal_fault numbers) front x) (or_else (said (orders N) limit (λ a. a.id) (limit_fault parts) front x) (end_fault parts front x))) [] u
      ∙ ap₂ earlier (first_said (orders N) RNDF (λ v. v) (name_fault named) u ∙ ap (λ (l : List N). placed (orders N) RNDF u (first_fault (name_fault named) [] l)) (map-id (of_kind RNDF u)))
      (first-of-two (said (orders N) goal (λ v. v) (goal_fault numbers)) (λ front x. or_else (said (orders N) limit (λ a. a.id) (limit_fault parts) front x) (end_fault parts front x)) [] u
      ∙ ap₂ earlier (first_said (orders N) goal (λ v. v) (goal_fault numbers) u ∙ ap (λ (l : List ℕ). placed (orders N) goal u (first_fault (goal_fault numbers) [] l)) (map-id (of_kind goal u)))
      (first-of-two (said (orders N) limit (λ a. a.id) (limit_fault parts)) (end_fault parts) [] u
      ∙ ap (λ (o : Option Fault). earlier o (first_fault (end_fault parts) [] u)) (first_said (orders N) limit (λ a. a.id) (limit_fault parts) u)))

  -- ## Right, and only that
  module _ (Named : N → Type 0) (by : (v : N) → named v ≡ true → Named v) (is : (v : N) → Named v → named v ≡ true) where
    not_named : (v : N) → (Named v → ⊥) → named v ≡ false
    not_named v h = go (named v) refl
      where
        go : (t : Bool) → named v ≡ t → named v ≡ false
        go true q = absurd (h (by v q))
        go false q = q

    pub mission_decides : Decides (mission_fault named numbers parts) (MissionFault Named numbers parts)
    mission_decides = record { told = right; tells = only }
      where
        right : (front : List (Statement N)) (x : Statement N) (k : ℕ) → mission_fault named numbers parts front x ≡ some k → MissionFault Named numbers parts front x k
        right front x k h = or_else-told (said (orders N) RNDF (λ v. v) (name_fault named) front x) (or_else (said (orders N) goal (λ v. v) (goal_fault numbers) front x) (or_else (said (orders N) limit (λ a. a.id) (limit_fault parts) front x) (end_fault parts front x))) k h
            (λ h. on-told (λ v. name_fault named (map (λ v. v) (of_kind RNDF front)) v) (as_kind (orders N) RNDF x) k h (λ v q h.
            let t = fault_if-told (not (named v)) 14 k h in other_name v (as-inv (orders N) RNDF x v q) (λ s. subst T (sym (is v s) ∙ not-true (named v) t.0) tt) t.1))
            (λ h. or_else-told (said (orders N) goal (λ v. v) (goal_fault numbers) front x) (or_else (said (orders N) limit (λ a. a.id) (limit_fault parts) front x) (end_fault parts front x)) k h
            (λ h. on-told (λ v. goal_fault numbers (map (λ v. v) (of_kind goal front)) v) (as_kind (orders N) goal x) k h (λ v q h.
            let f = (goal_decides numbers).told (map (λ v. v) (of_kind goal front)) v k h in foreign_goal v (as-inv (orders N) goal x v q) f.not f.number))
            (λ h. or_else-told (said (orders N) limit (λ a. a.id) (limit_fault parts) front x) (end_fault parts front x) k h
            (λ h. on-told (λ v. limit_fault parts (ids front) v.id) (as_kind (orders N) limit x) k h (λ v q h. bad_limit_of v (as-inv (orders N) limit x v q) ((limit_decides parts).told (ids front) v.id k h)))
            (λ h. on-told (λ v. fault_if (some_missing parts (ids front)) 18) (as_kind (orders N) end_speed_limits x) k h (λ v q h.
            let t = fault_if-told (some_missing parts (ids front)) 18 k h in id_missing (as-inv (orders N) end_speed_limits x v q) (missing-right parts (ids front) t.0) t.1))))

        only : (front : List (Statement N)) (x : Statement N) (k : ℕ) → MissionFault Named numbers parts front x k → mission_fault named numbers parts front x ≡ some k
        only front x k (other_name v e n q) = ap (mission_fault named numbers parts front) e ∙ ap (λ (o : Option N). or_else (on (name_fault named []) o) none) (as_same (orders N) RNDF v) ∙ rw (not_named v n, q)
        only front x k (foreign_goal v e n q) = rw e (rw ((goal_decides numbers).tells (map (λ v. v) (of_kind goal front)) v k (record { not = n; number = q })))
        only front x k (bad_limit_of v e f) = rw e (rw ((limit_decides parts).tells (ids front) v.id k f))
        only front x k (id_missing e m q) = rw (e, missing-only parts (ids front) m, q)

    pub first-mission-right : (u : List (Statement N)) (x : Fault) → first_mission_fault named numbers parts u ≡ some x → First (MissionFault Named numbers parts) [] u x.row x.number
    first-mission-right = first-right mission_decides []

    pub first-mission-only : (u : List (Statement N)) (i k : ℕ) → First (MissionFault Named numbers parts) [] u i k → first_mission_fault named numbers parts u ≡ some (fault i k)
    first-mission-only = first-only mission_decides []

  -- ## 18 where a mission is spelled
  -- statements of other kinds, then `end_speed_limits`, then others again
  no_end : (front r : List (Statement N)) → of_kind end_speed_limits r ≡ [] → first_fault (end_fault parts) front r ≡ none
  unfolding first_fault
  no_end front [] e = refl
  no_end front (x ∷ r) e = other (orders N) end_speed_limits x r e (λ q e. rw q (no_end (front ++ (x ∷ [])) r e))

  pub ends_at : (w front r : List (Statement N)) → of_kind end_speed_limits w ≡ [] → of_kind end_speed_limits r ≡ []
      → first_fault (end_fault parts) front (w ++ (say end_speed_limits tt ∷ r)) ≡ or_behind (length (front ++ w)) (fault_if (some_missing parts (ids (front ++ w))) 18) none
  unfolding first_fault
  ends_at [] front r e d = rw append-nil (ap (or_behind (length front) (fault_if (some_missing parts (ids front)) 18)) (no_end (front ++ (say end_speed_limits tt ∷ [])) r d))
  ends_at (x ∷ w) front r e d = other (orders N) end_speed_limits x w e (λ q e. rw q (ends_at w (front ++ (x ∷ [])) r e d
      ∙ ap (λ (l : List (Statement N)). or_behind (length l) (fault_if (some_missing parts (ids l)) 18) none) (append_assoc front (x ∷ []) w)))
