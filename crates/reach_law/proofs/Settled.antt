-- THE THEOREMS of L13, whatever the moves are: no mission can be driven and not (`not-both`), no two refusals hold (`one-fault`), and where chains can be decided one of these holds (`some-answer`). Assumes nothing.
use mathlib.Core.Path.{◌≡◌, refl, sym, ap, subst, ◌∙◌}
use mathlib.Core.List.{List, [], ◌∷◌, ◌++◌}
use mathlib.Core.Logic.{◌⊎◌, inl, inr}
use mathlib.Core.Bool.{Bool, true, false}
use Prim.Native.Nat.{ℕ, zero, suc, ◌≤◌, ◌<◌}
use native.Mathlib.Omega.{arith}
use lib.Dec.{ltb}
use lib.ListN.{length}
use borrow.Author.Tests.{ltb-true, ltb-false}
use Rattle.route_law.proofs.Decided.{Told}
use Rattle.reach_law.specs.Reach.{Chain, Onward, Drivable, DriveTaken, DriveFault, no_room, no_start, no_chain}
use Rattle.reach_law.proofs.Legs.{Stuck, stuck-one, driven-free, stuck_at, split-of, told-driven}

module _ (Move : ℕ → ℕ → Type 0) (points rows start : ℕ) (goals : List ℕ) where
  abbrev Can : Type 0
  Can = DriveTaken Move points rows start goals

  abbrev Cannot : (line number : ℕ) → Type 0
  Cannot = DriveFault Move points rows start goals

  stuck-of : (before : List ℕ) (goal : ℕ) (after : List ℕ) → goals ≡ before ++ (goal ∷ after) → Drivable Move start before → (Drivable Move start (before ++ (goal ∷ [])) → ⊥) → Stuck Move start goals (length before)
  stuck-of before goal after e d h = subst (λ g. Stuck Move start g (length before)) (sym e) (stuck_at Move start before goal after d h)

  pub not-both : (line number : ℕ) → Can → Cannot line number → ⊥
  not-both line number c (no_room h) = h c.room
  not-both line number c (no_start r h) = h c.declared
  not-both line number c (no_chain before goal after r s e d h) = driven-free Move start goals (length before) c.drivable (stuck-of before goal after e d h)

  pub one-fault : (line number line' number' : ℕ) → Cannot line number → Cannot line' number' → (line ≡ line') × (number ≡ number')
  one-fault l n l' n' (no_room h) (no_room h') = (refl, refl)
  one-fault l n l' n' (no_room h) (no_start r h') = absurd (h r)
  one-fault l n l' n' (no_room h) (no_chain before goal after r s e d h') = absurd (h r)
  one-fault l n l' n' (no_start r h) (no_room h') = absurd (h' r)
  one-fault l n l' n' (no_start r h) (no_start r' h') = (refl, refl)
  one-fault l n l' n' (no_start r h) (no_chain before goal after r' s e d h') = absurd (h s)
  one-fault l n l' n' (no_chain before goal after r s e d h) (no_room h') = absurd (h' r)
  one-fault l n l' n' (no_chain before goal after r s e d h) (no_start r' h') = absurd (h' s)
  one-fault l n l' n' (no_chain before goal after r s e d h) (no_chain before' goal' after' r' s' e' d' h') =
      (stuck-one Move start goals (length before) (length before') (stuck-of before goal after e d h) (stuck-of before' goal' after' e' d' h'), refl)

  -- the first goal that has no chain is the one that is refused
  pub refused-at : (k : ℕ) → points ≤ rows → start < points → Stuck Move start goals k → Cannot k 31
  refused-at k r s x = let w = split-of Move start goals k x in subst (λ i. Cannot i 31) w.many (no_chain w.before w.goal w.after r s w.is w.driven w.not)

  pub some-answer : ((a c : ℕ) → Told (Chain Move a c)) → ((a c : ℕ) → Told (Onward Move a c)) → Can ⊎ ((line : ℕ) × (number : ℕ) × Cannot line number)
  some-answer told-chain told-onward = go (ltb rows points) (ltb start points) refl refl (told-driven Move told-chain told-onward start goals)
    where
      go : (x y : Bool) → ltb rows points ≡ x → ltb start points ≡ y → Drivable Move start goals ⊎ ((k : ℕ) × Stuck Move start goals k) → Can ⊎ ((line : ℕ) × (number : ℕ) × Cannot line number)
      go true y p q r = inr (0, 11, no_room (λ h. let x = ltb-true rows points p in omega arith))
      go false false p q r = inr (0, 30, no_start (ltb-false rows points p) (λ h. let x = ltb-false start points q in omega arith))
      go false true p q (inl d) = inl (record { room = ltb-false rows points p; declared = ltb-true start points q; drivable = d })
      go false true p q (inr s) = inr (s.0, 31, refused-at s.0 (ltb-false rows points p) (ltb-true start points q) s.1)
