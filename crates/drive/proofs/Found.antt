-- THE LAW of the verdict: where `leads` tells whether one move or more lead from the start and from each goal, and `point` tells the goals' points, it is the law's. Assumes nothing.
use Rattle.std.specs.Prelude.{⊤, Ok, Err, Result}
use mathlib.Core.Path.{◌≡◌, refl, sym, ap, subst, ◌∙◌}
use mathlib.Core.Logic.{◌⊎◌, inl, inr}
use mathlib.Core.Bool.{Bool, true, false}
use mathlib.Core.List.{List, [], ◌∷◌}
use Prim.Native.Nat.{ℕ, zero, suc, ◌≤◌, ◌<◌}
use native.Mathlib.Omega.{arith}
use lib.Dec.{ltb}
use lib.ListN.{length, get_or}
use borrow.Author.Tests.{ltb-true, ltb-false}
use Rattle.terms.specs.Words.{pick, Each}
use Rattle.terms.proofs.Lists.{each_map}
use Rattle.room.specs.Room.{fitted}
use Rattle.reach_law.specs.Reach.{DriveTaken, DriveFault, no_room, no_start}
use Rattle.reach_law.proofs.Legs.{LaterStuck, Stuck}
use Rattle.reach_law.proofs.Settled.{refused-at}
use Rattle.legs.specs.Legs.{first_stuck_of}
use Rattle.legs.proofs.Told.{Tells, So, first_so}
use Rattle.drive.specs.Verdict.{verdict}

-- the first goal that has no chain is one of them
later-below : (Move : ℕ → ℕ → Type 0) (p : ℕ) (goals : List ℕ) (k : ℕ) → LaterStuck Move p goals k → k < length goals
later-below Move p [] k s = absurd s
later-below Move p (g ∷ goals) zero s = omega arith
later-below Move p (g ∷ goals) (suc k) s = let l = later-below Move g goals k s.1 in omega arith

stuck-below : (Move : ℕ → ℕ → Type 0) (start : ℕ) (goals : List ℕ) (k : ℕ) → Stuck Move start goals k → k < length goals
stuck-below Move start [] k s = absurd s
stuck-below Move start (g ∷ goals) zero s = omega arith
stuck-below Move start (g ∷ goals) (suc k) s = let l = later-below Move g goals k s.1 in omega arith

module _ (Move : ℕ → ℕ → Type 0) (points rows start : ℕ) (goals : List ℕ) where
  -- what a verdict says
  abbrev pub Says : Result ⊤ (ℕ × ℕ) → Type 0
  Says (Ok _) = DriveTaken Move points rows start goals
  Says (Err (line, number)) = (row : ℕ) × (line ≡ fitted row) × DriveFault Move points rows start goals row number

  module _ (leads : ℕ → ℕ → Bool) (point : ℕ → ℕ) (are : (k : ℕ) → k < length goals → point k ≡ get_or goals k 0) (tells : (a : ℕ) → a < points → Tells Move leads point a) (declared : Each (λ p. p < points) goals) where
    abbrev k : ℕ
    k = first_stuck_of leads point (length goals) start

    -- where there is room and the start is declared, so many goals have their chains, and then all, or the next has none
    so : start < points → So Move leads point start goals (first_stuck_of leads point (length goals) start)
    so h = first_so Move leads point start goals are (tells start h) (each_map (λ p. p < points) (Tells Move leads point) tells goals declared)

    -- THE LAW
    pub verdict-says : Says (verdict leads point points rows (length goals) start)
    unfolding verdict
    verdict-says = go (ltb rows points) (ltb start points) (ltb (first_stuck_of leads point (length goals) start) (length goals)) refl refl refl
      where
        wrong : points ≤ rows → start < points → k < length goals → So Move leads point start goals k → Says (Err (fitted k, 31))
        wrong r d h (inl x) = absurd (let e = x.0 in omega arith)
        wrong r d h (inr s) = (k, refl, refused-at Move points rows start goals k r d s)

        good : points ≤ rows → start < points → length goals ≤ k → So Move leads point start goals k → Says (Ok tt)
        good r d h (inl x) = record { room = r; declared = d; drivable = x.1 }
        good r d h (inr s) = absurd (let l = stuck-below Move start goals k s in omega arith)

        go : (x y z : Bool) → ltb rows points ≡ x → ltb start points ≡ y → ltb k (length goals) ≡ z → Says (pick x (Err (0, 11)) (pick y (pick z (Err (fitted k, 31)) (Ok tt)) (Err (0, 30))))
        go true y z e f g = (0, refl, no_room (λ h. let l = ltb-true rows points e in omega arith))
        go false false z e f g = (0, refl, no_start (ltb-false rows points e) (λ h. let l = ltb-false start points f in omega arith))
        go false true true e f g = let d = ltb-true start points f in wrong (ltb-false rows points e) d (ltb-true k (length goals) g) (so d)
        go false true false e f g = let d = ltb-true start points f in good (ltb-false rows points e) d (ltb-false k (length goals) g) (so d)
