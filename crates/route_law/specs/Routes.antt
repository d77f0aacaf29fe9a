-- WHAT A READER MUST BELIEVE. Which routes are good, and what is wrong with the others. Request L5, "Is this route drivable?". Assumes nothing.
use Rattle.std.specs.Prelude.{◌≡◌, ◌∷◌, ◌++◌, ◌≤◌, ◌<◌}
use Rattle.terms.specs.Words.{List, [], ℕ, zero, suc, length}
use Rattle.look_up.specs.Listed.{Paired}

-- this point stands at this place of the route, places from 0
abbrev pub At : (route : List ℕ) → (place point : ℕ) → Type 0
At [] i p = ⊥
At (a ∷ l) zero p = p ≡ a
At (a ∷ l) (suc i) p = At l i p

-- the last of a list
abbrev pub Last : List ℕ → ℕ → Type 0
Last [] p = ⊥
Last (a ∷ []) p = p ≡ a
Last (a ∷ b ∷ l) p = Last (b ∷ l) p

-- L5: "each at a strictly later place than the one before"
abbrev pub Rising : List ℕ → Type 0
Rising [] = Unit {0}
Rising (a ∷ []) = Unit {0}
Rising (a ∷ b ∷ l) = (a < b) × Rising (b ∷ l)

-- goals: the goals' points. L5: "the goals are met in order, each at a strictly later place than the one before"
pub record MetInOrder (route goals : List ℕ) : Type 0 where
  pub places : List ℕ
  pub met : Paired (At route) places goals
  pub rising : Rising places

-- p stands nowhere from place `from` on
abbrev pub NotFrom : (route : List ℕ) → (from p : ℕ) → Type 0
NotFrom route from p = (i : ℕ) → from ≤ i → At route i p → ⊥

-- i is the earliest place from `from` on at which p stands
pub record Earliest (route : List ℕ) (from p i : ℕ) : Type 0 where
  pub behind : from ≤ i
  pub there : At route i p
  pub none_before : (j : ℕ) → from ≤ j → j < i → At route j p → ⊥

-- L5: "each goal taken at the earliest place": these goals are, from place `from` on, and what is then left of the route begins at place `left`
pub data Taken (route : List ℕ) : (from : ℕ) (goals : List ℕ) (left : ℕ) → Type 0 where
  none : {from : ℕ} → Taken route from [] from
  one : {from p i left : ℕ} {goals : List ℕ} → Earliest route from p i → Taken route (suc i) goals left → Taken route from (p ∷ goals) left

-- L5: "each step is a move": each of the first so many
abbrev pub Moves : (Move : ℕ → ℕ → Type 0) → (route : List ℕ) → (so-many : ℕ) → Type 0
Moves Move route so-many = (i a b : ℕ) → i < so-many → At route i a → At route (suc i) b → Move a b

-- L5: "it ends at the last goal's point"
pub record Ends (route goals : List ℕ) : Type 0 where
  pub end : ℕ
  pub of_route : Last route end
  pub of_goals : Last goals end

-- points: how many points are declared; Move: the moves between them
module _ (points : ℕ) (Move : ℕ → ℕ → Type 0) (start : ℕ) (route : List ℕ) where
  -- L5: "it begins at the start"; "a declared start"
  pub record BeginsAtStart : Type 0 where
    pub declared : start < points
    pub there : At route 0 start

  -- L5: "A route is good if it begins at the start, each step is a move, the goals are met in order, .., and it ends at the last goal's point. The start itself may meet the first goal."
  pub record GoodRoute (goals : List ℕ) : Type 0 where
    pub begins : BeginsAtStart
    pub moves : Moves Move route (length route)
    pub met : MetInOrder route goals
    pub ends : Ends route goals

  -- L5: "Refusals, in this order: .."; "In place of the line, 22 gives the place in the route that the step leads to and 23 the goal's row, both from 0."
  pub data RouteFault (goals : List ℕ) : (line number : ℕ) → Type 0 where
    -- "21 empty or not beginning at a declared start"
    no_beginning : (BeginsAtStart → ⊥) → RouteFault goals 0 21
    -- "22 a step that is no move (the first)"
    no_move : (i a b : ℕ) → BeginsAtStart → Moves Move route i → At route i a → At route (suc i) b → (Move a b → ⊥) → RouteFault goals (suc i) 22
    -- "23 a goal not met in order (the first, each goal taken at the earliest place)"
    not_met : (before : List ℕ) (p : ℕ) (after : List ℕ) (left : ℕ) → BeginsAtStart → Moves Move route (length route) → goals ≡ before ++ (p ∷ after) → Taken route 0 before left → NotFrom route left p → RouteFault goals (length before) 23
    -- "24 wrong end"
    wrong_end : (left : ℕ) → BeginsAtStart → Moves Move route (length route) → Taken route 0 goals left → (Ends route goals → ⊥) → RouteFault goals 0 24
