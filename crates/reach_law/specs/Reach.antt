-- WHAT A READER MUST BELIEVE. When the goals of a mission can be reached one after the other, and what is wrong otherwise. Request L13, "Can the mission be driven at all?". Assumes nothing.
use Rattle.std.specs.Prelude.{◌≡◌, ◌∷◌, ◌++◌, ◌≤◌, ◌<◌}
use Rattle.terms.specs.Words.{List, [], ℕ, length}

-- L13: "With the moves of L5". Points are told by their rows in the point table, from 0
module _ (Move : ℕ → ℕ → Type 0) where
  -- "by no move or more"
  pub data Chain : (from to : ℕ) → Type 0 where
    none : {a : ℕ} → Chain a a
    move : {a b c : ℕ} → Move a b → Chain b c → Chain a c

  -- "by one move or more"
  pub record Onward (from to : ℕ) : Type 0 where
    pub by : ℕ
    pub first : Move from by
    pub rest : Chain by to

  -- "each later goal from the one before by one move or more"
  abbrev pub Later : (before : ℕ) → (goals : List ℕ) → Type 0
  Later before [] = Unit {0}
  Later before (goal ∷ goals) = Onward before goal × Later goal goals

  -- "the first goal must be reachable from the start by no move or more". goals: the goals' points, in order. A mission has some (01: "`num_checkpoints` > 0"); none are the goals before the first
  abbrev pub Drivable : (start : ℕ) → (goals : List ℕ) → Type 0
  Drivable start [] = Unit {0}
  Drivable start (goal ∷ goals) = Chain start goal × Later goal goals

  -- points: how many points are declared; rows: how many rows the lent work space has; start: the row that the caller gives, of a point or not
  module _ (points rows start : ℕ) where
    -- neither 11 nor 30, and L13: "Accepted exactly if such chains exist"
    pub record DriveTaken (goals : List ℕ) : Type 0 where
      -- "Work space is lent, one row a point"
      pub room : points ≤ rows
      -- not 30, "start is no declared point"
      pub declared : start < points
      pub drivable : Drivable start goals

    -- L13: "Refusals, in order: ..": each only where none before it holds. 11 says nothing of the mission
    pub data DriveFault (goals : List ℕ) : (line number : ℕ) → Type 0 where
      -- "11 (file 0) for the work space"
      no_room : (points ≤ rows → ⊥) → DriveFault goals 0 11
      -- "30 start is no declared point"
      no_start : points ≤ rows → (start < points → ⊥) → DriveFault goals 0 30
      -- "31 a goal that can't be reached, its row in place of the line"; "refused with the first goal that has none": the goals before it have their chains, and with it not all have. 01: "indexes from 0"
      no_chain : (before : List ℕ) (goal : ℕ) (after : List ℕ) → points ≤ rows → start < points → goals ≡ before ++ (goal ∷ after) → Drivable start before → (Drivable start (before ++ (goal ∷ [])) → ⊥) → DriveFault goals (length before) 31
