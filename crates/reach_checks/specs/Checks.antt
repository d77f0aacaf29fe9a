-- WHAT A READER MUST BELIEVE. What is replied to the question whether a mission can be driven, and what all that was lent then holds. Request L13. Assumes nothing.
use Rattle.replies.specs.Types.{PairReply}
use Rattle.std.specs.Prelude.{◌≡◌}
use Rattle.terms.specs.Words.{List, ℕ, length, replicate, Bytes}
use Rattle.line.specs.Line.{Field}
use Rattle.law.specs.Network.{Network, Rules}
use Rattle.law.specs.Tables.{Lent, MissionLent}
use Rattle.route_law.specs.Moves.{Move, points_declared}
use Rattle.reach_law.specs.Reach.{DriveTaken, DriveFault}
use Rattle.pair_checks.specs.Checks.{Judges}

-- "With the moves of L5". rows: those of the work space; start: the row that the caller gives
module _ (rows start : ℕ) where
  abbrev pub Can : Network Field → (goals : List ℕ) → Type 0
  Can n = DriveTaken (Move n) (points_declared n) rows start

  abbrev pub Cannot : Network Field → (goals : List ℕ) → (line number : ℕ) → Type 0
  Cannot n = DriveFault (Move n) (points_declared n) rows start

-- t, u: the tables as they were lent; work: the work space as it was lent, a word to a row. A refusal of its own, 11 for the work space, 30 or 31, has file 0 and column 0, and every lent table is then zero (`Judges`: wrong); the reader's own, its 11 with file 1 or 2 too,
-- come before (unread). A goal's row is below 32,768, so that 31 tells it as it is
pub record ChecksMission (rules : Rules) (start : ℕ) (rndf mdf : Bytes) (t : Lent) (u : MissionLent) (work : List ℕ) (reply : PairReply) (left : Lent) (mission_left : MissionLent) (work-left : List ℕ) : Type 0 where
  pub judged : Judges rules rndf mdf t u (Can (length work) start) (Cannot (length work) start) reply left mission_left
  -- L13: "is zero afterwards either way": also where the reader refuses
  pub cleared : work-left ≡ replicate (length work) 0
