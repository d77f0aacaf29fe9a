-- WHAT A READER MUST BELIEVE. What a part that judges an accepted pair replies, and what the lent tables then hold. Requests L5 and L13. Assumes nothing.
use Rattle.replies.specs.Types.{PairReply}
use Rattle.terms.specs.Words.{List, ℕ, Bytes}
use Rattle.std.specs.Prelude.{min, ◌≡◌, Err}
use Rattle.line.specs.Line.{Field}
use Rattle.law.specs.Network.{Network, Mission, Rules}
use Rattle.law.specs.Tables.{Lent, MissionLent, zeros, mission_zeros}
use Rattle.route_law.specs.Moves.{Move, points_declared, GoalPoints}
use Rattle.route_law.specs.Routes.{GoodRoute, RouteFault}
use Rattle.refusal.specs.declared.Refusal.{Refusal}
use Rattle.replies.specs.Replies.{an_rndf, an_mdf, Accepts, refusal, ReadsPair}

-- t: the tables as they were lent; u: those of the MDF
module _ (rules : Rules) (rndf mdf : Bytes) (t : Lent) (u : MissionLent) where
  -- the pair is accepted, and these are its network, its mission and the points of its goals
  pub record AcceptedPair : Type 0 where
    pub net : Network Field
    pub mission : Mission Field
    pub goals : List ℕ
    pub network_accepted : Accepts rules (an_rndf t) rndf net
    pub mission_accepted : Accepts rules (an_mdf net u) mdf mission
    pub goals_stand : GoalPoints net mission goals

  -- ## A part that judges an accepted pair. Right, Wrong: what is right and what is wrong of its network and the points of its goals
  module _ (Right : Network Field → (goals : List ℕ) → Type 0) (Wrong : Network Field → (goals : List ℕ) → (line number : ℕ) → Type 0) where
    pub data Judges (reply : PairReply) (left : Lent) (mission_left : MissionLent) : Type 0 where
      -- 01: "reads them first and refuses as the reader does before any refusal of its own"
      unread : (why : Refusal) → ReadsPair rules rndf mdf t u (Err why) left mission_left → reply ≡ Err why → Judges reply left mission_left
      -- 02: "Numbers from 20 on give file 0"; L7: "from 20 on unless said otherwise, it is 0", the column; of 11, L13: "11 (file 0) for the work space", L7: "Where the line is 0, .. it is 0"; 01: "All lent tables .. are then zero over their whole length". What stands in place of the line is told in 32 bits: more is told as 4,294,967,295
      wrong : (pair : AcceptedPair) (line number : ℕ) → Wrong pair.net pair.goals line number → reply ≡ Err (refusal 0 (min line 4294967295) number 0) → left ≡ zeros t → mission_left ≡ mission_zeros u → Judges reply left mission_left
      -- the reply and the tables are the reader's
      right : (pair : AcceptedPair) → Right pair.net pair.goals → ReadsPair rules rndf mdf t u reply left mission_left → Judges reply left mission_left

-- ## L5: "a small checker over an accepted pair, a start point's index and such a list" (of point indexes)
module _ (start : ℕ) (route : List ℕ) where
  abbrev pub Good : Network Field → (goals : List ℕ) → Type 0
  Good n = GoodRoute (points_declared n) (Move n) start route

  abbrev pub Bad : Network Field → (goals : List ℕ) → (line number : ℕ) → Type 0
  Bad n = RouteFault (points_declared n) (Move n) start route

abbrev pub ChecksRoute : Rules → (start : ℕ) → (route : List ℕ) → (rndf mdf : Bytes) → Lent → MissionLent → PairReply → (left : Lent) → (mission_left : MissionLent) → Type 0
ChecksRoute rules start route rndf mdf t u = Judges rules rndf mdf t u (Good start route) (Bad start route)
