-- WHAT A READER MUST BELIEVE. That both parts agree, as a statement of their contracts. Request L13: "Prove with it that L5 has a good route exactly when this, given the room, accepts." No contract rests on it. Assumes nothing.
use Rattle.replies.specs.Types.{PairReply}
use Rattle.std.specs.Prelude.{◌↔◌, ◌≤◌, Ok, Err}
use Rattle.terms.specs.Words.{List, ℕ, length, Bytes}
use Rattle.law.specs.Network.{Rules}
use Rattle.law.specs.Tables.{Lent, MissionLent}
use Rattle.route_law.specs.Moves.{points_declared}
use Rattle.pair_checks.specs.Checks.{AcceptedPair, ChecksRoute}
use Rattle.reach_checks.specs.Checks.{ChecksMission}

abbrev pub IsAcceptance : PairReply → Type 0
IsAcceptance (Ok (c, file, d, own)) = Unit {0}
IsAcceptance (Err why) = ⊥

module _ (rules : Rules) (rndf mdf : Bytes) (t : Lent) (u : MissionLent) where
  -- "L5 has a good route": the checker of routes accepts some route from this start
  pub record SomeRoute (start : ℕ) : Type 0 where
    pub route : List ℕ
    pub reply : PairReply
    pub left : Lent
    pub mission_left : MissionLent
    pub checked : ChecksRoute rules start route rndf mdf t u reply left mission_left
    pub accepted : IsAcceptance reply

  -- "given the room": where the pair is accepted, a row of the work space for each point. Where it is refused, room plays no part
  abbrev pub RowForEachPoint : (work : List ℕ) → Type 0
  RowForEachPoint work = (pair : AcceptedPair rules rndf mdf t u) → points_declared pair.net ≤ length work

  -- whatever is replied
  abbrev pub RouteExactlyIfDriven : (start : ℕ) → Type 0
  RouteExactlyIfDriven start = (work : List ℕ) (reply : PairReply) (left : Lent) (mission_left : MissionLent) (work-left : List ℕ)
      → RowForEachPoint work → ChecksMission rules start rndf mdf t u work reply left mission_left work-left
      → SomeRoute start ↔ IsAcceptance reply
