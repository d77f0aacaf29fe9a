-- Executable: what a route gets, read of any tables; every contract of a private function cites this. That it is the law's answer where the tables are those of an accepted pair is proofs/Lawful. Assumes nothing.
use Rattle.replies.specs.Types.{PairReply}
use Rattle.terms.specs.Words.{List, ℕ, zero, suc, Bool, true, false, length, eqb, ltb, pick}
use Rattle.std.specs.Prelude.{get_or, ◌-◌, ⊤, Ok, Err, Result}
use Rattle.counts.specs.declared.Counts.{Counts}
use Rattle.counts.specs.declared.MissionCounts.{MissionCounts}
use Rattle.room.specs.Room.{fitted}
use Rattle.replies.specs.Replies.{refusal}
use Rattle.goal_points.specs.Goals.{goal_point_of}
use Rattle.moves.specs.Moves.{is_move}

-- 21: the route begins at a declared start
unfoldable pub begins : (points start : ℕ) → (route : List ℕ) → Bool
begins points start route = pick (ltb 0 (length route)) (pick (eqb (get_or route 0 0) start) (ltb start points) false) false

-- 22: the first of `left` places, from this one on, to which the step is no move; the one behind them if there is none
unfoldable pub stray : (move : ℕ → ℕ → Bool) → (route : List ℕ) → (place left : ℕ) → ℕ
stray move route place zero = place
stray move route place (suc left) = pick (move (get_or route (place - 1) 0) (get_or route place 0)) (stray move route (suc place) left) place

-- 23: how many of so many goals are met, each taken at the earliest of `left` places from this one on, where some are taken before. point: the goals' points
unfoldable pub goals_met_of : (point : ℕ → ℕ) → (count : ℕ) → (route : List ℕ) → (taken place left : ℕ) → ℕ
goals_met_of point count route taken place zero = taken
goals_met_of point count route taken place (suc left) = pick (ltb taken count) (goals_met_of point count route (pick (eqb (get_or route place 0) (point taken)) (suc taken) taken) (suc place) left) taken

-- 24: the last place of the route has the last goal's point
unfoldable pub ends : (point : ℕ → ℕ) → (count : ℕ) → (route : List ℕ) → Bool
ends point count route = eqb (get_or route (length route - 1) 0) (point (count - 1))

-- L5: "Refusals, in this order: .."
unfoldable pub met_verdict_of : (point : ℕ → ℕ) → (count : ℕ) → (route : List ℕ) → Result ⊤ (ℕ × ℕ)
met_verdict_of point count route = pick (ltb (goals_met_of point count route 0 0 (length route)) count)
    (Err (fitted (goals_met_of point count route 0 0 (length route)), 23))
    (pick (ends point count route) (Ok tt) (Err (0, 24)))

unfoldable pub verdict : (move : ℕ → ℕ → Bool) → (point : ℕ → ℕ) → (points count start : ℕ) → (route : List ℕ) → Result ⊤ (ℕ × ℕ)
verdict move point points count start route = pick (begins points start route)
    (pick (ltb (stray move route 1 (length route - 1)) (length route)) (Err (fitted (stray move route 1 (length route - 1)), 22)) (met_verdict_of point count route))
    (Err (0, 21))

-- the reply: the reader's, or the refusal of the route
abbrev pub replied : PairReply → Result ⊤ (ℕ × ℕ) → PairReply
replied reply (Ok _) = reply
replied reply (Err (line, number)) = Err (refusal 0 line number 0)

unfoldable pub ruled : (lanes zones checkpoints exits goals : List ℕ) → (start : ℕ) → (route : List ℕ) → PairReply → PairReply
ruled lanes zones checkpoints exits goals start route (Ok (c, file, m, own)) = replied (Ok (c, file, m, own)) (verdict (is_move lanes zones exits c) (goal_point_of checkpoints goals) c.points m.goals start route)
ruled lanes zones checkpoints exits goals start route (Err why) = Err why
