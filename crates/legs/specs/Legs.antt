-- Executable: the first goal that has no chain of moves. leads: whether one move or more lead from a point to another; point: the goals' points, by their rows. Assumes nothing.
use Rattle.terms.specs.Words.{List, ℕ, zero, suc, Bool, true, false, eqb, ltb, pick}
use Rattle.std.specs.Prelude.{get_or, ◌-◌}

-- of `left` goals from this row on, behind the one at the point `before`, the first to which nothing leads from the one before; the row behind them if there is none
unfoldable pub later_stuck_of : (leads : ℕ → ℕ → Bool) → (point : ℕ → ℕ) → (before row left : ℕ) → ℕ
later_stuck_of leads point before row zero = row
later_stuck_of leads point before row (suc left) = pick (leads before (point row)) (later_stuck_of leads point (point row) (suc row) left) row

-- of so many goals
unfoldable pub first_stuck_of : (leads : ℕ → ℕ → Bool) → (point : ℕ → ℕ) → (count start : ℕ) → ℕ
first_stuck_of leads point count start = pick (ltb 0 count)
    (pick (eqb start (point 0)) (later_stuck_of leads point (point 0) 1 (count - 1)) (pick (leads start (point 0)) (later_stuck_of leads point (point 0) 1 (count - 1)) 0))
    0

-- ## By one search for each number that is started from
-- goals: their numbers, a word each. A leg has the row of the goal that it leads to, and starts at the goal before.

-- whether a number is that of one of so many goals from the first on
unfoldable pub stood : (goals : List ℕ) → (number many : ℕ) → Bool
stood goals number zero = false
stood goals number (suc many) = pick (eqb (get_or goals many 0) number) true (stood goals number many)

-- whether a leg starts at this number and its goal is not marked by the search from there
unfoldable pub unmarked : (goals : List ℕ) → (point : ℕ → ℕ) → (found : List ℕ) → (number leg : ℕ) → Bool
unmarked goals point found number leg = pick (eqb (get_or goals (leg - 1) 0) number) (eqb (get_or found (point leg) 0) 0) false

-- of `left` legs from this one on the first of which the test is true; the one behind them if there is none
unfoldable pub first-of : (test : ℕ → Bool) → (leg left : ℕ) → ℕ
first-of test leg zero = leg
first-of test leg (suc left) = pick (test leg) leg (first-of test (suc leg) left)

-- a search from the goal before this row, where its number did not stand before: of the legs from that number the first without chain, where it is before `bad`, else `bad`. found: what a search from a point marks
unfoldable pub stuck_from_of : (goals : List ℕ) → (point : ℕ → ℕ) → (found : ℕ → List ℕ) → (row bad : ℕ) → ℕ
stuck_from_of goals point found row bad = pick (stood goals (get_or goals (row - 1) 0) (row - 1)) bad (first-of (unmarked goals point (found (point (row - 1))) (get_or goals (row - 1) 0)) row (bad - row))
