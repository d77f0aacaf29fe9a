-- Executable: what a mission gets, read of any tables. That it is the law's answer where the tables tell what the law says is proofs/Found. Assumes nothing.
use Rattle.std.specs.Prelude.{⊤, Ok, Err, Result}
use Rattle.terms.specs.Words.{ℕ, Bool, ltb, pick}
use Rattle.room.specs.Room.{fitted}
use Rattle.legs.specs.Legs.{first_stuck_of}

-- L13: "Refusals, in order: .." leads: whether one move or more lead from a point to another; point: the goals' points; points: how many there are; rows: those of the work space; count: how many goals
unfoldable pub verdict : (leads : ℕ → ℕ → Bool) → (point : ℕ → ℕ) → (points rows count start : ℕ) → Result ⊤ (ℕ × ℕ)
verdict leads point points rows count start = pick (ltb rows points)
    (Err (0, 11))
    (pick (ltb start points)
    (pick (ltb (first_stuck_of leads point count start) count) (Err (fitted (first_stuck_of leads point count start), 31)) (Ok tt))
    (Err (0, 30)))
