-- A few rows, decided: what the first faults are. Assumes nothing.
use mathlib.Core.Path.{◌≡◌, refl}
use mathlib.Core.List.{[], ◌∷◌}
use mathlib.Core.Option.{some}
use mathlib.Core.Bool.{true}
use Rattle.fill.specs.FirstFaults.{fault, first_fault, is_among, the_first_repeat_of, the_first_foreign_goal_of, the_first_bad_limit_of, limit_fault, some_missing}

-- the third number stood before; the first did not
repeat-third : the_first_repeat_of (7 ∷ 8 ∷ 7 ∷ 8 ∷ []) ≡ some (fault 2 13)
unfolding first_fault is_among
repeat-third = refl

-- of checkpoints 7 and 8
goal-second : the_first_foreign_goal_of (7 ∷ 8 ∷ []) (8 ∷ 9 ∷ 7 ∷ []) ≡ some (fault 1 15)
unfolding first_fault is_among
goal-second = refl

-- of ids 1 to 2
limit-third : the_first_bad_limit_of 2 (2 ∷ 1 ∷ 2 ∷ 3 ∷ []) ≡ some (fault 2 17)
unfolding first_fault is_among
limit-third = refl

-- an id that is not there, given again
limit-both : limit_fault 2 (3 ∷ []) 3 ≡ some 16
unfolding is_among
limit-both = refl

limit-missing : some_missing 3 (3 ∷ 1 ∷ []) ≡ true
unfolding some_missing is_among
limit-missing = refl
