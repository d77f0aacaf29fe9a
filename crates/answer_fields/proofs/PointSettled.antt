-- THE THEOREM of document 01's "Prove that no second reply or memory would satisfy it", for the library's look-up `kastepuhm_point_of`: its contract `PointOf` settles the answer, for every table and every number; and one answer satisfies it.
-- The table is lent only to be read. Assumes nothing.
use mathlib.Core.Path.{◌≡◌}
use mathlib.Core.List.{List}
use Prim.Native.Nat.{ℕ}
use Rattle.look_up.specs.LookUp.{PointOf}
use Rattle.look_up.proofs.Answers.{point-one, point-some}

-- no second answer
pub point-answer-settled : (checkpoints : List ℕ) (number p q : ℕ) → PointOf checkpoints number p → PointOf checkpoints number q → p ≡ q
point-answer-settled = point-one

-- one there is
pub point-answer-some : (checkpoints : List ℕ) (number : ℕ) → (p : ℕ) × PointOf checkpoints number p
point-answer-some checkpoints number = let x = point-some checkpoints number in (x.answer, x.right)
