-- Executable: the lines of a text judged one by one: the first fault with its line, 10 with lines + 1, or what their statements gather. For every file. Assumes nothing.
use Rattle.std.specs.Prelude.{List, [], ◌∷◌, Bool, ℕ, suc, ◌+◌, length}
use Rattle.terms.specs.Ascii.{Bytes}
use Rattle.terms.specs.Words.{pick}
use Rattle.judge.specs.Judging.{Got, bad, blank, said, Judging, line}
use Rattle.walk.specs.Standing.{Where, place}

pub data Found (Gathered : Type 0) : Type 0 where
  fault : (line number : ℕ) → Found Gathered
  gathered : Gathered → Found Gathered

-- put: what is gathered behind a statement that stands somewhere
module _ (J : Judging) {Gathered : Type 0} (put : Where → J.St → Gathered → Gathered) (ended : J.Pl → Bool) where
  abbrev pub onward : Where → J.Pl → Gathered → Got J.St J.Pl → (J.Pl → Gathered → Found Gathered) → Found Gathered
  onward w p c (bad n) k = fault w.line n
  onward w p c blank k = k p c
  onward w p c (said s q) k = k q (put w s c)

  -- lines from a place on, the first of which starts at `start` and has the number i
  unfoldable pub walked : J.Pl → Gathered → ℕ → ℕ → List Bytes → Found Gathered
  walked p c start i [] = pick (ended p) (gathered c) (fault i 10)
  walked p c start i (l ∷ ls) = onward (place start i l) p c (line J l start p) (λ q d. walked q d (start + suc (length l)) (suc i) ls)
