-- Executable: `house_lines`'s order of lines, over anything that has a rank, so that it can be spoken of statements too. Assumes nothing.
use Rattle.std.specs.Prelude.{List, [], ◌∷◌, ◌++◌, ℕ, eqb}
use Rattle.terms.specs.Words.{pick}

module _ {X : Type 0} (rank : X → ℕ) where
  -- those of rank k before the first of rank 0, which stays where it is
  unfoldable pub pass : ℕ → List X → List X
  pass k [] = []
  pass k (x ∷ l) = pick (eqb (rank x) 0) [] (pick (eqb (rank x) k) (x ∷ pass k l) (pass k l))

  unfoldable pub passes : List X → List X
  passes l = pass 1 l ++ (pass 2 l ++ (pass 3 l ++ (pass 4 l ++ (pass 5 l ++ pass 6 l))))

  -- each that stays, and behind it the ones that follow it, rank by rank
  unfoldable pub staying : List X → List X
  staying [] = []
  staying (x ∷ l) = pick (eqb (rank x) 0) (x ∷ (passes l ++ staying l)) (staying l)

  unfoldable pub arranged : List X → List X
  arranged l = passes l ++ staying l

  -- all of rank k
  unfoldable pub ranked : ℕ → List X → List X
  ranked k [] = []
  ranked k (x ∷ l) = pick (eqb (rank x) k) (x ∷ ranked k l) (ranked k l)

  -- those of rank 1, those of rank 2, ..
  unfoldable pub by_rank : List X → List X
  by_rank l = ranked 1 l ++ (ranked 2 l ++ (ranked 3 l ++ (ranked 4 l ++ (ranked 5 l ++ ranked 6 l))))
