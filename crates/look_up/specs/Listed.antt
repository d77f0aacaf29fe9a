-- WHAT A READER MUST BELIEVE. The look-up of a list of checkpoint numbers. Request L4, "Fifty checkpoints at one go". Assumes nothing.
use Rattle.look_up.specs.Types.{ListReply}
use Rattle.std.specs.Prelude.{◌≡◌, ◌∷◌, Ok, Err}
use Rattle.terms.specs.Words.{List, [], ℕ, length, replicate}
use Rattle.look_up.specs.LookUp.{PointOf}

-- one for one
abbrev pub Paired : {A B : Type 0} → (A → B → Type 0) → List A → List B → Type 0
Paired R [] [] = Unit {0}
Paired R [] (b ∷ m) = ⊥
Paired R (a ∷ l) [] = ⊥
Paired R (a ∷ l) (b ∷ m) = R a b × Paired R l m

-- t: any checkpoint table; numbers: the list of numbers; lent: the length of the lent list; left: what it then holds
pub data PointsOf (t numbers : List ℕ) (lent : ℕ) (reply : ListReply) (left : List ℕ) : Type 0 where
  -- L4: "Refusals: 20, the two lists differ in length, tested first; the lent list is then zero. Numbers from 20 on give file 0 and line 0"
  refused : (length numbers ≡ lent → ⊥) → reply ≡ Err (record { file = 0; line = 0; number = 20; column = 0 }) → left ≡ replicate lent 0 → PointsOf t numbers lent reply left
  -- L4: "The outcome equals the single question put for each number in turn; an unknown number gives 4,294,967,295 in its place and doesn't stop the rest."
  answered : length numbers ≡ lent → reply ≡ Ok tt → Paired (PointOf t) numbers left → PointsOf t numbers lent reply left
