-- What is refused by no number is taken. Assumes nothing.
use Rattle.std.specs.Prelude.{⊤, Ok, Err, Result}
use Rattle.std.specs.Result.{is_ok}
use mathlib.Core.Path.{◌≡◌, refl}
use mathlib.Core.Bool.{Bool, true, false}
use Prim.Native.Nat.{ℕ}
use lib.Dec.{eqb}
use Rattle.terms.specs.Words.{pick}
use Rattle.place_table.specs.Verdicts.{verdict_of}

pub ok_by_none : (n : ℕ) → is_ok (verdict_of n) ≡ eqb n 0
unfolding verdict_of
ok_by_none n = go (eqb n 0)
  where
    go : (b : Bool) → is_ok (pick {A = Result ⊤ ℕ} b (Ok tt) (Err n)) ≡ b
    go true = refl
    go false = refl
