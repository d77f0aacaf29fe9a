-- The size of a signed number by two tests of order, as the program makes them. Assumes nothing.
use mathlib.Core.Path.{◌≡◌, refl, sym, ◌∙◌}
use mathlib.Core.Bool.{true, false, ◌&&◌}
use Prim.Native.Nat.{ℕ, suc}
use lib.Dec.{leb, leb-suc-suc}
use lib.IntN.{ℤ, pos, negsuc, nat_abs}
use lib.Signed.{le_z}
use mir.Syntax.{w32}
use mir.Val.{SFits, to_z, of_z}
use mir.Facts.{to_z-of_z}
use Rattle.permitted.proofs.Decided.{and-true}

within : (l : ℕ) (z : ℤ) → leb (nat_abs z) (suc l) ≡ (le_z (negsuc l) z && le_z z (pos (suc l)))
within l (pos n) = refl
within l (negsuc n) = leb-suc-suc n l ∙ sym (and-true (leb n l))

-- a signed local holds bits, and is what is read back from them
module _ (l : ℕ) (z : ℤ) (f : SFits w32 z) where
  pub not-below : le_z (negsuc l) (to_z w32 (of_z w32 z)) ≡ true → le_z (to_z w32 (of_z w32 z)) (pos (suc l)) ≡ leb (nat_abs z) (suc l)
  not-below e = rw (to_z-of_z f) (sym (rw (rw (to_z-of_z f) at e) at (within l z)))

  pub below : le_z (negsuc l) (to_z w32 (of_z w32 z)) ≡ false → false ≡ leb (nat_abs z) (suc l)
  below e = sym (rw (rw (to_z-of_z f) at e) at (within l z))
