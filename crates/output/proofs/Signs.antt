-- A signed number's sign and size, as `put_coordinate` meets them. Assumes nothing.
use mathlib.Core.Path.{◌≡◌, refl, ap, ◌∙◌}
use mathlib.Core.Bool.{Bool, true, false}
use mathlib.Core.List.{◌++◌}
use Prim.Native.Nat.{ℕ}
use native.Mathlib.Omega.{arith}
use borrow.Author.Tests.{ltb-true}
use lib.IntN.{ℤ, pos, negsuc, nat_abs}
use lib.Signed.{lt_z}
use mir.Syntax.{w32}
use mir.Val.{SFits, to_z, of_z}
use mir.Facts.{to_z-of_z}
use Rattle.terms.specs.Ascii.{ascii}
use Rattle.coordinate.specs.House.{house_degrees, house_coordinate}

below_zero : (z : ℤ) → lt_z z (pos 0) ≡ true → ascii "-" ++ house_degrees (nat_abs z) ≡ house_coordinate z
unfolding house_coordinate
below_zero (pos n) e = absurd (let h = ltb-true n 0 e in omega arith)
below_zero (negsuc n) e = refl

from_zero : (z : ℤ) → lt_z z (pos 0) ≡ false → house_degrees (nat_abs z) ≡ house_coordinate z
unfolding house_coordinate
from_zero (pos n) e = refl
from_zero (negsuc n) e = absurd (let q : ◌≡◌ {A = Bool} true false = e in let z : ◌≡◌ {A = ℕ} 0 1 = cc in omega arith)

-- z as the code has it
abbrev held : ℤ → ℤ
held z = to_z w32 (of_z w32 z)

module _ (z : ℤ) (f : SFits w32 z) (size : ℕ) (q : size ≡ nat_abs (held z)) where
  pub minus-bytes : lt_z (held z) (pos 0) ≡ true → ascii "-" ++ house_degrees size ≡ house_coordinate z
  minus-bytes e = ap (λ (k : ℕ). ascii "-" ++ house_degrees k) q ∙ below_zero (held z) e ∙ ap house_coordinate (to_z-of_z f)

  pub plus-bytes : lt_z (held z) (pos 0) ≡ false → house_degrees size ≡ house_coordinate z
  plus-bytes e = ap house_degrees q ∙ from_zero (held z) e ∙ ap house_coordinate (to_z-of_z f)
