-- Where something is owed there is more. Assumes nothing.
use mathlib.Core.Path.{◌≡◌, refl}
use Prim.Native.Nat.{ℕ, zero, suc}
use Rattle.permitted.specs.Owed.{owing}

pub owing-more : (n a b : ℕ) → (n ≡ 0 → ⊥) → a ≡ owing n a b
owing-more zero a b h = absurd (h refl)
owing-more (suc n) a b h = refl
