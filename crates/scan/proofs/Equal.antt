-- `same_bytes_of` is true exactly if the two are equal. Assumes nothing.
use mathlib.Core.Path.{◌≡◌, refl, sym, ap, ap₂, ◌∙◌}
use mathlib.Core.List.{[], ◌∷◌}
use mathlib.Core.Bool.{Bool, true, false, ◌&&◌}
use borrow.Author.Tests.{eq-eqb, eqb-true}
use lib.Dec.{eqb}
use lib.Pointwise.{pointwise}
use Rattle.terms.specs.Ascii.{Bytes}
use Rattle.scan.specs.Reach.{same_bytes_of}
use Rattle.terms.proofs.Tests.{clash, both, and}

pub same-equal : (a b : Bytes) → same_bytes_of a b ≡ true → a ≡ b
unfolding same_bytes_of
same-equal [] [] e = refl
same-equal [] (y ∷ b) e = clash (sym e)
same-equal (x ∷ a) [] e = clash (sym e)
same-equal (x ∷ a) (y ∷ b) e = let p = both (eqb x y) (same_bytes_of a b) e in ap₂ ◌∷◌ (eqb-true x y p.0) (same-equal a b p.1)

pub same_itself : (a : Bytes) → same_bytes_of a a ≡ true
unfolding same_bytes_of
same_itself [] = refl
same_itself (x ∷ a) = and (eq-eqb x x refl) (same_itself a)

pub equal-same : (a b : Bytes) → a ≡ b → same_bytes_of a b ≡ true
equal-same a b e = ap (same_bytes_of a) (sym e) ∙ same_itself a

pub same_false : (a b : Bytes) → (a ≡ b → ⊥) → same_bytes_of a b ≡ false
same_false a b n = go (same_bytes_of a b) refl
  where
    go : (x : Bool) → same_bytes_of a b ≡ x → x ≡ false
    go true e = absurd (n (same-equal a b e))
    go false e = refl

pub false-differ : (a b : Bytes) → same_bytes_of a b ≡ false → a ≡ b → ⊥
false-differ a b e q = clash (sym (equal-same a b q) ∙ e)

-- it is what `==` answers at slices of bytes
pub same_pointwise : (a b : Bytes) → same_bytes_of a b ≡ pointwise eqb a b
unfolding same_bytes_of
same_pointwise [] [] = refl
same_pointwise [] (y ∷ b) = refl
same_pointwise (x ∷ a) [] = refl
same_pointwise (x ∷ a) (y ∷ b) = ap (λ t. eqb x y && t) (same_pointwise a b)
