-- Whether the option of a slot was given, told without a choice. Assumes nothing.
use mathlib.Core.Path.{◌≡◌, refl, ◌∙◌}
use mathlib.Core.Bool.{Bool, true, false, ◌&&◌, ◌||◌}
use Prim.Native.Nat.{ℕ}
use lib.Dec.{eqb}
use borrow.Author.Tests.{eqb-true}
use Rattle.terms.specs.Words.{pick}
use Rattle.place.specs.declared.Given.{Given}
use Rattle.place.specs.Step.{has_of}

or-false : (b : Bool) → (b || false) ≡ b
or-false true = refl
or-false false = refl

pub slots : (slot : ℕ) (g : Given) → (((eqb slot 1 && g.first) || (eqb slot 2 && g.second)) || (eqb slot 3 && g.third)) ≡ has_of g slot
slots slot g = one (eqb slot 1) refl
  where
    three : (b : Bool) → (b && g.third) ≡ pick b g.third false
    three true = refl
    three false = refl

    two : (b : Bool) → eqb slot 2 ≡ b → ((b && g.second) || (eqb slot 3 && g.third)) ≡ pick b g.second (pick (eqb slot 3) g.third false)
    two true e = rw (eqb-true slot 2 e) (or-false g.second)
    two false e = three (eqb slot 3)

    one : (b : Bool) → eqb slot 1 ≡ b → (((b && g.first) || (eqb slot 2 && g.second)) || (eqb slot 3 && g.third)) ≡ pick b g.first (pick (eqb slot 2) g.second (pick (eqb slot 3) g.third false))
    one true e = rw (eqb-true slot 1 e) (or-false (g.first || false) ∙ or-false g.first)
    one false e = two (eqb slot 2) refl
