-- The answer of a decision, by the way it was put together; the answer of a program's two tests, one behind the other. Assumes nothing.
use mathlib.Core.Path.{◌≡◌, refl, sym, ◌∙◌}
use mathlib.Core.Bool.{Bool, true, false, not, ◌&&◌, ◌||◌}
use lib.Dec.{T}
use Rattle.grammar.specs.Forms.{yes?, by, via, and?, where?}

pub yes-by : {A : Type 0} (b : Bool) (f : T b → A) (g : A → T b) → yes? (by b f g) ≡ b
yes-by true f g = refl
yes-by false f g = refl

pub yes-via : {A B : Type 0} (f : A → B) (g : B → A) (d : Dec A) → yes? (via f g d) ≡ yes? d
yes-via f g (yes a) = refl
yes-via f g (no n) = refl

pub yes_and : {A B : Type 0} (a : Dec A) (b : Dec B) → yes? (and? a b) ≡ (yes? a && yes? b)
yes_and (yes a) (yes b) = refl
yes_and (yes a) (no n) = refl
yes_and (no n) b = refl

pub yes_where : {A B : Type 0} (a : Dec A) (b : Dec B) → yes? (where? a b) ≡ (not (yes? a) || yes? b)
yes_where (yes a) (yes b) = refl
yes_where (yes a) (no n) = refl
yes_where (no n) b = refl

pub yes-within : {A B : Type 0} (a : A) (d : Dec B) → yes? (and? (yes a) d) ≡ yes? d
yes-within a (yes b) = refl
yes-within a (no n) = refl

pub both : {a b x y : Bool} → a ≡ x → b ≡ y → (a && b) ≡ (x && y)
both p q = rw (p, q)

pub and_assoc : (a b c : Bool) → ((a && b) && c) ≡ (a && (b && c))
and_assoc true b c = refl
and_assoc false b c = refl

pub and-true : (a : Bool) → (a && true) ≡ a
and-true true = refl
and-true false = refl

-- `if f { g } else { false }`
pub taken : {f x g y : Bool} → f ≡ x → f ≡ true → g ≡ y → g ≡ (x && y)
taken {f} {x} {g} {y} p q e = rw (sym p ∙ q) e

pub left : {f x : Bool} (y : Bool) → f ≡ x → f ≡ false → false ≡ (x && y)
left y p q = rw (sym p ∙ q)
