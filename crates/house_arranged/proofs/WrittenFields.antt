-- A field is spelled as its house spelling, but for `-0.000000`, which `mend` puts right. Assumes nothing.
use mathlib.Core.Path.{◌≡◌, refl, sym, ap, ap₂, ◌∙◌}
use mathlib.Core.List.{List, [], ◌∷◌, map}
use mathlib.Core.Bool.{true, false}
use mathlib.Core.Logic.{◌⊎◌, inl, inr}
use lib.IntN.{ℤ, pos}
use Rattle.terms.specs.Ascii.{Bytes, ascii}
use Rattle.terms.specs.Words.{Each}
use Rattle.terms.proofs.Tests.{clash}
use Rattle.scan.specs.Allowed.{digit}
use Rattle.scan.specs.Reach.{begins}
use Rattle.scan.proofs.Equal.{same_false, same_itself}
use Rattle.line.specs.Content.{Field}
use Rattle.number.proofs.House.{house-integer-one, house-pair-one, house-triple-one, integer-first, pair-first, triple-first}
use Rattle.coordinate.specs.House.{house_coordinate}
use Rattle.coordinate.specs.Spelling.{SpellsCoordinate}
use Rattle.coordinate.proofs.House.{house-coordinate-one, house-no-minus_zero, house_zero}
use Rattle.coordinate.proofs.Coordinates.{spelled-bound}
use Rattle.word.specs.Number.{digit_first}
use Rattle.text.specs.Said.{Said, word, name, integer, pair, triple, coordinate, boundary, SpellsField, SpellFields}
use Rattle.text.specs.HouseLine.{house_field}
use Rattle.house_lines.specs.Arranged.{mend}

-- what has one spelling
abbrev pub Plain : Said → Type 0
Plain (word w) = Unit {0}
Plain (name f) = Unit {0}
Plain (integer n) = Unit {0}
Plain (pair i) = Unit {0}
Plain (triple i) = Unit {0}
Plain (coordinate z) = ⊥
Plain (boundary d b) = Unit {0}

pub plain-field : (f : Field) (s : Said) → Plain s → SpellsField f s → f.bytes ≡ house_field s
unfolding house_field
plain-field f (word w) p h = h
plain-field f (name g) p h = ap (λ (f : Field). f.bytes) h.0
plain-field f (integer n) p h = house-integer-one n f.bytes h
plain-field f (pair i) p h = house-pair-one i.m i.n f.bytes h
plain-field f (triple i) p h = house-triple-one i.x i.y i.z f.bytes h
plain-field f (coordinate z) p h = absurd p
plain-field f (boundary d b) p h = h.0.word

-- ## On a line that begins with a digit
-- what begins with a digit
abbrev pub Digits : Said → Type 0
Digits (word w) = ⊥
Digits (name f) = ⊥
Digits (integer n) = Unit {0}
Digits (pair i) = Unit {0}
Digits (triple i) = Unit {0}
Digits (coordinate z) = ⊥
Digits (boundary d b) = ⊥

pub digits-first : (f : Field) (s : Said) → Digits s → SpellsField f s → digit_first f.bytes ≡ true
digits-first f (word w) d h = absurd d
digits-first f (name g) d h = absurd d
digits-first f (integer n) d h = integer-first f.bytes n h
digits-first f (pair i) d h = pair-first f.bytes i.m i.n h
digits-first f (triple i) d h = triple-first f.bytes i.x i.y i.z h
digits-first f (coordinate z) d h = absurd d
digits-first f (boundary e b) d h = absurd d

-- these and coordinates
abbrev pub Number : Said → Type 0
Number (word w) = ⊥
Number (name f) = ⊥
Number (integer n) = Unit {0}
Number (pair i) = Unit {0}
Number (triple i) = Unit {0}
Number (coordinate z) = Unit {0}
Number (boundary d b) = ⊥

kept : (f : Bytes) → (f ≡ ascii "-0.000000" → ⊥) → mend f ≡ f
unfolding mend
kept f n = rw (same_false f (ascii "-0.000000") n)

minus : digit_first (ascii "-0.000000") ≡ false
unfolding ascii begins
minus = refl

kept-digit : (f : Bytes) → digit_first f ≡ true → mend f ≡ f
kept-digit f d = kept f (λ e. clash (sym d ∙ ap (begins digit) e ∙ minus))

mend-coordinate : (f : Bytes) (z : ℤ) → SpellsCoordinate f z → mend f ≡ house_coordinate z
mend-coordinate f z h = go (house-coordinate-one f z h)
  where
    go : (f ≡ house_coordinate z) ⊎ ((f ≡ ascii "-0.000000") × (z ≡ pos 0)) → mend f ≡ house_coordinate z
    go (inl e) = kept f (λ q. house-no-minus_zero z (spelled-bound f z h) (sym e ∙ q)) ∙ e
    go (inr p) = rw (p.0, p.1) (unfold mend in rw (same_itself (ascii "-0.000000")) (sym house_zero))

pub mend-field : (f : Field) (s : Said) → Number s → SpellsField f s → mend f.bytes ≡ house_field s
unfolding house_field
mend-field f (word w) n h = absurd n
mend-field f (name g) n h = absurd n
mend-field f (integer k) n h = kept-digit f.bytes (integer-first f.bytes k h) ∙ house-integer-one k f.bytes h
mend-field f (pair i) n h = kept-digit f.bytes (pair-first f.bytes i.m i.n h) ∙ house-pair-one i.m i.n f.bytes h
mend-field f (triple i) n h = kept-digit f.bytes (triple-first f.bytes i.x i.y i.z h) ∙ house-triple-one i.x i.y i.z f.bytes h
mend-field f (coordinate z) n h = mend-coordinate f.bytes z h
mend-field f (boundary d b) n h = absurd n

-- ## Fields one for one
pub plain-fields : (fs : List Field) (said : List Said) → Each Plain said → SpellFields fs said → map (λ (f : Field). f.bytes) fs ≡ map house_field said
plain-fields [] [] p h = refl
plain-fields [] (s ∷ said) p h = absurd h
plain-fields (f ∷ fs) [] p h = absurd h
plain-fields (f ∷ fs) (s ∷ said) p h = ap₂ (λ (b : Bytes) (l : List Bytes). b ∷ l) (plain-field f s p.0 h.0) (plain-fields fs said p.1 h.1)

pub mend-fields : (fs : List Field) (said : List Said) → Each Number said → SpellFields fs said → map mend (map (λ (f : Field). f.bytes) fs) ≡ map house_field said
mend-fields [] [] p h = refl
mend-fields [] (s ∷ said) p h = absurd h
mend-fields (f ∷ fs) [] p h = absurd h
mend-fields (f ∷ fs) (s ∷ said) p h = ap₂ (λ (b : Bytes) (l : List Bytes). b ∷ l) (mend-field f s p.0 h.0) (mend-fields fs said p.1 h.1)
