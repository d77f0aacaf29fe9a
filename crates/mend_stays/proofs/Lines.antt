-- The tool's lines tell what the text's lines say (`told-by`): their fields are the same, and what begins with a number begins with a digit. Assumes nothing.
use mathlib.Core.Path.{◌≡◌, refl, sym, ap, subst, ◌∙◌}
use mathlib.Core.List.{cons≢nil}
use mathlib.Core.Logic.{inl, inr}
use lib.ListN.{get_or}
use Rattle.terms.specs.Words.{List, [], ◌∷◌, ◌++◌, Bool, true, false, ℕ, Bytes, ascii, Each}
use Rattle.terms.proofs.Tests.{clash}
use Rattle.scan.specs.Allowed.{digit}
use Rattle.scan.specs.Reach.{begins, same_bytes_of}
use Rattle.line.specs.Line.{Field}
use Rattle.number.specs.Decimal.{decimal}
use Rattle.number.specs.House.{house_integer}
use Rattle.number.proofs.House.{house-integer-first}
use Rattle.law.specs.Network.{Edition, Said, Line, word, name, numbers, coordinate, boundary, dotted, SpellFields, reading, SayLines}
use Rattle.law.specs.Network as Law
use Rattle.mend_law.specs.Mend.{fields}
use Rattle.mend_stays.specs.Said.{key}
use Rattle.mend_stays.proofs.Alike.{Alike}
use Rattle.mend_stays.proofs.Told.{first-of, says, Told, Tells, done, blank}
use Rattle.mend_stays.proofs.Fields.{bytes_of, line-fields}

-- ## What it says
abbrev second-of : List Bytes → Bytes
second-of [] = []
second-of (a ∷ []) = []
second-of (a ∷ b ∷ l) = b

begins-longer : (test : ℕ → Bool) (a r : Bytes) → begins test a ≡ true → begins test (a ++ r) ≡ true
unfolding begins
begins-longer test [] r e = clash (sym e)
begins-longer test (b ∷ a) r e = e

decimal-first : (n : ℕ) → begins digit (decimal n) ≡ true
unfolding house_integer
decimal-first n = house-integer-first n

numbers-first : (n : ℕ) (i : List ℕ) → begins digit (dotted (n ∷ i)) ≡ true
numbers-first n [] = decimal-first n
numbers-first n (m ∷ i) = begins-longer digit (decimal n) (ascii "." ++ dotted (m ∷ i)) (decimal-first n)

zero-first : begins digit (ascii "0") ≡ true
unfolding ascii begins
zero-first = refl

module _ (d : Edition) where
  first_said : (gs : List Field) (l : Line) → SpellFields d gs l → same_bytes_of (key l) [] ≡ false → Alike (first-of gs) (key l)
  unfolding same_bytes_of
  first_said [] [] h n = clash n
  first_said [] (s ∷ l) h n = absurd h
  first_said (g ∷ gs) [] h n = absurd h
  first_said (g ∷ gs) (word w ∷ l) h n = inl h.0
  first_said (g ∷ gs) (name f ∷ l) h n = clash n
  first_said (g ∷ gs) (numbers [] ∷ l) h n = clash n
  first_said (g ∷ gs) (numbers (m ∷ i) ∷ l) h n = inr (ap (begins digit) h.0.0 ∙ numbers-first m i, zero-first)
  first_said (g ∷ gs) (coordinate z ∷ l) h n = clash n
  first_said (g ∷ gs) (boundary b ∷ l) h n = clash n

  second-said : (gs : List Field) (s : Said) (k : ℕ) → SpellFields d gs (s ∷ numbers (k ∷ []) ∷ []) → second-of (bytes_of gs) ≡ decimal k
  second-said [] s k h = absurd h
  second-said (g ∷ []) s k h = absurd h.1
  second-said (g ∷ f ∷ []) s k h = h.1.0.0
  second-said (g ∷ f ∷ e ∷ gs) s k h = absurd h.1.1

  told : (fs gs : List Field) (l : Line) → bytes_of fs ≡ bytes_of gs → SpellFields d gs l → same_bytes_of (key l) [] ≡ false → Told fs l
  told fs gs l e h n = record {
    first = subst (λ (a : Bytes). Alike a (key l)) (ap (λ (b : List Bytes). get_or b 0 []) (sym e)) (first_said gs l h n);
    counted = λ s k w f el ef. counted s k w f el ef;
  }
    where
      counted : (s : Said) (k : ℕ) (w f : Field) → l ≡ s ∷ numbers (k ∷ []) ∷ [] → fs ≡ w ∷ f ∷ [] → f.bytes ≡ decimal k
      counted s k w f el ef = ap (λ (x : List Field). second-of (bytes_of x)) (sym ef) ∙ ap second-of e ∙ second-said gs s k (subst (λ (x : Line). SpellFields d gs x) el h)

  -- no fields, none found
  none_said : (fs gs : List Field) → bytes_of fs ≡ bytes_of gs → SpellFields d gs [] → fs ≡ []
  none_said [] gs e h = refl
  none_said (f ∷ fs) [] e h = absurd (cons≢nil e)
  none_said (f ∷ fs) (g ∷ gs) e h = absurd h

  pub told-by : {a : ℕ} {lines : List Bytes} {said : List Line} → SayLines (reading d) a lines said → Each (λ l. same_bytes_of (key l) [] ≡ false) said → Tells lines said
  told-by Law.done n = done
  told-by (Law.blank {line = x} s t) n = blank (none_said (fields x) s.fields (line-fields s.ended s.fielded) s.spelled) (told-by t n)
  told-by (Law.statement {line = x} {s = u} {said = v} s t) n = says (told (fields x) s.fields (u ∷ v) (line-fields s.ended s.fielded) s.spelled n.0) (told-by t n.1)
