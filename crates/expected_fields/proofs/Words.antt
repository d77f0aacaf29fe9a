-- Only the words of a maximum go by the field before it. Assumes nothing.
use mathlib.Core.Path.{◌≡◌, refl, ap}
use mathlib.Core.List.{List, [], ◌∷◌}
use mathlib.Core.Bool.{Bool, true, false}
use Prim.Native.Nat.{ℕ, zero, suc}
use Rattle.terms.specs.Ascii.{Bytes}
use Rattle.terms.specs.Words.{Each}
use Rattle.line.specs.Content.{Field}
use Rattle.expected_law.specs.Expected.{Item, this, a_name, numbers, ceiling, degrees, one_of, Form, field}
use Rattle.expected_law.specs.Telling.{item_words, here, told}
use Rattle.expected_exact.proofs.Live.{Alive}
use Rattle.expected_fields.specs.AtFields.{item_at_of, alone, told_field}

abbrev pub NoMaximum : Item → Type 0
NoMaximum (this w) = Unit {0}
NoMaximum a_name = Unit {0}
NoMaximum (numbers w rs) = Unit {0}
NoMaximum ceiling = ⊥
NoMaximum (degrees d) = Unit {0}
NoMaximum (one_of bs) = Unit {0}

alive-none : (i : Item) → Alive i → NoMaximum i
alive-none (this w) h = tt
alive-none a_name h = tt
alive-none (numbers w rs) h = tt
alive-none ceiling h = absurd h
alive-none (degrees d) h = tt
alive-none (one_of bs) h = tt

pub alive-at : (form : Form) → Each Alive form → (i : ℕ) → NoMaximum (item_at_of i form)
unfolding item_at_of
alive-at [] h i = tt
alive-at (a ∷ form) h zero = alive-none a h.0
alive-at (a ∷ form) h (suc i) = alive-at form h.1 i

words_same : (i : Item) → NoMaximum i → (b : Bytes) → item_words [] i ≡ item_words b i
unfolding item_words
words_same (this w) h b = refl
words_same a_name h b = refl
words_same (numbers w rs) h b = refl
words_same ceiling h b = absurd h
words_same (degrees d) h b = refl
words_same (one_of bs) h b = refl

alone-same : (i : Item) → NoMaximum i → i ≡ alone i
alone-same (this w) h = refl
alone-same a_name h = refl
alone-same (numbers w rs) h = refl
alone-same ceiling h = absurd h
alone-same (degrees d) h = refl
alone-same (one_of bs) h = refl

pub told_same : (form : Form) (i : ℕ) → NoMaximum (item_at_of i form) → (permitted : Bool) (fields : List Field) → told (field [] (item_at_of i form)) ≡ told (told_field form permitted i fields)
unfolding told
told_same form i h true fields = ap here (words_same (item_at_of i form) h _)
told_same form i h false fields = ap (λ (a : Item). here (item_words [] a)) (alone-same (item_at_of i form) h)
