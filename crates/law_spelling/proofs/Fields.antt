-- A field spells the same for the law as for a statement. Assumes nothing.
use mathlib.Core.Path.{◌≡◌, refl, sym, ap, subst, ◌∙◌}
use mathlib.Core.List.{List, [], ◌∷◌, ◌++◌, map, append_assoc}
use mathlib.Core.Bool.{true}
use mathlib.Core.Logic.{inl, inr}
use native.Mathlib.Omega.{arith}
use Rattle.terms.specs.Ascii.{Bytes, ascii}
use Rattle.terms.specs.Words.{Between, Each, Among}
use Rattle.terms.proofs.Tests.{clash}
use Rattle.line.specs.Content.{Field}
use Rattle.number.specs.Decimal.{decimal}
use Rattle.word.specs.Keywords as Word
use Rattle.law.specs.Network.{Boundary, double_yellow_of, solid_yellow_of, solid_white_of, broken_white_of, boundary_word_of}
use Rattle.law.specs.Network as Law
use Rattle.grammar.specs.Editions.{Edition, march, december, law_of, has_boundary}
use Rattle.grammar.specs.Tables.{colour}
use Rattle.text.specs.Said as Old
use Rattle.text.proofs.HouseLines.{colours}
use Rattle.law_spelling.specs.LineOf.{said_of, Of}

-- the boundary words
pub same_word : (b : Boundary) → Word.boundary_of (colour b) ≡ boundary_word_of b
unfolding Word.boundary_of Word.boundary_words
same_word double_yellow_of = refl
same_word solid_yellow_of = refl
same_word solid_white_of = refl
same_word broken_white_of = refl

-- the dots of an identifier, joined from the left and from the right
pub five : (a b c d e : Bytes) → a ++ b ++ c ++ d ++ e ≡ a ++ (b ++ (c ++ (d ++ e)))
five a b c d e = append_assoc (a ++ b ++ c) d e ∙ append_assoc (a ++ b) c (d ++ e) ∙ append_assoc a b (c ++ (d ++ e))

-- the boundaries of an edition are those that the law lists
pub listed-to : (e : Edition) (b : Boundary) → has_boundary e b ≡ true → Among b (Law.boundaries (law_of e))
listed-to march double_yellow_of h = inl refl
listed-to march solid_yellow_of h = inr (inl refl)
listed-to march solid_white_of h = inr (inr (inl refl))
listed-to march broken_white_of h = inr (inr (inr (inl refl)))
listed-to december double_yellow_of h = inl refl
listed-to december solid_yellow_of h = clash (sym h)
listed-to december solid_white_of h = inr (inl refl)
listed-to december broken_white_of h = inr (inr (inl refl))

pub listed_back : (e : Edition) (b : Boundary) → Among b (Law.boundaries (law_of e)) → has_boundary e b ≡ true
listed_back march b h = refl
listed_back december b (inl q) = ap (has_boundary december) q
listed_back december b (inr (inl q)) = ap (has_boundary december) q
listed_back december b (inr (inr (inl q))) = ap (has_boundary december) q
listed_back december b (inr (inr (inr x3))) = elim x3 [ ]

-- ## One field
pub field-to : (e : Edition) (f : Field) (s : Old.Said) → Of e s → Old.SpellsField f s → Law.SpellsField (law_of e) f (said_of s)
field-to e f (Old.word w) i h = h
field-to e f (Old.name g) i h = h
field-to e f (Old.integer n) i h = (h.spelled, (h.five_digits, tt))
field-to e f (Old.pair i) o h = (h.spelled ∙ append_assoc (decimal i.m) (ascii ".") (decimal i.n), (h.m_five_digits, (h.n_five_digits, tt)))
field-to e f (Old.triple i) o h = (h.spelled ∙ five (decimal i.x) (ascii ".") (decimal i.y) (ascii ".") (decimal i.z), (h.x_five_digits, (h.y_five_digits, (h.z_five_digits, tt))))
field-to e f (Old.coordinate z) i h = h
field-to e f (Old.boundary d b) i h = (h.0.word ∙ same_word b, listed-to e b (subst (λ (d : Edition). has_boundary d b ≡ true) i h.1))

pub field_back : (e : Edition) (f : Field) (s : Old.Said) → Of e s → Law.SpellsField (law_of e) f (said_of s) → Old.SpellsField f s
field_back e f (Old.word w) i h = h
field_back e f (Old.name g) i h = h
field_back e f (Old.integer n) i h = record { spelled = h.0; five_digits = h.1.0 }
field_back e f (Old.pair i) o h = record { spelled = h.0 ∙ sym (append_assoc (decimal i.m) (ascii ".") (decimal i.n)); m_five_digits = h.1.0; n_five_digits = h.1.1.0 }
field_back e f (Old.triple i) o h = record { spelled = h.0 ∙ sym (five (decimal i.x) (ascii ".") (decimal i.y) (ascii ".") (decimal i.z)); x_five_digits = h.1.0; y_five_digits = h.1.1.0; z_five_digits = h.1.1.1.0 }
field_back e f (Old.coordinate z) i h = h
field_back e f (Old.boundary d b) i h = (record { number = colours b; word = h.0 ∙ sym (same_word b) }, subst (λ (d : Edition). has_boundary d b ≡ true) (sym i) (listed_back e b h.1))

-- ## Fields, one for one
pub fields-to : (e : Edition) (fields : List Field) (said : List Old.Said) → Each (Of e) said → Old.SpellFields fields said → Law.SpellFields (law_of e) fields (map said_of said)
fields-to e [] [] i h = tt
fields-to e [] (s ∷ said) i h = absurd h
fields-to e (f ∷ fields) [] i h = absurd h
fields-to e (f ∷ fields) (s ∷ said) i h = (field-to e f s i.0 h.0, fields-to e fields said i.1 h.1)

pub fields_back : (e : Edition) (fields : List Field) (said : List Old.Said) → Each (Of e) said → Law.SpellFields (law_of e) fields (map said_of said) → Old.SpellFields fields said
fields_back e [] [] i h = tt
fields_back e [] (s ∷ said) i h = absurd h
fields_back e (f ∷ fields) [] i h = absurd h
fields_back e (f ∷ fields) (s ∷ said) i h = (field_back e f s i.0 h.0, fields_back e fields said i.1 h.1)
