-- EXACTLY WHAT THE NEXT FIELD MAY BE, behind a keyword, or a first number, and further fields that are permitted. For every file. Assumes nothing.
use mathlib.Core.Path.{◌≡◌, refl, sym, ap, subst, ◌∙◌}
use mathlib.Core.List.{List, [], ◌∷◌, ◌++◌}
use mathlib.Core.Bool.{Bool, true, false, not, ◌&&◌}
use mathlib.Core.Logic.{inl, inr}
use Prim.Native.Nat.{ℕ}
use lib.Dec.{T, eqb, eqb_refl}
use lib.Ieee.Fits.{and_l, and_r}
use Rattle.terms.specs.Ascii.{Bytes, ascii}
use Rattle.terms.specs.Words.{Among}
use Rattle.scan.specs.Reach.{begins}
use Rattle.line.specs.Content.{Field}
use Rattle.number.specs.Decimal.{decimal}
use Rattle.number.specs.House.{house_integer}
use Rattle.number.proofs.House.{house-integer-first}
use Rattle.word.specs.Number.{digit_first}
use Rattle.grammar.specs.Editions.{Edition, law_of}
use Rattle.law.specs.Network.{Said, Line, reading, lenient, SpellsField, SpellFields, dotted}
use Rattle.law.specs.Network as Law
use Rattle.law.specs.Faults.{FollowsLeniently}
use Rattle.expected_law.specs.Expected.{Item, this, a_name, numbers, ceiling, degrees, one_of, Allows, Form, AllowsFields, last_bytes, ListsLines, ListsField}
use Rattle.expected_exact.proofs.Shapes.{OnItem, OnLine}
use Rattle.expected_exact.proofs.Behind.{field-each, field-all, fewer-fields}

-- ## A keyword is no number
abbrev worded : Bytes → Bool
worded [] = false
worded (b ∷ w) = not (digit_first (b ∷ w))

worded-not : (w : Bytes) → T (worded w) → digit_first w ≡ true → ⊥
worded-not [] t e = t
worded-not (b ∷ w) t e = subst (λ (x : Bool). T (not x)) e t

first_more : (l r : Bytes) → digit_first l ≡ true → digit_first (l ++ r) ≡ true
unfolding begins
first_more [] r e = absurd (subst T (sym e) tt)
first_more (b ∷ l) r e = e

first-of : (n : ℕ) → digit_first (decimal n) ≡ true
unfolding house_integer
first-of n = house-integer-first n

not-dotted : (w : Bytes) → T (worded w) → (l : List ℕ) → w ≡ dotted l → ⊥
not-dotted w t [] e = subst (λ (w : Bytes). T (worded w)) e t
not-dotted w t (n ∷ []) e = worded-not w t (ap digit_first e ∙ first-of n)
not-dotted w t (m ∷ n ∷ l) e = worded-not w t (ap digit_first e ∙ first_more (decimal m) (ascii "." ++ dotted (n ∷ l)) (first-of m))

-- ## Forms that differ in what they begin with
abbrev opener : Form → Bytes
opener [] = []
opener (this w ∷ is) = w
opener (a_name ∷ is) = []
opener (numbers w rs ∷ is) = []
opener (ceiling ∷ is) = []
opener (degrees d ∷ is) = []
opener (one_of bs ∷ is) = []

abbrev well : Form → Bool
well [] = false
well (this w ∷ is) = worded w
well (a_name ∷ is) = false
well (numbers w rs ∷ is) = true
well (ceiling ∷ is) = false
well (degrees d ∷ is) = false
well (one_of bs ∷ is) = false

abbrev same_bytes : Bytes → Bytes → Bool
same_bytes [] [] = true
same_bytes [] (b ∷ w) = false
same_bytes (a ∷ v) [] = false
same_bytes (a ∷ v) (b ∷ w) = eqb a b && same_bytes v w

both_so : (a b : Bool) → T a → T b → T (a && b)
both_so true b s t = t
both_so false b s t = absurd s

same_refl : (w : Bytes) → T (same_bytes w w)
same_refl [] = tt
same_refl (b ∷ w) = both_so (eqb b b) (same_bytes w w) (eqb_refl b) (same_refl w)

abbrev differs : Bytes → List Form → Bool
differs w [] = true
differs w (form ∷ forms) = not (same_bytes w (opener form)) && differs w forms

abbrev pub apart? : List Form → Bool
apart? [] = true
apart? (form ∷ forms) = well form && (differs (opener form) forms && apart? forms)

differs-not : (w : Bytes) (forms : List Form) → T (differs w forms) → (b : Form) → Among b forms → w ≡ opener b → ⊥
differs-not w [] t b m e = m
differs-not w (form ∷ forms) t b (inl i) e = no-not (same_bytes w (opener form)) (subst (λ (v : Bytes). T (same_bytes w v)) (e ∙ ap opener i) (same_refl w)) (and_l (not (same_bytes w (opener form))) (differs w forms) t)
  where
    no-not : (x : Bool) → T x → T (not x) → ⊥
    no-not true s t = t
    no-not false s t = s
differs-not w (form ∷ forms) t b (inr m) e = differs-not w forms (and_r (not (same_bytes w (opener form))) (differs w forms) t) b m e

well-among : (forms : List Form) → T (apart? forms) → (a : Form) → Among a forms → T (well a)
well-among [] t a m = absurd m
well-among (form ∷ forms) t a (inl i) = subst (λ (x : Form). T (well x)) (sym i) (and_l (well form) (differs (opener form) forms && apart? forms) t)
well-among (form ∷ forms) t a (inr m) = well-among forms (and_r (differs (opener form) forms) (apart? forms) (and_r (well form) (differs (opener form) forms && apart? forms) t)) a m

one_form : (forms : List Form) → T (apart? forms) → (a b : Form) → Among a forms → Among b forms → opener a ≡ opener b → a ≡ b
one_form [] t a b m n e = absurd m
one_form (form ∷ forms) t a b (inl i) (inl j) e = i ∙ sym j
one_form (form ∷ forms) t a b (inl i) (inr n) e = absurd (differs-not (opener form) forms (and_l (differs (opener form) forms) (apart? forms) (and_r (well form) (differs (opener form) forms && apart? forms) t)) b n (sym (ap opener i) ∙ e))
one_form (form ∷ forms) t a b (inr m) (inl j) e = absurd (differs-not (opener form) forms (and_l (differs (opener form) forms) (apart? forms) (and_r (well form) (differs (opener form) forms && apart? forms) t)) a m (sym (ap opener j) ∙ sym e))
one_form (form ∷ forms) t a b (inr m) (inr n) e = one_form forms (and_r (differs (opener form) forms) (apart? forms) (and_r (well form) (differs (opener form) forms && apart? forms) t)) a b m n e

-- a field that one form allows first, and that begins a line which another says, opens both alike
same_open : (ed : Edition) (i j : Item) (is js : Form) → T (well (i ∷ is)) → T (well (j ∷ js)) → (f : Field) → Allows [] i f.bytes → (s : Said) → OnItem ed (Law.word []) j s → SpellsField (law_of ed) f s → opener (i ∷ is) ≡ opener (j ∷ js)
same_open ed (this w) (this v) is js t u f a s o sp = sym a ∙ subst (SpellsField (law_of ed) f) o sp
same_open ed (this w) (numbers v rs) is js t u f a s o sp = absurd (not-dotted w t o.0 (sym a ∙ (subst (SpellsField (law_of ed) f) o.1 sp).0))
same_open ed (this w) a_name is js t u f a s o sp = absurd u
same_open ed (this w) ceiling is js t u f a s o sp = absurd u
same_open ed (this w) (degrees d) is js t u f a s o sp = absurd u
same_open ed (this w) (one_of bs) is js t u f a s o sp = absurd u
same_open ed (numbers w rs) (this v) is js t u f a s o sp = absurd (not-dotted v u a.0 (sym (subst (SpellsField (law_of ed) f) o sp) ∙ a.1))
same_open ed (numbers w rs) (numbers v qs) is js t u f a s o sp = refl
same_open ed (numbers w rs) a_name is js t u f a s o sp = absurd u
same_open ed (numbers w rs) ceiling is js t u f a s o sp = absurd u
same_open ed (numbers w rs) (degrees d) is js t u f a s o sp = absurd u
same_open ed (numbers w rs) (one_of bs) is js t u f a s o sp = absurd u
same_open ed a_name j is js t u f a s o sp = absurd t
same_open ed ceiling j is js t u f a s o sp = absurd t
same_open ed (degrees d) j is js t u f a s o sp = absurd t
same_open ed (one_of bs) j is js t u f a s o sp = absurd t

-- ## The next field
module _ (ed : Edition) {Net : Type 0} (Spells : Law.Rules → Net → List Line → Type 0) (before : List Line) (forms all : List Form)
    (lists : ListsLines (lenient (reading (law_of ed))) Spells before forms) (told : (line : Line) → FollowsLeniently (reading (law_of ed)) Spells before line → (form : Form) × Among form forms × OnLine ed (Law.word []) form line)
    (apart : T (apart? all)) (within : (form : Form) → Among form forms → Among form all) where
  pub lists-field : (i : Item) (pre : Form) (item : Item) (post : Form) → Among (i ∷ (pre ++ (item ∷ post))) forms → (f : Field) (fs : List Field) → AllowsFields [] (i ∷ pre) (f ∷ fs) → ((b : Bytes) × Allows (last_bytes (f ∷ fs)) item b) → ((g : Field) → Allows (last_bytes (f ∷ fs)) item g.bytes → (gs : List Field) × AllowsFields g.bytes post gs) → ListsField (reading (law_of ed)) Spells before (f ∷ fs) item
  lists-field i pre item post m f fs a x behind =
      let h : Field = record { start = 0; bytes = x.0 } in (
        fewer-fields (reading (law_of ed)) Spells before (f ∷ fs) h (field-each (reading (law_of ed)) Spells before forms lists (i ∷ pre) item post m (f ∷ fs) a h x.1 (behind h x.1)),
        λ g. (λ h. (tt, field-each (reading (law_of ed)) Spells before forms lists (i ∷ pre) item post m (f ∷ fs) a g h (behind g h)), λ s. go g s.1.0 s.1.1 s.1.2 s.1.3),
      )
    where
      by_form : (g : Field) (s : Said) (said rest : Line) → SpellFields (law_of ed) (f ∷ (fs ++ (g ∷ []))) (s ∷ said) → (form : Form) → Among form forms → OnLine ed (Law.word []) form (s ∷ (said ++ rest)) → Allows (last_bytes (f ∷ fs)) item g.bytes
      by_form g s said rest sp [] n o = absurd o
      by_form g s said rest sp (j ∷ js) n o =
          let e = same_open ed i j (pre ++ (item ∷ post)) js (well-among all apart (i ∷ (pre ++ (item ∷ post))) (within (i ∷ (pre ++ (item ∷ post))) m)) (well-among all apart (j ∷ js) (within (j ∷ js) n)) f a.0 s o.0 sp.0 in
          let q = one_form all apart (i ∷ (pre ++ (item ∷ post))) (j ∷ js) (within (i ∷ (pre ++ (item ∷ post))) m) (within (j ∷ js) n) e in
          field-all ed (i ∷ pre) item post (f ∷ fs) a g (s ∷ said) rest (subst (λ (form : Form). OnLine ed (Law.word []) form (s ∷ (said ++ rest))) (sym q) o) sp

      go : (g : Field) (said rest : Line) → SpellFields (law_of ed) (f ∷ (fs ++ (g ∷ []))) said → FollowsLeniently (reading (law_of ed)) Spells before (said ++ rest) → Allows (last_bytes (f ∷ fs)) item g.bytes
      go g [] rest sp b = absurd sp
      go g (s ∷ said) rest sp b = let x = told (s ∷ (said ++ rest)) b in by_form g s said rest sp x.0 x.1 x.2
