-- The instances of a form, field by field: behind instances of its first items, and of one item by itself. Over bytes alone: no place. Assumes nothing.
use mathlib.Core.Path.{◌≡◌, refl, sym, ap, subst}
use mathlib.Core.List.{List, [], ◌∷◌, ◌++◌}
use Prim.Native.Nat.{ℕ, zero, suc, ◌<◌}
use native.Mathlib.Omega.{arith}
use lib.ListN.{length, take}
use Rattle.terms.specs.Ascii.{Bytes}
use Rattle.terms.specs.Words.{Each, Among, Between}
use Rattle.line.specs.Content.{Field, at}
use Rattle.number.specs.Decimal.{decimal}
use Rattle.grammar.specs.Editions.{Edition, law_of}
use Rattle.law.specs.Network.{Said, Line, largest, SpellsField, SpellFields}
use Rattle.law.specs.Network as Law
use Rattle.law.specs.Faults.{Nth, first, later}
use Rattle.expected_law.specs.Expected.{Item, this, a_name, numbers, ceiling, degrees, one_of, InRanges, Allows, Form, AllowsFields}
use Rattle.expected_law.specs.Items.{limit_form}
use Rattle.expected_exact.proofs.Shapes.{OnItem, OnLine}
use Rattle.expected_exact.proofs.Live.{Alive, item_lives}
use Rattle.expected_exact.proofs.Behind.{last-from, Behind, item-all, behind-spelled}
use Rattle.expected_fields.specs.AtFields.{item_at_of, alone}

-- ## A form goes on
-- behind whatever instances of the items before, each item has an instance
abbrev pub GoesOn : Bytes → Form → Type 0
GoesOn b [] = Unit {0}
GoesOn b (i ∷ form) = ((c : Bytes) × Allows b i c) × ((c : Bytes) → Allows b i c → GoesOn c form)

pub some-fields : (form : Form) (b : Bytes) → GoesOn b form → (fs : List Field) × AllowsFields b form fs
some-fields [] b h = ([], tt)
some-fields (i ∷ form) b h =
    let x = h.0 in
    let y = some-fields form x.0 (h.1 x.0 x.1) in
    (at 0 x.0 ∷ y.0, (x.1, y.1))

pub goes-behind : (pre post : Form) (b : Bytes) (fs : List Field) → GoesOn b (pre ++ post) → AllowsFields b pre fs → GoesOn (last-from b fs) post
goes-behind [] post b [] h a = h
goes-behind [] post b (f ∷ fs) h a = absurd a
goes-behind (i ∷ pre) post b [] h a = absurd a
goes-behind (i ∷ pre) post b (f ∷ fs) h a = goes-behind pre post f.bytes fs (h.1 f.bytes a.0) a.1

-- each instance of an item by itself stands behind some instances of the items before
abbrev pub StandsAlone : Bytes → Form → Type 0
StandsAlone b [] = Unit {0}
StandsAlone b (i ∷ form) = ((c : Bytes) → Allows [] (alone i) c → Allows b i c) × ((c : Bytes) × Allows b i c × StandsAlone c form)

pub before-alone : (pre : Form) (item : Item) (post : Form) (b : Bytes) → StandsAlone b (pre ++ (item ∷ post)) → (c : Bytes) → Allows [] (alone item) c → (fs : List Field) × AllowsFields b pre fs × Allows (last-from b fs) item c
before-alone [] item post b h c a = ([], tt, h.0 c a)
before-alone (i ∷ pre) item post b h c a =
    let x = before-alone pre item post h.1.0 h.1.2 c a in
    (at 0 h.1.0 ∷ x.0, (h.1.1, x.1), x.2)

-- what is asked of a form
pub record Lasting (form : Form) : Type 0 where
  pub goes_on : GoesOn [] form
  pub alone_so : StandsAlone [] form

-- ## Forms of live items, and a limit's
goes-alive : (form : Form) → Each Alive form → (b : Bytes) → GoesOn b form
goes-alive [] h b = tt
goes-alive (i ∷ form) h b = (item_lives i h.0 b, λ c a. goes-alive form h.1 c)

-- only a maximum goes by what stands before it
free_of : (i : Item) → Alive i → (b c : Bytes) → Allows [] (alone i) c → Allows b i c
free_of (this w) h b c a = a
free_of a_name h b c a = a
free_of (numbers w rs) h b c a = a
free_of ceiling h b c a = absurd h
free_of (degrees d) h b c a = a
free_of (one_of bs) h b c a = a

alone-alive : (form : Form) → Each Alive form → (b : Bytes) → StandsAlone b form
alone-alive [] h b = tt
alone-alive (i ∷ form) h b =
    let x = item_lives i h.0 b in
    (free_of i h.0 b, (x.0, x.1, alone-alive form h.1 x.0))

pub lasting-alive : (form : Form) → Each Alive form → Lasting form
lasting-alive form h = record { goes_on = goes-alive form h []; alone_so = alone-alive form h [] }

-- the only number of a field
single : (a b : ℕ) (x : Bytes) (l : List ℕ) → x ≡ Law.dotted l → InRanges ((a, b) ∷ []) l → (n : ℕ) × (x ≡ decimal n) × Between a b n
single a b x [] e r = absurd r
single a b x (n ∷ []) e r = (n, e, r.0)
single a b x (n ∷ m ∷ l) e r = absurd r.1

pub lasting-limit : Lasting limit_form
lasting-limit = record {
  goes_on = ((decimal 1, one), λ i a. ((decimal 0, none), λ m b. ((decimal 0, under m b), λ c d. tt)));
  alone_so = ((λ c a. a), (decimal 1, one, ((λ c a. a), (decimal 0, none, ((λ c a. let n = single 0 largest c a.0 a.1 a.2 in (0, n.0, refl, n.1, n.2.high, λ h. omega arith)), (decimal 0, (0, 0, refl, refl, omega arith, λ h. omega arith), tt))))));
}
  where
    one : (l : List ℕ) × (decimal 1 ≡ Law.dotted l) × InRanges ((1, largest) ∷ []) l
    one = (1 ∷ [], refl, (record { low = omega arith; high = omega arith }, tt))

    none : (l : List ℕ) × (decimal 0 ≡ Law.dotted l) × InRanges ((0, largest) ∷ []) l
    none = (0 ∷ [], refl, (record { low = omega arith; high = omega arith }, tt))

    under : (m : Bytes) → ((l : List ℕ) × (m ≡ Law.dotted l) × InRanges ((0, largest) ∷ []) l) → Allows m ceiling (decimal 0)
    under m b = let n = single 0 largest m b.0 b.1 b.2 in (n.0, 0, n.1, refl, omega arith, λ h. omega arith)

-- ## Cut at an item
pub form-cut : (form : Form) (i : ℕ) → i < length form → (pre : Form) × (post : Form) × (form ≡ pre ++ (item_at_of i form ∷ post)) × (length pre ≡ i)
unfolding item_at_of
form-cut [] i h = absurd (omega arith)
form-cut (a ∷ form) zero h = ([], form, refl, refl)
form-cut (a ∷ form) (suc i) h =
    let x = form-cut form i (omega arith) in
    (a ∷ x.0, x.1, ap (◌∷◌ a) x.2, ap suc x.3)

pub fields-cut : (fs : List Field) (g : Field) (gs : List Field) → take (length fs) (fs ++ (g ∷ gs)) ≡ fs
fields-cut [] g gs = refl
fields-cut (f ∷ fs) g gs = ap (◌∷◌ f) (fields-cut fs g gs)

pub as_many : (ed : Edition) (t : Said) (form : Form) (l : Line) → OnLine ed t form l → length form ≡ length l
as_many ed t [] [] o = refl
as_many ed t [] (s ∷ l) o = absurd o
as_many ed t (i ∷ form) [] o = absurd o
as_many ed t (i ∷ form) (s ∷ l) o = ap suc (as_many ed s form l o.1)

pub many-allowed : (b : Bytes) (form : Form) (fs : List Field) → AllowsFields b form fs → length form ≡ length fs
many-allowed b [] [] a = refl
many-allowed b [] (f ∷ fs) a = absurd a
many-allowed b (i ∷ form) [] a = absurd a
many-allowed b (i ∷ form) (f ∷ fs) a = ap suc (many-allowed f.bytes form fs a.1)

-- ## Fields of a line that the form says
-- those before an item are instances of the items before it
pub first-allowed : (ed : Edition) (pre post : Form) (t : Said) (b : Bytes) → Behind b t → (fs : List Field) → length pre ≡ length fs → (said rest : Line) → OnLine ed t (pre ++ post) (said ++ rest) → SpellFields (law_of ed) fs said → AllowsFields b pre fs
first-allowed ed [] post t b h [] e said rest o sp = tt
first-allowed ed [] post t b h (f ∷ fs) e said rest o sp = absurd (omega arith)
first-allowed ed (i ∷ pre) post t b h [] e said rest o sp = absurd (omega arith)
first-allowed ed (i ∷ pre) post t b h (f ∷ fs) e [] rest o sp = absurd sp
first-allowed ed (i ∷ pre) post t b h (f ∷ fs) e (s ∷ said) rest o sp = (item-all ed t b h i s o.0 f sp.0, first-allowed ed pre post s f.bytes (behind-spelled ed f s sp.0) fs (omega arith) said rest o.1 sp.1)

-- the field of an item is an instance of it by itself
alone-item : (ed : Edition) (t : Said) (i : Item) (s : Said) → OnItem ed t i s → (g : Field) → SpellsField (law_of ed) g s → Allows [] (alone i) g.bytes
alone-item ed t (this w) s o g sp = subst (SpellsField (law_of ed) g) o sp
alone-item ed t a_name s o g sp = let x = subst (SpellsField (law_of ed) g) o.1 sp in x.1
alone-item ed t (numbers w rs) s o g sp = let x = subst (SpellsField (law_of ed) g) o.1 sp in (o.0, x.0, o.2)
alone-item ed t ceiling s o g sp = let x = subst (SpellsField (law_of ed) g) o.3 sp in (o.1 ∷ [], x.0, (record { low = omega arith; high = o.4 }, tt))
alone-item ed t (degrees d) s o g sp = (o.0, subst (SpellsField (law_of ed) g) o.1 sp, o.2)
alone-item ed t (one_of bs) s o g sp = let x = subst (SpellsField (law_of ed) g) o.1 sp in (o.0, x.0, subst (λ (l : List Law.Boundary). Among o.0 l) (sym o.2) x.1)

nth_cut : {i : ℕ} {s : Said} {l : Line} → Nth i s l → (a : Line) × (b : Line) × (l ≡ a ++ (s ∷ b)) × (i ≡ suc (length a))
nth_cut (first {l = l}) = ([], l, refl, refl)
nth_cut (later {b = b} h) = let x = nth_cut h in (b ∷ x.0, x.1, ap (◌∷◌ b) x.2, ap suc x.3)

alone_in : (ed : Edition) (pre : Form) (item : Item) (post : Form) (t : Said) (a : Line) (s : Said) (b : Line) → length pre ≡ length a → OnLine ed t (pre ++ (item ∷ post)) (a ++ (s ∷ b)) → (g : Field) → SpellsField (law_of ed) g s → Allows [] (alone item) g.bytes
alone_in ed [] item post t [] s b e o g sp = alone-item ed t item s o.0 g sp
alone_in ed [] item post t (x ∷ a) s b e o g sp = absurd (omega arith)
alone_in ed (i ∷ pre) item post t [] s b e o g sp = absurd (omega arith)
alone_in ed (i ∷ pre) item post t (x ∷ a) s b e o g sp = alone_in ed pre item post x a s b (omega arith) o.1 g sp

pub alone-allowed : (ed : Edition) (pre : Form) (item : Item) (post : Form) (t : Said) (l : Line) → OnLine ed t (pre ++ (item ∷ post)) l → (s : Said) → Nth (suc (length pre)) s l → (g : Field) → SpellsField (law_of ed) g s → Allows [] (alone item) g.bytes
alone-allowed ed pre item post t l o s n g sp =
    let x = nth_cut n in
    alone_in ed pre item post t x.0 s x.1 (omega (arith, x.3)) (subst (OnLine ed t (pre ++ (item ∷ post))) x.2 o) g sp

-- what the field behind some others says is so many-th of the line
pub nth-spelled : (e : Law.Edition) (fs : List Field) (g : Field) (gs : List Field) (l : Line) → SpellFields e (fs ++ (g ∷ gs)) l → (s : Said) × Nth (suc (length fs)) s l × SpellsField e g s
nth-spelled e [] g gs [] sp = absurd sp
nth-spelled e [] g gs (s ∷ l) sp = (s, first, sp.0)
nth-spelled e (f ∷ fs) g gs [] sp = absurd sp
nth-spelled e (f ∷ fs) g gs (s ∷ l) sp = let x = nth-spelled e fs g gs l sp.1 in (x.0, later x.1, x.2)
