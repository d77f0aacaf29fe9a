-- What may stand behind the first fields of a line, from what may stand as a line. For every file. Assumes nothing.
use mathlib.Core.Path.{◌≡◌, refl, sym, ap, subst, ◌∙◌}
use mathlib.Core.List.{List, [], ◌∷◌, ◌++◌, append_assoc}
use Prim.Native.Nat.{ℕ}
use native.Mathlib.Omega.{arith}
use Rattle.terms.specs.Ascii.{Bytes}
use Rattle.terms.specs.Words.{Among}
use Rattle.line.specs.Content.{Field}
use Rattle.number.specs.Decimal.{decimal}
use Rattle.grammar.specs.Editions.{Edition, law_of}
use Rattle.law.specs.Network.{Said, Line, Rules, lenient, SpellsField, SpellFields}
use Rattle.law.specs.Network as Law
use Rattle.law.specs.Faults.{FollowsLeniently}
use Rattle.law_columns.specs.Columns.{MayGoOn}
use Rattle.expected_law.specs.Expected.{Item, this, a_name, numbers, ceiling, degrees, one_of, Allows, Form, AllowsFields, last_bytes, ListsLines}
use Rattle.expected_exact.proofs.Shapes.{OnItem, OnLine}

-- ## Forms and fields, cut in two
abbrev pub last-from : Bytes → List Field → Bytes
last-from b [] = b
last-from b (f ∷ fs) = last-from f.bytes fs

last-same : (f : Field) (fs : List Field) → last-from f.bytes fs ≡ last_bytes (f ∷ fs)
last-same f [] = refl
last-same f (g ∷ fs) = last-same g fs

pub last-is : (fs : List Field) → last-from [] fs ≡ last_bytes fs
last-is [] = refl
last-is (f ∷ fs) = last-same f fs

-- fields of the items before, one of the next item, and those of the items behind
pub whole : (pre : Form) (item : Item) (post : Form) (b : Bytes) (fs : List Field) (g : Field) (gs : List Field) → AllowsFields b pre fs → Allows (last-from b fs) item g.bytes → AllowsFields g.bytes post gs → AllowsFields b (pre ++ (item ∷ post)) (fs ++ (g ∷ gs))
whole [] item post b [] g gs a h c = (h, c)
whole [] item post b (f ∷ fs) g gs a h c = absurd a
whole (i ∷ pre) item post b [] g gs a h c = absurd a
whole (i ∷ pre) item post b (f ∷ fs) g gs a h c = (a.0, whole pre item post f.bytes fs g gs a.1 h c)

-- what spells fields, cut behind one of them
pub cut : (e : Law.Edition) (fs : List Field) (g : Field) (gs : List Field) (l : Line) → SpellFields e (fs ++ (g ∷ gs)) l → (said : Line) × (rest : Line) × (l ≡ said ++ rest) × SpellFields e (fs ++ (g ∷ [])) said
cut e [] g gs [] sp = absurd sp
cut e [] g gs (s ∷ l) sp = (s ∷ [], l, refl, (sp.0, tt))
cut e (f ∷ fs) g gs [] sp = absurd sp
cut e (f ∷ fs) g gs (s ∷ l) sp =
    let x = cut e fs g gs l sp.1 in
    (s ∷ x.0, x.1, ap (◌∷◌ s) x.2, (sp.0, x.3))

cut-last : (e : Law.Edition) (fs : List Field) (g : Field) (l : Line) → SpellFields e (fs ++ (g ∷ [])) l → (said : Line) × (s : Said) × (l ≡ said ++ (s ∷ [])) × SpellFields e fs said
cut-last e [] g [] sp = absurd sp
cut-last e [] g (s ∷ []) sp = ([], s, refl, tt)
cut-last e [] g (s ∷ t ∷ l) sp = absurd sp.1
cut-last e (f ∷ fs) g [] sp = absurd sp
cut-last e (f ∷ fs) g (s ∷ l) sp =
    let x = cut-last e fs g l sp.1 in
    (s ∷ x.0, x.1, ap (◌∷◌ s) x.2, (sp.0, x.3))

-- ## Each. Every instance of the next item goes on to a line that may stand
pub field-each : (rules : Rules) {Net : Type 0} (Spells : Rules → Net → List Line → Type 0) (before : List Line) (forms : List Form) → ListsLines (lenient rules) Spells before forms
    → (pre : Form) (item : Item) (post : Form) → Among (pre ++ (item ∷ post)) forms → (fs : List Field) → AllowsFields [] pre fs → (g : Field) → Allows (last_bytes fs) item g.bytes → ((gs : List Field) × AllowsFields g.bytes post gs)
    → MayGoOn rules Spells before (fs ++ (g ∷ []))
field-each rules Spells before forms lists pre item post m fs a g h gs =
    let t = (lists.0 (fs ++ (g ∷ gs.0))).0 (pre ++ (item ∷ post), m, whole pre item post [] fs g gs.0 a (subst (λ (b : Bytes). Allows b item g.bytes) (sym (last-is fs)) h) gs.1) in
    let x = cut rules.edition fs g gs.0 t.0 t.1 in
    (x.0, x.1, x.3, subst (FollowsLeniently rules Spells before) x.2 t.2)

-- ## All. What goes on to a line that a form says is an instance of the next item
pub clash : {X : Type 0} {w : Bytes} {l : List ℕ} → Law.word w ≡ Law.numbers l → X
clash e = absurd (let z : ◌≡◌ {A = ℕ} 0 1 = cc in omega arith)

-- b: the bytes of the field before, which says t
abbrev pub Behind : Bytes → Said → Type 0
Behind b t = (m : ℕ) → t ≡ Law.numbers (m ∷ []) → b ≡ decimal m

pub item-all : (ed : Edition) (t : Said) (b : Bytes) → Behind b t → (i : Item) (s : Said) → OnItem ed t i s → (g : Field) → SpellsField (law_of ed) g s → Allows b i g.bytes
item-all ed t b h (this w) s o g sp = subst (SpellsField (law_of ed) g) o sp
item-all ed t b h a_name s o g sp = let x = subst (SpellsField (law_of ed) g) o.1 sp in x.1
item-all ed t b h (numbers w rs) s o g sp = let x = subst (SpellsField (law_of ed) g) o.1 sp in (o.0, x.0, o.2)
item-all ed t b h ceiling s o g sp = let x = subst (SpellsField (law_of ed) g) o.3 sp in (o.0, o.1, h o.0 o.2, x.0, o.4, o.5)
item-all ed t b h (degrees d) s o g sp = (o.0, subst (SpellsField (law_of ed) g) o.1 sp, o.2)
item-all ed t b h (one_of bs) s o g sp = let x = subst (SpellsField (law_of ed) g) o.1 sp in (o.0, x.0, subst (Among o.0) (sym o.2) x.1)

pub behind-spelled : (ed : Edition) (f : Field) (s : Said) → SpellsField (law_of ed) f s → Behind f.bytes s
behind-spelled ed f s sp m e = (subst (SpellsField (law_of ed) f) e sp).0

line-all : (ed : Edition) (pre : Form) (item : Item) (post : Form) (t : Said) (b : Bytes) → Behind b t → (c : Bytes) (fs : List Field) → AllowsFields c pre fs → (g : Field) (said rest : Line) → OnLine ed t (pre ++ (item ∷ post)) (said ++ rest) → SpellFields (law_of ed) (fs ++ (g ∷ [])) said → Allows (last-from b fs) item g.bytes
line-all ed [] item post t b h c [] a g [] rest o sp = absurd sp
line-all ed [] item post t b h c [] a g (s ∷ said) rest o sp = item-all ed t b h item s o.0 g sp.0
line-all ed [] item post t b h c (f ∷ fs) a g said rest o sp = absurd a
line-all ed (i ∷ pre) item post t b h c [] a g said rest o sp = absurd a
line-all ed (i ∷ pre) item post t b h c (f ∷ fs) a g [] rest o sp = absurd sp
line-all ed (i ∷ pre) item post t b h c (f ∷ fs) a g (s ∷ said) rest o sp = line-all ed pre item post s f.bytes (behind-spelled ed f s sp.0) f.bytes fs a.1 g said rest o.1 sp.1

pub field-all : (ed : Edition) (pre : Form) (item : Item) (post : Form) (fs : List Field) → AllowsFields [] pre fs → (g : Field) (said rest : Line) → OnLine ed (Law.word []) (pre ++ (item ∷ post)) (said ++ rest) → SpellFields (law_of ed) (fs ++ (g ∷ [])) said → Allows (last_bytes fs) item g.bytes
field-all ed pre item post fs a g said rest o sp = subst (λ (b : Bytes). Allows b item g.bytes) (last-is fs) (line-all ed pre item post (Law.word []) [] (λ m e. clash e) [] fs a g said rest o sp)

-- what begins with one field more begins without it
pub fewer-fields : (rules : Rules) {Net : Type 0} (Spells : Rules → Net → List Line → Type 0) (before : List Line) (fs : List Field) (g : Field) → MayGoOn rules Spells before (fs ++ (g ∷ [])) → MayGoOn rules Spells before fs
fewer-fields rules Spells before fs g h =
    let x = cut-last rules.edition fs g h.0 h.2 in
    (x.0, x.1 ∷ h.1, x.3, subst (FollowsLeniently rules Spells before) (ap (λ (l : Line). l ++ h.1) x.2 ∙ append_assoc x.0 (x.1 ∷ []) h.1) h.3)
