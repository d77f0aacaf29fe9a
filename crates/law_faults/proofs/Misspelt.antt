-- The first field that is not of its kind: fields that are as many as is due have one if and only if they spell no line of the kinds that are due. For every file. Assumes nothing.
use mathlib.Core.Path.{◌≡◌, refl, sym, ap, subst, ◌∙◌}
use mathlib.Core.List.{List, [], ◌∷◌, ◌++◌, map, head-eq_of_cons-eq, tail-eq_of_cons-eq}
use mathlib.Core.Option.{Option, none, some}
use native.Mathlib.Omega.{arith}
use lib.ListN.{length}
use Rattle.terms.specs.Ascii.{Bytes}
use Rattle.terms.specs.Words.{Each}
use Rattle.terms.proofs.Tests.{nothing}
use Rattle.line.specs.Content.{Field}
use Rattle.grammar.specs.Editions.{Edition, law_of}
use Rattle.grammar.specs.Language.{Lang, S, say}
use Rattle.grammar.specs.Machine.{Machine, Place}
use Rattle.text.specs.Said as Old
use Rattle.text.specs.Judge.{Sort, a_name, an_integer, a_pair, a_triple, a_coordinate, a_boundary, Val, read, Vals, both, read_all, Lexis, kind_at, args}
use Rattle.text.proofs.FieldReading.{says, said, read_right, read_only, all_right}
use Rattle.text.proofs.Telling.{Lawful, in-front, line-is, spelled-args}
use Rattle.law.specs.Network.{Line, word, SpellsField, SpellFields, Rules}
use Rattle.law.specs.Network as Law
use Rattle.law.specs.Faults.{kind_of_field, FieldKind, FirstMisspelt, here, further, Opens}
use Rattle.law_spelling.specs.LineOf.{said_of, Of, law_line}
use Rattle.law_spelling.proofs.Fields.{field-to, field_back}
use Rattle.law_faults.proofs.Sorts.{of_sort, one_sort, law-said, law-front, law-line-is}
use Rattle.law_faults.proofs.Needs.{Needs}
use Rattle.law_faults.proofs.Opening.{opens-word, word_line, kind-opens}

-- ## One line at most is spelled, and one field at most is the first
-- fields of which one is not of its kind spell no line of the kinds that are due
pub none-spelled : {e : Law.Edition} {fs : List Field} {ks : List FieldKind} {g : Field} → FirstMisspelt e fs ks g → (l : Line) → map kind_of_field l ≡ ks → SpellFields e fs l → ⊥
none-spelled (here n) [] q h = h
none-spelled (here n) (x ∷ l) q h = n x (head-eq_of_cons-eq q) h.0
none-spelled (further s i j m) [] q h = h
none-spelled (further s i j m) (x ∷ l) q h = none-spelled m l (tail-eq_of_cons-eq q) h.1

pub misspelt-one : {e : Law.Edition} {fs : List Field} {ks : List FieldKind} {g h : Field} → FirstMisspelt e fs ks g → FirstMisspelt e fs ks h → g ≡ h
misspelt-one (here n) (here m) = refl
misspelt-one (here n) (further s i j m) = absurd (n s i j)
misspelt-one (further s i j m) (here n) = absurd (n s i j)
misspelt-one (further s i j m) (further t p q n) = misspelt-one m n

-- ## A field of a kind is one that is read so
-- whether a boundary is of the edition does not depend on which it is
of-any : (e : Edition) (s : Sort) (u v : Val s) → Of e (says s v) → Of e (says s u)
of-any e a_name u v h = tt
of-any e an_integer u v h = tt
of-any e a_pair u v h = tt
of-any e a_triple u v h = tt
of-any e a_coordinate u v h = tt
of-any e (a_boundary d) u v h = h

pub kind-read : (e : Edition) (s : Sort) (v : Val s) → Of e (says s v) → (f : Field) (x : Law.Said) → kind_of_field x ≡ kind_of_field (said_of (says s v)) → SpellsField (law_of e) f x → (u : Val s) × (read s f ≡ some u)
kind-read e s v o f x k h =
    let y = of_sort s v x k in
    (y.0, read_only s f y.0 (field_back e f (says s y.0) (of-any e s y.0 v o) (subst (SpellsField (law_of e) f) y.1 h)))

pub read-kind : (e : Edition) (s : Sort) (v : Val s) → Of e (says s v) → (f : Field) (u : Val s) → read s f ≡ some u → (kind_of_field (said_of (says s u)) ≡ kind_of_field (said_of (says s v))) × SpellsField (law_of e) f (said_of (says s u))
read-kind e s v o f u q = (one_sort s u v, field-to e f (says s u) (of-any e s u v o) (read_right s f u q))

all_but : {A B : Type 0} (a : A) (y : Option B) → both (some a) y ≡ none → y ≡ none
all_but a (some b) e = nothing (sym e)
all_but a none e = refl

first-unread : (e : Edition) (ss : List Sort) (v : Vals ss) → Each (Of e) (said ss v) → (fs : List Field) → length fs ≡ length ss → read_all ss fs ≡ none → (g : Field) × FirstMisspelt (law_of e) fs (map kind_of_field (law-said ss v)) g
first-unread e [] v o [] n r = nothing (sym r)
first-unread e [] v o (f ∷ fs) n r = absurd (omega arith)
first-unread e (s ∷ ss) v o [] n r = absurd (omega arith)
first-unread e (s ∷ ss) v o (f ∷ fs) n r = go (read s f) refl r (λ r. first-unread e ss v.1 o.1 fs (omega arith) r)
  where
    go : (x : Option (Val s)) → read s f ≡ x → both x (read_all ss fs) ≡ none → (read_all ss fs ≡ none → (g : Field) × FirstMisspelt (law_of e) fs (map kind_of_field (law-said ss v.1)) g) → (g : Field) × FirstMisspelt (law_of e) (f ∷ fs) (map kind_of_field (law-said (s ∷ ss) v)) g
    go none q r ih = (f, here (λ x k h. let y = kind-read e s v.0 o.0 f x k h in nothing (sym q ∙ y.1)))
    go (some u) q r ih =
        let t = ih (all_but u (read_all ss fs) r) in
        let y = read-kind e s v.0 o.0 f u q in
        (t.0, further (said_of (says s u)) y.0 y.1 t.1)

-- ## Of a line that is made out as of a kind
module _ {ed : Edition} {rules : Rules} {L : Lang} (A : Machine L) (X : Lexis L) (Line-of : (k : L.Kind) → L.Pay k → List Old.Said) {Net : Type 0} (Said : Net → List (S L) → Type 0) (Spells : Rules → Net → List Line → Type 0) (first : A.Base) (N : Needs ed rules A X Line-of Said Spells first) where
  open L use {Kind, Pay}

  abbrev W : Lawful A X Line-of
  W = N.file.lawful

  module _ (p : Place A) (f : Field) (fs : List Field) (k : Kind) (is : kind_at A X p f ≡ some k) where
    -- fields that spell no line of the kind can't be read
    pub misread : ((v : Pay k) → Old.SpellFields (f ∷ fs) (Line-of k v) → ⊥) → read_all (X.sorts k) (args A X (X.keyword k) f fs) ≡ none
    misread n = go (read_all (X.sorts k) (args A X (X.keyword k) f fs)) refl
      where
        go : (x : Option (Vals (X.sorts k))) → read_all (X.sorts k) (args A X (X.keyword k) f fs) ≡ x → x ≡ none
        go none q = refl
        go (some w) q = absurd (n (X.make k w) (spelled-args A X Line-of W p f fs k is w (all_right (X.sorts k) (args A X (X.keyword k) f fs) w q)))

    pub first-misspelt : (v : Pay k) → length (args A X (X.keyword k) f fs) ≡ length (X.sorts k) → read_all (X.sorts k) (args A X (X.keyword k) f fs) ≡ none → (g : Field) × FirstMisspelt (law_of ed) (f ∷ fs) (map kind_of_field (law_line Line-of (say L k v))) g
    first-misspelt v n r = subst (λ (l : Line). (g : Field) × FirstMisspelt (law_of ed) (f ∷ fs) (map kind_of_field l) g) (sym (law-line-is A X Line-of W k v)) (go (X.keyword k) refl n r)
      where
        w : Vals (X.sorts k)
        w = W.parts k v

        each : (o : Option Bytes) → X.keyword k ≡ o → Each (Of ed) (in-front o ++ said (X.sorts k) w)
        each o q = subst (Each (Of ed)) (line-is A X Line-of W k v ∙ ap (λ (o : Option Bytes). in-front o ++ said (X.sorts k) w) q) (N.all k v)

        go : (o : Option Bytes) → X.keyword k ≡ o → length (args A X o f fs) ≡ length (X.sorts k) → read_all (X.sorts k) (args A X o f fs) ≡ none → (g : Field) × FirstMisspelt (law_of ed) (f ∷ fs) (map kind_of_field (law-front o ++ law-said (X.sorts k) w)) g
        go none q n r = first-unread ed (X.sorts k) w (each none q) (f ∷ fs) n r
        go (some b) q n r =
            let t = first-unread ed (X.sorts k) w (each (some b) q).1 fs n r in
            (t.0, further (word b) refl (opens-word (subst (Opens f) (word_line A X Line-of Said Spells first N k v b q) (kind-opens A X Line-of Said Spells first N p f k v is))) t.1)
