-- A line's faults do not depend on where in the text it starts: only the places of its names do. For every file. Assumes nothing.
use mathlib.Core.Path.{◌≡◌, refl, sym, ap, subst, ◌∙◌}
use mathlib.Core.List.{List, [], ◌∷◌, ◌++◌}
use mathlib.Core.Option.{Option, none, some}
use Prim.Native.Nat.{ℕ, suc, ◌+◌}
use lib.ListN.{length}
use Rattle.terms.specs.Ascii.{Bytes}
use Rattle.line.specs.Content.{Field, at, SpellsFields, Content}
use Rattle.line.specs.Content as C
use Rattle.word.specs.Keywords as Word
use Rattle.grammar.specs.Language.{Lang, say}
use Rattle.grammar.specs.Tables.{colour}
use Rattle.grammar.specs.Machine.{Machine, Place, step}
use Rattle.number.specs.Spelling.{SpellsInteger, SpellsPair, SpellsTriple, NameLength}
use Rattle.coordinate.specs.Spelling.{SpellsCoordinate}
use Rattle.text.specs.Said.{Said, SpellsField, SpellFields}
use Rattle.text.specs.Judge.{Sort, a_name, an_integer, a_pair, a_triple, a_coordinate, a_boundary, Val, Vals, Lexis, kind_at, args}
use Rattle.text.specs.Faults.{Fielded, MayStand, Fault, form, unknown, misplaced, given_again, miscounted, misspelt, forbidden, unmarked}
use Rattle.text.proofs.FieldReading.{says, said}
use Rattle.text.proofs.Telling.{Lawful, in-front, line-is}

-- fields of the same bytes
abbrev pub Same : List Field → List Field → Type 0
Same [] [] = Unit {0}
Same [] (g ∷ gs) = ⊥
Same (f ∷ fs) [] = ⊥
Same (f ∷ fs) (g ∷ gs) = (f.bytes ≡ g.bytes) × Same fs gs

pub same_back : (fs gs : List Field) → Same fs gs → Same gs fs
same_back [] [] h = tt
same_back [] (g ∷ gs) h = absurd h
same_back (f ∷ fs) [] h = absurd h
same_back (f ∷ fs) (g ∷ gs) h = (sym h.0, same_back fs gs h.1)

pub same_count : (fs gs : List Field) → Same fs gs → length fs ≡ length gs
same_count [] [] h = refl
same_count [] (g ∷ gs) h = absurd h
same_count (f ∷ fs) [] h = absurd h
same_count (f ∷ fs) (g ∷ gs) h = ap suc (same_count fs gs h.1)

-- the same bytes from another place on
fields_at : {a : ℕ} {c : Bytes} {fs : List Field} (b : ℕ) → SpellsFields a c fs → (gs : List Field) × SpellsFields b c gs × Same fs gs
fields_at b C.nothing = ([], C.nothing, tt)
fields_at b (C.separator h r) = let x = fields_at (suc b) r in (x.0, C.separator h x.1, x.2)
fields_at b (C.field {bytes = f} i p r) = let x = fields_at (b + length f) r in (at b f ∷ x.0, C.field i p x.1, (refl, x.2))

pub content-at : {a : ℕ} {c : Bytes} {fs : List Field} (b : ℕ) → Content a c fs → (gs : List Field) × Content b c gs × Same fs gs
content-at b h =
    let x = fields_at b h.fielded in
    (x.0, record { outer = h.outer; note = h.note; spelled = h.spelled; short = h.short; fielded = x.1; comment = h.comment }, x.2)

-- ## Values that differ in the places of names alone
abbrev pub Like : (s : Sort) → Val s → Val s → Type 0
Like a_name u v = u.bytes ≡ v.bytes
Like an_integer u v = u ≡ v
Like a_pair u v = u ≡ v
Like a_triple u v = u ≡ v
Like a_coordinate u v = u ≡ v
Like (a_boundary d) u v = u ≡ v

abbrev pub Alike : (ss : List Sort) → Vals ss → Vals ss → Type 0
Alike [] u v = Unit {0}
Alike (s ∷ ss) u v = Like s u.0 v.0 × Alike ss u.1 v.1

value-at : (s : Sort) (f g : Field) (v : Val s) → f.bytes ≡ g.bytes → SpellsField f (says s v) → (u : Val s) × Like s v u × SpellsField g (says s u)
value-at a_name f g v e h = (g, ap (λ (f : Field). f.bytes) (sym h.0) ∙ e, (refl, subst (λ (b : Bytes). NameLength (length b)) e h.1))
value-at an_integer f g v e h = (v, refl, subst (λ (b : Bytes). SpellsInteger b v) e h)
value-at a_pair f g v e h = (v, refl, subst (λ (b : Bytes). SpellsPair b v.m v.n) e h)
value-at a_triple f g v e h = (v, refl, subst (λ (b : Bytes). SpellsTriple b v.x v.y v.z) e h)
value-at a_coordinate f g v e h = (v, refl, subst (λ (b : Bytes). SpellsCoordinate b v) e h)
value-at (a_boundary d) f g v e h = (v, refl, (subst (λ (b : Bytes). Word.Boundary (colour v) b) e h.0, h.1))

values-at : (ss : List Sort) (fs gs : List Field) (w : Vals ss) → Same fs gs → SpellFields fs (said ss w) → (u : Vals ss) × Alike ss w u × SpellFields gs (said ss u)
values-at [] [] [] w e h = (tt, tt, tt)
values-at [] [] (g ∷ gs) w e h = absurd e
values-at [] (f ∷ fs) gs w e h = absurd h
values-at (s ∷ ss) [] gs w e h = absurd h
values-at (s ∷ ss) (f ∷ fs) [] w e h = absurd e
values-at (s ∷ ss) (f ∷ fs) (g ∷ gs) w e h =
    let x = value-at s f g w.0 e.0 h.0 in
    let y = values-at ss fs gs w.1 e.1 h.1 in
    ((x.0, y.0), (x.1, y.1), (x.2, y.2))

front_at : (o : Option Bytes) (ss : List Sort) (fs gs : List Field) (w : Vals ss) → Same fs gs → SpellFields fs (in-front o ++ said ss w) → (u : Vals ss) × Alike ss w u × SpellFields gs (in-front o ++ said ss u)
front_at none ss fs gs w e h = values-at ss fs gs w e h
front_at (some b) ss [] gs w e h = absurd h
front_at (some b) ss (f ∷ fs) [] w e h = absurd e
front_at (some b) ss (f ∷ fs) (g ∷ gs) w e h = let x = values-at ss fs gs w e.1 h.1 in (x.0, x.1, (sym e.0 ∙ h.0, x.2))

-- ## Faults
module _ {L : Lang} (A : Machine L) (X : Lexis L) (Line-of : (k : L.Kind) → L.Pay k → List Said) (W : Lawful A X Line-of) where
  open L use {Kind, Pay}

  -- a statement that such fields spell
  spelled_at : (k : Kind) (v : Pay k) (fs gs : List Field) → Same fs gs → SpellFields fs (Line-of k v) → (u : Vals (X.sorts k)) × Alike (X.sorts k) (W.parts k v) u × SpellFields gs (Line-of k (X.make k u))
  spelled_at k v fs gs e h =
      let x = front_at (X.keyword k) (X.sorts k) fs gs (W.parts k v) e (subst (SpellFields fs) (line-is A X Line-of W k v) h) in
      (x.0, x.1, subst (SpellFields gs) (sym (W.line_made k x.0)) x.2)

  -- where a line is taken or not whatever its names' places are
  module _ (steady : (p : Place A) (k : Kind) (u w : Vals (X.sorts k)) → Alike (X.sorts k) u w → step A p (say L k (X.make k u)) ≡ step A p (say L k (X.make k w))) where
    module _ (p : Place A) (a b : ℕ) (line : Bytes) where
      record There (f : Field) (fs : List Field) : Type 0 where
        g : Field
        gs : List Field
        fielded : Fielded b line g gs
        first : f.bytes ≡ g.bytes
        rest : Same fs gs

      there : {f : Field} {fs : List Field} → Fielded a line f fs → There f fs
      there {f} {fs} h = go (content-at b h.fields)
        where
          go : (gs : List Field) × Content b h.content gs × Same (f ∷ fs) gs → There f fs
          go ([], c, e) = absurd e
          go (g ∷ gs, c, e) = record { g = g; gs = gs; fielded = record { content = h.content; ended = h.ended; fields = c }; first = e.0; rest = e.1 }

      kind_at_of : {f : Field} {fs : List Field} (t : There f fs) (x : Option Kind) → kind_at A X p f ≡ x → kind_at A X p t.g ≡ x
      kind_at_of t x e = subst (λ (b : Bytes). kind_at A X p (at 0 b) ≡ x) t.first e

      may_at : {f : Field} {fs : List Field} {k : Kind} (t : There f fs) → MayStand A X Line-of p a line k f fs → MayStand A X Line-of p b line k t.g t.gs
      may_at {k = k} t h = record { fields = t.fielded; is = kind_at_of t (some k) h.is; here = h.here }

      count_at : {f : Field} {fs : List Field} (t : There f fs) (o : Option Bytes) → length (args A X o f fs) ≡ length (args A X o t.g t.gs)
      count_at {fs = fs} t none = ap suc (same_count fs t.gs t.rest)
      count_at {fs = fs} t (some w) = same_count fs t.gs t.rest

      -- and so is the step
      step-at : (k : Kind) (v : Pay k) (u : Vals (X.sorts k)) → Alike (X.sorts k) (W.parts k v) u → step A p (say L k (X.make k u)) ≡ step A p (say L k v)
      step-at k v u l = sym (steady p k (W.parts k v) u l) ∙ ap (λ (v : Pay k). step A p (say L k v)) (W.made k v)

      pub fault-at : (n : ℕ) → Fault A X Line-of p a line n → Fault A X Line-of p b line n
      fault-at n (form e f) = form e f
      fault-at n (unknown h e) = let t = there h in unknown t.fielded (kind_at_of t none e)
      fault-at n (misplaced {k = k} h e s) = let t = there h in misplaced t.fielded (kind_at_of t (some k) e) s
      fault-at n (given_again {k = k} h e s) = let t = there h in given_again t.fielded (kind_at_of t (some k) e) s
      fault-at n (miscounted {k = k} h c) = let t = there h.fields in miscounted (may_at t h) (λ e. c (count_at t (X.keyword k) ∙ e))
      fault-at n (misspelt {f = f} {fs = fs} {k = k} h c m) =
          let t = there h.fields in
          misspelt (may_at t h) (sym (count_at t (X.keyword k)) ∙ c) λ v s.
          let x = spelled_at k v (t.g ∷ t.gs) (f ∷ fs) (sym t.first, same_back fs t.gs t.rest) s in
          m (X.make k x.0) x.2
      fault-at n (forbidden {f = f} {fs = fs} {k = k} h v s e) =
          let t = there h.fields in
          let x = spelled_at k v (f ∷ fs) (t.g ∷ t.gs) (t.first, t.rest) s in
          forbidden (may_at t h) (X.make k x.0) x.2 (step-at k v x.0 x.1 ∙ e)
      fault-at n (unmarked {f = f} {fs = fs} {k = k} h v s e) =
          let t = there h.fields in
          let x = spelled_at k v (f ∷ fs) (t.g ∷ t.gs) (t.first, t.rest) s in
          unmarked (may_at t h) (X.make k x.0) x.2 (step-at k v x.0 x.1 ∙ e)
