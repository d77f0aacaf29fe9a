-- A line has one column at most. For every file. Assumes nothing.
use mathlib.Core.Path.{◌≡◌, refl, sym, ap, subst, ◌∙◌}
use mathlib.Core.List.{List, [], ◌∷◌, ◌++◌, map, append_assoc, head-eq_of_cons-eq, tail-eq_of_cons-eq}
use mathlib.Core.Option.{Option, none, some}
use mathlib.Core.Bool.{Bool, true, false, ◌||◌}
use mathlib.Core.Logic.{◌⊎◌, inl, inr}
use Prim.Native.Nat.{ℕ, zero, suc}
use native.Mathlib.Omega.{arith}
use lib.ListN.{length}
use lib.Dec.{eqb}
use Rattle.terms.specs.Ascii.{Bytes}
use Rattle.terms.specs.Words.{Among}
use Rattle.terms.proofs.Tests.{clash}
use Rattle.scan.specs.Reach.{up_to}
use Rattle.line.specs.Text.{Ended}
use Rattle.line.specs.Content.{Field, Content}
use Rattle.line.specs.Lines.{drop_cr}
use Rattle.line.specs.Forms.{opens, outer_of, fields_at, clean}
use Rattle.line.proofs.Ends.{ended_is}
use Rattle.line.proofs.Contents.{opened-at, content-fields}
use Rattle.line.proofs.Faults.{bad-byte, byte-bad}
use Rattle.grammar.specs.Editions.{Edition, law_of}
use Rattle.grammar.specs.Language.{Lang, S, say}
use Rattle.grammar.specs.Machine.{next, Machine, Place, at}
use Rattle.grammar.specs.Machine as Machine
use Rattle.text.specs.Said as Texts
use Rattle.text.specs.Judge.{Lexis}
use Rattle.text.proofs.Telling.{Lawful}
use Rattle.law.specs.Network.{Line, SpellFields, Rules, reading, lenient}
use Rattle.law.specs.Faults.{FieldKind, kind_of_field, FirstMisspelt, Nth, Begins, FollowsLeniently, MayStand}
use Rattle.law.specs.Faults as Faults
use Rattle.law_spelling.specs.LineOf.{law_line}
use Rattle.law_faults.proofs.Sorts.{kind-sorts}
use Rattle.law_faults.proofs.Needs.{Needs}
use Rattle.law_faults.proofs.Reached.{laws, split, Came, begins-back, run-parts}
use Rattle.law_faults.proofs.Misspelt.{misspelt-one}
use Rattle.law_faults.proofs.LineFaults.{may-back, one-kind}
use Rattle.law_columns.specs.Columns.{which_field, AtFault, listed, misspelt, forbidden, Column, long, comment, byte, field}
use Rattle.law_columns.specs.Finding.{bad_at_of, listed_at}
use Rattle.law_columns.proofs.Bytes.{bad-at}
use Rattle.law_columns.proofs.Starting.{Start, FirstWrongField}

-- ## The first wrong field
first-of : (P : List Field → Type 0) → ((a b : List Field) → P (a ++ b) → P a) → (a b c d : List Field) (f g : Field) → a ++ (f ∷ b) ≡ c ++ (g ∷ d) → P a → (P (a ++ (f ∷ [])) → ⊥) → P c → (P (c ++ (g ∷ [])) → ⊥) → f ≡ g
first-of P k [] b [] d f g e p np q nq = head-eq_of_cons-eq e
first-of P k [] b (y ∷ c) d f g e p np q nq = absurd (np (subst (λ (x : Field). P (x ∷ [])) (sym (head-eq_of_cons-eq e)) (k (y ∷ []) c q)))
first-of P k (x ∷ a) b [] d f g e p np q nq = absurd (nq (subst (λ (z : Field). P (z ∷ [])) (head-eq_of_cons-eq e) (k (x ∷ []) a p)))
first-of P k (x ∷ a) b (y ∷ c) d f g e p np q nq =
    let s : y ≡ x = sym (head-eq_of_cons-eq e) in
    first-of (λ l. P (x ∷ l)) (λ l r. k (x ∷ l) r) a b c d f g (tail-eq_of_cons-eq e) p np (subst (λ (z : Field). P (z ∷ c)) s q) (λ h. nq (subst (λ (z : Field). P (z ∷ (c ++ (g ∷ [])))) (sym s) h))

fields_split : (ed : Edition) (a b : List Field) (said : Line) → SpellFields (law_of ed) (a ++ b) said → (s : Line) × (t : Line) × (said ≡ s ++ t) × SpellFields (law_of ed) a s
fields_split ed [] b said h = ([], said, refl, tt)
fields_split ed (f ∷ a) b [] h = absurd h
fields_split ed (f ∷ a) b (x ∷ said) h =
    let r = fields_split ed a b said h.1 in
    (x ∷ r.0, r.1, ap (◌∷◌ x) r.2, (h.0, r.3))

-- what begins with more fields begins with fewer
fewer : (ed : Edition) (Is : Line → Type 0) (a b : List Field) → Start (law_of ed) Is (a ++ b) → Start (law_of ed) Is a
fewer ed Is a b h =
    let r = fields_split ed a b h.0 h.2 in
    (r.0, r.1 ++ h.1, r.3, subst Is (ap (λ (l : Line). l ++ h.1) r.2 ∙ append_assoc r.0 r.1 h.1) h.3)

pub first-wrong-one : (ed : Edition) (Is : Line → Type 0) (fields : List Field) (f g : Field) → FirstWrongField (law_of ed) Is fields f → FirstWrongField (law_of ed) Is fields g → f ≡ g
first-wrong-one ed Is fields f g p q = first-of (Start (law_of ed) Is) (fewer ed Is) p.before p.behind q.before q.behind f g (sym p.among ∙ q.among) p.right p.wrong q.right q.wrong

-- ## The listed fields
-- the numbers whose column is found in another way
abbrev pub apart : ℕ → Bool
apart n = eqb n 2 || (eqb n 3 || (eqb n 4 || (eqb n 8 || eqb n 9)))

abbrev pub Listed : ℕ → ℕ → Type 0
Listed n i = (i ≡ suc (listed_at n)) × (apart n ≡ false)

this-listed : {n i m j : ℕ} → ◌≡◌ {A = ℕ × ℕ} (n, i) (m, j) → Listed m j → Listed n i
this-listed {n} {i} {m} {j} e h =
    let a : n ≡ m = ap (λ (x : ℕ × ℕ). x.0) e in
    let b : i ≡ j = ap (λ (x : ℕ × ℕ). x.1) e in
    (b ∙ h.0 ∙ ap (λ (n : ℕ). suc (listed_at n)) (sym a), ap apart a ∙ h.1)

pub listed-is : {n i : ℕ} → Among (n, i) which_field → Listed n i
listed-is (inl e) = this-listed e (refl, refl)
listed-is (inr (inl e)) = this-listed e (refl, refl)
listed-is (inr (inr (inl e))) = this-listed e (refl, refl)
listed-is (inr (inr (inr (inl e)))) = this-listed e (refl, refl)
listed-is (inr (inr (inr (inr (inl e))))) = this-listed e (refl, refl)
listed-is (inr (inr (inr (inr (inr (inl e)))))) = this-listed e (refl, refl)
listed-is (inr (inr (inr (inr (inr (inr (inl e))))))) = this-listed e (refl, refl)
listed-is (inr (inr (inr (inr (inr (inr (inr (inl e)))))))) = this-listed e (refl, refl)
listed-is (inr (inr (inr (inr (inr (inr (inr (inr (inl e))))))))) = this-listed e (refl, refl)
listed-is (inr (inr (inr (inr (inr (inr (inr (inr (inr (inl e)))))))))) = this-listed e (refl, refl)
listed-is (inr (inr (inr (inr (inr (inr (inr (inr (inr (inr (inl e))))))))))) = this-listed e (refl, refl)
listed-is (inr (inr (inr (inr (inr (inr (inr (inr (inr (inr (inr e))))))))))) = absurd e

-- the i-th of a list, from 0
abbrev nth : {A : Type 0} → ℕ → List A → Option A
nth i [] = none
nth zero (a ∷ l) = some a
nth (suc i) (a ∷ l) = nth i l

nth-is : {A : Type 0} {i : ℕ} {a : A} {l : List A} → Nth i a l → (j : ℕ) × (i ≡ suc j) × (nth j l ≡ some a)
nth-is Faults.first = (0, refl, refl)
nth-is (Faults.later h) = let x = nth-is h in (suc x.0, ap suc x.1, x.2)

nth-one : {A : Type 0} {i j : ℕ} {a b : A} {l : List A} → i ≡ j → Nth i a l → Nth j b l → a ≡ b
nth-one {l = l} e h k =
    let x = nth-is h in
    let y = nth-is k in
    let z : x.0 ≡ y.0 = omega arith in
    one-kind x.2 (ap (λ (m : ℕ). nth m l) z ∙ y.2)

module _ {ed : Edition} {rules : Rules} {L : Lang} (A : Machine L) (X : Lexis L) (Line-of : (k : L.Kind) → L.Pay k → List Texts.Said) {Net : Type 0} (Said : Net → List (S L) → Type 0) (Spells : Rules → Net → List Line → Type 0) (first : A.Base) (N : Needs ed rules A X Line-of Said Spells first) where
  -- lines behind which another follows lead to a place
  pub reached : (front : List Line) (line : Line) → Begins rules Spells (front ++ (line ∷ [])) → (said : List (S L)) × (p : Place A) × (front ≡ laws Line-of said) × Came A X Line-of Said Spells first N said p
  reached front line b =
      let x = begins-back A X Line-of Said Spells first N (front ++ (line ∷ [])) b in
      let s = split Line-of front (line ∷ []) x.0 x.2 in
      let r = run-parts A (at A first) x.1 s.0 s.1 (subst (λ (l : List (S L)). Came A X Line-of Said Spells first N l x.1) s.2 x.3) in
      (s.0, r.0, s.3, r.1)

-- N, A: the file where no option has to be given
module _ {ed : Edition} {L : Lang} (strict : Machine L) (X : Lexis L) (Line-of : (k : L.Kind) → L.Pay k → List Texts.Said) {Net : Type 0} (Said : Net → List (S L) → Type 0) (Spells : Rules → Net → List Line → Type 0) (first : strict.Base)
    (N : Needs ed (lenient (reading (law_of ed))) (Machine.lenient strict) X Line-of Said Spells first) where
  abbrev A : Machine L
  A = Machine.lenient strict

  abbrev W : Lawful A X Line-of
  W = N.file.lawful

  -- the lines that a field opens there are of the same sorts
  same-sorts : (front : List Line) (f : Field) (l m : Line) → MayStand (reading (law_of ed)) Spells front f l → MayStand (reading (law_of ed)) Spells front f m → map kind_of_field l ≡ map kind_of_field m
  same-sorts front f l m a b =
      let r = reached A X Line-of Said Spells first N front l a.1 in
      there r.0 r.1 r.3 (subst (λ (x : List Line). MayStand (reading (law_of ed)) Spells x f l) r.2 a) (subst (λ (x : List Line). MayStand (reading (law_of ed)) Spells x f m) r.2 b)
    where
      there : (said : List (S L)) (p : Place A) → Came A X Line-of Said Spells first N said p → MayStand (reading (law_of ed)) Spells (laws Line-of said) f l → MayStand (reading (law_of ed)) Spells (laws Line-of said) f m → map kind_of_field l ≡ map kind_of_field m
      there said p came a b =
          let x = may-back strict X Line-of Said Spells first N said p came f l a in
          let y = may-back strict X Line-of Said Spells first N said p came f m b in
          go x.k x.v x.is y.k y.v y.is (one-kind x.made-out y.made-out)
        where
          go : (j : L.Kind) (u : L.Pay j) → l ≡ law_line Line-of (say L j u) → (k : L.Kind) (v : L.Pay k) → m ≡ law_line Line-of (say L k v) → j ≡ k → map kind_of_field l ≡ map kind_of_field m
          go j u e k v q i = subst (λ (k : L.Kind). (v : L.Pay k) → m ≡ law_line Line-of (say L k v) → map kind_of_field l ≡ map kind_of_field m) i (λ v q. ap (map kind_of_field) e ∙ kind-sorts A X Line-of W j u v ∙ ap (map kind_of_field) (sym q)) v q

  -- ## The field at fault
  data Which (front : List Line) (f : Field) (fs : List Field) (n : ℕ) (g : Field) : Type 0 where
    by-list : (i : ℕ) → Listed n i → Nth i g (f ∷ fs) → Which front f fs n g
    by-sorts : n ≡ 8 → (line : Line) → MayStand (reading (law_of ed)) Spells front f line → FirstMisspelt (law_of ed) (f ∷ fs) (map kind_of_field line) g → Which front f fs n g
    by_place : n ≡ 9 → FirstWrongField (law_of ed) (FollowsLeniently (reading (law_of ed)) Spells front) (f ∷ fs) g → Which front f fs n g

  which : {front : List Line} {f : Field} {fs : List Field} {n : ℕ} {g : Field} → AtFault (reading (law_of ed)) Spells front f fs n g → Which front f fs n g
  which (listed {i = i} a h) = by-list i (listed-is a) h
  which (misspelt line m w) = by-sorts refl line m w
  which (forbidden w) = by_place refl (record { before = w.0; behind = w.1; among = w.2; right = w.3; wrong = w.4 })

  not-apart : {Y : Type 0} {n m : ℕ} → n ≡ m → apart m ≡ true → apart n ≡ false → Y
  not-apart e t h = clash (sym t ∙ ap apart (sym e) ∙ h)

  one_field : (front : List Line) (f : Field) (fs : List Field) (n : ℕ) (g h : Field) → Which front f fs n g → Which front f fs n h → g ≡ h
  one_field front f fs n g h (by-list i a x) (by-list j b y) = nth-one (a.0 ∙ sym b.0) x y
  one_field front f fs n g h (by-list i a x) (by-sorts e l m w) = not-apart e refl a.1
  one_field front f fs n g h (by-list i a x) (by_place e w) = not-apart e refl a.1
  one_field front f fs n g h (by-sorts e l m w) (by-list j b y) = not-apart e refl b.1
  one_field front f fs n g h (by-sorts e l m w) (by-sorts e' l' m' w') = misspelt-one w (subst (λ (ks : List FieldKind). FirstMisspelt (law_of ed) (f ∷ fs) ks h) (same-sorts front f l' l m' m) w')
  one_field front f fs n g h (by-sorts e l m w) (by_place e' w') = absurd (omega arith)
  one_field front f fs n g h (by_place e w) (by-list j b y) = not-apart e refl b.1
  one_field front f fs n g h (by_place e w) (by-sorts e' l m w') = absurd (omega arith)
  one_field front f fs n g h (by_place e w) (by_place e' w') = first-wrong-one ed (FollowsLeniently (reading (law_of ed)) Spells front) (f ∷ fs) g h w w'

  -- ## The column
  data How (front : List Line) (line : Bytes) (n c : ℕ) : Type 0 where
    is-long : n ≡ 2 → c ≡ 513 → How front line n c
    in_comment : n ≡ 3 → c ≡ suc (up_to opens (drop_cr line)) → How front line n c
    at_byte : n ≡ 4 → c ≡ suc (bad_at_of (drop_cr line)) → How front line n c
    at_field : (f g : Field) (fs : List Field) → fields_at 0 (outer_of (drop_cr line)) ≡ f ∷ fs → Which front f fs n g → c ≡ suc g.start → How front line n c

  how : {front : List Line} {line : Bytes} {n c : ℕ} → Column (reading (law_of ed)) Spells front line n c → How front line n c
  how long = is-long refl refl
  how (comment {content = x} {outer = o} {rest = r} e h) = in_comment refl (ap suc (sym (ap (up_to opens) (ended_is e) ∙ opened-at x o r h.spelled h.first)))
  how (byte good behind b e n y) = at_byte refl (ap suc (sym (ap bad_at_of (ended_is e) ∙ bad-at good behind b (not-bad (clean good) refl) (byte-bad (good ++ (b ∷ [])) y))))
    where
      not-bad : (x : Bool) → clean good ≡ x → clean good ≡ true
      not-bad true q = q
      not-bad false q = absurd (n (bad-byte good q))
  how (field {f = f} {g = g} {fs = fs} e h a) = at_field f g fs (ap (λ (x : Bytes). fields_at 0 (outer_of x)) (ended_is e) ∙ content-fields h) (which a) refl

  other : {front : List Line} {f g : Field} {fs : List Field} {n m : ℕ} {Y : Type 0} → Which front f fs n g → n ≡ m → (m ≡ 8 → ⊥) → (m ≡ 9 → ⊥) → apart m ≡ true → Y
  other (by-list i a x) e p q t = not-apart e t a.1
  other (by-sorts r l m w) e p q t = absurd (p (sym e ∙ r))
  other (by_place r w) e p q t = absurd (q (sym e ∙ r))

  same-field : (front : List Line) (n : ℕ) (f g f' g' : Field) (fs fs' : List Field) → f ∷ fs ≡ f' ∷ fs' → Which front f fs n g → Which front f' fs' n g' → g ≡ g'
  same-field front n f g f' g' fs fs' e a b = one_field front f fs n g g' a (subst (λ (x : Field). Which front x fs n g') (sym (head-eq_of_cons-eq e)) (subst (λ (x : List Field). Which front f' x n g') (sym (tail-eq_of_cons-eq e)) b))

  one-how : (front : List Line) (line : Bytes) (n c d : ℕ) → How front line n c → How front line n d → c ≡ d
  one-how front line n c d (is-long e p) (is-long e' q) = p ∙ sym q
  one-how front line n c d (is-long e p) (in_comment e' q) = absurd (omega arith)
  one-how front line n c d (is-long e p) (at_byte e' q) = absurd (omega arith)
  one-how front line n c d (is-long e p) (at_field f g fs l w q) = other w e (λ z. omega arith) (λ z. omega arith) refl
  one-how front line n c d (in_comment e p) (is-long e' q) = absurd (omega arith)
  one-how front line n c d (in_comment e p) (in_comment e' q) = p ∙ sym q
  one-how front line n c d (in_comment e p) (at_byte e' q) = absurd (omega arith)
  one-how front line n c d (in_comment e p) (at_field f g fs l w q) = other w e (λ z. omega arith) (λ z. omega arith) refl
  one-how front line n c d (at_byte e p) (is-long e' q) = absurd (omega arith)
  one-how front line n c d (at_byte e p) (in_comment e' q) = absurd (omega arith)
  one-how front line n c d (at_byte e p) (at_byte e' q) = p ∙ sym q
  one-how front line n c d (at_byte e p) (at_field f g fs l w q) = other w e (λ z. omega arith) (λ z. omega arith) refl
  one-how front line n c d (at_field f g fs l w p) (is-long e q) = other w e (λ z. omega arith) (λ z. omega arith) refl
  one-how front line n c d (at_field f g fs l w p) (in_comment e q) = other w e (λ z. omega arith) (λ z. omega arith) refl
  one-how front line n c d (at_field f g fs l w p) (at_byte e q) = other w e (λ z. omega arith) (λ z. omega arith) refl
  one-how front line n c d (at_field f g fs l w p) (at_field f' g' fs' l' w' q) = p ∙ ap (λ (x : Field). suc x.start) (same-field front n f g f' g' fs fs' (sym l ∙ l') w w') ∙ sym q

  -- a line behind these has one column at most
  pub column-one : (front : List Line) (line : Bytes) (n c d : ℕ) → Column (reading (law_of ed)) Spells front line n c → Column (reading (law_of ed)) Spells front line n d → c ≡ d
  column-one front line n c d a b = one-how front line n c d (how a) (how b)
