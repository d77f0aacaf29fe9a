-- EXACTLY WHAT A FIELD MAY BE in a line of a kind that may stand: behind fields that are permitted, a first field too, and by itself. For every file. Assumes nothing.
use mathlib.Core.Path.{◌≡◌, refl, sym, ap, subst, ◌∙◌, path_j}
use mathlib.Core.List.{List, [], ◌∷◌, ◌++◌, head-eq_of_cons-eq}
use mathlib.Core.Option.{Option, none, some}
use Prim.Native.Nat.{ℕ, suc}
use lib.ListN.{length}
use lib.Dec.{T, eqb}
use Rattle.terms.specs.Ascii.{Bytes}
use Rattle.line.specs.Content.{Field, at}
use Rattle.grammar.specs.Editions.{Edition, law_of}
use Rattle.grammar.specs.Language.{Lang, S, say}
use Rattle.grammar.specs.Machine.{Out, next, refuse, Machine, Place, step}
use Rattle.grammar.specs.Machine as Machine
use Rattle.grammar.specs.Stands.{stands}
use Rattle.grammar.proofs.StandLaws.{stands-lenient, stands-all, lenient-nine}
use Rattle.text.specs.Said as Texts
use Rattle.text.specs.Judge.{Vals, Lexis, kind_at}
use Rattle.text.proofs.Telling.{Lawful}
use Rattle.law.specs.Network.{Line, word, SpellsField, SpellFields, Rules, reading, lenient}
use Rattle.law.specs.Network as Law
use Rattle.law.specs.Faults.{Nth, Opens, keyword, digit, FollowsLeniently}
use Rattle.law_spelling.specs.LineOf.{law_line}
use Rattle.law_faults.proofs.Sorts.{law-said, law-front, law-line-is, of_kind_of, kind-sorts}
use Rattle.law_faults.proofs.Needs.{Needs}
use Rattle.law_faults.proofs.Reached.{laws, cons-nil, Came, line-to, line-back}
use Rattle.law_faults.proofs.Opening.{word_line, digit-opens, opens-kind}
use Rattle.law_faults.proofs.LineFaults.{one-kind}
use Rattle.law_columns.specs.Columns.{MayGoOn}
use Rattle.law_columns.specs.Finding.{taken?}
use Rattle.law_columns.proofs.LineColumns.{Lows}
use Rattle.expected_law.specs.Expected.{Item, Allows, Form, AllowsFields, last_bytes, OneStatement, ListsField, ListsApart}
use Rattle.expected_law.specs.Short.{Digit, Stands}
use Rattle.expected_exact.proofs.Shapes.{OnLine}
use Rattle.expected_exact.proofs.Exact.{FitPlace}
use Rattle.expected_exact.proofs.Behind.{last-from, last-is, whole, cut, field-all, fewer-fields}
use Rattle.expected_fields.specs.AtFields.{form_of_kind, alone}
use Rattle.expected_fields.proofs.Instances.{GoesOn, StandsAlone, Lasting, some-fields, goes-behind, before-alone, many-allowed, alone-allowed, nth-spelled}
use Rattle.expected_fields.proofs.Here.{Here, here-is}

-- what counts as taken is taken where 9 is the only refusal
so-taken : {P : Type 0} (o : Out P) → ((c : ℕ) → o ≡ refuse c → c ≡ 9) → T (taken? o) → (q : P) × (o ≡ next q)
so-taken (next q) h t = (q, refl)
so-taken (refuse c) h t = absurd (subst (λ (c : ℕ). T (eqb c 25)) (h c refl) t)

-- what spells fields that begin with f begins with what f spells
pub begun : (ed : Edition) (f : Field) (fs : List Field) (l : List Field) → l ≡ f ∷ fs → (a : Line) → SpellFields (law_of ed) l a → (x : Law.Said) × (b : Line) × (a ≡ x ∷ b) × SpellsField (law_of ed) f x
begun ed f fs [] e a h = cons-nil e
begun ed f fs (g ∷ l) e [] h = absurd h
begun ed f fs (g ∷ l) e (x ∷ a) h = (x, a, refl, subst (λ (g : Field). SpellsField (law_of ed) g x) (head-eq_of_cons-eq e) h.0)

digit-again : {g : Field} {i : List ℕ} {l : Line} → Digit g → Opens g (Law.numbers i ∷ l)
digit-again (digit e d) = digit e d

-- N, A: the file where no option has to be given
module _ {ed : Edition} {L : Lang} (strict : Machine L) (X : Lexis L) (Line-of : (k : L.Kind) → L.Pay k → List Texts.Said) {Net : Type 0} (Said : Net → List (S L) → Type 0) (Spells : Rules → Net → List Line → Type 0) (first : strict.Base)
    (N : Needs ed (lenient (reading (law_of ed))) (Machine.lenient strict) X Line-of Said Spells first) (low : (k : L.Kind) → Vals (X.sorts k)) (M : Lows ed (Machine.lenient strict) X low)
    (options : strict.Base → List Form) (due : strict.Base → Form) where
  open L use {Kind, Pay}

  abbrev A : Machine L
  A = Machine.lenient strict

  abbrev W : Lawful A X Line-of
  W = N.file.lawful

  abbrev law : S L → Line
  law = law_line Line-of

  as-kind : (k : Kind) (s : S L) (e : s.kind ≡ k) → (v : Pay k) × (s ≡ say L k v)
  as-kind k s e = path_j (λ k e. (v : Pay k) × (s ≡ say L k v)) (s.val, refl) e

  -- a line without a keyword begins with numbers
  numbered-line : (k : Kind) (v : Pay k) → X.keyword k ≡ none → (i : List ℕ) × (l : Line) × (law (say L k v) ≡ Law.numbers i ∷ l) × (law-said (X.sorts k) (W.parts k v) ≡ Law.numbers i ∷ l)
  numbered-line k v q =
      let n = N.numeric k q (W.parts k v) in
      (n.0, n.1, law-line-is A X Line-of W k v ∙ ap (λ (o : Option Bytes). law-front o ++ law-said (X.sorts k) (W.parts k v)) q ∙ n.2, n.2)

  -- a field that spells the first of a line opens it
  spelled-opens : (f : Field) (k : Kind) (v : Pay k) (x : Law.Said) (l : Line) → x ∷ l ≡ law (say L k v) → SpellsField (law_of ed) f x → Opens f (law (say L k v))
  spelled-opens f k v x l e h = go (X.keyword k) refl
    where
      go : (o : Option Bytes) → X.keyword k ≡ o → Opens f (law (say L k v))
      go (some w) q =
          let z = word_line A X Line-of Said Spells first N k v w q in
          let y : x ≡ word w = head-eq_of_cons-eq (e ∙ z) in
          subst (Opens f) (sym z) (keyword (subst (SpellsField (law_of ed) f) y h))
      go none q =
          let n = numbered-line k v q in
          subst (Opens f) (sym n.2) (digit-opens f n.0 n.1 (M.digits k q (W.parts k v) x l (n.3 ∙ sym n.2 ∙ sym e) f h))

  -- behind statements that lead to a place; of a kind that may stand there
  module _ (said : List (S L)) (p : Place A) (came : Came A X Line-of Said Spells first N said p) (fit : FitPlace ed L Line-of A options due p) (k : Kind) (stood : stands A p k ≡ none) (lasting : Lasting (form_of_kind A options due p k)) where
    abbrev front : List Line
    front = laws Line-of said

    abbrev form : Form
    form = form_of_kind A options due p k

    pub so-here : Here ed L Line-of A options due p k
    so-here = here-is ed L Line-of A options due p fit k stood

    -- ## What passes the test may stand, and back
    pub follows : (v : Pay k) → T (so-here.test v) → FollowsLeniently (reading (law_of ed)) Spells front (law (say L k v))
    follows v t =
        let q = so-taken (step A p (say L k v)) (λ c. lenient-nine strict p k v c (sym (stands-lenient strict p k) ∙ stood)) (subst T (sym (so-here.by v)) t) in
        line-to A X Line-of Said Spells first N said p q.0 (say L k v) came q.1

    passed : (s : S L) (q : Place A) → step A p s ≡ next q → (v : Pay k) → s ≡ say L k v → T (so-here.test v)
    passed s q e v i =
        let y : step A p (say L k v) ≡ next q = ap (step A p) (sym i) ∙ e in
        subst T (sym (ap taken? y) ∙ so-here.by v) tt

    pub passed-line : (v : Pay k) → FollowsLeniently (reading (law_of ed)) Spells front (law (say L k v)) → T (so-here.test v)
    passed-line v b =
        let y = line-back A X Line-of Said Spells first N said p (law (say L k v)) came b in
        passed y.0 y.1 y.3 v (sym (N.one (say L k v) y.0 y.2))

    -- a line that may stand and that a field of this kind begins
    pub of-this : (h : Field) → kind_at A X p h ≡ some k → (x : Law.Said) (l : Line) → SpellsField (law_of ed) h x → FollowsLeniently (reading (law_of ed)) Spells front (x ∷ l) → (v : Pay k) × T (so-here.test v) × (x ∷ l ≡ law (say L k v))
    of-this h is x l sp b =
        let y = line-back A X Line-of Said Spells first N said p (x ∷ l) came b in
        let s = y.0 in
        let o = spelled-opens h s.kind s.val x l y.2 sp in
        let j = opens-kind A X Line-of Said Spells first N p h s.kind s.val (stands-all A p s.kind s.val y.1 y.3) o in
        let z = as-kind k s (one-kind j is) in
        (z.0, passed s y.1 y.3 z.0 z.1, y.2 ∙ ap law z.1)

    -- what is known of the first field behind `leading`, or of the one that is first itself
    pub record Opening (leading : List Field) : Type 0 where
      pub opener : (g : Field) → OneStatement leading g → (h : Field) × (hs : List Field) × (leading ++ (g ∷ []) ≡ h ∷ hs) × (kind_at A X p h ≡ some k)
      pub one : (g : Field) (gs : List Field) (v : Pay k) → SpellFields (law_of ed) (leading ++ (g ∷ gs)) (law (say L k v)) → OneStatement leading g

    pub behind-first : (f : Field) (fs : List Field) → kind_at A X p f ≡ some k → Opening (f ∷ fs)
    behind-first f fs is = record { opener = λ g o. (f, fs ++ (g ∷ []), refl, is); one = λ g gs v sp. tt }

    pub at_first : X.keyword k ≡ none → Pay k → Opening []
    at_first q v = record {
      opener = λ g d.
          let n = numbered-line k v q in
          (g, [], refl, opens-kind A X Line-of Said Spells first N p g k v stood (subst (Opens g) (sym n.2) (digit-again d)));
      one = λ g gs v sp. let n = numbered-line k v q in first-digit g gs v n.0 n.1 n.3 (subst (SpellFields (law_of ed) (g ∷ gs)) n.2 sp);
    }
      where
        first-digit : (g : Field) (gs : List Field) (v : Pay k) (i : List ℕ) (l : Line) → law-said (X.sorts k) (W.parts k v) ≡ Law.numbers i ∷ l → SpellFields (law_of ed) (g ∷ gs) (Law.numbers i ∷ l) → Digit g
        first-digit g gs v i l e sp = digit-opens g [] [] (M.digits k q (W.parts k v) (Law.numbers i) l e g sp.0)

    -- ## The item behind instances of the items before it
    module _ (pre : Form) (item : Item) (post : Form) (cut-so : form ≡ pre ++ (item ∷ post)) where
      module _ (leading : List Field) (allowed : AllowsFields [] pre leading) where
        more : GoesOn (last-from [] leading) (item ∷ post)
        more = goes-behind pre (item ∷ post) [] leading (subst (GoesOn []) cut-so lasting.goes_on) allowed

        -- an instance goes on to a line that passes
        goes : (g : Field) → Allows (last-from [] leading) item g.bytes → (gs : List Field) × (v : Pay k) × T (so-here.test v) × SpellFields (law_of ed) (leading ++ (g ∷ gs)) (law (say L k v))
        goes g a =
            let gs = some-fields post g.bytes (more.1 g.bytes a) in
            let w = whole pre item post [] leading g gs.0 allowed a gs.1 in
            let x = so-here.fits.back (leading ++ (g ∷ gs.0)) (subst (λ (form : Form). AllowsFields [] form (leading ++ (g ∷ gs.0))) (sym cut-so) w) in
            (gs.0, x.0, x.1, x.2)

        may : (g : Field) → Allows (last-from [] leading) item g.bytes → MayGoOn (reading (law_of ed)) Spells front (leading ++ (g ∷ []))
        may g a =
            let x = goes g a in
            let c = cut (law_of ed) leading g x.0 (law (say L k x.1)) x.3 in
            (c.0, c.1, c.3, subst (FollowsLeniently (reading (law_of ed)) Spells front) c.2 (follows x.1 x.2))

        says_so : (v : Pay k) → T (so-here.test v) → OnLine ed (Law.word []) (pre ++ (item ∷ post)) (law (say L k v))
        says_so v t = subst (λ (form : Form). OnLine ed (Law.word []) form (law (say L k v))) cut-so (so-here.fits.says v t)

        pub lists-behind : Opening leading → ListsField (reading (law_of ed)) Spells front leading item
        lists-behind opening =
            let h : Field = at 0 more.0.0 in (
              fewer-fields (reading (law_of ed)) Spells front leading h (may h more.0.1),
              λ g. (λ a. to g (subst (λ (b : Bytes). Allows b item g.bytes) (sym (last-is leading)) a), λ x. back g x.0 x.1),
            )
          where
            to : (g : Field) → Allows (last-from [] leading) item g.bytes → OneStatement leading g × MayGoOn (reading (law_of ed)) Spells front (leading ++ (g ∷ []))
            to g a = let x = goes g a in (opening.one g x.0 x.1 x.3, may g a)

            back : (g : Field) → OneStatement leading g → MayGoOn (reading (law_of ed)) Spells front (leading ++ (g ∷ [])) → Allows (last_bytes leading) item g.bytes
            back g o m =
                let h = opening.opener g o in
                let x = begun ed h.0 h.1 (leading ++ (g ∷ [])) h.2 m.0 m.2 in
                let e : m.0 ++ m.1 ≡ x.0 ∷ (x.1 ++ m.1) = ap (λ (a : Line). a ++ m.1) x.2 in
                let y = of-this h.0 h.3 x.0 (x.1 ++ m.1) x.3 (subst (FollowsLeniently (reading (law_of ed)) Spells front) e m.3) in
                field-all ed pre item post leading allowed g m.0 m.1 (subst (OnLine ed (Law.word []) (pre ++ (item ∷ post))) (sym (e ∙ y.2)) (says_so y.0 y.1)) m.2

      -- ## The item by itself
      pub lists-alone : (v : Pay k) (i : ℕ) → length pre ≡ i → ListsApart (reading (law_of ed)) Spells front (law (say L k v)) (suc i) (alone item)
      lists-alone v i many g = (to, back)
        where
          to : Allows [] (alone item) g.bytes → Stands (reading (law_of ed)) Spells front (law (say L k v)) (suc i) g
          to a =
              let x = before-alone pre item post [] (subst (StandsAlone []) cut-so lasting.alone_so) g.bytes a in
              let y = goes x.0 x.1 g x.2 in
              let z = nth-spelled (law_of ed) x.0 g y.0 (law (say L k y.1)) y.3 in
              let c : length x.0 ≡ i = sym (many-allowed [] pre x.0 x.1) ∙ many in
              (law (say L k y.1), z.0, follows y.1 y.2, kind-sorts A X Line-of W k y.1 v, subst (λ (j : ℕ). Nth (suc j) z.0 (law (say L k y.1))) c z.1, z.2)

          back : Stands (reading (law_of ed)) Spells front (law (say L k v)) (suc i) g → Allows [] (alone item) g.bytes
          back x =
              let u = of_kind_of A X Line-of W k v x.0 x.3 in
              let t = passed-line u.0 (subst (FollowsLeniently (reading (law_of ed)) Spells front) u.1 x.2) in
              let o = subst (λ (form : Form). OnLine ed (Law.word []) form (law (say L k u.0))) cut-so (so-here.fits.says u.0 t) in
              alone-allowed ed pre item post (Law.word []) x.0 (subst (OnLine ed (Law.word []) (pre ++ (item ∷ post))) (sym u.1) o) x.1 (subst (λ (j : ℕ). Nth (suc j) x.1 x.0) (sym many) x.4) g x.5
