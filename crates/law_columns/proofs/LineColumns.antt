-- The column that is found of a line with a fault of 2 to 9, or 25, is its column. For every file. Assumes nothing.
use mathlib.Core.Path.{◌≡◌, refl, sym, ap, subst, ◌∙◌, path_j}
use mathlib.Core.List.{List, [], ◌∷◌, ◌++◌, map, head-eq_of_cons-eq}
use mathlib.Core.Option.{Option, none, some}
use mathlib.Core.Bool.{Bool, true, false}
use mathlib.Core.Logic.{◌⊎◌, inl, inr}
use Prim.Native.Nat.{ℕ, suc}
use native.Mathlib.Omega.{arith}
use borrow.Author.Tests.{eq-eqb}
use lib.ListN.{length}
use lib.Dec.{T, eqb}
use Rattle.terms.specs.Ascii.{Bytes}
use Rattle.terms.specs.Words.{Each}
use Rattle.terms.proofs.Tests.{nothing, clash}
use Rattle.scan.specs.Reach.{up_to}
use Rattle.line.specs.Text.{Ended}
use Rattle.line.specs.Content.{Field, Content}
use Rattle.line.specs.Lines.{drop_cr}
use Rattle.line.specs.Forms.{opens, outer_of, fields_at}
use Rattle.line.specs.Faults as Form
use Rattle.line.proofs.Ends.{ended_is}
use Rattle.line.proofs.Contents.{opened-at, content-fields}
use Rattle.line.proofs.Faults.{bad-byte, byte-bad}
use Rattle.word.specs.Number.{digit_first}
use Rattle.grammar.specs.Editions.{Edition, law_of}
use Rattle.grammar.specs.Language.{Lang, S, say}
use Rattle.grammar.specs.Machine.{Out, next, refuse, Machine, Place, step}
use Rattle.grammar.specs.Machine as Machine
use Rattle.grammar.specs.Stands.{stands}
use Rattle.grammar.proofs.StandLaws.{stands-lenient, stands-all, lenient-nine}
use Rattle.text.specs.Said as Texts
use Rattle.text.specs.Judge.{Sort, Vals, read_all, Lexis, kind_at, args}
use Rattle.text.specs.Faults.{Fielded, unknown}
use Rattle.text.specs.Faults as Old
use Rattle.text.proofs.FieldReading.{said, read_only, all-only}
use Rattle.text.proofs.FieldReading as Reading
use Rattle.text.proofs.Telling.{Lawful, line-is, args-spelled}
use Rattle.law.specs.Network.{Line, word, numbers, SpellsField, Rules, reading, lenient}
use Rattle.law.specs.Network as Law
use Rattle.law.specs.Faults.{kind_of_field, FirstMisspelt, Nth, Opens, keyword, FollowsLeniently, MayStand}
use Rattle.law.specs.Faults as Faults
use Rattle.law_spelling.specs.LineOf.{law_line}
use Rattle.law_faults.proofs.Sorts.{law-said, law-front, made-line, law-line-is}
use Rattle.law_faults.proofs.Needs.{Needs}
use Rattle.law_faults.proofs.Reached.{laws, Came, line-to, line-back}
use Rattle.law_faults.proofs.Opening.{opens-word, word_line, digit-opens, opens-kind}
use Rattle.law_faults.proofs.Misspelt.{misread, first-misspelt}
use Rattle.law_faults.proofs.LineFaults.{may-to, one-kind, Bare}
use Rattle.law_columns.specs.Columns.{AtFault, listed, misspelt, forbidden, Column, long, comment, byte, field}
use Rattle.law_columns.specs.Finding.{bad_at_of, taken?, takes, wrong_at, start_of, behind_word, tests, unless_refused, kind_field_of, field_at, column_of}
use Rattle.law_columns.proofs.Bytes.{first-bad}
use Rattle.law_columns.proofs.Wrong.{Spelled, Wrong, started, Completes, forbidden-wrong}
use Rattle.law_columns.proofs.Taking.{tested}
use Rattle.law_columns.proofs.Starting.{SortOf, misspelt-start, Lines, first-wrong}

-- what is asked of a file: low values, with which what is permitted stays so; a line without a keyword begins with a digit, whatever stands behind its first field
pub record Lows (ed : Edition) {L : Lang} (A : Machine L) (X : Lexis L) (low : (k : L.Kind) → Vals (X.sorts k)) : Type 0 where
  pub options : (b : A.Base) → Each (λ o. Completes (X.sorts o.on) (λ u. o.test (X.make o.on u)) (low o.on)) (A.opts b)
  pub owed : (b : A.Base) → Completes (X.sorts (A.due b).on) (λ u. (A.due b).test (X.make (A.due b).on u)) (low (A.due b).on)
  pub sorts : (k : L.Kind) → Each (SortOf ed) (X.sorts k)
  pub digits : (k : L.Kind) → X.keyword k ≡ none → (u : Vals (X.sorts k)) (x : Law.Said) (l : Line) → law-said (X.sorts k) u ≡ x ∷ l → (f : Field) → SpellsField (law_of ed) f x → digit_first f.bytes ≡ true

-- fields that spell values
spelled-all : (ss : List Sort) (fs : List Field) (w : Vals ss) → Texts.SpellFields fs (said ss w) → Spelled ss fs w
spelled-all ss [] w h = tt
spelled-all [] (f ∷ fs) w h = absurd h
spelled-all (s ∷ ss) (f ∷ fs) w h = (read_only s f w.0 h.0, spelled-all ss fs w.1 h.1)

-- what counts as taken is taken where 9 is the only refusal
so-taken : {P : Type 0} (o : Out P) → ((c : ℕ) → o ≡ refuse c → c ≡ 9) → T (taken? o) → (q : P) × (o ≡ next q)
so-taken (next q) h t = (q, refl)
so-taken (refuse c) h t = absurd (subst (λ (c : ℕ). T (eqb c 25)) (h c refl) t)

-- N, A: the file where no option has to be given
module _ {ed : Edition} {L : Lang} (strict : Machine L) (X : Lexis L) (Line-of : (k : L.Kind) → L.Pay k → List Texts.Said) {Net : Type 0} (Said : Net → List (S L) → Type 0) (Spells : Rules → Net → List Line → Type 0) (first : strict.Base)
    (N : Needs ed (lenient (reading (law_of ed))) (Machine.lenient strict) X Line-of Said Spells first) (low : (k : L.Kind) → Vals (X.sorts k)) (M : Lows ed (Machine.lenient strict) X low) where
  open L use {Kind, Pay}

  abbrev A : Machine L
  A = Machine.lenient strict

  abbrev W : Lawful A X Line-of
  W = N.file.lawful

  abbrev law : S L → Line
  law = law_line Line-of

  as-kind : (k : Kind) (s : S L) (e : s.kind ≡ k) → (v : Pay k) × (s ≡ say L k v)
  as-kind k s e = path_j (λ k e. (v : Pay k) × (s ≡ say L k v)) (s.val, refl) e

  -- a field that spells the first of a line opens it
  spelled-opens : (f : Field) (k : Kind) (v : Pay k) (x : Law.Said) (l : Line) → x ∷ l ≡ law (say L k v) → SpellsField (law_of ed) f x → Opens f (law (say L k v))
  spelled-opens f k v x l e h = go (X.keyword k) refl
    where
      go : (o : Option Bytes) → X.keyword k ≡ o → Opens f (law (say L k v))
      go (some w) q =
          let z = word_line A X Line-of Said Spells first N k v w q in
          let y : x ≡ word w = head-eq_of_cons-eq (e ∙ z) in
          subst (Opens f) (sym z) (keyword (subst (SpellsField (law_of ed) f) y h))
      go none q =
          let z : law (say L k v) ≡ law-said (X.sorts k) (W.parts k v) = law-line-is A X Line-of W k v ∙ ap (λ (o : Option Bytes). law-front o ++ law-said (X.sorts k) (W.parts k v)) q in
          let n = N.numeric k q (W.parts k v) in
          subst (Opens f) (sym (z ∙ n.2)) (digit-opens f n.0 n.1 (M.digits k q (W.parts k v) x l (sym z ∙ sym e) f h))

  -- the field that opens a line is its keyword, where it has one
  opened : (f : Field) (k : Kind) (v : Pay k) → Opens f (law (say L k v)) → (b : Bytes) → X.keyword k ≡ some b → f.bytes ≡ b
  opened f k v o b q = opens-word (subst (Opens f) (word_line A X Line-of Said Spells first N k v b q) o)

  -- ## Where a field starts
  start-behind : (ss : List Sort) (Good : Vals ss → Type 0) (o : Option Bytes) (f : Field) (fs : List Field) (i : ℕ) (w : Wrong ss Good (args A X o f fs) i) → start_of (behind_word o i) (f ∷ fs) ≡ w.f.start
  start-behind ss Good none f fs i w = ap (λ (l : List Field). start_of i l) w.among ∙ ap (λ (n : ℕ). start_of n (w.before ++ (w.f ∷ w.behind))) (sym w.at) ∙ started w.before w.f w.behind
  start-behind ss Good (some b) f fs i w = ap (λ (l : List Field). start_of i l) w.among ∙ ap (λ (n : ℕ). start_of n (w.before ++ (w.f ∷ w.behind))) (sym w.at) ∙ started w.before w.f w.behind

  -- behind statements that lead to a place
  module _ (said : List (S L)) (p : Place A) (came : Came A X Line-of Said Spells first N said p) where
    abbrev front : List Line
    front = laws Line-of said

    -- ## 8 and 9, of a kind that may stand
    module _ (f : Field) (fs : List Field) (k : Kind) (is : kind_at A X p f ≡ some k) (here : stands A p k ≡ none) where
      abbrev ss : List Sort
      ss = X.sorts k

      abbrev fields : List Field
      fields = args A X (X.keyword k) f fs

      may : (v : Pay k) × MayStand (reading (law_of ed)) Spells front f (law (say L k v))
      may = may-to strict X Line-of Said Spells first N said p came f k is here

      eight : length fields ≡ length ss → read_all ss fields ≡ none → (g : Field) × AtFault (reading (law_of ed)) Spells front f fs 8 g × (start_of (behind_word (X.keyword k) (wrong_at ss (λ u. true) (low k) fields)) (f ∷ fs) ≡ g.start)
      eight m e =
          let v = may.0 in
          let x = first-misspelt A X Line-of Said Spells first N p f fs k is v m e in (
            x.0,
            misspelt (law (say L k v)) may.1 x.1,
            misspelt-start ed A X ss (M.sorts k) (low k) (W.parts k v) (X.keyword k) (opened f k v may.1.0)
                (subst (λ (l : Line). FirstMisspelt (law_of ed) (f ∷ fs) (map kind_of_field l) x.0) (law-line-is A X Line-of W k v) x.1),
          )

      abbrev test : Vals ss → Bool
      test = takes A X low p k

      taken : (u : Vals ss) → T (test u) → (q : Place A) × (step A p (say L k (X.make k u)) ≡ next q)
      taken u = so-taken (step A p (say L k (X.make k u))) (λ c. lenient-nine strict p k (X.make k u) c (sym (stands-lenient strict p k) ∙ here))

      -- the value that may stand, taken
      some-taken : T (test (W.parts k may.0))
      some-taken =
          let y = line-back A X Line-of Said Spells first N said p (law (say L k may.0)) came may.1.1 in
          let e : step A p (say L k (X.make k (W.parts k may.0))) ≡ next y.1 = ap (λ (v : Pay k). step A p (say L k v)) (W.made k may.0) ∙ ap (step A p) (N.one (say L k may.0) y.0 y.2) ∙ y.3 in
          rw e tt

      by_place : Lines ed A X ss (M.sorts k) (λ u. T (test u)) (FollowsLeniently (reading (law_of ed)) Spells front) f fs (X.keyword k)
      by_place = record {
        opened = opened f k may.0 may.1.0;
        to = λ u g.
            let q = taken u g in
            subst (FollowsLeniently (reading (law_of ed)) Spells front) (made-line A X Line-of W k u) (line-to A X Line-of Said Spells first N said p q.0 (say L k (X.make k u)) came q.1);
        back = back;
      }
        where
          of-this : (s : S L) (q : Place A) (x : Law.Said) (l : Line) → x ∷ l ≡ law s → step A p s ≡ next q → (v : Pay k) × (s ≡ say L k v) → (u : Vals ss) × T (test u) × (x ∷ l ≡ law-front (X.keyword k) ++ law-said ss u)
          of-this s q x l e t (v, i) =
              let y : step A p (say L k (X.make k (W.parts k v))) ≡ next q = ap (λ (v : Pay k). step A p (say L k v)) (W.made k v) ∙ ap (step A p) (sym i) ∙ t in
              (W.parts k v, rw y tt, e ∙ ap law i ∙ law-line-is A X Line-of W k v)

          back : (x : Law.Said) (l : Line) → SpellsField (law_of ed) f x → FollowsLeniently (reading (law_of ed)) Spells front (x ∷ l) → (u : Vals ss) × T (test u) × (x ∷ l ≡ law-front (X.keyword k) ++ law-said ss u)
          back x l h b =
              let y = line-back A X Line-of Said Spells first N said p (x ∷ l) came b in
              let s = y.0 in
              let o = spelled-opens f s.kind s.val x l y.2 h in
              let j = opens-kind A X Line-of Said Spells first N p f s.kind s.val (stands-all A p s.kind s.val y.1 y.3) o in
              of-this s y.1 x l y.2 y.3 (as-kind k s (one-kind j is))

      completes : Completes ss test (low k)
      completes =
          let t = tested A (λ k test. Completes (X.sorts k) (λ u. test (X.make k u)) (low k)) M.options M.owed p k here in
          subst (λ (t : Vals ss → Bool). Completes ss t (low k)) (λ i u. sym (t.by (X.make k u)) i) t.known

      nine : (w : Vals ss) → Texts.SpellFields fields (Reading.said ss w) → (T (test w) → ⊥) → (g : Field) × AtFault (reading (law_of ed)) Spells front f fs 9 g × (start_of (behind_word (X.keyword k) (wrong_at ss test (low k) fields)) (f ∷ fs) ≡ g.start)
      nine w h n =
          let i = wrong_at ss test (low k) fields in
          let x = forbidden-wrong ss test w (low k) (W.parts k may.0) some-taken completes n fields (spelled-all ss fields w h) (all-only ss fields w h).1 in
          let y = first-wrong ed A X ss (M.sorts k) (λ u. T (test u)) (FollowsLeniently (reading (law_of ed)) Spells front) f fs (X.keyword k) by_place i x in
          (x.f, forbidden (y.before, y.behind, y.among, y.right, y.wrong), start-behind ss (λ u. T (test u)) (X.keyword k) f fs i x)

      -- the field that is found
      pub found : (n : ℕ) → length fields ≡ length ss → kind_field_of A X low p n (kind_at A X p f) f fs ≡ behind_word (X.keyword k) (wrong_at ss (tests A X low p k n) (low k) fields)
      found n m = rw (is, here, eq-eqb (length fields) (length ss) m)

    -- ## The column
    module _ (line : Bytes) where
      -- of a line with fields
      pub by-fields : {f : Field} {fs : List Field} (n : ℕ) → eqb n 2 ≡ false → eqb n 3 ≡ false → eqb n 4 ≡ false → Fielded 0 line f fs → column_of A X low p n line ≡ suc (start_of (field_at A X low p n f fs) (f ∷ fs))
      unfolding column_of
      by-fields {f} {fs} n a b c h = rw (a, b, c, ended_is h.ended, content-fields h.fields)

      pub column-to : (n : ℕ) → Old.Fault A X Line-of p 0 line n → Column (reading (law_of ed)) Spells front line n (column_of A X low p n line)
      unfolding column_of field_at
      column-to n (Old.form e (Form.long h)) = long
      column-to n (Old.form {content = c} e (Form.comment h b)) = subst (Column (reading (law_of ed)) Spells front line 3) (ap suc (sym (opened-at c b.outer b.rest b.opened.spelled b.opened.first) ∙ ap (up_to opens) (sym (ended_is e)))) (comment e b.opened)
      column-to n (Old.form {content = c} e (Form.byte h m b)) =
          let x = first-bad c (byte-bad c b) in
          subst (Column (reading (law_of ed)) Spells front line 4) (ap suc (sym x.at ∙ ap bad_at_of (sym (ended_is e))))
          (byte x.good x.behind x.b (subst (Ended line) x.is e) (λ h. clash (sym x.before ∙ byte-bad x.good h)) (bad-byte (x.good ++ (x.b ∷ [])) x.with_it))
      column-to n (unknown h e) = subst (Column (reading (law_of ed)) Spells front line 5) (sym (by-fields 5 refl refl refl h)) (field h.ended h.fields (listed (inl refl) Faults.first))
      column-to n (Old.misplaced h e s) = subst (Column (reading (law_of ed)) Spells front line 5) (sym (by-fields 5 refl refl refl h)) (field h.ended h.fields (listed (inl refl) Faults.first))
      column-to n (Old.given_again h e s) = subst (Column (reading (law_of ed)) Spells front line 6) (sym (by-fields 6 refl refl refl h)) (field h.ended h.fields (listed (inr (inl refl)) Faults.first))
      column-to n (Old.miscounted h c) = subst (Column (reading (law_of ed)) Spells front line 7) (sym (by-fields 7 refl refl refl h.fields)) (field h.fields.ended h.fields.fields (listed (inr (inr (inl refl))) Faults.first))
      column-to n (Old.misspelt {f = f} {fs = fs} {k = k} h c m) =
          let x = eight f fs k h.is h.here c (misread A X Line-of Said Spells first N p f fs k h.is m) in
          subst (Column (reading (law_of ed)) Spells front line 8) (ap suc (sym x.2 ∙ ap (λ (i : ℕ). start_of i (f ∷ fs)) (sym (found f fs k h.is h.here 8 c))) ∙ sym (by-fields 8 refl refl refl h.fields)) (field h.fields.ended h.fields.fields x.1)
      column-to n (Old.forbidden {f = f} {fs = fs} {k = k} h v s m) =
          let w = W.parts k v in
          let fields = args A X (X.keyword k) f fs in
          let t = args-spelled A X Line-of W p f fs k h.is w (subst (Texts.SpellFields (f ∷ fs)) (line-is A X Line-of W k v) s) in
          let refuses : taken? (step A p (say L k (X.make k w))) ≡ false = ap (λ (v : Pay k). taken? (step A p (say L k v))) (W.made k v) ∙ ap taken? m in
          let x = nine f fs k h.is h.here w t (subst T refuses) in
          subst (Column (reading (law_of ed)) Spells front line 9) (ap suc (sym x.2 ∙ ap (λ (i : ℕ). start_of i (f ∷ fs)) (sym (found f fs k h.is h.here 9 (all-only (X.sorts k) fields w t).1))) ∙ sym (by-fields 9 refl refl refl h.fields)) (field h.fields.ended h.fields.fields x.1)
      column-to n (Old.unmarked {k = k} h v s e) = absurd (let z = lenient-nine strict p k v 25 (sym (stands-lenient strict p k) ∙ h.here) e in omega arith)

      -- 25: the first field
      pub column-bare : (n : ℕ) → Bare ed Spells front line n → Column (reading (law_of ed)) Spells front line n (column_of A X low p n line)
      unfolding field_at
      column-bare n b =
          let h = b.fielded in
          subst (λ (n : ℕ). Column (reading (law_of ed)) Spells front line n (column_of A X low p n line)) (sym b.is)
          (subst (Column (reading (law_of ed)) Spells front line 25) (sym (by-fields 25 refl refl refl h)) (field h.ended h.fields (listed (inr (inr (inr (inr (inr (inr (inr (inr (inr (inr (inl refl))))))))))) Faults.first)))
