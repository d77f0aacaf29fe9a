-- The column that is found of line i of a text is its column: of the first line with a fault of 2 to 9, and of the first with 12 to 18. For every file. Assumes nothing.
use mathlib.Core.Path.{◌≡◌, refl, sym, ap, subst, ◌∙◌}
use mathlib.Core.List.{List, [], ◌∷◌, ◌++◌, head-eq_of_cons-eq, tail-eq_of_cons-eq}
use mathlib.Core.Option.{Option, none, some}
use mathlib.Core.Bool.{Bool, true, false, ◌||◌}
use mathlib.Core.Logic.{◌⊎◌, inl, inr}
use Prim.Native.Nat.{ℕ, zero, suc, ◌+◌, ◌<◌}
use native.Mathlib.Omega.{arith}
use borrow.Author.Tests.{eq-eqb, ne_eqb}
use lib.ListN.{length}
use lib.Dec.{eqb}
use Rattle.terms.specs.Ascii.{Bytes}
use Rattle.terms.specs.Words.{Among}
use Rattle.terms.proofs.Tests.{clash}
use Rattle.line.specs.Text.{Ended}
use Rattle.line.specs.Content.{Field, Content}
use Rattle.line.specs.Lines.{lines_of}
use Rattle.line.proofs.Ends.{ended-one}
use Rattle.line.proofs.Contents.{content-one}
use Rattle.line.proofs.Cuts.{cut-is}
use Rattle.grammar.specs.Editions.{Edition, law_of}
use Rattle.grammar.specs.Language.{Lang, S}
use Rattle.grammar.specs.Machine.{next, Machine, Place, at, run}
use Rattle.grammar.specs.Machine as Machine
use Rattle.text.specs.Said as Texts
use Rattle.text.specs.Spelling.{SpellsLines, done, blank_line_of, statement}
use Rattle.text.specs.Judge.{Vals, Lexis, judge, good}
use Rattle.text.specs.Faults as Old
use Rattle.text.proofs.Telling.{Lawful}
use Rattle.text.proofs.LineJudging.{good-only}
use Rattle.law.specs.Network.{Line, SpellFields, Says, SayLines, Rules, reading, lenient}
use Rattle.law.specs.Network as Law
use Rattle.law.specs.Faults.{Nth, Fault, LineAt, BadLine, FirstFault}
use Rattle.law.specs.Faults as Faults
use Rattle.law_spelling.proofs.Lines.{lines-back}
use Rattle.law_faults.proofs.Needs.{Needs}
use Rattle.law_faults.proofs.Moved.{Same, content-at, same_count}
use Rattle.law_faults.proofs.Reached.{laws, cons-nil, Came, run-lenient, begins-back, run-one, nil-run}
use Rattle.law_faults.proofs.LineFaults.{Bare, fault-back}
use Rattle.law_columns.specs.Columns.{which_field, Column, field, listed}
use Rattle.law_columns.specs.Finding.{listed_at, start_of, field_at, column_of, onward, column_from, column_in}
use Rattle.law_columns.proofs.Lenient.{column-same}
use Rattle.law_columns.proofs.LineColumns.{Lows, column-to, column-bare, by-fields}
use Rattle.law_columns.proofs.One.{apart, listed-is, reached}

-- ## What the last of some lines says
no_fields : (ed : Edition) {Y : Type 0} (s : Law.Said) (said : Line) (fs gs : List Field) → fs ≡ gs → SpellFields (law_of ed) fs [] → SpellFields (law_of ed) gs (s ∷ said) → Y
no_fields ed s said [] [] e a b = absurd b
no_fields ed s said [] (g ∷ gs) e a b = cons-nil e
no_fields ed s said (f ∷ fs) gs e a b = absurd a

no_both : (ed : Edition) {Y : Type 0} {start : ℕ} {line : Bytes} {s : Law.Said} {said : Line} → Says (reading (law_of ed)) start line [] → Says (reading (law_of ed)) start line (s ∷ said) → Y
no_both ed {start = start} {s = s} {said = said} h k = no_fields ed s said h.fields k.fields (content-one (subst (λ (c : Bytes). Content start c h.fields) (ended-one h.ended k.ended) h.fielded) k.fielded) h.spelled k.spelled

-- lines that say `front` and more say more behind it
behind-front : (ed : Edition) {a : ℕ} {before : List Bytes} {front : List Line} → SayLines (reading (law_of ed)) a before front → {ls : List Bytes} {l : List Line} → SayLines (reading (law_of ed)) a ls l → (last : List Bytes) (rest : List Line) → ls ≡ before ++ last → l ≡ front ++ rest
    → (b : ℕ) × SayLines (reading (law_of ed)) b last rest
behind-front ed {a} Law.done {ls} {l} g last rest e q = (a, subst (λ (x : List Bytes). SayLines (reading (law_of ed)) a x rest) e (subst (SayLines (reading (law_of ed)) a ls) q g))
behind-front ed (Law.blank h more) Law.done last rest e q = cons-nil e
behind-front ed (Law.blank {line = line} {lines = lines} h more) (Law.blank {start = a} {line = line'} {lines = ls} {l = l} h' more') last rest e q = behind-front ed more (subst (λ (x : Bytes). SayLines (reading (law_of ed)) (a + suc (length x)) ls l) (head-eq_of_cons-eq e) more') last rest (tail-eq_of_cons-eq e) q
behind-front ed (Law.blank {line = line} h more) (Law.statement {start = a} {line = line'} {s = s} {said = said} h' more') last rest e q = no_both ed h (subst (λ (x : Bytes). Says (reading (law_of ed)) a x (s ∷ said)) (head-eq_of_cons-eq e) h')
behind-front ed (Law.statement h more) Law.done last rest e q = cons-nil e
behind-front ed (Law.statement {line = line} h more) (Law.blank {start = a} h' more') last rest e q = no_both ed (subst (λ (x : Bytes). Says (reading (law_of ed)) a x []) (head-eq_of_cons-eq e) h') h
behind-front ed (Law.statement {line = line} h more) (Law.statement {start = a} {line = line'} {lines = ls} {l = l} h' more') last rest e q = behind-front ed more (subst (λ (x : Bytes). SayLines (reading (law_of ed)) (a + suc (length x)) ls l) (head-eq_of_cons-eq e) more') last rest (tail-eq_of_cons-eq e) (tail-eq_of_cons-eq q)

-- a line that says something
one-says : (ed : Edition) {b : ℕ} {this : Bytes} {line : Line} {ls : List Bytes} {l : List Line} → SayLines (reading (law_of ed)) b ls l → ls ≡ this ∷ [] → l ≡ line ∷ [] → Says (reading (law_of ed)) b this line
one-says ed Law.done e q = cons-nil e
one-says ed {b} (Law.blank h (Law.done)) e q = cons-nil q
one-says ed (Law.blank h (Law.blank h' more)) e q = cons-nil (sym (tail-eq_of_cons-eq e))
one-says ed (Law.blank h (Law.statement h' more)) e q = cons-nil (sym (tail-eq_of_cons-eq e))
one-says ed {b} {this} {line} (Law.statement {line = x} h more) e q = subst (λ (y : Bytes). Says (reading (law_of ed)) b y line) (head-eq_of_cons-eq e) (subst (Says (reading (law_of ed)) b x) (head-eq_of_cons-eq q) h)

-- ## The field by the list
pub record InList (line : Line) (n : ℕ) : Type 0 where
  pub j : ℕ
  pub among : Among (n, suc j) which_field
  pub enough : j < length line

nth-start : (l : List Field) (j : ℕ) → j < length l → (g : Field) × Nth (suc j) g l × (start_of j l ≡ g.start)
nth-start [] j h = absurd (omega arith)
nth-start (f ∷ l) zero h = (f, Faults.first, refl)
nth-start (f ∷ l) (suc j) h = let x = nth-start l j (omega arith) in (x.0, Faults.later x.1, x.2)

said-count : (ed : Edition) (fs : List Field) (line : Line) → SpellFields (law_of ed) fs line → length fs ≡ length line
said-count ed [] [] h = refl
said-count ed [] (s ∷ line) h = absurd h
said-count ed (f ∷ fs) [] h = absurd h
said-count ed (f ∷ fs) (s ∷ line) h = ap suc (said-count ed fs line h.1)

neither : (a b : Bool) → (a || b) ≡ false → (a ≡ false) × (b ≡ false)
neither true b e = clash e
neither false b e = (refl, e)

-- N: the file; O: the same where no option has to be given
module _ {ed : Edition} {L : Lang} (A : Machine L) (X : Lexis L) (Line-of : (k : L.Kind) → L.Pay k → List Texts.Said) {Net : Type 0} (Said Loose : Net → List (S L) → Type 0) (Spells : Rules → Net → List Line → Type 0) (first : A.Base)
    (N : Needs ed (reading (law_of ed)) A X Line-of Said Spells first) (O : Needs ed (lenient (reading (law_of ed))) (Machine.lenient A) X Line-of Loose Spells first) (low : (k : L.Kind) → Vals (X.sorts k)) (M : Lows ed (Machine.lenient A) X low) where
  abbrev B : Machine L
  B = Machine.lenient A

  abbrev W : Lawful A X Line-of
  W = N.file.lawful

  -- ## To the line
  pub walked : {start : ℕ} {ls : List Bytes} {ss : List (S L)} → SpellsLines Line-of start ls ss → (p q : Place A) → run A p ss ≡ next q → (j i n : ℕ) (this : Bytes) (rest : List Bytes) → i ≡ j + length ls
      → column_from A X low p start j i n (ls ++ (this ∷ rest)) ≡ column_of A X low q n this
  unfolding column_from
  walked done p q c j i n this rest e = rw (eq-eqb j i (omega arith)) (ap (λ (p : Place A). column_of A X low p n this) (nil-run A p q c))
  walked (blank_line_of {start = a} {line = l} h more) p q c j i n this rest e = rw (ne_eqb j i (λ z. omega arith), good-only A X Line-of W p a l none p h refl) (walked more p q c (suc j) i n this rest (omega arith))
  walked (statement {start = a} {line = l} {s = s} {said = ss} h more) p q c j i n this rest e =
      let x = run-one A p q s ss c in
      rw (ne_eqb j i (λ z. omega arith), good-only A X Line-of W p a l (some s) x.0 h x.1) (walked more x.0 q x.2 (suc j) i n this rest (omega arith))

  to-line : (text : Bytes) (i n : ℕ) (front : List Line) (this : Bytes) → LineAt (reading (law_of ed)) text i front this → (said : List (S L)) (p : Place A) → front ≡ laws Line-of said → Came A X Line-of Said Spells first N said p
      → column_in A X low first text i n ≡ column_of A X low p n this
  unfolding column_in
  to-line text i n front this h said p e c = ap (column_from A X low (at A first) 0 1 i n) (cut-is h.cut) ∙ walked (lines-back ed Line-of N.all said (subst (SayLines (reading (law_of ed)) 0 h.before) e h.said)) (at A first) p c 1 i n this h.rest (omega (arith, h.number))

  -- ## 2 to 9, and 25
  pub column-bad : (text : Bytes) (i n : ℕ) (bad : BadLine (reading (law_of ed)) Spells text i n) → Column (reading (law_of ed)) Spells bad.front bad.this n (column_in A X low first text i n)
  column-bad text i n bad =
      let x = begins-back A X Line-of Said Spells first N bad.front bad.begins in
      let came = run-lenient A (at A first) x.1 x.0 x.3 in
      let f = fault-back A X Line-of Loose Spells first O x.0 x.1 came bad.this n (subst (λ (front : List Line). Fault (reading (law_of ed)) Spells front bad.this n) x.2 bad.fault) in
      let c = of-line x.0 x.1 came bad.this n f in
      subst (Column (reading (law_of ed)) Spells bad.front bad.this n) (sym (column-same A X low x.1 n bad.this) ∙ sym (to-line text i n bad.front bad.this bad.at x.0 x.1 x.2 x.3))
      (subst (λ (front : List Line). Column (reading (law_of ed)) Spells front bad.this n (column_of B X low x.1 n bad.this)) (sym x.2) c)
    where
      of-line : (said : List (S L)) (p : Place A) → Came B X Line-of Loose Spells first O said p → (this : Bytes) (n : ℕ) → Old.Fault B X Line-of p 0 this n ⊎ Bare ed Spells (laws Line-of said) this n → Column (reading (law_of ed)) Spells (laws Line-of said) this n (column_of B X low p n this)
      of-line said p came this n (inl f) = column-to A X Line-of Loose Spells first O low M said p came this n f
      of-line said p came this n (inr b) = column-bare A X Line-of Loose Spells first O low M said p came this n b

  -- ## 12 to 18
  listed-column : (front : List Line) (p : Place A) (said : List (S L)) → Came A X Line-of Said Spells first N said p → (start : ℕ) (this : Bytes) (line : Line) (n : ℕ) → Says (reading (law_of ed)) start this line → InList line n → Column (reading (law_of ed)) Spells front this n (column_of A X low p n this)
  unfolding field_at
  listed-column front p said came start this line n h w =
      let x = content-at 0 h.fielded in
      go x.0 x.1 (omega (arith, same_count h.fields x.0 x.2, said-count ed h.fields line h.spelled, w.enough))
    where
      go : (gs : List Field) → Content 0 h.content gs → w.j < length gs → Column (reading (law_of ed)) Spells front this n (column_of A X low p n this)
      go [] c m = absurd (omega arith)
      go (f ∷ fs) c m =
          let a = listed-is w.among in
          let two = neither (eqb n 2) (eqb n 3 || (eqb n 4 || (eqb n 8 || eqb n 9))) a.1 in
          let three = neither (eqb n 3) (eqb n 4 || (eqb n 8 || eqb n 9)) two.1 in
          let four = neither (eqb n 4) (eqb n 8 || eqb n 9) three.1 in
          let eight = neither (eqb n 8) (eqb n 9) four.1 in
          let g = nth-start (f ∷ fs) w.j m in
          let i : w.j ≡ listed_at n = omega (arith, a.0) in
          let e : field_at B X low p n f fs ≡ w.j = rw (eight.0, eight.1) (sym i) in
          subst (Column (reading (law_of ed)) Spells front this n) (ap suc (sym g.2 ∙ ap (λ (j : ℕ). start_of j (f ∷ fs)) (sym e)) ∙ sym (by-fields A X Line-of Loose Spells first O low M said p (run-lenient A (at A first) p said came) this n two.0 three.0 four.0 (record { content = h.content; ended = h.ended; fields = c })) ∙ sym (column-same A X low p n this))
          (field h.ended c (listed w.among g.1))

  pub column-fault : (F : List Line → Line → ℕ → Type 0) → ((front : List Line) (line : Line) (n : ℕ) → F front line n → InList line n) → (text : Bytes) (i n : ℕ) (bad : FirstFault (reading (law_of ed)) Spells F text i n)
      → Column (reading (law_of ed)) Spells bad.front bad.at.this n (column_in A X low first text i n)
  column-fault F w text i n bad =
      let s = bad.at in
      let x = reached A X Line-of Said Spells first N bad.front bad.line s.begins in
      let b = behind-front ed s.at.said s.says (s.this ∷ []) (bad.line ∷ []) refl refl in
      subst (Column (reading (law_of ed)) Spells bad.front s.this n) (sym (to-line text i n bad.front s.this s.at x.0 x.1 x.2 x.3))
      (listed-column bad.front x.1 x.0 x.3 b.0 s.this bad.line n (one-says ed b.1 refl refl) (w bad.front bad.line n bad.fault))
