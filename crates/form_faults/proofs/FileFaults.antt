-- A text is answered with a line and a number of 2 to 9 exactly if that is its bad line, and with 10 exactly if it is unended; no text is both, or either and well-formed. For every file. Assumes nothing.
use mathlib.Core.Path.{◌≡◌, refl, sym, ap, subst, ◌∙◌}
use mathlib.Core.List.{List, [], ◌∷◌, ◌++◌, head-eq_of_cons-eq, tail-eq_of_cons-eq}
use mathlib.Core.Option.{Option, none, some}
use mathlib.Core.Logic.{◌⊎◌, inl, inr}
use Prim.Native.Nat.{ℕ, suc, ◌+◌, ◌≤◌}
use native.Mathlib.Omega.{arith}
use native.Mathlib.Nat.{add-zero}
use lib.ListN.{length}
use Rattle.terms.specs.Ascii.{Bytes}
use Rattle.line.specs.Text.{Cut}
use Rattle.line.specs.Faults.{FormFault, long, comment, byte}
use Rattle.line.specs.Lines.{lines_of}
use Rattle.line.proofs.Cuts.{cut, cut-is}
use Rattle.grammar.specs.Language.{Lang, S, say}
use Rattle.grammar.specs.Stands.{stands}
use Rattle.grammar.specs.Machine.{Out, next, refuse, Machine, over, inside, and_then, Place, at, step, run}
use Rattle.grammar.proofs.MachineLaws.{refused}
use Rattle.text.specs.Said.{Said}
use Rattle.text.specs.Spelling.{SpellsLine, SpellsLines, done, blank_line_of, statement}
use Rattle.text.specs.Refusals.{Begin, Hopeless}
use Rattle.text.specs.Judge.{Lexis, judge, fault}
use Rattle.text.specs.Answers.{Walk, stopped, through, Answer, faulty, short, read, walk, answer, read_text}
use Rattle.text.specs.Faults.{Fault, form, unknown, misplaced, given_again, miscounted, misspelt, forbidden, unmarked}
use Rattle.text.proofs.Telling.{Lawful}
use Rattle.text.proofs.LineJudging.{good-only}
use Rattle.text.proofs.FaultLaws.{fault-right, fault-only}
use Rattle.text.proofs.TextReading.{File, Faulty, Means, walk-says, says-walk, size}
use Rattle.text.proofs.TextReading as T
use Rattle.form_faults.specs.FormFaults.{behind, BadLine, Unended}

-- ## Answers
-- no answer is two of the three
faulty-short : {X S : Type 0} {i n k : ℕ} → ◌≡◌ {A = Answer S} (faulty i n) (short k) → X
faulty-short e = absurd (let z : ◌≡◌ {A = ℕ} 0 1 = cc in omega arith)

faulty-read : {X S : Type 0} {i n : ℕ} {ss : List S} → ◌≡◌ {A = Answer S} (faulty i n) (read ss) → X
faulty-read e = absurd (let z : ◌≡◌ {A = ℕ} 0 1 = cc in omega arith)

-- lines before a line: told apart by how many they are
same-split : {A : Type 0} (xs ys : List A) (x y : A) (us vs : List A) → length xs ≡ length ys → xs ++ (x ∷ us) ≡ ys ++ (y ∷ vs) → xs ≡ ys
same-split [] [] a b us vs n e = refl
same-split [] (y ∷ ys) a b us vs n e = absurd (omega arith)
same-split (x ∷ xs) [] a b us vs n e = absurd (omega arith)
same-split (x ∷ xs) (y ∷ ys) a b us vs n e =
    let h : x ≡ y = head-eq_of_cons-eq e in
    let t : xs ≡ ys = same-split xs ys a b us vs (omega arith) (tail-eq_of_cons-eq e) in
    cc

module _ {L : Lang} (A : Machine L) (X : Lexis L) (Line-of : (k : L.Kind) → L.Pay k → List Said) {Net : Type 0} (Spells : Net → List (S L) → Type 0) (first : A.Base) (F : File A X Line-of Spells first) where
  abbrev W : Lawful A X Line-of
  W = F.lawful

  abbrev Spelled : Net → Bytes → Type 0
  Spelled = T.Spelled A X Line-of Spells first F

  abbrev Bad : Bytes → ℕ → ℕ → Type 0
  Bad = BadLine A X Line-of first

  abbrev Short : Bytes → ℕ → Type 0
  Short = Unended Spelled

  -- ## A line at fault
  -- the walk counts the bytes of lines alike
  size_is : (ls : List Bytes) → size A X Line-of W ls ≡ behind ls
  unfolding size behind
  size_is [] = refl
  size_is (l ∷ ls) = ap (λ (n : ℕ). suc (length l) + n) (size_is ls)

  -- lines that are good are walked through, and the walk stops at a line at fault behind them
  stops : {a : ℕ} {ls : List Bytes} {ss : List (S L)} (p q : Place A) (i n : ℕ) (l : Bytes) (r : List Bytes) → SpellsLines Line-of a ls ss → run A p ss ≡ next q → judge A X q (a + behind ls) l ≡ fault n → walk A X p a i (ls ++ (l ∷ r)) ≡ stopped (i + length ls) n
  unfolding walk run behind
  stops p q i n l r (done {start = a}) e f =
      let z : p ≡ q = cc in
      rw (z, let g : judge A X q a l ≡ fault n = rw add-zero at f in g, add-zero)
  stops p q i n l r (blank_line_of {start = a} {line = m} {lines = ls} h s) e f =
      let z : a + (suc (length m) + behind ls) ≡ a + suc (length m) + behind ls = omega arith in
      let y : suc i + length ls ≡ i + suc (length ls) = omega arith in
      rw (good-only A X Line-of W p a m none p h refl, stops p q (suc i) n l r s e (rw z at f), y)
  stops p q i n l r (statement {start = a} {line = m} {lines = ls} {s = x} {said = ss} h s) e f = go (step A p x) refl e (λ p' e f. stops p' q (suc i) n l r s e f)
    where
      z : a + (suc (length m) + behind ls) ≡ a + suc (length m) + behind ls
      z = omega arith

      y : suc i + length ls ≡ i + suc (length ls)
      y = omega arith

      go : (o : Out (Place A)) → step A p x ≡ o → and_then o (λ q. run A q ss) ≡ next q
          → ((p' : Place A) → run A p' ss ≡ next q → judge A X q (a + suc (length m) + behind ls) l ≡ fault n → walk A X p' (a + suc (length m)) (suc i) (ls ++ (l ∷ r)) ≡ stopped (suc i + length ls) n)
          → walk A X p a i (m ∷ (ls ++ (l ∷ r))) ≡ stopped (i + suc (length ls)) n
      go (next p') t e ih = rw (good-only A X Line-of W p a m (some x) p' h t, ih p' e (rw z at f), y)
      go (refuse c) t e ih = refused e

  -- where a line behind lines starts, as the walk counts it from the text's start
  starts : (ls : List Bytes) → 0 + size A X Line-of W ls ≡ behind ls
  starts ls = let e = size_is ls in omega arith

  -- what is answered faulty has a bad line ..
  pub bad-line-right : (text : Bytes) (i n : ℕ) → read_text A X first text ≡ faulty i n → Bad text i n
  bad-line-right text i n e = go (subst (Means A X Line-of Spells first F text) e (T.means A X Line-of Spells first F text))
    where
      go : Faulty A X Line-of Spells first F text i n → Bad text i n
      go f =
          let x = f.here in
          let w = walk-says A X Line-of W (at A first) 0 1 x.before x.said x.at x.came in
          let k : i ≡ 1 + length x.before = x.number in
          let a = starts x.before in
          record {
            before = x.before;
            this = x.this;
            rest = x.rest;
            cut = subst (Cut text) x.is (cut text);
            number = omega arith;
            said = x.said;
            spelled = w.0;
            place = x.at;
            came = w.1;
            fault = fault-right A X Line-of W x.at (behind x.before) x.this n (ap (λ (a : ℕ). judge A X x.at a x.this) (sym a) ∙ x.bad);
          }

  -- .. and what has a bad line is answered so
  pub bad-line-only : (text : Bytes) (i n : ℕ) → Bad text i n → read_text A X first text ≡ faulty i n
  unfolding read_text
  bad-line-only text i n b =
      let z : 0 + behind b.before ≡ behind b.before = omega arith in
      let j = fault-only A X Line-of W b.place (behind b.before) b.this n b.fault in
      let s = stops (at A first) b.place 1 n b.this b.rest b.spelled b.came (ap (λ (a : ℕ). judge A X b.place a b.this) z ∙ j) in
      let k : i ≡ suc (length b.before) = b.number in
      let y : 1 + length b.before ≡ i = omega arith in
      rw (cut-is b.cut, s, y)

  -- the number is one of 2 to 9, or 25
  pub two-to-nine-or_25 : (text : Bytes) (i n : ℕ) → Bad text i n → ((2 ≤ n) × (n ≤ 9)) ⊎ (n ≡ 25)
  two-to-nine-or_25 text i n b = go n b.fault
    where
      of-form : {c : Bytes} (n : ℕ) → FormFault c n → (2 ≤ n) × (n ≤ 9)
      of-form n (long h) = omega arith
      of-form n (comment h c) = omega arith
      of-form n (byte h c d) = omega arith

      go : (n : ℕ) → Fault A X Line-of b.place (behind b.before) b.this n → ((2 ≤ n) × (n ≤ 9)) ⊎ (n ≡ 25)
      go n (form e f) = inl (of-form n f)
      go n (unknown h e) = inl (omega arith)
      go n (misplaced h e s) = inl (omega arith)
      go n (given_again h e s) = inl (omega arith)
      go n (miscounted h c) = inl (omega arith)
      go n (misspelt h c m) = inl (omega arith)
      go n (forbidden h v s m) = inl (omega arith)
      go n (unmarked h v s m) = inr refl

  -- 25 only where an option has to be given
  pub none-asked : ((p : Place A) (k : L.Kind) (v : L.Pay k) → stands A p k ≡ none → step A p (say L k v) ≡ refuse 25 → ⊥) → (text : Bytes) (i n : ℕ) → Bad text i n → (2 ≤ n) × (n ≤ 9)
  none-asked never text i n b = go (two-to-nine-or_25 text i n b)
    where
      not_so : (m : ℕ) → Fault A X Line-of b.place (behind b.before) b.this m → m ≡ 25 → ⊥
      not_so m (form e (long h)) q = omega arith
      not_so m (form e (comment h c)) q = omega arith
      not_so m (form e (byte h c d)) q = omega arith
      not_so m (unknown h e) q = omega arith
      not_so m (misplaced h e s) q = omega arith
      not_so m (given_again h e s) q = omega arith
      not_so m (miscounted h c) q = omega arith
      not_so m (misspelt h c s) q = omega arith
      not_so m (forbidden h v s e) q = omega arith
      not_so m (unmarked {k = k} h v s e) q = never b.place k v h.here e

      go : ((2 ≤ n) × (n ≤ 9)) ⊎ (n ≡ 25) → (2 ≤ n) × (n ≤ 9)
      go (inl h) = h
      go (inr q) = absurd (not_so n b.fault q)

  -- the lines before it begin some well-formed text ..
  pub begins-some : (text : Bytes) (i n : ℕ) (b : Bad text i n) → Begin Spelled b.before
  begins-some text i n b = go (subst (Means A X Line-of Spells first F text) (bad-line-only text i n b) (T.means A X Line-of Spells first F text))
    where
      go : Faulty A X Line-of Spells first F text i n → Begin Spelled b.before
      go f =
          let x = f.here in
          let k : i ≡ 1 + length x.before = x.number in
          let j : i ≡ suc (length b.before) = b.number in
          let m : length x.before ≡ length b.before = omega arith in
          subst (Begin Spelled) (same-split x.before b.before x.this b.this x.rest b.rest m (sym x.is ∙ cut-is b.cut)) f.begins

  -- .. and none begins with them and it
  pub hopeless : (text : Bytes) (i n : ℕ) (b : Bad text i n) → Hopeless Spelled b.before b.this
  hopeless text i n b other more net c s =
      let bad : Bad other i n = record { before = b.before; this = b.this; rest = more; cut = c; number = b.number; said = b.said; spelled = b.spelled; place = b.place; came = b.came; fault = b.fault } in
      faulty-read (sym (bad-line-only other i n bad) ∙ T.spelled-read A X Line-of Spells first F net other s)

  -- ## A text that ends too early
  -- what is answered short is unended ..
  pub unended-right : (text : Bytes) (i : ℕ) → read_text A X first text ≡ short i → Short text i
  unended-right text i e =
      let m = subst (Means A X Line-of Spells first F text) e (T.means A X Line-of Spells first F text) in
      record { lines = lines_of text; cut = cut text; number = m.0; begins = m.1; incomplete = m.2 }

  -- .. and what is unended is answered so
  pub unended-only : (text : Bytes) (i : ℕ) → Short text i → read_text A X first text ≡ short i
  unended-only text i u =
      let e : u.lines ≡ lines_of text = sym (cut-is u.cut) in
      T.means-only A X Line-of Spells first F text (short i) (u.number ∙ ap (λ (ls : List Bytes). suc (length ls)) e, subst (Begin Spelled) e u.begins, u.incomplete)

  -- every line is good: blank or a statement, and the grammar takes these statements up to a place that is not the end
  pub record Open (lines : List Bytes) : Type 0 where
    pub said : List (S L)
    pub spelled : SpellsLines Line-of 0 lines said
    pub place : Place A
    pub came : run A (at A first) said ≡ next place
    pub owed : place ≡ over → ⊥

  -- so it is with the lines of a text that is unended ..
  pub unended_open : (text : Bytes) (i : ℕ) (u : Short text i) → Open u.lines
  unfolding read_text
  unended_open text i u = subst Open (cut-is u.cut) (go (walk A X (at A first) 0 1 (lines_of text)) refl (unended-only text i u))
    where
      go : (w : Walk (S L) (Place A)) → walk A X (at A first) 0 1 (lines_of text) ≡ w → answer A X (length (lines_of text)) w ≡ short i → Open (lines_of text)
      go (stopped k c) e r = faulty-short r
      go (through ss over) e r = absurd (let z : ◌≡◌ {A = ℕ} 0 1 = cc in omega arith)
      go (through ss (inside b g)) e r =
          let w = walk-says A X Line-of W (at A first) 0 1 (lines_of text) ss (inside b g) e in
          record { said = ss; spelled = w.0; place = inside b g; came = w.1; owed = λ o. absurd (let z : ◌≡◌ {A = ℕ} 0 1 = cc in omega arith) }

  -- .. and with no others
  pub open-unended : (text : Bytes) (lines : List Bytes) → Cut text lines → Open lines → Short text (suc (length lines))
  unfolding read_text
  open-unended text lines c o = unended-right text (suc (length lines)) (go o.place o.came o.owed)
    where
      go : (p : Place A) → run A (at A first) o.said ≡ next p → (p ≡ over → ⊥) → read_text A X first text ≡ short (suc (length lines))
      go over e n = absurd (n refl)
      go (inside b g) e n = rw (cut-is c, says-walk A X Line-of W (at A first) 1 (inside b g) o.spelled e)

  -- ## One of the three, and one only
  pub one-bad-line : (text : Bytes) (i n i' n' : ℕ) → Bad text i n → Bad text i' n' → (i ≡ i') × (n ≡ n')
  one-bad-line text i n i' n' b c =
      let e : ◌≡◌ {A = Answer (S L)} (faulty i n) (faulty i' n') = sym (bad-line-only text i n b) ∙ bad-line-only text i' n' c in
      (cc, cc)

  pub one-unended : (text : Bytes) (i i' : ℕ) → Short text i → Short text i' → i ≡ i'
  one-unended text i i' u v =
      let e : ◌≡◌ {A = Answer (S L)} (short i) (short i') = sym (unended-only text i u) ∙ unended-only text i' v in
      cc

  pub bad-or-unended : (text : Bytes) (i n k : ℕ) → Bad text i n → Short text k → ⊥
  bad-or-unended text i n k b u = faulty-short (sym (bad-line-only text i n b) ∙ unended-only text k u)

  pub bad-or-spelled : (text : Bytes) (i n : ℕ) (net : Net) → Bad text i n → Spelled net text → ⊥
  bad-or-spelled text i n net b s = faulty-read (sym (bad-line-only text i n b) ∙ T.spelled-read A X Line-of Spells first F net text s)

  pub unended-or-spelled : (text : Bytes) (i : ℕ) (net : Net) → Short text i → Spelled net text → ⊥
  unended-or-spelled text i net u s = u.incomplete net s

  pub one_of_three : (text : Bytes) → ((net : Net) × Spelled net text) ⊎ (((i : ℕ) × (n : ℕ) × Bad text i n) ⊎ ((i : ℕ) × Short text i))
  one_of_three text = go (read_text A X first text) refl
    where
      go : (r : Answer (S L)) → read_text A X first text ≡ r → ((net : Net) × Spelled net text) ⊎ (((i : ℕ) × (n : ℕ) × Bad text i n) ⊎ ((i : ℕ) × Short text i))
      go (read ss) e = inl ((T.well-formed A X Line-of Spells first F text).0 (ss, e))
      go (faulty i n) e = inr (inl (i, n, bad-line-right text i n e))
      go (short i) e = inr (inr (i, unended-right text i e))
