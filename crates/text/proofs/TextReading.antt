-- A text is read line by line: what is spelled, what is refused, and that the two are one. For every file. Assumes nothing.
use mathlib.Core.Path.{◌≡◌, refl, sym, ap, subst, ◌∙◌}
use mathlib.Core.List.{List, [], ◌∷◌, ◌++◌, append_assoc}
use mathlib.Core.Option.{Option, none, some}
use mathlib.Core.Bool.{Bool, true, false}
use Prim.Native.Nat.{ℕ, zero, suc, ◌+◌, ◌<◌}
use native.Mathlib.Omega.{arith}
use native.Mathlib.Nat.{add-zero}
use lib.Dec.{T}
use lib.ListN.{length}
use Rattle.terms.specs.Ascii.{Bytes}
use Rattle.terms.specs.Words.{pick, Each}
use Rattle.terms.proofs.Tests.{clash}
use Rattle.line.specs.Text.{lf, Lacks, Cut}
use Rattle.line.specs.Lines.{lines_of, write_lines}
use Rattle.line.proofs.Cuts.{cut, cut-one, cut-written}
use Rattle.grammar.specs.Language.{Lang, S, say}
use Rattle.grammar.specs.Machine.{Out, next, refuse, Machine, over, inside, and_then, Place, at, enter, step, run, Accepts}
use Rattle.grammar.proofs.Keeping.{GoodNext, GoodOut, run-good}
use Rattle.grammar.proofs.MachineLaws.{Cheaper, Readied, refused, run-nil}
use Rattle.grammar.proofs.MachineLaws as Ml
use Rattle.grammar.proofs.StandLaws.{step-due}
use Rattle.text.specs.Said.{Said}
use Rattle.text.specs.Spelling.{SpellsLine, SpellsLines, done, blank_line_of, statement, SpellsText}
use Rattle.text.specs.Refusals.{Begin, Hopeless}
use Rattle.text.specs.Judge.{Verdict, fault, good, Lexis, judge}
use Rattle.text.specs.Answers.{Walk, stopped, through, Answer, faulty, short, read, listed, is_over, put, onward, walk, answer, read_text}
use Rattle.text.proofs.Telling.{Lawful}
use Rattle.text.proofs.LineJudging.{advance, no-lf, good_right, good-only}

module _ {L : Lang} (A : Machine L) (X : Lexis L) (Line-of : (k : L.Kind) → L.Pay k → List Said) (W : Lawful A X Line-of) where
  -- a line and further lines
  also : {a : ℕ} {l : Bytes} {o : Option (S L)} {ls : List Bytes} {ss : List (S L)} → SpellsLine Line-of a l o → SpellsLines Line-of (a + suc (length l)) ls ss → SpellsLines Line-of a (l ∷ ls) (listed o ++ ss)
  also {o = none} h r = blank_line_of h r
  also {o = some s} h r = statement h r

  -- ## Laws of a walk
  mixed : {Y : Type 0} {i c : ℕ} {ss : List (S L)} {p : Place A} → ◌≡◌ {A = Walk (S L) (Place A)} (stopped i c) (through ss p) → Y
  mixed e = absurd (let z : ◌≡◌ {A = ℕ} 0 1 = cc in omega arith)

  run-append : (p : Place A) (l r : List (S L)) (q : Place A) → run A p l ≡ next q → run A p (l ++ r) ≡ run A q r
  run-append p l r q e = Ml.run-append A p l r ∙ ap (λ (o : Out (Place A)). and_then o (λ q. run A q r)) e

  -- the first statement's step, and the rest
  run-split : (p q : Place A) (o : Option (S L)) (ss : List (S L)) → run A p (listed o ++ ss) ≡ next q → (p' : Place A) × (advance A X Line-of W p o ≡ next p') × (run A p' ss ≡ next q)
  unfolding run
  run-split p q none ss e = (p, refl, e)
  run-split p q (some s) ss e = go (step A p s) e
    where
      go : (o : Out (Place A)) → and_then o (λ q. run A q ss) ≡ next q → (p' : Place A) × (o ≡ next p') × (run A p' ss ≡ next q)
      go (next p') e = (p', refl, e)
      go (refuse c) e = refused e

  run_join : (p p' : Place A) (o : Option (S L)) (ss : List (S L)) → advance A X Line-of W p o ≡ next p' → run A p (listed o ++ ss) ≡ run A p' ss
  unfolding run
  run_join p p' none ss e = ap (λ (p : Place A). run A p ss) (cc)
  run_join p p' (some s) ss e = rw e

  abbrev Through : Place A → ℕ → ℕ → List Bytes → List (S L) → Place A → Type 0
  Through p a i ls ss q = walk A X p a i ls ≡ through ss q

  put-through : (o : Option (S L)) (w : Walk (S L) (Place A)) (ss : List (S L)) (q : Place A) → put A X o w ≡ through ss q → (ss' : List (S L)) × (w ≡ through ss' q) × (ss ≡ listed o ++ ss')
  put-through o (stopped i c) ss q e = mixed e
  put-through o (through ss' q') ss q e = (ss', cc, cc)

  -- what was read through is said by the lines
  pub walk-says : (p : Place A) (a i : ℕ) (ls : List Bytes) (ss : List (S L)) (q : Place A) → Through p a i ls ss q → (SpellsLines Line-of) a ls ss × (run A p ss ≡ next q)
  unfolding walk run
  walk-says p a i [] ss q e =
      let n : [] ≡ ss = cc in
      (subst ((SpellsLines Line-of) a []) n done, rw (← n) (cc))
  walk-says p a i (l ∷ ls) ss q e = go (judge A X p a l) refl e (λ p'. walk-says p' (a + suc (length l)) (suc i) ls)
    where
      go : (v : Verdict (S L) (Place A)) → judge A X p a l ≡ v → onward A X i v (λ q. walk A X q (a + suc (length l)) (suc i) ls) ≡ through ss q
          → ((p' : Place A) (ss : List (S L)) (q : Place A) → Through p' (a + suc (length l)) (suc i) ls ss q → (SpellsLines Line-of) (a + suc (length l)) ls ss × (run A p' ss ≡ next q)) → (SpellsLines Line-of) a (l ∷ ls) ss × (run A p ss ≡ next q)
      go (fault c) j e ih = mixed e
      go (good o p') j e ih =
          let x = put-through o (walk A X p' (a + suc (length l)) (suc i) ls) ss q e in
          let y = ih p' x.0 q x.1 in
          let g = good_right A X Line-of W p a l o p' j in
          (subst ((SpellsLines Line-of) a (l ∷ ls)) (sym x.2) (also g.0 y.0), rw x.2 (run_join p p' o x.0 g.1 ∙ y.1))

  -- and what lines say is read through
  pub says-walk : {a : ℕ} {ls : List Bytes} {ss : List (S L)} (p : Place A) (i : ℕ) (q : Place A) → (SpellsLines Line-of) a ls ss → run A p ss ≡ next q → Through p a i ls ss q
  unfolding walk run
  says-walk p i q done e = rw (let z : p ≡ q = cc in z)
  says-walk p i q (blank_line_of {start = a} {line = l} h r) e = rw (good-only A X Line-of W p a l none p h refl, says-walk p (suc i) q r e)
  says-walk p i q (statement {start = a} {line = l} {s = s} {said = ss} h r) e =
      let x = run-split p q (some s) ss e in
      rw (good-only A X Line-of W p a l (some s) x.0 h x.1, says-walk x.0 (suc i) q r x.2)

  -- how much of the text lines take
  unfoldable pub size : List Bytes → ℕ
  size [] = 0
  size (l ∷ ls) = suc (length l) + size ls

  say_append : {a : ℕ} {ls rs : List Bytes} {ss us : List (S L)} → SpellsLines Line-of a ls ss → SpellsLines Line-of (a + size ls) rs us → SpellsLines Line-of a (ls ++ rs) (ss ++ us)
  unfolding size
  say_append {a} {rs = rs} {us = us} done r = subst (λ (n : ℕ). SpellsLines Line-of n rs us) (add-zero a) r
  say_append {rs = rs} {us = us} (blank_line_of {start = a} {line = l} {lines = ls} h s) r =
      let e : a + (suc (length l) + size ls) ≡ a + suc (length l) + size ls = omega arith in
      blank_line_of h (say_append s (subst (λ (n : ℕ). SpellsLines Line-of n rs us) e r))
  say_append {rs = rs} {us = us} (statement {start = a} {line = l} {lines = ls} h s) r =
      let e : a + (suc (length l) + size ls) ≡ a + suc (length l) + size ls = omega arith in
      statement h (say_append s (subst (λ (n : ℕ). SpellsLines Line-of n rs us) e r))

  say-lines : {a : ℕ} {ls : List Bytes} {ss : List (S L)} → SpellsLines Line-of a ls ss → Each (Lacks lf) ls
  say-lines done = tt
  say-lines (blank_line_of {start = a} {line = l} h s) = (no-lf A X Line-of W a l none h, say-lines s)
  say-lines (statement {start = a} {line = l} {s = x} h s) = (no-lf A X Line-of W a l (some x) h, say-lines s)

  -- where a walk stops: behind lines that were read through
  pub record Stop (p : Place A) (a i : ℕ) (ls : List Bytes) (k c : ℕ) : Type 0 where
    pub before : List Bytes
    pub this : Bytes
    pub rest : List Bytes
    pub is : ls ≡ before ++ (this ∷ rest)
    pub number : k ≡ i + length before
    pub said : List (S L)
    pub at : Place A
    pub came : Through p a i before said at
    pub bad : judge A X at (a + size before) this ≡ fault c

  put-stopped : (o : Option (S L)) (w : Walk (S L) (Place A)) (k c : ℕ) → put A X o w ≡ stopped k c → w ≡ stopped k c
  put-stopped o (stopped i c') k c e = e
  put-stopped o (through ss q) k c e = mixed (sym e)

  pub stop : (p : Place A) (a i : ℕ) (ls : List Bytes) (k c : ℕ) → walk A X p a i ls ≡ stopped k c → Stop p a i ls k c
  unfolding walk size
  stop p a i [] k c e = mixed (sym e)
  stop p a i (l ∷ ls) k c e = go (judge A X p a l) refl e (λ q. stop q (a + suc (length l)) (suc i) ls k c)
    where
      go : (v : Verdict (S L) (Place A)) → judge A X p a l ≡ v → onward A X i v (λ q. walk A X q (a + suc (length l)) (suc i) ls) ≡ stopped k c
          → ((q : Place A) → walk A X q (a + suc (length l)) (suc i) ls ≡ stopped k c → Stop q (a + suc (length l)) (suc i) ls k c) → Stop p a i (l ∷ ls) k c
      go (fault c') j e ih =
          let n : i ≡ k = cc in
          let m : c' ≡ c = cc in
          record { before = []; this = l; rest = ls; is = refl; number = omega arith; said = []; at = p; came = refl; bad = rw add-zero (j ∙ ap fault m) }
      go (good o q) j e ih =
          let x = ih q (put-stopped o (walk A X q (a + suc (length l)) (suc i) ls) k c e) in
          let z : a + (suc (length l) + size x.before) ≡ a + suc (length l) + size x.before = omega arith in
          let n : k ≡ suc i + length x.before = x.number in
          record {
            before = l ∷ x.before;
            this = x.this;
            rest = x.rest;
            is = ap (◌∷◌ l) x.is;
            number = omega arith;
            said = listed o ++ x.said;
            at = x.at;
            came = rw (j, x.came);
            bad = rw z x.bad;
          }

  -- it stops there whatever follows
  stops : (p : Place A) (a i : ℕ) (ms : List Bytes) (ss : List (S L)) (q : Place A) (l : Bytes) (r : List Bytes) (c : ℕ) → Through p a i ms ss q → judge A X q (a + size ms) l ≡ fault c → walk A X p a i (ms ++ (l ∷ r)) ≡ stopped (i + length ms) c
  unfolding walk size
  stops p a i [] ss q l r c e f =
      let n : p ≡ q = cc in
      rw (n, let g : judge A X q a l ≡ fault c = rw add-zero at f in g, add-zero)
  stops p a i (m ∷ ms) ss q l r c e f = go (judge A X p a m) e (λ p' ss. stops p' (a + suc (length m)) (suc i) ms ss q l r c)
    where
      z : a + (suc (length m) + size ms) ≡ a + suc (length m) + size ms
      z = omega arith

      y : suc i + length ms ≡ i + suc (length ms)
      y = omega arith

      go : (v : Verdict (S L) (Place A)) → onward A X i v (λ q. walk A X q (a + suc (length m)) (suc i) ms) ≡ through ss q
          → ((p' : Place A) (ss : List (S L)) → Through p' (a + suc (length m)) (suc i) ms ss q → judge A X q (a + suc (length m) + size ms) l ≡ fault c → walk A X p' (a + suc (length m)) (suc i) (ms ++ (l ∷ r)) ≡ stopped (suc i + length ms) c)
          → onward A X i v (λ q. walk A X q (a + suc (length m)) (suc i) (ms ++ (l ∷ r))) ≡ stopped (i + suc (length ms)) c
      go (fault c') e ih = mixed e
      go (good o p') e ih =
          let x = put-through o (walk A X p' (a + suc (length m)) (suc i) ms) ss q e in
          rw (ih p' x.0 x.1 (rw z at f), y)

-- ## A file: its grammar, which its places read, and a line that leads on from every place that is reached
-- a line by which a base is left, wherever the line starts, for one that is nearer to the end
pub record Leaves {L : Lang} (A : Machine L) (Line-of : (k : L.Kind) → L.Pay k → List Said) (cost : A.Base → ℕ) (b : A.Base) : Type 0 where
  pub v : ℕ → L.Pay (A.due b).on
  pub line : Bytes
  pub said : (a : ℕ) → SpellsLine Line-of a line (some (say L (A.due b).on (v a)))
  pub ok : (a : ℕ) → T ((A.due b).test (v a))
  pub less : (a : ℕ) → Cheaper cost (cost b) ((A.due b).then (v a))

-- lines of options by which a base is made ready for it, from this place of the text on
pub record Prepared {L : Lang} (A : Machine L) (Line-of : (k : L.Kind) → L.Pay k → List Said) (b : A.Base) (g : List Bool) (a : ℕ) : Type 0 where
  pub lines : List Bytes
  pub ready : Readied A b g
  pub said : SpellsLines Line-of a lines ready.os

pub prepared : {L : Lang} (A : Machine L) (Line-of : (k : L.Kind) → L.Pay k → List Said) (b : A.Base) (g : List Bool) (a : ℕ) → A.ready b g ≡ true → Prepared A Line-of b g a
prepared A Line-of b g a e = record { lines = []; ready = record { os = []; flags = g; goes = run-nil A (inside b g); now = subst T (sym e) tt }; said = done }

pub record File {L : Lang} (A : Machine L) (X : Lexis L) (Line-of : (k : L.Kind) → L.Pay k → List Said) {Net : Type 0} (Spells : Net → List (S L) → Type 0) (first : A.Base) : Type 1 where
  pub lawful : Lawful A X Line-of
  pub complete : (n : Net) (l : List (S L)) → Spells n l → Accepts A (at A first) l
  pub sound : (l : List (S L)) → Accepts A (at A first) l → (n : Net) × Spells n l
  pub unique : (n n' : Net) (l l' : List (S L)) → Spells n l → Spells n' l' → l ≡ l' → n ≡ n'
  pub Good : A.Base → Type 0
  pub cost : A.Base → ℕ
  pub good_first : Good first
  pub keeps : (b : A.Base) → Good b → (v : L.Pay (A.due b).on) → T ((A.due b).test v) → GoodNext A Good ((A.due b).then v)
  pub leaves : (b : A.Base) → Good b → Leaves A Line-of cost b
  pub readied : (b : A.Base) → Good b → (g : List Bool) (a : ℕ) → Prepared A Line-of b g a

module _ {L : Lang} (A : Machine L) (X : Lexis L) (Line-of : (k : L.Kind) → L.Pay k → List Said) {Net : Type 0} (Spells : Net → List (S L) → Type 0) (first : A.Base) (F : File A X Line-of Spells first) where
  abbrev W : Lawful A X Line-of
  W = F.lawful

  abbrev pub Spelled : Net → Bytes → Type 0
  Spelled = SpellsText Line-of Spells

  -- ## Every place that is reached can be left
  abbrev Finished : Place A → ℕ → Type 0
  Finished p a = (rs : List Bytes) × (us : List (S L)) × SpellsLines Line-of a rs us × (run A p us ≡ next over)

  finish : (n : ℕ) (b : A.Base) (g : List Bool) → F.Good b → F.cost b < n → (a : ℕ) → Finished (inside b g) a
  finish zero b g y h a = absurd (omega arith)
  finish (suc n) b g y h a =
      let w = F.readied b y g a in
      let x = F.leaves b y in
      let d = a + size A X Line-of W w.lines in
      behind w (go w.ready.flags d ((A.due b).then (x.v d)) (x.less d) (F.keeps b y (x.v d) (x.ok d)) x.line (x.said d) (step-due A b w.ready.flags (x.v d) (x.ok d) w.ready.now)
      (λ c y h. finish n c (Rattle.grammar.specs.Machine.clear L (A.opts c)) y h (d + suc (length x.line))))
    where
      -- the options first
      behind : (w : Prepared A Line-of b g a) → Finished (inside b w.ready.flags) (a + size A X Line-of W w.lines) → Finished (inside b g) a
      behind w f = (w.lines ++ f.0, w.ready.os ++ f.1, say_append A X Line-of W w.said f.2, run-append A X Line-of W (inside b g) w.ready.os f.1 (inside b w.ready.flags) w.ready.goes ∙ f.3)

      go : (g : List Bool) (a : ℕ) {s : S L} (o : Option A.Base) → Cheaper F.cost (F.cost b) o → GoodNext A F.Good o → (line : Bytes) → SpellsLine Line-of a line (some s) → step A (inside b g) s ≡ next (enter A o)
          → ((c : A.Base) → F.Good c → F.cost c < n → Finished (at A c) (a + suc (length line))) → Finished (inside b g) a
      go g a {s} none l y line sp e ih = (line ∷ [], s ∷ [], statement sp done, run_join A X Line-of W (inside b g) over (some s) [] e ∙ run-nil A over)
      go g a {s} (some c) l y line sp e ih =
          let z = ih c y (omega arith) in
          (line ∷ z.0, s ∷ z.1, statement sp z.2, run_join A X Line-of W (inside b g) (at A c) (some s) z.1 e ∙ z.3)

  -- lines that were read through begin a well-formed text
  viable : (ls : List Bytes) (ss : List (S L)) (i : ℕ) (q : Place A) → walk A X (at A first) 0 i ls ≡ through ss q → Begin Spelled ls
  viable ls ss i q e = go q e (walk-says A X Line-of W (at A first) 0 i ls ss q e)
    where
      made : (rs : List Bytes) (us : List (S L)) → SpellsLines Line-of 0 (ls ++ rs) (ss ++ us) → Accepts A (at A first) (ss ++ us) → Begin Spelled ls
      made rs us sp h =
          let s = F.sound (ss ++ us) h in
          let c = cut-written (ls ++ rs) (say-lines A X Line-of W sp) in
          record { more = rs; text = write_lines (ls ++ rs); made = c; net = s.0; spelled = record { lines = ls ++ rs; said = ss ++ us; made = c; each = sp; net = s.1 } }

      go : (q : Place A) → walk A X (at A first) 0 i ls ≡ through ss q → SpellsLines Line-of 0 ls ss × (run A (at A first) ss ≡ next q) → Begin Spelled ls
      go over e w = made [] [] (say_append A X Line-of W w.0 done) (run-append A X Line-of W (at A first) ss [] over w.1 ∙ run-nil A over)
      go (inside b g) e w =
          let y : F.Good b = subst (GoodOut A F.Good) w.1 (run-good A F.Good F.keeps (at A first) ss F.good_first) in
          let f = finish (suc (F.cost b)) b g y (omega arith) (0 + size A X Line-of W ls) in
          made f.0 f.1 (say_append A X Line-of W w.0 f.2) (run-append A X Line-of W (at A first) ss f.1 (inside b g) w.1 ∙ f.3)

  -- ## The theorems
  reads : (t : Bytes) (ls : List Bytes) (ss : List (S L)) (n : Net) → Cut t ls → SpellsLines Line-of 0 ls ss → Spells n ss → read_text A X first t ≡ read ss
  unfolding read_text
  reads t ls ss n c s h = rw (cut-one (cut t) c, says-walk A X Line-of W (at A first) 1 over s (F.complete n ss h))

  -- a text that spells a network is read, as statements that spell it
  pub spelled-read : (n : Net) (t : Bytes) (h : Spelled n t) → read_text A X first t ≡ read h.said
  spelled-read n t h = reads t h.lines h.said n h.made h.each h.net

  -- a text spells one network only
  pub one-network : (n n' : Net) (t : Bytes) → Spelled n t → Spelled n' t → n ≡ n'
  one-network n n' t h h' =
      let e : read h.said ≡ read h'.said = sym (spelled-read n t h) ∙ spelled-read n' t h' in
      F.unique n n' h.said h'.said h.net h'.net (cc)

  -- ## What an answer means: line k is the first with a fault
  pub record Faulty (t : Bytes) (k c : ℕ) : Type 0 where
    pub here : Stop A X Line-of W (at A first) 0 1 (lines_of t) k c
    pub begins : Begin Spelled here.before
    pub hopeless : Hopeless Spelled here.before here.this

  abbrev pub Means : Bytes → Answer (S L) → Type 0
  Means t (read ss) = (n : Net) × (h : Spelled n t) × (h.said ≡ ss)
  Means t (short k) = (k ≡ suc (length (lines_of t))) × Begin Spelled (lines_of t) × ((n : Net) → Spelled n t → ⊥)
  Means t (faulty k c) = Faulty t k c

  hopeless-at : (t : Bytes) (k c : ℕ) (x : Stop A X Line-of W (at A first) 0 1 (lines_of t) k c) → Hopeless Spelled x.before x.this
  hopeless-at t k c x u r n d h = mixed A X Line-of W (sym (stops A X Line-of W (at A first) 0 1 x.before x.said x.at x.this r c x.came x.bad)
      ∙ says-walk A X Line-of W (at A first) 1 over (subst (λ (ls : List Bytes). SpellsLines Line-of 0 ls h.said) (cut-one h.made d) h.each) (F.complete n h.said h.net))

  over-is : (p : Place A) → is_over A X p ≡ true → p ≡ over
  over-is over e = refl
  over-is (inside b g) e = clash (sym e)

  -- what is answered is so
  pub means : (t : Bytes) → Means t (read_text A X first t)
  unfolding read_text
  means t = go (walk A X (at A first) 0 1 (lines_of t)) refl
    where
      ends : (ss : List (S L)) (p : Place A) → walk A X (at A first) 0 1 (lines_of t) ≡ through ss p → (x : Bool) → is_over A X p ≡ x → Means t (pick x (read ss) (short (suc (length (lines_of t)))))
      ends ss p e true f =
          let w = walk-says A X Line-of W (at A first) 0 1 (lines_of t) ss p e in
          let s = F.sound ss (w.1 ∙ ap next (over-is p f)) in
          (s.0, record { lines = lines_of t; said = ss; made = cut t; each = w.0; net = s.1 }, refl)
      ends ss p e false f = (
        refl,
        viable (lines_of t) ss 1 p e,
        λ n h.
            let x = spelled-read n t h in
            let y : read_text A X first t ≡ short (suc (length (lines_of t))) = rw (e, f) in
            absurd (let z : ◌≡◌ {A = ℕ} 0 1 = cc (x, y) in omega arith),
      )

      go : (w : Walk (S L) (Place A)) → walk A X (at A first) 0 1 (lines_of t) ≡ w → Means t (answer A X (length (lines_of t)) w)
      go (stopped k c) e = let x = stop A X Line-of W (at A first) 0 1 (lines_of t) k c e in record { here = x; begins = viable x.before x.said 1 x.at x.came; hopeless = hopeless-at t k c x }
      go (through ss p) e = ends ss p e (is_over A X p) refl

  -- and nothing else is: no second answer has this meaning
  found : (t : Bytes) (k c : ℕ) → Faulty t k c → read_text A X first t ≡ faulty k c
  unfolding read_text
  found t k c f =
      let x = f.here in
      let q : walk A X (at A first) 0 1 (lines_of t) ≡ stopped (1 + length x.before) c = ap (walk A X (at A first) 0 1) x.is ∙ stops A X Line-of W (at A first) 0 1 x.before x.said x.at x.this x.rest c x.came x.bad in
      rw q (ap (λ (k : ℕ). faulty k c) (sym x.number))

  pub means-only : (t : Bytes) (r : Answer (S L)) → Means t r → read_text A X first t ≡ r
  means-only t (read ss) m = spelled-read m.0 t m.1 ∙ ap read m.2
  means-only t (faulty k c) m = found t k c m
  means-only t (short k) m = go (read_text A X first t) (means t)
    where
      go : (r : Answer (S L)) → Means t r → r ≡ short k
      go (read ss) h = absurd (m.2 h.0 h.1)
      go (short k') h = ap short (h.0 ∙ sym m.0)
      go (faulty k' c) h =
          let b = m.1 in
          let x = h.here in
          let e : lines_of t ++ b.more ≡ x.before ++ (x.this ∷ (x.rest ++ b.more)) = ap (λ (ls : List Bytes). ls ++ b.more) x.is ∙ append_assoc x.before (x.this ∷ x.rest) b.more in
          absurd (h.hopeless b.text (x.rest ++ b.more) b.net (subst (Cut b.text) e b.made) b.spelled)

  -- no fault of 2 to 10, and some network is spelled: the one if and only if the other
  pub well-formed : (t : Bytes) → (((ss : List (S L)) × (read_text A X first t ≡ read ss)) → (n : Net) × Spelled n t) × (((n : Net) × Spelled n t) → (ss : List (S L)) × (read_text A X first t ≡ read ss))
  well-formed t = (λ x. let m = subst (Means t) x.1 (means t) in (m.0, m.1), λ x. (x.1.said, spelled-read x.0 t x.1))
