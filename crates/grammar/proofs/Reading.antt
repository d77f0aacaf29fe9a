-- A machine reads the spellings of values from a place to another: lines, options, parts one behind the other; and the theorems of a whole file. Assumes nothing.
use mathlib.Core.Path.{◌≡◌, refl, sym, ap, ap₂, subst, ◌∙◌}
use mathlib.Core.List.{List, [], ◌∷◌, ◌++◌, map, append_assoc, append-nil}
use mathlib.Core.Option.{Option, none, some}
use mathlib.Core.Bool.{Bool, true, false}
use Prim.Native.Nat.{ℕ, zero, suc, ◌+◌, ◌<◌}
use native.Mathlib.Omega.{arith}
use lib.Dec.{T}
use lib.ListN.{length}
use Rattle.terms.specs.Words.{Each, InTurn, nothing, then}
use Rattle.grammar.specs.Language.{Lang, S, say}
use Rattle.grammar.specs.Machine.{Machine, distinct, next, refuse, over, clear, Place, at, enter, step, run, Accepts}
use Rattle.grammar.specs.Forms.{Form, tested}
use Rattle.grammar.specs.Forms.{only as due-only}
use Rattle.grammar.specs.Choices.{Choice, opts}
use Rattle.grammar.proofs.LanguageLaws.{kinds-on, Fine}
use Rattle.grammar.proofs.MachineLaws.{Agrees, clear-agrees, goes-due, Enough, goes, from, cut, run-nil, stays, differ, ends, begins, Goes_on}
use Rattle.grammar.proofs.FormLaws.{pass, pick, inj}
use Rattle.grammar.proofs.Options.{Holds, Given, given-fine, fine-given, given-same}

-- the number behind the last of parts numbered from i
abbrev pub after : {A : Type 0} → ℕ → List A → ℕ
after i [] = i
after i (a ∷ rest) = after (suc i) rest

module _ {L : Lang} (M : Machine L) where
  open L use {Kind, Pay}
  open M use {Base, due}

  abbrev St : Type 0
  St = List (S L)

  pub record Reads {A : Type 0} (Sp : A → List (S L) → Type 0) (p : Option Base) (q : A → Option Base) : Type 1 where
    pub does : (a : A) (w : List (S L)) → Sp a w → (r : List (S L)) → run M (enter M p) (w ++ r) ≡ run M (enter M (q a)) r
    pub only : (l : List (S L)) → Accepts M (enter M p) l → {R : Type 0} → ((a : A) (w r : List (S L)) → Sp a w → l ≡ w ++ r → Accepts M (enter M (q a)) r → R) → R
    pub same : (a b : A) (v w r s : List (S L)) → Sp a v → Sp b w → v ++ r ≡ w ++ s → (a ≡ b) × (r ≡ s)

  -- ## A line, and a line after options
  abbrev pub Line : (k : Kind) (F : Form (Pay k)) → F.C → List (S L) → Type 0
  Line k F c w = F.Good c × (w ≡ say L k (F.line c) ∷ [])

  pub reads-line : (b : Base) (F : Form (Pay (due b).on)) → M.opts b ≡ [] → ((v : Pay (due b).on) → (due b).test v ≡ tested F v) → ((g : List Bool) → M.ready b g ≡ true)
      → Reads (Line (due b).on F) (some b) (λ c. (due b).then (F.line c))
  reads-line b F n t a = record {
    does = λ c w x r. rw x.1 (goes-due M b (F.line c) (rw t (pass F c x.0)) r (clear L (M.opts b)) (subst T (sym (a (clear L (M.opts b)))) tt));
    only = λ l h k. from M b [] (clear L (M.opts b)) (clear-agrees L (M.opts b)) l h λ os v r f g yes now ok is rest.
        let y = pick F v (rw t at ok) in
        let e : os ≡ [] = bare os (subst (λ row. Fine L row [] os) n f) in
        k (F.back v) (say L (due b).on (F.line (F.back v)) ∷ []) r (y.1, refl) (rw y.0 (rw e at is)) (rw y.0 rest);
    same = λ c d v w r s x y e.
        let z = cut M b (F.line c) (F.line d) [] [] r s [] tt tt (rw (x.1, y.1) at e) in (inj F c d z.1, z.2);
  }
    where
      bare : (os : St) → Fine L [] [] os → os ≡ []
      bare [] f = refl
      bare (s ∷ os) f = absurd f.0

  -- options, and the due line: `Ok` of what they hold and say
  abbrev pub AfterBy : (row : List (Choice Kind Pay)) (k : Kind) (F : Form (Pay k)) → (Holds L row × F.C → Type 0) → Holds L row × F.C → List (S L) → Type 0
  AfterBy row k F Ok x w = (os : List (S L)) × Given L row x.0 os × Ok x × (w ≡ os ++ (say L k (F.line x.1) ∷ []))

  abbrev pub After : (row : List (Choice Kind Pay)) (k : Kind) (F : Form (Pay k)) → Holds L row × F.C → List (S L) → Type 0
  After row k F = AfterBy row k F (λ x. F.Good x.1)

  -- Ok: the line's value is good, and the options given are enough for it
  pub reads-after-by : (b : Base) (row : List (Choice Kind Pay)) (F : Form (Pay (due b).on)) → M.opts b ≡ opts L row → ((v : Pay (due b).on) → (due b).test v ≡ tested F v)
      → (Ok : Holds L row × F.C → Type 0) → ((x : Holds L row × F.C) → Ok x → F.Good x.1)
      → ((x : Holds L row × F.C) (os : List (S L)) → Given L row x.0 os → Ok x → Enough M b [] os)
      → ((x : Holds L row × F.C) (os : List (S L)) → Given L row x.0 os → F.Good x.1 → (g : List Bool) → Agrees L (M.opts b) (kinds-on L os []) g → T (M.ready b g) → Ok x)
      → Reads (AfterBy row (due b).on F Ok) (some b) (λ x. (due b).then (F.line x.1))
  reads-after-by b row F n t Ok good enough ok = record {
    does = λ x w y r. rw (y.3, append_assoc) (goes M b (F.line x.1) (rw t (pass F x.1 (good x y.2))) y.0 r [] (clear L (M.opts b)) (clear-agrees L (M.opts b)) (fine x.0 y.0 y.1) (enough x y.0 y.1 y.2));
    only = λ l h k. from M b [] (clear L (M.opts b)) (clear-agrees L (M.opts b)) l h λ os v r f g agrees now test is rest.
        let y = pick F v (rw t at test) in
        let h = fine-given L row os (subst (λ row. T (distinct L row)) n (differ M b)) (subst (λ row. Fine L row [] os) n f) in
        k (h.0, F.back v) (os ++ (say L (due b).on (F.line (F.back v)) ∷ [])) r (os, h.1, ok (h.0, F.back v) os h.1 y.1 g agrees now, refl) (rw (append_assoc, y.0) is) (rw y.0 rest);
    same = λ x y v w r s p q e.
        let z = cut M b (F.line x.1) (F.line y.1) p.0 q.0 r s [] (fine x.0 p.0 p.1) (fine y.0 q.0 q.1) (sym (append_assoc p.0 _ r) ∙ rw (p.3, q.3) at e ∙ append_assoc q.0 _ s) in
        let h = given-same L row x.0 y.0 q.0 (rw z.0 at p.1) q.1 in
        let c = inj F x.1 y.1 z.1 in
        ((λ i. (h i, c i)), z.2);
  }
    where
      fine : (h : Holds L row) (os : St) → Given L row h os → Fine L (M.opts b) [] os
      fine h os g = subst (λ row. Fine L row [] os) (sym n) (given-fine L row h os g)

  -- where no option has to be given
  pub reads-after : (b : Base) (row : List (Choice Kind Pay)) (F : Form (Pay (due b).on)) → M.opts b ≡ opts L row → ((v : Pay (due b).on) → (due b).test v ≡ tested F v) → ((g : List Bool) → M.ready b g ≡ true)
      → Reads (After row (due b).on F) (some b) (λ x. (due b).then (F.line x.1))
  reads-after b row F n t a = reads-after-by b row F n t (λ x. F.Good x.1) (λ x y. y) (λ x os h y g e. subst T (sym (a g)) tt) (λ x os h y g e now. y)

  -- ## One after the other
  abbrev pub Seq : {A B : Type 0} → (A → List (S L) → Type 0) → (A → B → List (S L) → Type 0) → A × B → List (S L) → Type 0
  Seq SpA SpB x w = (u v : List (S L)) × SpA x.0 u × SpB x.0 x.1 v × (w ≡ u ++ v)

  pub reads_seq : {A B : Type 0} {SpA : A → List (S L) → Type 0} {SpB : A → B → List (S L) → Type 0} {p : Option Base} {q : A → Option Base} {q' : A → B → Option Base}
      → Reads SpA p q → ((a : A) → Reads (SpB a) (q a) (q' a)) → Reads (Seq SpA SpB) p (λ x. q' x.0 x.1)
  reads_seq {A} {B} {SpA} {SpB} X Y = record {
    does = λ x w y r. rw (y.4, append_assoc) (X.does x.0 y.0 y.2 (y.1 ++ r) ∙ (Y x.0).does x.1 y.1 y.3 r);
    only = λ l h k. X.only l h λ a u r sp is rest. (Y a).only r rest λ b v r' sp' is' rest'. k (a, b) (u ++ v) r' (u, v, sp, sp', refl) (is ∙ ap (◌++◌ u) is' ∙ sym (append_assoc u v r')) rest';
    same = λ x y v w r s p q e.
        let z = X.same x.0 y.0 p.0 q.0 (p.1 ++ r) (q.1 ++ s) p.2 q.2 (sym (append_assoc p.0 p.1 r) ∙ rw (p.4, q.4) at e ∙ append_assoc q.0 q.1 s) in
        let t = (Y y.0).same x.1 y.1 p.1 q.1 r s (subst (λ (a : A). SpB a x.1 p.1) z.0 p.3) q.3 z.1 in
        ((λ i. (z.0 i, t.0 i)), t.1);
  }

  -- the same values and spellings in other words
  pub reads_as : {A B : Type 0} {SpA : A → List (S L) → Type 0} {SpB : B → List (S L) → Type 0} {p q : Option Base} (f : A → B)
      → ((b : B) (w : List (S L)) → SpB b w → (a : A) × (f a ≡ b) × SpA a w) → ((a : A) (w : List (S L)) → SpA a w → SpB (f a) w)
      → Reads SpA p (λ a. q) → Reads SpB p (λ b. q)
  reads_as f to fro X = record {
    does = λ b w x r. let y = to b w x in X.does y.0 w y.2 r;
    only = λ l h k. X.only l h λ a w r sp is rest. k (f a) w r (fro a w sp) is rest;
    same = λ b c v w r s x y e. let i = to b v x in let j = to c w y in let z = X.same i.0 j.0 v w r s i.2 j.2 e in
        (sym i.1 ∙ ap f z.0 ∙ j.1, z.1);
  }

  -- a part that begins with one due line
  pub reads_open : {A : Type 0} (Sp : A → List (S L) → Type 0) (k : Kind) (d : Discrete (Pay k)) (v : Pay k) → ((a : A) (w : List (S L)) → Sp a w → (r : List (S L)) × (w ≡ say L k v ∷ r))
      → {p p' q : Option Base} → Reads (Line k (due-only d v)) p (λ c. p') → Reads (λ a l. Sp a (say L k v ∷ l)) p' (λ a. q) → Reads Sp p (λ a. q)
  reads_open {A} Sp k d v hd X Y = reads_as (λ x. x.1)
      (λ a w s. let h = hd a w s in ((tt, a), refl, (say L k v ∷ [], h.0, (tt, refl), subst (Sp a) h.1 s, h.1)))
      (λ x w y. subst (Sp x.1) (sym (y.4 ∙ ap (λ (u : St). u ++ y.1) y.2.1)) y.3)
      (reads_seq X (λ c. Y))

  -- n parts numbered from i, and an end
  abbrev pub Many : {A D : Type 0} → (ℕ → A → List (S L) → Type 0) → (ℕ → D → List (S L) → Type 0) → ℕ → ℕ → List A × D → List (S L) → Type 0
  Many Sp End i n x w = (u v : List (S L)) × (length x.0 ≡ n) × InTurn Sp i x.0 u × End (after i x.0) x.1 v × (w ≡ u ++ v)

  module _ {A D : Type 0} (Sp : ℕ → A → List (S L) → Type 0) (End : ℕ → D → List (S L) → Type 0) where
    no_more : (i : ℕ) (xs : List A) (d : D) (u v w : St) → length xs ≡ zero → InTurn Sp i xs u → End (after i xs) d v → w ≡ u ++ v → (d' : D) × (◌≡◌ {A = List A × D} ([], d') (xs, d)) × End i d' w
    no_more i [] d u v w e nothing x q = (d, refl, rw q x)
    no_more i (a ∷ xs) d u v w e t x q = absurd (omega arith)

    one_more : (i n : ℕ) (xs : List A) (d : D) (u v w : St) → length xs ≡ suc n → InTurn Sp i xs u → End (after i xs) d v → w ≡ u ++ v
        → (y : A × (List A × D)) × (◌≡◌ {A = List A × D} (y.0 ∷ y.1.0, y.1.1) (xs, d)) × Seq (Sp i) (λ a. Many Sp End (suc i) n) y w
    one_more i n [] d u v w e t x q = absurd (omega arith)
    one_more i n (a ∷ xs) d u v w e (then {u = u₁} {v = u₂} s t) x q = ((a, (xs, d)), refl, (u₁, u₂ ++ v, s, (u₂, v, omega arith, t, x, refl), q ∙ append_assoc u₁ u₂ v))

    pub reads-many : (P : ℕ → ℕ → Option Base) (q : Option Base)
        → ((i n : ℕ) → Reads (Sp i) (P i (suc n)) (λ a. P (suc i) n)) → ((i : ℕ) → Reads (End i) (P i zero) (λ d. q))
        → (i n : ℕ) → Reads (Many Sp End i n) (P i n) (λ x. q)
    reads-many P q X E i zero = reads_as (λ d. ([], d)) (λ x w y. no_more i x.0 x.1 y.0 y.1 w y.2 y.3 y.4 y.5) (λ d w e. ([], w, refl, nothing, e, refl)) (E i)
    reads-many P q X E i (suc n) = reads_as (λ x. (x.0 ∷ x.1.0, x.1.1))
        (λ x w y. one_more i n x.0 x.1 y.0 y.1 w y.2 y.3 y.4 y.5)
        (λ y w z. let m = z.3 in (z.0 ++ m.0, m.1, ap suc m.2, then z.2 m.3, m.4, z.4 ∙ ap (◌++◌ z.0) m.5 ∙ sym (append_assoc z.0 m.0 m.1)))
        (reads_seq (X i n) (λ a. reads-many P q X E (suc i) n))

  -- lines of one form in turn
  pub lines_in-turn : (k : Kind) (F : Form (Pay k)) (i : ℕ) (cs : List F.C) → Each F.Good cs → InTurn (λ i. Line k F) i cs (map (λ c. say L k (F.line c)) cs)
  lines_in-turn k F i [] g = nothing
  lines_in-turn k F i (c ∷ cs) g = then (g.0, refl) (lines_in-turn k F (suc i) cs g.1)

  pub in-turn-lines : (k : Kind) (F : Form (Pay k)) (i : ℕ) (cs : List F.C) (u : List (S L)) → InTurn (λ i. Line k F) i cs u → Each F.Good cs × (u ≡ map (λ c. say L k (F.line c)) cs)
  in-turn-lines k F i [] u nothing = (tt, refl)
  in-turn-lines k F i (c ∷ cs) u (then {u = v} {v = w} x t) = let y = in-turn-lines k F (suc i) cs w t in ((x.0, y.0), ap₂ (λ (a b : St). a ++ b) x.1 y.1)

  -- ## The theorems of a whole file, read from a base to the end
  module _ {N : Type 0} (Sp : N → List (S L) → Type 0) (b : Base) (R : Reads Sp (some b) (λ n. none)) where
    pub complete : (n : N) (l : List (S L)) → Sp n l → Accepts M (at M b) l
    complete n l s = rw (append-nil l) at (R.does n l s []) ∙ run-nil M over

    pub sound : (l : List (S L)) → Accepts M (at M b) l → (n : N) × Sp n l
    sound l h = R.only l h λ n w r sp is rest. (n, subst (Sp n) (sym (append-nil w) ∙ sym (rw (stays M r rest) at is)) sp)

    -- equal spellings come from equal values
    pub unique : (n n' : N) (l l' : List (S L)) → Sp n l → Sp n' l' → l ≡ l' → n ≡ n'
    unique n n' l l' s t e = (R.same n n' l l' [] [] s t (ap (λ (l : List (S L)). l ++ []) e)).0

    -- what is not refused begins a spelling
    pub viable : (Good : Base → Type 0) (cost : Base → ℕ) → ((b : Base) → Good b → Goes_on M Good cost b) → Good b → (l : List (S L)) (p : Place M) → run M (at M b) l ≡ next p → (r : List (S L)) × (n : N) × Sp n (l ++ r)
    viable Good cost all y l p e =
        let x = begins M Good cost all b y p l e in
        let z = sound (l ++ x.0) x.1 in
        (x.0, z.0, z.1)

    -- what is refused begins none
    pub refusal : (l r : List (S L)) (p : Place M) (s : S L) (c : ℕ) (n : N) → run M (at M b) l ≡ next p → step M p s ≡ refuse c → Sp n (l ++ (s ∷ r)) → ⊥
    refusal l r p s c n e f sp = ends M (at M b) p l r s c e f (complete n (l ++ (s ∷ r)) sp)
