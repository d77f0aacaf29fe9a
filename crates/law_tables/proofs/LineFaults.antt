-- THE LAW of the first line at fault: by the lines of the law and by statements it is the same one. For every file. Assumes nothing.
use mathlib.Core.Path.{◌≡◌, refl, sym, ap, ap₂, subst, ◌∙◌}
use mathlib.Core.List.{List, [], ◌∷◌, ◌++◌, map, map-append, append_assoc, head-eq_of_cons-eq, tail-eq_of_cons-eq, nil≢cons, cons≢nil}
use mathlib.Core.Option.{some}
use Prim.Native.Nat.{ℕ, suc, ◌+◌}
use native.Mathlib.Omega.{arith}
use native.Mathlib.Nat.{add-zero}
use lib.ListN.{length}
use Rattle.terms.specs.Ascii.{Bytes}
use Rattle.line.specs.Lines.{lines_of}
use Rattle.law.specs.Network.{Line, SayLines, Rules, reading}
use Rattle.law.specs.Faults as Law
use Rattle.grammar.specs.Editions.{Edition, law_of}
use Rattle.grammar.specs.Language.{Lang, S}
use Rattle.text.specs.Said.{Said}
use Rattle.text.specs.Spelling.{SpellsLine, SpellsLines, done, blank_line_of, statement}
use Rattle.form_faults.specs.FormFaults.{behind}
use Rattle.fault_lines.specs.FaultLines.{SaysAt, FirstLine}
use Rattle.fault_lines.proofs.LineOne.{Clear}
use Rattle.fault_lines.proofs.Said.{not-blank, says-only}
use Rattle.law_spelling.specs.LineOf.{AllOf, law_line}
use Rattle.law_spelling.proofs.Lines.{Begins, lines-to, lines-back}
use Rattle.law_tables.proofs.Among.{Parted, parted}

-- in an edition, of which the boundaries are
module _ (ed : Edition) {L : Lang} {Line-of : (k : L.Kind) → L.Pay k → List Said} (of : AllOf ed Line-of) (C : Clear L Line-of) (begin : (k : L.Kind) (v : L.Pay k) → Begins (Line-of k v)) where
  -- ## Lines, and one more
  further : (a : ℕ) (line : Bytes) (lines : List Bytes) → a + (suc (length line) + behind lines) ≡ a + suc (length line) + behind lines
  further a line lines = omega arith

  moved : {a b : ℕ} {line : Bytes} {x : S L} → a ≡ b → SpellsLine Line-of a line (some x) → SpellsLine Line-of b line (some x)
  moved {line = line} {x = x} e h = subst (λ (n : ℕ). SpellsLine Line-of n line (some x)) e h

  one_more : {start : ℕ} {before : List Bytes} {front : List (S L)} → SpellsLines Line-of start before front → (this : Bytes) (x : S L) → SpellsLine Line-of (start + behind before) this (some x)
      → SpellsLines Line-of start (before ++ (this ∷ [])) (front ++ (x ∷ []))
  unfolding behind
  one_more {start} done this x h = statement (moved (add-zero start) h) done
  one_more (blank_line_of {start = a} {line = l} {lines = ls} g s) this x h = blank_line_of g (one_more s this x (moved (further a l ls) h))
  one_more (statement {start = a} {line = l} {lines = ls} g s) this x h = statement g (one_more s this x (moved (further a l ls) h))

  no_line : {Y : Type 0} {start : ℕ} {ls : List Bytes} {ss : List (S L)} (x : S L) → SpellsLines Line-of start ls ss → ls ≡ [] → ss ≡ x ∷ [] → Y
  no_line x done e d = absurd (nil≢cons d)
  no_line x (blank_line_of g s) e d = absurd (cons≢nil e)
  no_line x (statement g s) e d = absurd (cons≢nil e)

  last_one : {start : ℕ} {before : List Bytes} {front : List (S L)} → SpellsLines Line-of start before front → (this : Bytes) (x : S L) {ss : List (S L)} → ss ≡ front ++ (x ∷ [])
      → SpellsLines Line-of start (before ++ (this ∷ [])) ss → SpellsLine Line-of (start + behind before) this (some x)
  unfolding behind
  last_one {start} done this x e (blank_line_of h t) = no_line x t refl e
  last_one {start} done this x e (statement h t) = moved (sym (add-zero start)) (subst (λ (y : S L). SpellsLine Line-of start this (some y)) (head-eq_of_cons-eq e) h)
  last_one (blank_line_of {start = a} {line = l} {lines = ls} g s) this x e (blank_line_of h t) = moved (sym (further a l ls)) (last_one s this x e t)
  last_one (blank_line_of g s) this x e (statement h t) = not-blank C g h
  last_one (statement g s) this x e (blank_line_of h t) = not-blank C h g
  last_one (statement {start = a} {line = l} {lines = ls} g s) this x e (statement h t) = moved (sym (further a l ls)) (last_one s this x (tail-eq_of_cons-eq e) t)

  -- ## A line of a text
  -- the line of the law that a statement is
  abbrev ll : S L → Line
  ll = law_line Line-of

  module _ {Net : Type 0} (Spells : Rules → Net → List Line → Type 0) (Said-by : Net → List (S L) → Type 0)
      (to : (n : Net) (said : List (S L)) → Said-by n said → Spells (reading (law_of ed)) n (map ll said))
      (back : (n : Net) (l : List Line) → Spells (reading (law_of ed)) n l → (said : List (S L)) × (l ≡ map ll said) × Said-by n said) (text : Bytes) where
    -- the lines of the law are statements
    record Known (i : ℕ) (front : List Line) (line : Line) : Type 0 where
      before : List (S L)
      this : S L
      fronted : front ≡ map ll before
      told : line ≡ ll this
      at : SaysAt Line-of text i before this

    known : (i : ℕ) (front : List Line) (line : Line) → Law.SaysAt (reading (law_of ed)) Spells text i front line → Known i front line
    known i front line s =
        let b = s.begins in
        let o = back b.net ((front ++ (line ∷ [])) ++ b.rest) b.spelled in
        by (parted ll o.0 front line b.rest (sym (append_assoc front (line ∷ []) b.rest) ∙ o.1))
      where
        by : {said : List (S L)} → Parted ll said front line → Known i front line
        by p =
            let before = lines-back ed Line-of of p.before (subst (SayLines (reading (law_of ed)) 0 s.at.before) p.fronted s.at.said) in
            let same : front ++ (line ∷ []) ≡ map ll (p.before ++ (p.this ∷ [])) = ap₂ (λ (f : List Line) (l : Line). f ++ (l ∷ [])) p.fronted p.told ∙ sym (map-append ll p.before (p.this ∷ [])) in
            let all = lines-back ed Line-of of (p.before ++ (p.this ∷ [])) (subst (SayLines (reading (law_of ed)) 0 (s.at.before ++ (s.this ∷ []))) same s.says) in
            let z : 0 + behind s.at.before ≡ behind s.at.before = omega arith in
            record {
              before = p.before;
              this = p.this;
              fronted = p.fronted;
              told = p.told;
              at = record { before = s.at.before; this = s.this; rest = s.at.rest; cut = s.at.cut; number = s.at.number; said = before; says = moved z (last_one before s.this p.this refl all) };
            }

    -- and the statements of a spelled text are lines of the law
    module _ (n : Net) (said : List (S L)) (all : SpellsLines Line-of 0 (lines_of text) said) (net : Said-by n said) where
      law-at : (i : ℕ) (front : List (S L)) (x : S L) → SaysAt Line-of text i front x → Law.SaysAt (reading (law_of ed)) Spells text i (map ll front) (ll x)
      law-at i front x s =
          let o = says-only C text said all i front x s in
          let z : behind s.before ≡ 0 + behind s.before = omega arith in
          let whole : map ll said ≡ (map ll front ++ (ll x ∷ [])) ++ map ll o.0 = ap (map ll) o.1 ∙ map-append ll front (x ∷ o.0) ∙ sym (append_assoc (map ll front) (ll x ∷ []) (map ll o.0)) in
          record {
            this = s.this;
            at = record { before = s.before; rest = s.rest; cut = s.cut; number = s.number; said = lines-to ed Line-of of begin s.said };
            says = subst (SayLines (reading (law_of ed)) 0 (s.before ++ (s.this ∷ []))) (map-append ll front (x ∷ [])) (lines-to ed Line-of of begin (one_more s.said s.this x (moved z s.says)));
            begins = record { rest = map ll o.0; net = n; spelled = subst (Spells (reading (law_of ed)) n) whole (to n said net) };
          }

      -- ## The first at fault. F: by statements, G: by lines
      module _ (F : List (S L) → S L → ℕ → Type 0) (G : List Line → Line → ℕ → Type 0) (over : (front : List (S L)) (x : S L) (k : ℕ) → F front x k → G (map ll front) (ll x) k)
          (under : (front : List (S L)) (x : S L) (k : ℕ) → G (map ll front) (ll x) k → F front x k) where
        fault-of : {i m : ℕ} {front : List Line} {line : Line} (w : Known i front line) → G front line m → F w.before w.this m
        fault-of {m = m} {line = line} w g = under w.before w.this m (subst (λ (l : Line). G (map ll w.before) l m) w.told (subst (λ (f : List Line). G f line m) w.fronted g))

        pub first_to : (i k : ℕ) → FirstLine Line-of F text i k → Law.FirstFault (reading (law_of ed)) Spells G text i k
        first_to i k f = record {
          front = map ll f.front;
          line = ll f.this;
          at = law-at i f.front f.this f.at;
          fault = over f.front f.this k f.fault;
          first = λ j m front line l s g. let w = known j front line s in f.first j m w.before w.this l w.at (fault-of w g);
        }

        pub first_back : (i k : ℕ) → Law.FirstFault (reading (law_of ed)) Spells G text i k → FirstLine Line-of F text i k
        first_back i k f = let w = known i f.front f.line f.at in record {
          front = w.before;
          this = w.this;
          at = w.at;
          fault = fault-of w f.fault;
          first = λ j m front x l s g. f.first j m (map ll front) (ll x) l (law-at j front x s) (over front x m g);
        }
