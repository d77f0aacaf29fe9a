-- THE LAWS of the first line at fault: it is the line of the first statement at fault; it is one; and no line is at fault where no statement is. For every file and every fault of statements. Assumes nothing.
use mathlib.Core.Path.{◌≡◌, refl, sym, ap, subst, ◌∙◌}
use mathlib.Core.List.{List, [], ◌∷◌, ◌++◌, append_assoc, append-nil, head-eq_of_cons-eq, tail-eq_of_cons-eq, nil≢cons}
use Prim.Native.Nat.{ℕ, ◌<◌}
use native.Mathlib.Omega.{arith}
use lib.ListN.{length, length-append}
use Rattle.terms.specs.Ascii.{Bytes}
use Rattle.line.specs.Lines.{lines_of}
use Rattle.grammar.specs.Language.{Lang, S}
use Rattle.text.specs.Said.{Said}
use Rattle.text.specs.Spelling.{SpellsLines}
use Rattle.fill.specs.Faults.{Faultless, First}
use Rattle.walk.specs.Standing.{places_in}
use Rattle.walk.proofs.SeenLaws.{line_at}
use Rattle.fault_lines.specs.FaultLines.{SaysAt, NoLine, FirstLine}
use Rattle.fault_lines.proofs.LineOne.{Clear}
use Rattle.fault_lines.proofs.LinesGrow.{order, earlier-line, earlier-place}
use Rattle.fault_lines.proofs.Said.{as_many, says_at, says-only, says-one}

-- ## Lists
module _ {A : Type 0} where
  -- what stands before comes first
  before_that : (front : List A) (x : A) (r b : List A) (y : A) (t : List A) → front ++ (x ∷ r) ≡ b ++ (y ∷ t) → length front < length b → (m : List A) × (b ≡ front ++ (x ∷ m))
  before_that [] x r [] y t e h = absurd (omega arith)
  before_that [] x r (c ∷ b) y t e h = (b, ap (λ (c : A). c ∷ b) (sym (head-eq_of_cons-eq e)))
  before_that (a ∷ front) x r [] y t e h = absurd (omega arith)
  before_that (a ∷ front) x r (c ∷ b) y t e h =
      let o = before_that front x r b y t (tail-eq_of_cons-eq e) (omega arith) in
      (o.0, ap (λ (c : A). c ∷ b) (sym (head-eq_of_cons-eq e)) ∙ ap (◌∷◌ a) o.1)

  there-is : (front : List A) (x : A) (r l : List A) → l ≡ front ++ (x ∷ r) → length front < length l
  there-is front x r l e = let n = length-append front (x ∷ r) in let m = ap (λ (l : List A). length l) e in omega arith

  module _ (F : List A → A → ℕ → Type 0) where
    -- no row is at fault: of whichever row
    pub faultless_at : (front l b : List A) (x : A) (r : List A) → l ≡ b ++ (x ∷ r) → Faultless F front l → (k : ℕ) → F (front ++ b) x k → ⊥
    faultless_at front [] [] x r e h k f = nil≢cons e
    faultless_at front [] (c ∷ b) x r e h k f = nil≢cons e
    faultless_at front (a ∷ l) [] x r e h k f = h.0 k (subst (λ (x : A). F front x k) (sym (head-eq_of_cons-eq e)) (subst (λ (l : List A). F l x k) (append-nil front) f))
    faultless_at front (a ∷ l) (c ∷ b) x r e h k f =
        let same : front ++ (c ∷ b) ≡ front ++ (a ∷ []) ++ b = ap (λ (c : A). front ++ (c ∷ b)) (sym (head-eq_of_cons-eq e)) ∙ sym (append_assoc front (a ∷ []) b) in
        faultless_at (front ++ (a ∷ [])) l b x r (tail-eq_of_cons-eq e) h.1 k (subst (λ (l : List A). F l x k) same f)

    pub all_faultless : (front l : List A) → ((b : List A) (x : A) (r : List A) → l ≡ b ++ (x ∷ r) → (k : ℕ) → F (front ++ b) x k → ⊥) → Faultless F front l
    all_faultless front [] h = tt
    all_faultless front (a ∷ l) h = (
      λ k f. h [] a l refl k (subst (λ (l : List A). F l a k) (sym (append-nil front)) f),
      all_faultless (front ++ (a ∷ [])) l (λ b x r e k f. h (a ∷ b) x r (ap (◌∷◌ a) e) k (subst (λ (l : List A). F l x k) (append_assoc front (a ∷ []) b) f)),
    )

module _ {L : Lang} {Line-of : (k : L.Kind) → L.Pay k → List Said} (C : Clear L Line-of) (F : List (S L) → S L → ℕ → Type 0) (text : Bytes) where
  module _ (ss : List (S L)) (all : SpellsLines Line-of 0 (lines_of text) ss) where
    there : (front : List (S L)) (x : S L) (r : List (S L)) → ss ≡ front ++ (x ∷ r) → length front < length (places_in text)
    there front x r e = let n = as_many C text ss all in let m = there-is front x r ss e in omega arith

    -- ## The line of the first statement at fault
    pub first-line-right : (j k : ℕ) → First F [] ss j k → FirstLine Line-of F text (line_at (places_in text) j) k
    first-line-right j k f = subst (λ (j : ℕ). FirstLine Line-of F text (line_at (places_in text) j) k) (sym f.row) (record {
      front = f.before;
      this = f.this;
      at = says_at C text ss all f.before f.this f.rest f.made;
      fault = f.fault;
      first = λ i m front x l s g.
          let o = says-only C text ss all i front x s in
          let d = earlier-place text (length front) (length f.before) (there front x o.0 o.1) (let n = o.2 in omega arith) in
          let b = before_that front x o.0 f.before f.this f.rest (sym o.1 ∙ f.made) d in
          faultless_at F [] f.before front x b.0 b.1 f.fine m g;
    })

    -- ## And no other line
    pub first-line-only : (i k : ℕ) → FirstLine Line-of F text i k → (j : ℕ) × First F [] ss j k × (i ≡ line_at (places_in text) j)
    first-line-only i k f =
        let o = says-only C text ss all i f.front f.this f.at in (
          length f.front,
          record {
            before = f.front;
            this = f.this;
            rest = o.0;
            made = o.1;
            row = refl;
            fine = all_faultless F [] f.front (λ b x r e m g.
                let d : ss ≡ b ++ (x ∷ (r ++ (f.this ∷ o.0))) = o.1 ∙ ap (λ (l : List (S L)). l ++ (f.this ∷ o.0)) e ∙ append_assoc b (x ∷ r) (f.this ∷ o.0) in
                let l = earlier-line text (length b) (length f.front) (there-is b x r f.front e) (there f.front f.this o.0 o.1) in
                f.first (line_at (places_in text) (length b)) m b x (let n = o.2 in omega arith) (says_at C text ss all b x (r ++ (f.this ∷ o.0)) d) g);
            fault = f.fault;
          },
          o.2,
        )

    -- ## No line where there is no statement
    pub none-at-fault : Faultless F [] ss → NoLine Line-of F text
    none-at-fault h i k front x s f = let o = says-only C text ss all i front x s in faultless_at F [] ss front x o.0 o.1 h k f

    pub none_only : NoLine Line-of F text → Faultless F [] ss
    none_only h = all_faultless F [] ss (λ b x r e k f. h (line_at (places_in text) (length b)) k b x (says_at C text ss all b x r e) f)

  -- ## There is one first line, of any text
  pub first-line-one : ((front : List (S L)) (x : S L) (k m : ℕ) → F front x k → F front x m → k ≡ m) → (i j k m : ℕ) → FirstLine Line-of F text i k → FirstLine Line-of F text j m → (i ≡ j) × (k ≡ m)
  first-line-one one i j k m f g = order i j
      (λ l. absurd (g.first i k f.front f.this l f.at f.fault))
      (λ e.
      let o = says-one C text j f.front g.front f.this g.this (subst (λ (i : ℕ). SaysAt Line-of text i f.front f.this) e f.at) g.at in
      (e, one g.front g.this k m (subst (λ (x : S L). F g.front x k) o.1 (subst (λ (l : List (S L)). F l f.this k) o.0 f.fault)) g.fault))
      (λ l. absurd (f.first j m g.front g.this l g.at g.fault))

  -- a line is at fault, or none is
  pub not-both : (i k : ℕ) → FirstLine Line-of F text i k → NoLine Line-of F text → ⊥
  not-both i k f h = h i k f.front f.this f.at f.fault
