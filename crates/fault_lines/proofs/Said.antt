-- The statements of a text, each on its line: what line i says behind the lines before it is the statement that stands there. For every file. Assumes nothing.
use mathlib.Core.Path.{◌≡◌, refl, sym, ap, ap₂, subst}
use mathlib.Core.List.{List, [], ◌∷◌, ◌++◌, head-eq_of_cons-eq, tail-eq_of_cons-eq, nil≢cons}
use mathlib.Core.Option.{none, some}
use Prim.Native.Nat.{ℕ, suc, ◌+◌}
use native.Mathlib.Omega.{arith}
use native.Mathlib.Nat.{add-zero}
use lib.ListN.{length}
use Rattle.terms.specs.Ascii.{Bytes}
use Rattle.terms.proofs.Tests.{nothing}
use Rattle.line.specs.Text.{Cut}
use Rattle.line.specs.Lines.{lines_of}
use Rattle.line.proofs.Cuts.{cut, cut-is, cut-one}
use Rattle.grammar.specs.Language.{Lang, S}
use Rattle.text.specs.Said.{Said}
use Rattle.text.specs.Spelling.{SpellsLine, SpellsLines, done, blank_line_of, statement}
use Rattle.walk.specs.Standing.{standing, places_in}
use Rattle.walk.proofs.SeenLaws.{line_at}
use Rattle.form_faults.specs.FormFaults.{behind}
use Rattle.fault_lines.specs.FaultLines.{SaysAt}
use Rattle.fault_lines.proofs.LineOne.{Clear}

pub some_is : {A : Type 0} {a b : A} → some a ≡ some b → a ≡ b
some_is e = cc

-- what stands before, and what is next, where they are cut at the same place
pub split_one : {A : Type 0} (b c : List A) (x y : A) (r t : List A) → length b ≡ length c → b ++ (x ∷ r) ≡ c ++ (y ∷ t) → (b ≡ c) × (x ≡ y)
split_one [] [] x y r t h e = (refl, head-eq_of_cons-eq e)
split_one [] (d ∷ c) x y r t h e = absurd (omega arith)
split_one (a ∷ b) [] x y r t h e = absurd (omega arith)
split_one (a ∷ b) (d ∷ c) x y r t h e =
    let o = split_one b c x y r t (omega arith) (tail-eq_of_cons-eq e) in
    (ap₂ ◌∷◌ (head-eq_of_cons-eq e) o.0, o.1)

module _ {L : Lang} {Line-of : (k : L.Kind) → L.Pay k → List Said} (C : Clear L Line-of) where
  -- a blank line makes no statement
  pub not-blank : {Y : Type 0} {start : ℕ} {line : Bytes} {x : S L} → SpellsLine Line-of start line none → SpellsLine Line-of start line (some x) → Y
  not-blank {start = start} {line = line} {x = x} h g = nothing (C.line_one start line none (some x) h g)

  same : {start : ℕ} {line : Bytes} {x y : S L} → SpellsLine Line-of start line (some x) → SpellsLine Line-of start line (some y) → x ≡ y
  same {start} {line} {x} {y} h g = some_is (C.line_one start line (some x) (some y) h g)

  -- lines say one list of statements only
  pub lines-one : {start : ℕ} {ls : List Bytes} {ss us : List (S L)} → SpellsLines Line-of start ls ss → SpellsLines Line-of start ls us → ss ≡ us
  lines-one done done = refl
  lines-one (blank_line_of h s) (blank_line_of g t) = lines-one s t
  lines-one (blank_line_of h s) (statement g t) = not-blank h g
  lines-one (statement h s) (blank_line_of g t) = not-blank g h
  lines-one (statement h s) (statement g t) = ap₂ ◌∷◌ (same h g) (lines-one s t)

  -- a statement to each line that is not blank
  many : {start : ℕ} {ls : List Bytes} {ss : List (S L)} → SpellsLines Line-of start ls ss → (i : ℕ) → length (standing start i ls) ≡ length ss
  unfolding standing
  many done i = refl
  many (blank_line_of {start = a} {line = l} h s) i = rw (C.speaking a l none h) (many s (suc i))
  many (statement {start = a} {line = l} {s = x} h s) i = rw (C.speaking a l (some x) h) (ap suc (many s (suc i)))

  -- ## A statement, and its line
  record There (start i : ℕ) (ls : List Bytes) (front : List (S L)) (x : S L) (w : ℕ) : Type 0 where
    before : List Bytes
    this : Bytes
    rest : List Bytes
    is : ls ≡ before ++ (this ∷ rest)
    number : w ≡ i + length before
    said : SpellsLines Line-of start before front
    says : SpellsLine Line-of (start + behind before) this (some x)

  there : {start : ℕ} {ls : List Bytes} {ss : List (S L)} → SpellsLines Line-of start ls ss → (i : ℕ) (front : List (S L)) (x : S L) (r : List (S L)) → ss ≡ front ++ (x ∷ r)
      → There start i ls front x (line_at (standing start i ls) (length front))
  unfolding standing behind
  there done i [] x r e = absurd (nil≢cons e)
  there done i (f ∷ front) x r e = absurd (nil≢cons e)
  there (blank_line_of {start = a} {line = l} {lines = ls} h s) i front x r e =
      let t = there s (suc i) front x r e in
      let z : a + suc (length l) + behind t.before ≡ a + (suc (length l) + behind t.before) = omega arith in
      let n = t.number in
      record {
        before = l ∷ t.before;
        this = t.this;
        rest = t.rest;
        is = ap (◌∷◌ l) t.is;
        number = rw (C.speaking a l none h) (omega arith);
        said = blank_line_of h t.said;
        says = subst (λ (n : ℕ). SpellsLine Line-of n t.this (some x)) z t.says;
      }
  there (statement {start = a} {line = l} {lines = ls} {s = y} h s) i [] x r e = record {
    before = [];
    this = l;
    rest = ls;
    is = refl;
    number = rw (C.speaking a l (some y) h) (omega arith);
    said = done;
    says = rw add-zero (subst (λ (y : S L). SpellsLine Line-of a l (some y)) (head-eq_of_cons-eq e) h);
  }
  there (statement {start = a} {line = l} {lines = ls} {s = y} h s) i (f ∷ front) x r e =
      let t = there s (suc i) front x r (tail-eq_of_cons-eq e) in
      let z : a + suc (length l) + behind t.before ≡ a + (suc (length l) + behind t.before) = omega arith in
      let n = t.number in
      record {
        before = l ∷ t.before;
        this = t.this;
        rest = t.rest;
        is = ap (◌∷◌ l) t.is;
        number = rw (C.speaking a l (some y) h) (omega arith);
        said = subst (λ (y : S L). SpellsLines Line-of a (l ∷ t.before) (y ∷ front)) (head-eq_of_cons-eq e) (statement h t.said);
        says = subst (λ (n : ℕ). SpellsLine Line-of n t.this (some x)) z t.says;
      }

  Behind : (start i : ℕ) (before : List Bytes) (this : Bytes) (rest : List Bytes) (ss front : List (S L)) (x : S L) → Type 0
  Behind start i before this rest ss front x = (r : List (S L)) × (ss ≡ front ++ (x ∷ r)) × (i + length before ≡ line_at (standing start i (before ++ (this ∷ rest))) (length front))

  only : {start : ℕ} {before : List Bytes} {front : List (S L)} → SpellsLines Line-of start before front → (this : Bytes) (rest : List Bytes) (i : ℕ) (x : S L) → SpellsLine Line-of (start + behind before) this (some x)
      → {ss : List (S L)} → SpellsLines Line-of start (before ++ (this ∷ rest)) ss → Behind start i before this rest ss front x
  unfolding standing behind Behind
  only {start} done this rest i x g (blank_line_of h s) = not-blank h (rw add-zero at g)
  only {start} done this rest i x g (statement {s = y} {said = us} h s) =
      let e : y ≡ x = same h (rw add-zero at g) in
      (us, ap (λ (y : S L). y ∷ us) e, rw (C.speaking start this (some y) h) (add-zero i))
  only (blank_line_of {start = a} {line = l} {lines = ls} h s) this rest i x g (blank_line_of h' t) =
      let z : a + (suc (length l) + behind ls) ≡ a + suc (length l) + behind ls = omega arith in
      let o = only s this rest (suc i) x (subst (λ (n : ℕ). SpellsLine Line-of n this (some x)) z g) t in
      let n = o.2 in
      (o.0, o.1, rw (C.speaking a l none h) (omega arith))
  only (blank_line_of h s) this rest i x g (statement h' t) = not-blank h h'
  only (statement h s) this rest i x g (blank_line_of h' t) = not-blank h' h
  only (statement {start = a} {line = l} {lines = ls} {s = y} {said = front} h s) this rest i x g (statement {s = y'} {said = us} h' t) =
      let z : a + (suc (length l) + behind ls) ≡ a + suc (length l) + behind ls = omega arith in
      let o = only s this rest (suc i) x (subst (λ (n : ℕ). SpellsLine Line-of n this (some x)) z g) t in
      let n = o.2 in
      let e : y' ≡ y = same h' h in
      let d : us ≡ front ++ (x ∷ o.0) = o.1 in
      (o.0, ap₂ ◌∷◌ e d, rw (C.speaking a l (some y) h) (omega arith))

  -- ## Of a text
  pub all_said : {text : Bytes} {ls : List Bytes} {ss : List (S L)} → Cut text ls → SpellsLines Line-of 0 ls ss → SpellsLines Line-of 0 (lines_of text) ss
  all_said {ss = ss} c s = subst (λ (ls : List Bytes). SpellsLines Line-of 0 ls ss) (sym (cut-is c)) s

  module _ (text : Bytes) (ss : List (S L)) (all : SpellsLines Line-of 0 (lines_of text) ss) where
    pub as_many : length (places_in text) ≡ length ss
    as_many = many all 1

    -- each statement stands on its line
    pub says_at : (front : List (S L)) (x : S L) (r : List (S L)) → ss ≡ front ++ (x ∷ r) → SaysAt Line-of text (line_at (places_in text) (length front)) front x
    says_at front x r e =
        let t = there all 1 front x r e in
        let z : 0 + behind t.before ≡ behind t.before = omega arith in
        let n = t.number in
        record {
          before = t.before;
          this = t.this;
          rest = t.rest;
          cut = subst (Cut text) t.is (cut text);
          number = omega arith;
          said = t.said;
          says = subst (λ (n : ℕ). SpellsLine Line-of n t.this (some x)) z t.says;
        }

    -- and no other line says it
    pub says-only : (i : ℕ) (front : List (S L)) (x : S L) → SaysAt Line-of text i front x → (r : List (S L)) × (ss ≡ front ++ (x ∷ r)) × (i ≡ line_at (places_in text) (length front))
    unfolding Behind
    says-only i front x s =
        let z : behind s.before ≡ 0 + behind s.before = omega arith in
        let same_lines = cut-is s.cut in
        let o = only s.said s.this s.rest 1 x (subst (λ (n : ℕ). SpellsLine Line-of n s.this (some x)) z s.says) (subst (λ (ls : List Bytes). SpellsLines Line-of 0 ls ss) same_lines all) in
        let n = s.number in
        let m = o.2 in
        (o.0, o.1, rw same_lines (omega arith))

  -- ## A line of a text says one thing
  pub says-one : (text : Bytes) (i : ℕ) (front front' : List (S L)) (x y : S L) → SaysAt Line-of text i front x → SaysAt Line-of text i front' y → (front ≡ front') × (x ≡ y)
  says-one text i front front' x y s t =
      let n = s.number in
      let m = t.number in
      let o = split_one s.before t.before s.this t.this s.rest t.rest (omega arith) (cut-one s.cut t.cut) in
      let p = o.0 in
      let q = o.1 in (
        lines-one (subst (λ (b : List Bytes). SpellsLines Line-of 0 b front) p s.said) t.said,
        same (subst (λ (l : Bytes). SpellsLine Line-of (behind t.before) l (some x)) q (subst (λ (b : List Bytes). SpellsLine Line-of (behind b) s.this (some x)) p s.says)) t.says,
      )
