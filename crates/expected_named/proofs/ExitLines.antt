-- What line i of a text says, and of an exit's line whether the exit is a perimeter's. Assumes nothing.
use mathlib.Core.Path.{◌≡◌, refl, sym, ap, subst, ◌∙◌}
use mathlib.Core.List.{List, [], ◌∷◌, ◌++◌, head-eq_of_cons-eq, tail-eq_of_cons-eq, nil≢cons, cons≢nil}
use Prim.Native.Nat.{ℕ, suc, ◌+◌, ◌-◌}
use native.Mathlib.Omega.{arith}
use lib.ListN.{length, take, get_or}
use lib.Seq.{take_all}
use lib.Dec.{eqb}
use Rattle.terms.specs.Ascii.{Bytes, ascii}
use Rattle.terms.specs.Words.{pick}
use Rattle.line.specs.Line.{Field}
use Rattle.line.specs.Content.{Content}
use Rattle.line.specs.Lines.{lines_of, drop_cr}
use Rattle.line.proofs.Cuts.{cut-is}
use Rattle.line.proofs.Ends.{ended_is, ended-one}
use Rattle.line.proofs.Contents.{content-one, content-ended}
use Rattle.law.specs.Network.{Edition, Exit, Rules, Said, Line, word, numbers, exit_line, SpellFields, reading, Says, SayLines, done, blank, statement}
use Rattle.law.specs.Faults.{LineAt, SaysAt}
use Rattle.shown.specs.Shown.{line_in}
use Rattle.expected_references.specs.Named.{id_of, low_in_of}
use Rattle.expected_named.proofs.LineFields.{second-point}

-- ## What the last line says
module _ (d : Edition) where
  -- a line with fields is not blank
  not-blank : {start : ℕ} {x : Bytes} {v : Said} {vs : Line} → Says (reading d) start x [] → Says (reading d) start x (v ∷ vs) → ⊥
  not-blank {start} {x} {v} {vs} s t = go s.fields t.fields (content-one s.fielded (subst (λ (c : Bytes). Content start c t.fields) (ended-one t.ended s.ended) t.fielded)) s.spelled t.spelled
    where
      go : (fs gs : List Field) → fs ≡ gs → SpellFields d fs [] → SpellFields d gs (v ∷ vs) → ⊥
      go [] [] e p q = q
      go [] (g ∷ gs) e p q = nil≢cons e
      go (f ∷ fs) gs e p q = p

  nothing_left : {start : ℕ} {lines : List Bytes} {said : List Line} {l : Line} → SayLines (reading d) start lines said → lines ≡ [] → said ≡ l ∷ [] → ⊥
  nothing_left done e q = nil≢cons q
  nothing_left (blank s t) e q = cons≢nil e
  nothing_left (statement s t) e q = cons≢nil e

  module _ (this : Bytes) (line : Line) where
    last_says : {start : ℕ} {before : List Bytes} {front : List Line} → SayLines (reading d) start before front → {lines : List Bytes} {said : List Line} → SayLines (reading d) start lines said → lines ≡ before ++ (this ∷ []) → said ≡ front ++ (line ∷ []) → (a : ℕ) × Says (reading d) a this line
    last_says done done e q = absurd (nil≢cons e)
    last_says done (blank s t) e q = absurd (nothing_left t (tail-eq_of_cons-eq e) q)
    last_says done (statement {start = a} {line = x} {s = v} {said = vs} s t) e q = (a, subst (λ (l : Line). Says (reading d) a this l) (head-eq_of_cons-eq q) (subst (λ (y : Bytes). Says (reading d) a y (v ∷ vs)) (head-eq_of_cons-eq e) s))
    last_says (blank s t) done e q = absurd (nil≢cons e)
    last_says (blank {start = a} {line = x} s t) (blank {lines = ls} {l = said} s' t') e q = last_says t (subst (λ (y : Bytes). SayLines (reading d) (a + suc (length y)) ls said) (head-eq_of_cons-eq e) t') (tail-eq_of_cons-eq e) q
    last_says (blank {start = a} s t) (statement {s = v} {said = vs} s' t') e q = absurd (not-blank s (subst (λ (y : Bytes). Says (reading d) a y (v ∷ vs)) (head-eq_of_cons-eq e) s'))
    last_says (statement s t) done e q = absurd (nil≢cons e)
    last_says (statement {start = a} s t) (blank s' t') e q = absurd (not-blank (subst (λ (y : Bytes). Says (reading d) a y []) (head-eq_of_cons-eq e) s') s)
    last_says (statement {start = a} s t) (statement {lines = ls} {l = said} s' t') e q = last_says t (subst (λ (y : Bytes). SayLines (reading d) (a + suc (length y)) ls said) (head-eq_of_cons-eq e) t') (tail-eq_of_cons-eq e) (tail-eq_of_cons-eq q)

  pub this-says : {Net : Type 0} {Spells : Rules → Net → List Line → Type 0} {text : Bytes} {i : ℕ} {front : List Line} {line : Line} → (h : SaysAt (reading d) Spells text i front line) → (a : ℕ) × Says (reading d) a h.this line
  this-says {line = line} h = last_says h.this line h.at.said h.says refl refl

  -- ## The line as the program looks at it
  at_place : (before : List Bytes) (this : Bytes) (rest : List Bytes) → get_or (before ++ (this ∷ rest)) (length before) [] ≡ this
  at_place [] this rest = refl
  at_place (l ∷ before) this rest = at_place before this rest

  pub line-is : {text : Bytes} {i : ℕ} {front : List Line} {this : Bytes} (h : LineAt (reading d) text i front this) {a : ℕ} {line : Line} (s : Says (reading d) a this line) → line_in text i ≡ s.content
  unfolding line_in
  line-is {text} {i} {this = this} h s =
      let k : i - 1 ≡ length h.before = omega (arith, h.number) in
      let l : get_or (lines_of text) (i - 1) [] ≡ this = ap (λ (ls : List Bytes). get_or ls (i - 1) []) (cut-is h.cut) ∙ ap (λ (j : ℕ). get_or (h.before ++ (this ∷ h.rest)) j []) k ∙ at_place h.before this h.rest in
      ap (λ (x : Bytes). take 513 (drop_cr x)) l ∙ ap (take 513) (ended_is s.ended) ∙ take_all 513 s.content (omega (arith, s.fielded.short))

  pub line-says : {text : Bytes} {i : ℕ} {front : List Line} {this : Bytes} (h : LineAt (reading d) text i front this) {a : ℕ} {line : Line} → Says (reading d) a this line → Says (reading d) a (line_in text i) line
  line-says h {a} {line} s = subst (λ (l : Bytes). Says (reading d) a l line) (sym (line-is h s)) (record { content = s.content; fields = s.fields; ended = content-ended s.fielded; fielded = s.fielded; spelled = s.spelled })

  -- ## From which y on its entry may be
  pub low-is : {Net : Type 0} {Spells : Rules → Net → List Line → Type 0} {text : Bytes} {i : ℕ} {front : List Line} {line : Line} → SaysAt (reading d) Spells text i front line → (x y : ℕ) (e : Exit) → line ≡ exit_line x y e → low_in_of text i ≡ pick (eqb y 0) 1 0
  unfolding low_in_of
  low-is {text = text} {i = i} h x y e q =
      let t = this-says h in
      let s = subst (λ (l : Line). Says (reading d) t.0 (line_in text i) l) q (line-says h.at t.1) in
      ap (λ w. pick (eqb (id_of w).y 0) 1 0) (second-point d (word (ascii "exit")) x y e.waypoint (numbers (e.entry.x ∷ e.entry.y ∷ e.entry.z ∷ []) ∷ []) s)
