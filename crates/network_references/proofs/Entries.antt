-- THE LAW of the entries: at the last fields of the lines at which exits stand, the entries of these exits stand. For every text without a fault of 2 to 10. Assumes nothing.
use mathlib.Core.Path.{◌≡◌, refl, sym, ap, ap₂, ◌∙◌}
use mathlib.Core.List.{List, [], ◌∷◌, ◌++◌, map, head-eq_of_cons-eq, tail-eq_of_cons-eq, nil≢cons}
use mathlib.Core.Option.{Option, none, some}
use mathlib.Core.Bool.{Bool, true, false}
use Prim.Native.Nat.{ℕ, suc, ◌+◌, ◌-◌, ◌<◌}
use native.Mathlib.Omega.{arith}
use lib.Dec.{ltb}
use lib.ListN.{length, take, drop, length-map}
use borrow.Author.Tests.{ltb-true, ltb-false}
use Rattle.terms.specs.Ascii.{Bytes}
use Rattle.terms.specs.Words.{pick}
use Rattle.scan.specs.Reach.{reach, up_to, stops_by}
use Rattle.scan.specs.declared.Until.TheVariants.{Byte}
use Rattle.line.specs.Content.{Field}
use Rattle.line.specs.Lines.{lines_of}
use Rattle.line.proofs.Cuts.{lines_at, next_start, lines_end}
use Rattle.grammar.specs.Language.{as_kind}
use Rattle.grammar.specs.Statements.{PointId, ExitLine, Statement, lines, of_kind, exit}
use Rattle.grammar.specs.Machine.{Place, at}
use Rattle.grammar.specs.Places.{rndf, name_due}
use Rattle.grammar.proofs.LanguageLaws.{as-inv, all-some, all_none}
use Rattle.text.specs.Judge.{Verdict, fault, good, judge}
use Rattle.text.specs.RndfWords.{rndf_lexis}
use Rattle.text.specs.Answers.{Walk, stopped, through, Answer, faulty, short, read, listed, is_over, walk, answer, read_text}
use Rattle.text.specs.Answers as A
use Rattle.text.proofs.Theorems.{read-rndf}
use Rattle.statement.specs.Meaning.{the_the_point_of}
use Rattle.walk.specs.Standing.{Where, place, speaks, if_speaking, standing, places_in}
use Rattle.walk.proofs.Speaking.{is_some, speaks_is}
use Rattle.references.specs.Entry.{entry_at}
use Rattle.references.proofs.Entries.{entry-told}
use Rattle.network.proofs.ExitLines.{if_there, exit-starts}

abbrev Walked : Type 0
Walked = Walk (Statement Field) (Place (rndf Field))

abbrev Got : Type 0
Got = Verdict (Statement Field) (Place (rndf Field))

-- ## The line at a place
module _ (text : Bytes) (from : ℕ) (l : Bytes) (ls : List Bytes) (are : lines_of (drop from text) ≡ l ∷ ls) where
  inside : from < length text
  inside = go (ltb from (length text)) refl
    where
      go : (b : Bool) → ltb from (length text) ≡ b → from < length text
      go true q = ltb-true from (length text) q
      go false q = absurd (nil≢cons (sym (lines_end text from (ltb-false from (length text) q)) ∙ are))

  abbrev stop : ℕ
  stop = reach (stops_by (Byte 10)) text from

  cut-here : take (stop - from) (drop from text) ∷ lines_of (drop (stop + 1) text) ≡ l ∷ ls
  cut-here = sym (lines_at text from stop inside refl) ∙ are

  -- it is the line that is cut there
  pub line_there : take (up_to (stops_by (Byte 10)) (drop from text)) (drop from text) ≡ l
  line_there =
      let k : up_to (stops_by (Byte 10)) (drop from text) ≡ stop - from = omega arith in
      ap (λ (k : ℕ). take k (drop from text)) k ∙ head-eq_of_cons-eq cut-here

  -- and the others stand behind it
  pub lines-behind : lines_of (drop (from + suc (length l)) text) ≡ ls
  lines-behind =
      let k : from + suc (length l) ≡ stop + 1 = ap (λ (l : Bytes). from + suc (length l)) (sym (head-eq_of_cons-eq cut-here)) ∙ next_start text from stop inside refl in
      ap (λ (k : ℕ). lines_of (drop k text)) k ∙ tail-eq_of_cons-eq cut-here

module _ (text : Bytes) where
  -- the entry at a place
  abbrev pub entry-at : ℕ → PointId
  entry-at at = the_the_point_of (entry_at text at)

  abbrev Told : List Where → List (Statement Field) → Type 0
  Told ws ts = map entry-at (exit-starts ws ts) ≡ map (λ v. v.entry) (of_kind exit ts)

  -- ## One statement
  one_told : (w : Where) (ws : List Where) (t : Statement Field) (ts : List (Statement Field)) → ((v : ExitLine) → as_kind (lines Field) exit t ≡ some v → entry-at w.last ≡ v.entry) → Told ws ts → Told (w ∷ ws) (t ∷ ts)
  unfolding exit-starts
  one_told w ws t ts here h = go (as_kind (lines Field) exit t) refl
    where
      go : (o : Option ExitLine) → as_kind (lines Field) exit t ≡ o → map entry-at (if_there o w.last ++ exit-starts ws ts) ≡ map (λ v. v.entry) (of_kind exit (t ∷ ts))
      go none q = h ∙ ap (map (λ (v : ExitLine). v.entry)) (sym (all_none (lines Field) exit t ts q))
      go (some v) q = ap₂ (λ (e : PointId) (es : List PointId). e ∷ es) (here v q) h ∙ ap (map (λ (v : ExitLine). v.entry)) (sym (all-some (lines Field) exit t ts v q))

  -- a line that says a statement, or none
  line_told : (b : Bool) (o : Option (Statement Field)) (w : Where) (ws : List Where) (ts : List (Statement Field)) → b ≡ is_some o
      → ((t : Statement Field) → o ≡ some t → (v : ExitLine) → as_kind (lines Field) exit t ≡ some v → entry-at w.last ≡ v.entry) → Told ws ts → Told (if_speaking b w ws) (listed o ++ ts)
  line_told b none w ws ts e here h = rw e h
  line_told b (some t) w ws ts e here h = rw e (one_told w ws t ts (here t refl) h)

  -- ## All lines
  walk-kind : Walked → ℕ
  walk-kind (stopped i n) = 0
  walk-kind (through ts q) = 1

  said-by : Walked → List (Statement Field)
  said-by (stopped i n) = []
  said-by (through ts q) = ts

  lines-told : (ls : List Bytes) (p q : Place (rndf Field)) (start i : ℕ) (ts : List (Statement Field)) → lines_of (drop start text) ≡ ls → walk (rndf Field) rndf_lexis p start i ls ≡ through ts q → Told (standing start i ls) ts
  unfolding walk standing walk-kind said-by exit-starts
  lines-told [] p q start i ts are e = rw (← (ap said-by e)) refl
  lines-told (l ∷ ls) p q start i ts are e = go (judge (rndf Field) rndf_lexis p start l) refl e (λ r s us. lines-told ls r s (start + suc (length l)) (suc i) us (lines-behind text start l ls are))
    where
      next : ℕ
      next = start + suc (length l)

      here : (o : Option (Statement Field)) (r : Place (rndf Field)) → judge (rndf Field) rndf_lexis p start l ≡ good o r → (t : Statement Field) → o ≡ some t → (v : ExitLine) → as_kind (lines Field) exit t ≡ some v → entry-at (place start i l).last ≡ v.entry
      here o r j t is v x =
          let before = inside text start l ls are in
          entry-told text p start l (omega arith) (line_there text start l ls are) t r (j ∙ ap (λ (o : Option (Statement Field)). good o r) is) v (as-inv (lines Field) exit t v x)

      behind : (o : Option (Statement Field)) (r : Place (rndf Field)) (w : Walked) → judge (rndf Field) rndf_lexis p start l ≡ good o r → walk (rndf Field) rndf_lexis r next (suc i) ls ≡ w → A.put (rndf Field) rndf_lexis o w ≡ through ts q
          → ((s : Place (rndf Field)) (us : List (Statement Field)) → walk (rndf Field) rndf_lexis r next (suc i) ls ≡ through us s → Told (standing next (suc i) ls) us)
          → Told (if_speaking (speaks start l) (place start i l) (standing next (suc i) ls)) ts
      behind o r (stopped k n) j u f h = absurd (let z : ◌≡◌ {A = ℕ} 0 1 = ap walk-kind f in omega arith)
      behind o r (through us s) j u f h = rw (← (ap said-by f)) (line_told (speaks start l) o (place start i l) (standing next (suc i) ls) us (speaks_is (rndf Field) rndf_lexis p r start l o j) (here o r j) (h s us u))

      go : (v : Got) → judge (rndf Field) rndf_lexis p start l ≡ v → A.onward (rndf Field) rndf_lexis i v (λ r. walk (rndf Field) rndf_lexis r next (suc i) ls) ≡ through ts q
          → ((r s : Place (rndf Field)) (us : List (Statement Field)) → walk (rndf Field) rndf_lexis r next (suc i) ls ≡ through us s → Told (standing next (suc i) ls) us)
          → Told (if_speaking (speaks start l) (place start i l) (standing next (suc i) ls)) ts
      go (fault n) j f h = absurd (let z : ◌≡◌ {A = ℕ} 0 1 = ap walk-kind f in omega arith)
      go (good o r) j f h = behind o r (walk (rndf Field) rndf_lexis r next (suc i) ls) j refl f (λ s us. h r s us)

  -- ## The text
  answer-kind : Answer (Statement Field) → ℕ
  answer-kind (faulty i n) = 0
  answer-kind (short i) = 0
  answer-kind (read us) = 1

  statements : Answer (Statement Field) → List (Statement Field)
  statements (faulty i n) = []
  statements (short i) = []
  statements (read us) = us

  pub entries-told : (ts : List (Statement Field)) → read-rndf text ≡ read ts → map entry-at (exit-starts (places_in text) ts) ≡ map (λ v. v.entry) (of_kind exit ts)
  unfolding read_text statements answer-kind
  entries-told ts e = go (walk (rndf Field) rndf_lexis (at (rndf Field) name_due) 0 1 (lines_of text)) refl e
    where
      over-or-not : (b : Bool) (us : List (Statement Field)) (q : Place (rndf Field)) → walk (rndf Field) rndf_lexis (at (rndf Field) name_due) 0 1 (lines_of text) ≡ through us q
          → pick b (read us) (short (suc (length (lines_of text)))) ≡ read ts → Told (places_in text) ts
      over-or-not true us q w f = rw (← (ap statements f)) (lines-told (lines_of text) (at (rndf Field) name_due) q 0 1 us refl w)
      over-or-not false us q w f = absurd (let z : ◌≡◌ {A = ℕ} 0 1 = ap answer-kind f in omega arith)

      go : (w : Walked) → walk (rndf Field) rndf_lexis (at (rndf Field) name_due) 0 1 (lines_of text) ≡ w → answer (rndf Field) rndf_lexis (length (lines_of text)) w ≡ read ts → Told (places_in text) ts
      go (stopped i n) w f = absurd (let z : ◌≡◌ {A = ℕ} 0 1 = ap answer-kind f in omega arith)
      go (through us q) w f = over-or-not (is_over (rndf Field) rndf_lexis q) us q w f

  -- as many starts as exits
  pub starts_as-many : (ts : List (Statement Field)) → read-rndf text ≡ read ts → length (exit-starts (places_in text) ts) ≡ length (of_kind exit ts)
  starts_as-many ts e = sym (length-map (exit-starts (places_in text) ts) entry-at) ∙ ap (λ (l : List PointId). length l) (entries-told ts e) ∙ length-map (of_kind exit ts) (λ v. v.entry)
