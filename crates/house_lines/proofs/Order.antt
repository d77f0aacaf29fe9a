-- How lines are put: one line from its fields; one line more in a pass, and in the whole. Assumes nothing.
use mathlib.Core.Path.{◌≡◌, refl, sym, ap, ◌∙◌}
use mathlib.Core.List.{List, [], ◌∷◌, ◌++◌, map, append_assoc, append-nil}
use mathlib.Core.Logic.{◌⊎◌, inl, inr}
use mathlib.Core.Bool.{Bool, true, false}
use Prim.Native.Nat.{ℕ, ◌+◌, ◌-◌, ◌≤◌, ◌<◌}
use native.Mathlib.Omega.{arith}
use borrow.Author.Tests.{ltb-true, ltb-false, eq-eqb, ne_eqb, eqb-true, eqb-false}
use lib.ListN.{length, take, drop}
use lib.Dec.{eqb, ltb}
use Rattle.terms.specs.Ascii.{Bytes, ascii}
use Rattle.terms.specs.Words.{pick}
use Rattle.terms.proofs.Tests.{clash}
use Rattle.scan.specs.Reach.{reach, stops_by}
use Rattle.scan.specs.declared.Until.TheVariants.{Byte}
use Rattle.line.specs.Forms.{part}
use Rattle.line.specs.declared.Fields.{Fields}
use Rattle.line.proofs.Cuts.{lines_at, lines_end}
use Rattle.word.specs.Number.{digit_first}
use Rattle.grammar.specs.Tables.{gather}
use Rattle.text.specs.HouseLine.{tabbed}
use Rattle.fill.proofs.RowLaws.{gather_append}
use Rattle.output.specs.Pen.{Pen, put, Wrote}
use Rattle.output.proofs.Writing.{◌then◌}
use Rattle.house_lines.specs.Arranged.{fields_on_of, onto_spoken, spoken, rank_of, pass, passes, staying, arranged, mend, mended, line_of}
use Rattle.house_lines.specs.Said.{said_on_of, mends, mend_if, behind_tab, parts_of, spoken_from, left_over_of, due, fresh_after_of}
use Rattle.house_lines.specs.declared.Said.{Said}
use Rattle.house_lines.proofs.Heard.{Blank, Spoken, heard}

-- ## A run of puts, from its end
-- what is put first may be left out of what is still to put
pub onward : {p q : Pen} {x : Bytes} (y : Bytes) → Wrote p x q → put p (x ++ y) ≡ put q y
onward {p} {q} y w = (w then record { is = refl }).is

-- so a loop keeps that what is still to put, from where the pen is, leaves what the whole leaves from where it was
pub goes_on : (p : Pen) (x z : Bytes) {q t : Pen} {y w : Bytes} → put q y ≡ put p x → y ≡ w ++ z → Wrote q w t → put t z ≡ put p x
goes_on p x z {q} i e u = sym (onward z u) ∙ ap (put q) (sym e) ∙ i

-- and where nothing is left, the whole was put
pub is-over : {p q : Pen} {x y : Bytes} → put q y ≡ put p x → y ≡ [] → Wrote p x q
unfolding put
is-over {p} {q} i e = record { is = sym i ∙ ap (put q) e }

-- ## One line
abbrev tab : Bytes
tab = ascii "\t"

joined : (a b c : Bytes) (x y : Bool) → (x ≡ false → y ≡ false) → (a ++ pick x (tab ++ b) []) ++ pick y (tab ++ c) [] ≡ tabbed (a ∷ pick x (b ∷ pick y (c ∷ []) []) [])
unfolding tabbed
joined a b c true true h = append_assoc a (tab ++ b) (tab ++ c) ∙ ap (◌++◌ a) (append_assoc tab b (tab ++ c))
joined a b c true false h = append-nil (a ++ (tab ++ b))
joined a b c false true h = clash (h refl)
joined a b c false false h = append-nil (a ++ []) ∙ append-nil a

mended-each : (d : Bool) (a b c : Bytes) (x y : Bool)
    → mend_if d a ∷ pick x (mend_if d b ∷ pick y (mend_if d c ∷ []) []) [] ≡ pick d (map mend (a ∷ pick x (b ∷ pick y (c ∷ []) []) [])) (a ∷ pick x (b ∷ pick y (c ∷ []) []) [])
unfolding mend_if mends mend
mended-each true a b c true true = refl
mended-each true a b c true false = refl
mended-each true a b c false y = refl
mended-each false a b c true true = refl
mended-each false a b c true false = refl
mended-each false a b c false y = refl

-- the fields of a line, one behind the other, and LF
module _ (s : Bytes) (f : Fields) where
  unless : ltb 1 f.count ≡ false → ltb 2 f.count ≡ false
  unless e = go (ltb 2 f.count) refl
    where
      go : (x : Bool) → ltb 2 f.count ≡ x → x ≡ false
      go false q = refl
      go true q = absurd (omega (arith, ltb-false 1 f.count e, ltb-true 2 f.count q))

  pub line-put : (d : Bool) → d ≡ digit_first (part s f.a)
      → mend_if d (part s f.a) ++ behind_tab (ltb 1 f.count) d (part s f.b) ++ behind_tab (ltb 2 f.count) d (part s f.c) ++ ascii "\n" ≡ line_of (parts_of s f)
  unfolding behind_tab line_of mended parts_of
  line-put d e =
      let a = part s f.a in
      let b = part s f.b in
      let c = part s f.c in
      let x = ltb 1 f.count in
      let y = ltb 2 f.count in
      rw (← e) (ap (λ (l : Bytes). l ++ ascii "\n") (joined (mend_if d a) (mend_if d b) (mend_if d c) x y unless ∙ ap tabbed (mended-each d a b c x y)))

-- ## Lines
module _ (s : Bytes) (from e : ℕ) (h : from < length s) (q : e ≡ reach (stops_by (Byte 10)) s from) where
  pub spoken-at : spoken_from s from ≡ onto_spoken (fields_on_of (take (e - from) (drop from s))) (spoken_from s (e + 1))
  unfolding spoken_from spoken
  spoken-at = ap spoken (lines_at s from e h q)

pub spoken-end : (s : Bytes) (from : ℕ) → length s ≤ from → spoken_from s from ≡ []
unfolding spoken_from spoken
spoken-end s from h = ap spoken (lines_end s from h)

-- ## One statement more
pass-stays : (k : ℕ) (x : List Bytes) (l : List (List Bytes)) → rank_of x ≡ 0 → pass k (x ∷ l) ≡ []
unfolding pass
pass-stays k x l e = rw (eq-eqb (rank_of x) 0 e)

pass-more : (k : ℕ) (x : List Bytes) (l : List (List Bytes)) → (rank_of x ≡ 0 → ⊥) → gather line_of (pass k (x ∷ l)) ≡ pick (eqb (rank_of x) k) (line_of x) [] ++ gather line_of (pass k l)
unfolding pass
pass-more k x l n = rw (ne_eqb (rank_of x) 0 n) (go (eqb (rank_of x) k))
  where
    go : (b : Bool) → gather line_of (pick b (x ∷ pass k l) (pass k l)) ≡ pick b (line_of x) [] ++ gather line_of (pass k l)
    go true = refl
    go false = refl

-- before a statement that stays no option is left
passes-stays : (x : List Bytes) (l : List (List Bytes)) → rank_of x ≡ 0 → passes (x ∷ l) ≡ []
unfolding passes
passes-stays x l e = rw (pass-stays 1 x l e, pass-stays 2 x l e, pass-stays 3 x l e, pass-stays 4 x l e, pass-stays 5 x l e, pass-stays 6 x l e)

left-stays : (fresh : Bool) (x : List Bytes) (l : List (List Bytes)) → rank_of x ≡ 0 → left_over_of fresh (x ∷ l) ≡ x ∷ left_over_of true l
unfolding left_over_of arranged
left-stays fresh x l e = go fresh
  where
    here : staying (x ∷ l) ≡ x ∷ (passes l ++ staying l)
    here = unfold staying in rw (eq-eqb (rank_of x) 0 e)

    go : (fresh : Bool) → left_over_of fresh (x ∷ l) ≡ x ∷ (passes l ++ staying l)
    go true = ap (λ (m : List (List Bytes)). m ++ staying (x ∷ l)) (passes-stays x l e) ∙ here
    go false = here

-- a run of options is put whole, at its first
left-option : (fresh : Bool) (x : List Bytes) (l : List (List Bytes)) → (rank_of x ≡ 0 → ⊥) → left_over_of fresh (x ∷ l) ≡ pick fresh (passes (x ∷ l)) [] ++ left_over_of false l
unfolding left_over_of arranged
left-option fresh x l n = go fresh
  where
    here : staying (x ∷ l) ≡ staying l
    here = unfold staying in rw (ne_eqb (rank_of x) 0 n)

    go : (fresh : Bool) → left_over_of fresh (x ∷ l) ≡ pick fresh (passes (x ∷ l)) [] ++ staying l
    go true = ap (◌++◌ (passes (x ∷ l))) here
    go false = here

pub left-none : (fresh : Bool) → left_over_of fresh [] ≡ []
unfolding left_over_of arranged passes pass staying
left-none true = refl
left-none false = refl

-- ## One line more
onto_parts : (s : Bytes) (f : Fields) (l : List (List Bytes)) → onto_spoken (parts_of s f) l ≡ parts_of s f ∷ l
unfolding parts_of
onto_parts s f l = refl

module _ (s : Bytes) (from e : ℕ) (h : from < length s) (q : e ≡ reach (stops_by (Byte 10)) s from) where
  abbrev line : Bytes
  line = take (e - from) (drop from s)

  abbrev parts : List Bytes
  parts = parts_of line (said_on_of line).fields

  abbrev rank : ℕ
  rank = (said_on_of line).rank

  abbrev here : List (List Bytes)
  here = spoken_from s from

  abbrev next : List (List Bytes)
  next = spoken_from s (e + 1)

  blank-next : Blank line → here ≡ next
  blank-next b = spoken-at s from e h q ∙ ap (λ (x : List Bytes). onto_spoken x next) b.0

  said-next : Spoken line → here ≡ parts ∷ next
  said-next x = spoken-at s from e h q ∙ ap (λ (x : List Bytes). onto_spoken x next) x.0 ∙ onto_parts line (said_on_of line).fields next

  -- a pass ends at a line that stays
  pub pass-ends : (k : ℕ) → rank ≡ 0 → gather line_of (pass k here) ≡ []
  pass-ends k z = go (heard line)
    where
      go : Blank line ⊎ Spoken line → gather line_of (pass k here) ≡ []
      go (inl b) = absurd (omega (arith, b.1, z))
      go (inr x) = ap (λ (l : List (List Bytes)). gather line_of (pass k l)) (said-next x) ∙ ap (gather line_of) (pass-stays k parts next (sym x.1 ∙ z))

  -- and else goes on
  pub pass-goes : (k : ℕ) → k < 7 → (rank ≡ 0 → ⊥) → gather line_of (pass k here) ≡ pick (eqb rank k) (line_of parts) [] ++ gather line_of (pass k next)
  pass-goes k low n = go (heard line)
    where
      go : Blank line ⊎ Spoken line → gather line_of (pass k here) ≡ pick (eqb rank k) (line_of parts) [] ++ gather line_of (pass k next)
      go (inl b) =
          let m : rank ≡ k → ⊥ = λ z. omega (arith, b.1, z, low) in
          ap (λ (l : List (List Bytes)). gather line_of (pass k l)) (blank-next b) ∙ rw (ne_eqb rank k m)
      go (inr x) =
          ap (λ (l : List (List Bytes)). gather line_of (pass k l)) (said-next x) ∙ pass-more k parts next (λ z. n (x.1 ∙ z)) ∙ ap (λ (r : ℕ). pick (eqb r k) (line_of parts) [] ++ gather line_of (pass k next)) (sym x.1)

  -- the whole: the line, if it stays; the run, if it is the first option of one; and what is left behind it
  pub left-goes : (fresh : Bool) → gather line_of (left_over_of fresh here)
      ≡ pick (eqb rank 0) (line_of parts) [] ++ (pick (due rank fresh) (gather line_of (passes here)) [] ++ gather line_of (left_over_of (fresh_after_of rank fresh) next))
  unfolding due fresh_after_of
  left-goes fresh = go (heard line)
    where
      Goal : Type 0
      Goal = gather line_of (left_over_of fresh here) ≡ pick (eqb rank 0) (line_of parts) [] ++ (pick (due rank fresh) (gather line_of (passes here)) [] ++ gather line_of (left_over_of (fresh_after_of rank fresh) next))

      stays : Spoken line → rank ≡ 0 → Goal
      stays x z = rw (eq-eqb rank 0 z) (ap (λ (l : List (List Bytes)). gather line_of (left_over_of fresh l)) (said-next x) ∙ ap (gather line_of) (left-stays fresh parts next (sym x.1 ∙ z)))

      run : (b : Bool) → gather line_of (pick b (passes here) []) ≡ pick b (gather line_of (passes here)) []
      run true = refl
      run false = refl

      option : Spoken line → (rank ≡ 0 → ⊥) → Goal
      option x n =
          let m : rank ≡ 8 → ⊥ = λ z. omega (arith, x.2, z) in
          let a : left_over_of fresh here ≡ pick fresh (passes here) [] ++ left_over_of false next = rw (said-next x) (left-option fresh parts next (λ z. n (x.1 ∙ z))) in
          rw (ne_eqb rank 0 n, ne_eqb rank 8 m) (ap (gather line_of) a ∙ gather_append line_of (pick fresh (passes here) []) (left_over_of false next) ∙ ap (λ (l : Bytes). l ++ gather line_of (left_over_of false next)) (run fresh))

      by : Spoken line → (b : Bool) → eqb rank 0 ≡ b → Goal
      by x true z = stays x (eqb-true rank 0 z)
      by x false z = option x (eqb-false rank 0 z)

      go : Blank line ⊎ Spoken line → Goal
      go (inl b) = rw b.1 (ap (λ (l : List (List Bytes)). gather line_of (left_over_of fresh l)) (blank-next b))
      go (inr x) = by x (eqb rank 0) refl

  -- the same of what the program has: a line's answer, whether a run is due, and whether one may come
  pub pass_step : (k : ℕ) → k < 7 → (r : Said) → r ≡ said_on_of line → (r.rank ≡ 0 → ⊥) → gather line_of (pass k here) ≡ pick (eqb r.rank k) (line_of (parts_of line r.fields)) [] ++ gather line_of (pass k next)
  pass_step k low r t n = rw t (pass-goes k low (λ z. n (ap (λ (r : Said). r.rank) t ∙ z)))

  pub house-step : (r : Said) → r ≡ said_on_of line → (fresh is-due after : Bool) → is-due ≡ due r.rank fresh → after ≡ fresh_after_of r.rank fresh
      → gather line_of (left_over_of fresh here) ≡ pick (eqb r.rank 0) (line_of (parts_of line r.fields)) [] ++ (pick is-due (gather line_of (passes here)) [] ++ gather line_of (left_over_of after next))
  house-step r t fresh is-due after d a = rw (d, a, t) (left-goes fresh)

-- ## At the end of the text
module _ (s : Bytes) (from : ℕ) (h : length s ≤ from) where
  pub pass-over : (k : ℕ) → gather line_of (pass k (spoken_from s from)) ≡ []
  unfolding pass
  pass-over k = ap (λ (l : List (List Bytes)). gather line_of (pass k l)) (spoken-end s from h)

  pub house-over : (fresh : Bool) → gather line_of (left_over_of fresh (spoken_from s from)) ≡ []
  house-over fresh = ap (λ (l : List (List Bytes)). gather line_of (left_over_of fresh l)) (spoken-end s from h) ∙ ap (gather line_of) (left-none fresh)

-- ## The six passes
pub six : (l : List (List Bytes))
    → gather line_of (pass 1 l) ++ gather line_of (pass 2 l) ++ gather line_of (pass 3 l) ++ gather line_of (pass 4 l) ++ gather line_of (pass 5 l) ++ gather line_of (pass 6 l) ≡ gather line_of (passes l)
unfolding passes
six l = sym (go (pass 1 l) (pass 2 l) (pass 3 l) (pass 4 l) (pass 5 l) (pass 6 l))
  where
    g : List (List Bytes) → Bytes
    g = gather line_of

    go : (a b c d e f : List (List Bytes)) → g (a ++ (b ++ (c ++ (d ++ (e ++ f))))) ≡ g a ++ g b ++ g c ++ g d ++ g e ++ g f
    go a b c d e f =
        ap g (sym (append_assoc a b (c ++ (d ++ (e ++ f)))) ∙ sym (append_assoc (a ++ b) c (d ++ (e ++ f))) ∙ sym (append_assoc (a ++ b ++ c) d (e ++ f)) ∙ sym (append_assoc (a ++ b ++ c ++ d) e f))
        ∙ gather_append line_of (a ++ b ++ c ++ d ++ e) f
        ∙ ap (λ (x : Bytes). x ++ g f) (gather_append line_of (a ++ b ++ c ++ d) e)
        ∙ ap (λ (x : Bytes). x ++ g e ++ g f) (gather_append line_of (a ++ b ++ c) d)
        ∙ ap (λ (x : Bytes). x ++ g d ++ g e ++ g f) (gather_append line_of (a ++ b) c)
        ∙ ap (λ (x : Bytes). x ++ g c ++ g d ++ g e ++ g f) (gather_append line_of a b)
