-- THE LAW of the numbers: what is found going forward is the law's line of the given text (`given_is`); and the lines that come out are the lines of the mended text, one for one and in order (`one_for-one`). Assumes nothing.
use mathlib.Core.Path.{◌≡◌, refl, sym, ap, subst, ◌∙◌}
use mathlib.Core.List.{List, [], ◌∷◌, ◌++◌, map}
use mathlib.Core.Bool.{Bool, true, false, ◌&&◌}
use Prim.Native.Nat.{ℕ, zero, suc, ◌+◌, ◌-◌, ◌≤◌, ◌<◌}
use native.Mathlib.Omega.{arith}
use native.Mathlib.Numerals.{add-one}
use lib.ListN.{length, take, drop, get_or}
use lib.Dec.{eqb}
use borrow.Author.Tests.{ne_eqb}
use Rattle.terms.specs.Words.{Bytes, pick}
use Rattle.scan.proofs.Reach.{reach_le}
use Rattle.scan.specs.Reach.{stops_by}
use Rattle.scan.specs.declared.Until.TheVariants.{Byte}
use Rattle.line.specs.Lines.{lines_of}
use Rattle.line.proofs.Cuts.{lines_at, lines_end}
use Rattle.law.specs.Tables.{gather}
use Rattle.mend_law.specs.Mend.{first_field, Change, change, LineChange, changes_from, changes, mended_text}
use Rattle.mend_lines.specs.declared.Before.{Before}
use Rattle.mend_lines.specs.declared.Becomes.{Becomes}
use Rattle.mend_lines.specs.declared.Becomes.TheVariants.{Stays, Goes, Recount}
use Rattle.mend_lines.specs.Forward.{none_before_of, change_of}
use Rattle.mend_lines.proofs.Steps.{Keeps, none-keeps}
use Rattle.mend_lines.proofs.Changes.{change-of, change-is, step_keeps}
use Rattle.mend_pieces.specs.Pieces.{lf_from, piece_of, lines_for, behind_line, mended_lines_of}
use Rattle.mend_told.proofs.Lines.{mended-lines}
use Rattle.mended_lines.specs.Given.{kept_number, kept_lines, given_line_of, kept_of, given_from}

-- ## How many are left to pass
pub left-kept : (left : ℕ) (k : Bool) → k ≡ true → left - 1 ≡ left - pick k 1 0
left-kept left k e = rw e refl

pub left-same : (left : ℕ) (k : Bool) → k ≡ false → left ≡ left - pick k 1 0
left-same left k e = rw e (let z : left ≡ left - 0 = omega arith in z)

-- ## At the line that starts at a place, up to e, its LF or the text's end
module _ (s : Bytes) (from e : ℕ) (h : from < length s) (q : e ≡ lf_from s from) where
  pub line-inside : (from ≤ e) × (e ≤ length s)
  line-inside = (omega arith, rw q (reach_le (stops_by (Byte 10)) s from (omega arith)))

  -- k: whether it comes out; b, d: what the lines before it, and up to it, have left
  module _ (b : Before) (k : Bool) (u : k ≡ kept_of (change_of b (take (e - from) (drop from s)) (lines_of (drop (e + 1) s)))) where
    given-at : (i left : ℕ) → given_from i left b (lines_of (drop from s)) ≡ pick (k && eqb left 0) i (given_from (i + 1) (left - pick k 1 0) (behind_line b (take (e - from) (drop from s))) (lines_of (drop (e + 1) s)))
    unfolding given_from
    given-at i left = rw (u, lines_at s from e h q, add-one i)

    pub found_here : (i left : ℕ) → (k && eqb left 0) ≡ true → given_from i left b (lines_of (drop from s)) ≡ i
    found_here i left t = given-at i left ∙ ap (λ (x : Bool). pick x i (given_from (i + 1) (left - pick k 1 0) (behind_line b (take (e - from) (drop from s))) (lines_of (drop (e + 1) s)))) t

    pub found-later : (i left : ℕ) → (k && eqb left 0) ≡ false → (d : Before) → d ≡ behind_line b (take (e - from) (drop from s)) → (less : ℕ) → less ≡ left - pick k 1 0 → given_from (i + 1) less d (lines_of (drop (e + 1) s)) ≡ given_from i left b (lines_of (drop from s))
    found-later i left t d w less v = rw (w, v) (sym (given-at i left ∙ ap (λ (x : Bool). pick x i (given_from (i + 1) (left - pick k 1 0) (behind_line b (take (e - from) (drop from s))) (lines_of (drop (e + 1) s)))) t))

pub found_none : (s : Bytes) (from : ℕ) → length s ≤ from → (i left : ℕ) (b : Before) → given_from i left b (lines_of (drop from s)) ≡ i
unfolding given_from
found_none s from h i left b = rw (lines_end s from h)

-- ## The law's
-- one line more: i its number, c what becomes of it, rest and d the numbers behind it and the one behind all
later-one : (i k d : ℕ) (rest : List ℕ) (later : ℕ → ℕ) → ((k : ℕ) → later k ≡ get_or rest k d) → pick (eqb (suc k) 0) i (later (suc k - 1)) ≡ get_or rest k d
later-one i k d rest later r =
    let n : eqb (suc k) 0 ≡ false = ne_eqb (suc k) 0 (λ (z : suc k ≡ 0). omega arith) in
    let e : suc k - 1 ≡ k = omega arith in
    ap (λ (x : Bool). pick x i (later (suc k - 1))) n ∙ ap later e ∙ r k

one_line : (i k d : ℕ) (l : Bytes) (c : Becomes) (rest : List ℕ) (later : ℕ → ℕ) → ((k : ℕ) → later k ≡ get_or rest k d) → pick (kept_of c && eqb k 0) i (later (k - pick (kept_of c) 1 0)) ≡ get_or (kept_number i (change-of l c) ++ rest) k d
unfolding kept_of
one_line i zero d l Stays rest later r = refl
one_line i (suc k) d l Stays rest later r = later-one i k d rest later r
one_line i k d l (Goes w) rest later r = ap later (let e : k - 0 ≡ k = omega arith in e) ∙ r k
one_line i zero d l (Recount start stop n) rest later r = refl
one_line i (suc k) d l (Recount start stop n) rest later r = later-one i k d rest later r

abbrev numbers : List LineChange → List ℕ
numbers cs = gather (λ (c : LineChange). kept_number c.line c.change) cs

found_from : (i k : ℕ) (before : List Bytes) (b : Before) (text : Bytes) (ls : List Bytes) → Keeps before b → given_from i k b ls ≡ get_or (numbers (changes_from i before text ls)) k (i + length ls)
unfolding given_from changes_from
found_from i k before b text [] h = omega arith
found_from i k before b text (l ∷ ls) h =
    let rest = numbers (changes_from (suc i) (first_field l ∷ before) (drop (suc (length l)) text) ls) in
    let r : (k : ℕ) → given_from (suc i) k (behind_line b l) ls ≡ get_or rest k (suc i + length ls) = λ k. found_from (suc i) k (first_field l ∷ before) (behind_line b l) (drop (suc (length l)) text) ls (step_keeps before b l ls h) in
    let e : suc i + length ls ≡ i + suc (length ls) = omega arith in
    one_line i k (suc i + length ls) l (change_of b l ls) rest (λ k. given_from (suc i) k (behind_line b l) ls) r
    ∙ ap (λ (c : Change). get_or (kept_number i c ++ rest) k (suc i + length ls)) (change-is before b l ls h)
    ∙ ap (get_or (kept_number i (change before l (map first_field ls)) ++ rest) k) e

-- of the line behind so many
pub given_is : (text : Bytes) (passed : ℕ) → given_from 1 passed none_before_of (lines_of text) ≡ get_or (kept_lines text) passed (suc (length (lines_of text)))
unfolding kept_lines
given_is text passed = found_from 1 passed [] none_before_of text (lines_of text) none-keeps ∙ ap (get_or (numbers (changes text)) passed) (let e : 1 + length (lines_of text) ≡ suc (length (lines_of text)) = omega arith in e)

pub given-some : (text : Bytes) (wanted : ℕ) → (wanted ≡ 0 → ⊥) → given_from 1 (wanted - 1) none_before_of (lines_of text) ≡ given_line_of text wanted
unfolding given_line_of
given-some text wanted n = rw (ne_eqb wanted 0 n) (given_is text (wanted - 1))

pub given-none : (text : Bytes) (wanted : ℕ) → wanted ≡ 0 → 0 ≡ given_line_of text wanted
unfolding given_line_of
given-none text wanted e = rw e refl

-- ## One for one and in order
-- a line that comes out: its number in the given text, and what comes out in its place
pub record Out : Type 0 where
  pub number : ℕ
  pub comes : Bytes

abbrev out_of : ℕ → Becomes → Bytes → List Out
out_of i Stays l = record { number = i; comes = l } ∷ []
out_of i (Goes k) l = []
out_of i (Recount start stop n) l = record { number = i; comes = piece_of (Recount start stop n) l } ∷ []

unfoldable outs : ℕ → Before → List Bytes → List Out
outs i b [] = []
outs i b (l ∷ ls) = out_of i (change_of b l ls) l ++ outs (suc i) (behind_line b l) ls

out-number : (i : ℕ) (l : Bytes) (c : Becomes) (more : List Out) (rest : List ℕ) → map (λ o. o.number) more ≡ rest → map (λ o. o.number) (out_of i c l ++ more) ≡ kept_number i (change-of l c) ++ rest
out-number i l Stays more rest e = ap (◌∷◌ i) e
out-number i l (Goes k) more rest e = e
out-number i l (Recount start stop n) more rest e = ap (◌∷◌ i) e

out_line : (i : ℕ) (l : Bytes) (c : Becomes) (more : List Out) (rest : List Bytes) → map (λ o. o.comes) more ≡ rest → map (λ o. o.comes) (out_of i c l ++ more) ≡ lines_for c l ++ rest
out_line i l Stays more rest e = ap (◌∷◌ l) e
out_line i l (Goes k) more rest e = e
out_line i l (Recount start stop n) more rest e = ap (◌∷◌ (piece_of (Recount start stop n) l)) e

outs-numbers : (i : ℕ) (before : List Bytes) (b : Before) (text : Bytes) (ls : List Bytes) → Keeps before b → map (λ o. o.number) (outs i b ls) ≡ numbers (changes_from i before text ls)
unfolding outs changes_from
outs-numbers i before b text [] h = refl
outs-numbers i before b text (l ∷ ls) h =
    let rest = numbers (changes_from (suc i) (first_field l ∷ before) (drop (suc (length l)) text) ls) in
    out-number i l (change_of b l ls) (outs (suc i) (behind_line b l) ls) rest (outs-numbers (suc i) (first_field l ∷ before) (behind_line b l) (drop (suc (length l)) text) ls (step_keeps before b l ls h))
    ∙ ap (λ (c : Change). kept_number i c ++ rest) (change-is before b l ls h)

outs-lines : (i : ℕ) (b : Before) (ls : List Bytes) → map (λ o. o.comes) (outs i b ls) ≡ mended_lines_of b ls
unfolding outs mended_lines_of
outs-lines i b [] = refl
outs-lines i b (l ∷ ls) = out_line i l (change_of b l ls) (outs (suc i) (behind_line b l) ls) (mended_lines_of (behind_line b l) ls) (outs-lines (suc i) (behind_line b l) ls)

-- their numbers are those of the law, and what comes out in their places are the lines of the mended text
pub one_for-one : (text : Bytes) → (all : List Out) × (map (λ o. o.number) all ≡ kept_lines text) × (map (λ o. o.comes) all ≡ lines_of (mended_text text))
unfolding kept_lines
one_for-one text = (outs 1 none_before_of (lines_of text), outs-numbers 1 [] none_before_of text (lines_of text) none-keeps, outs-lines 1 none_before_of (lines_of text) ∙ sym (mended-lines text))
