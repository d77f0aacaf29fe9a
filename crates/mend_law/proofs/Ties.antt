-- The tool's lines are those that document 01 cuts (`lines_cut`), each with the LF that stands behind it (`whole-line`, `whole-last`), and one behind the other they are the text (`whole`); the fields of a good line are those
-- that document 01 says (`fields-good`), and of two fields the second stands in its line (`second-stands`). Assumes nothing.
use mathlib.Core.Path.{◌≡◌, refl, sym, ap, subst, ◌∙◌}
use mathlib.Core.List.{append_assoc, append-nil}
use mathlib.Core.Bool.{Bool, true, false}
use mathlib.Core.Logic.{◌⊎◌, inl, inr}
use native.Mathlib.Omega.{arith}
use lib.ListN.{length-append, length-drop, take-append-drop}
use borrow.Author.Tests.{leb-true, leb-false}
use lib.Dec.{leb}
use lib.Seq.{take_all, take-append-le, drop-append-le, take-take, length-take-le, take-append-add, drop-append-add}
use Rattle.terms.specs.Words.{List, [], ◌∷◌, ◌++◌, ℕ, suc, ◌+◌, ◌-◌, ◌≤◌, ◌<◌, length, take, drop, Bytes}
use Rattle.scan.proofs.Reach.{up_to_le}
use Rattle.line.specs.Line.{lf, Cut, nothing, unfinished, line, Ended, Field}
use Rattle.line.specs.Lines.{lines_of, drop_cr, trim_of}
use Rattle.line.specs.Content.{Content}
use Rattle.line.specs.Forms.{outer_of, fields_at, fields_in_of, field_in, listed, opens}
use Rattle.line.proofs.Cuts.{cut, cut-is}
use Rattle.line.proofs.Ends.{ended_is, trim-take, trim_le}
use Rattle.line.proofs.Comments.{outer-at}
use Rattle.line.proofs.Contents.{content-fields}
use Rattle.line.proofs.Spans.{fields_within, fields-listed, count-le, count_exact, count-more}
use Rattle.law.specs.Tables.{gather}
use Rattle.find_line.specs.FoundLines.{fields_end_of}
use Rattle.mend_law.specs.Mend.{fields, LineChange, changes_from, changes}

-- ## Lines
pub lines_cut : {text : Bytes} {lines : List Bytes} → Cut text lines → changes text ≡ changes_from 1 [] text lines
lines_cut {text} c = ap (changes_from 1 [] text) (cut-is c)

module _ (l text : Bytes) where
  one_more : suc (length l) ≡ length l + 1
  one_more = omega arith

  pub whole-line : take (suc (length l)) (l ++ (lf ∷ text)) ≡ l ++ (lf ∷ [])
  whole-line = rw one_more (take-append-add l (lf ∷ text) 1)

  pub line-left : drop (suc (length l)) (l ++ (lf ∷ text)) ≡ text
  line-left = rw one_more (drop-append-add l (lf ∷ text) 1)

pub whole-last : (l : Bytes) → take (suc (length l)) l ≡ l
whole-last l = take_all (suc (length l)) l (omega arith)

whole_from : {text : Bytes} {lines : List Bytes} (i : ℕ) (before : List Bytes) → Cut text lines → gather (λ c. c.whole) (changes_from i before text lines) ≡ text
unfolding changes_from
whole_from i before nothing = refl
whole_from i before (unfinished {b = b} {l = l} h) = ap (λ (t : Bytes). t ++ []) (whole-last (b ∷ l)) ∙ append-nil (b ∷ l)
whole_from i before (line {l = l} {text = text} {lines = lines} h c) = rw (whole-line l text, line-left l text, whole_from (suc i) _ c) (append_assoc l (lf ∷ []) text)

pub whole : (text : Bytes) → gather (λ c. c.whole) (changes text) ≡ text
whole text = whole_from 1 [] (cut text)

-- ## Fields
pub fields-good : {l c : Bytes} {fs : List Field} → Ended l c → Content 0 c fs → fields l ≡ fs
fields-good e h = ap (λ (c : Bytes). fields_at 0 (outer_of c)) (ended_is e) ∙ content-fields h

-- they stand in the line's beginning, up to where its fields end
pub outer-take : (l : Bytes) → outer_of (drop_cr l) ≡ take (fields_end_of l) l
unfolding fields_end_of
outer-take l = ap outer_of (sym (trim-take l)) ∙ outer-at (take (trim_of l) l) ∙ take-take (fields_end_of l) (trim_of l) l (omega (arith, up_to_le opens (take (trim_of l) l), length-take-le (trim_of l) l (trim_le l)))

-- ## The second of two fields
-- as the program finds them
pub two-found : (s : Bytes) (w f : Field) → fields_at 0 s ≡ w ∷ f ∷ [] → ((fields_in_of s).count ≡ 2) × (w ≡ field_in 0 s (fields_in_of s).a) × (f ≡ field_in 0 s (fields_in_of s).b)
two-found s w f e = (two, cc (both), cc (both))
  where
    few : (k : ℕ) → (fields_in_of s).count ≡ k → k ≤ 4 → k ≡ 2
    few k q h = go (leb k 3) refl
      where
        go : (x : Bool) → leb k 3 ≡ x → k ≡ 2
        go true z = let n = count_exact 0 s (omega (arith, q, leb-true k 3 z)) in omega (arith, q, n, ap length e)
        go false z = let n = count-more 0 s (omega (arith, q, h, leb-false k 3 z)) in absurd (omega (arith, n, ap length e))

    two : (fields_in_of s).count ≡ 2
    two = few (fields_in_of s).count refl (count-le s)

    both : w ∷ f ∷ [] ≡ field_in 0 s (fields_in_of s).a ∷ field_in 0 s (fields_in_of s).b ∷ []
    both = sym e ∙ fields-listed 0 s ∙ ap (listed 0 s (fields_in_of s)) two

-- a field stands in a line
pub record Stands (l : Bytes) (f : Field) : Type 0 where
  pub inside : f.start + length f.bytes ≤ length l
  pub is : take (length f.bytes) (drop f.start l) ≡ f.bytes

-- what stands in s stands in what s begins
pub stands-longer : (s r : Bytes) (f : Field) → Stands s f → Stands (s ++ r) f
stands-longer s r f h = record {
  inside = simp length-append (omega (arith, h.inside));
  is = rw (drop-append-le f.start s r (omega (arith, h.inside))) (take-append-le (length f.bytes) (drop f.start s) r (omega (arith, length-drop f.start s, h.inside))) ∙ h.is;
}

pub second-stands : (l : Bytes) (w f : Field) → fields l ≡ w ∷ f ∷ [] → Stands l f
second-stands l w f e =
    let s = outer_of (drop_cr l) in
    let t = two-found s w f e in
    let b = (fields_in_of s).b in
    let i = (fields_within s).second in
    let n : length (take (b.stop - b.start) (drop b.start s)) ≡ b.stop - b.start = length-take-le (b.stop - b.start) (drop b.start s) (omega (arith, length-drop b.start s, i.order, i.inside)) in
    let z : 0 + b.start ≡ b.start = omega arith in
    let here : Stands s (field_in 0 s b) = record { inside = rw n (omega (arith, i.order, i.inside)); is = rw (z, n) refl } in
    let there : Stands (take (fields_end_of l) l ++ drop (fields_end_of l) l) f = stands-longer (take (fields_end_of l) l) (drop (fields_end_of l) l) f (subst (λ (x : Bytes). Stands x f) (outer-take l) (subst (λ (g : Field). Stands s g) (sym t.2) here)) in
    subst (λ (x : Bytes). Stands x f) (take-append-drop (fields_end_of l) l) there

-- ## Lines with their LF
abbrev pub Wholes : (text : Bytes) (lines : List Bytes) → Type 0
Wholes text [] = Unit {0}
Wholes text (l ∷ lines) = (0 < length (take (suc (length l)) text)) × ((take (suc (length l)) text ≡ l) ⊎ (take (suc (length l)) text ≡ l ++ (lf ∷ []))) × Wholes (drop (suc (length l)) text) lines

pub wholes : {text : Bytes} {lines : List Bytes} → Cut text lines → Wholes text lines
wholes nothing = tt
wholes (unfinished {b = b} {l = l} h) = (subst (λ (t : Bytes). 0 < length t) (sym (whole-last (b ∷ l))) (omega arith), inl (whole-last (b ∷ l)), tt)
wholes (line {l = l} {text = text} {lines = lines} h c) = (subst (λ (t : Bytes). 0 < length t) (sym (whole-line l text)) (simp length-append (omega arith)), inr (whole-line l text), subst (λ (t : Bytes). Wholes t lines) (sym (line-left l text)) (wholes c))
