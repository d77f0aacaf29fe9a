-- Where the wanted line starts: a loop over the lines finds it, and it cuts the text into the lines before and the lines from there on. Assumes nothing.
use mathlib.Core.Path.{◌≡◌, refl, sym, ap, ◌∙◌}
use mathlib.Core.List.{List, [], ◌∷◌, ◌++◌}
use mathlib.Core.Bool.{Bool, true, false}
use Prim.Native.Nat.{ℕ, suc, ◌+◌, ◌-◌, ◌≤◌, ◌<◌}
use native.Mathlib.Omega.{arith}
use borrow.Author.Tests.{eq-eqb, ne_eqb}
use lib.Seq.{take_all, take-append-add, drop-append-add}
use lib.ListN.{length, take, drop, drop_of_length-le}
use lib.Dec.{eqb}
use Rattle.terms.specs.Ascii.{Bytes}
use Rattle.terms.specs.Words.{pick}
use Rattle.scan.specs.Reach.{reach, stops_by}
use Rattle.scan.specs.declared.Until.TheVariants.{Byte}
use Rattle.line.specs.Text.{lf, Cut, nothing, unfinished, line}
use Rattle.line.specs.Lines.{lines_of}
use Rattle.line.proofs.Cuts.{cut, cut-is, lines_at, next_start, lines_end}
use Rattle.column.specs.Before.{lines_before, lines_from, bytes_before}

-- ## The loop
-- where line w starts, found from a place of the text on, where line i starts
abbrev pub start_from : Bytes → (from i w : ℕ) → ℕ
start_from s from i w = from + bytes_before i w (lines_of (drop from s))

pub at-end : (s : Bytes) (from : ℕ) → length s ≤ from → (i w : ℕ) → start_from s from i w ≡ from
unfolding bytes_before
at-end s from h i w = rw (lines_end s from h) (omega arith)

module _ (s : Bytes) (from e : ℕ) (h : from < length s) (q : e ≡ reach (stops_by (Byte 10)) s from) (i w : ℕ) where
  pub this-line : i ≡ w → start_from s from i w ≡ from
  unfolding bytes_before
  this-line z = rw (lines_at s from e h q, eq-eqb i w z) (omega arith)

  pub other-line : (i ≡ w → ⊥) → start_from s from i w ≡ start_from s (e + 1) (i + 1) w
  unfolding bytes_before
  other-line m =
      let l = take (e - from) (drop from s) in
      let k : suc i ≡ i + 1 = omega arith in
      let step : start_from s from i w ≡ from + (suc (length l) + bytes_before (i + 1) w (lines_of (drop (e + 1) s))) = rw (lines_at s from e h q, ne_eqb i w m, k) refl in
      step ∙ omega (arith, next_start s from e h q)

-- ## The cut
-- of a line that is not the wanted one
module _ (l t : Bytes) (k : ℕ) where
  take_on : take (suc (length l) + k) (l ++ (lf ∷ t)) ≡ l ++ (lf ∷ take k t)
  take_on = let z : suc (length l) + k ≡ length l + suc k = omega arith in rw z (take-append-add l (lf ∷ t) (suc k))

  drop-on : drop (suc (length l) + k) (l ++ (lf ∷ t)) ≡ drop k t
  drop-on = let z : suc (length l) + k ≡ length l + suc k = omega arith in rw z (drop-append-add l (lf ∷ t) (suc k))

pub cut-before : {t : Bytes} {ls : List Bytes} → Cut t ls → (j i : ℕ) → Cut (take (bytes_before j i ls) t) (lines_before j i ls)
unfolding bytes_before lines_before
cut-before nothing j i = nothing
cut-before (unfinished {b = b} {l = l} h) j i = go (eqb j i)
  where
    go : (x : Bool) → Cut (take (pick x 0 (suc (length (b ∷ l)) + 0)) (b ∷ l)) (pick x [] ((b ∷ l) ∷ []))
    go true = nothing
    go false = rw (take_all (suc (length (b ∷ l)) + 0) (b ∷ l) (omega arith)) (unfinished h)
cut-before (line {l = l} {text = t} {lines = ls} h c) j i = go (eqb j i) (cut-before c (suc j) i)
  where
    go : (x : Bool) → Cut (take (bytes_before (suc j) i ls) t) (lines_before (suc j) i ls) → Cut (take (pick x 0 (suc (length l) + bytes_before (suc j) i ls)) (l ++ (lf ∷ t))) (pick x [] (l ∷ lines_before (suc j) i ls))
    go true d = nothing
    go false d = rw (take_on l t (bytes_before (suc j) i ls)) (line h d)

pub cut-from : {t : Bytes} {ls : List Bytes} → Cut t ls → (j i : ℕ) → Cut (drop (bytes_before j i ls) t) (lines_from j i ls)
unfolding bytes_before lines_from
cut-from nothing j i = nothing
cut-from (unfinished {b = b} {l = l} h) j i = go (eqb j i)
  where
    go : (x : Bool) → Cut (drop (pick x 0 (suc (length (b ∷ l)) + 0)) (b ∷ l)) (pick x ((b ∷ l) ∷ []) [])
    go true = unfinished h
    go false = let z : length (b ∷ l) ≤ suc (length (b ∷ l)) + 0 = omega arith in rw (drop_of_length-le (b ∷ l) z) nothing
cut-from (line {l = l} {text = t} {lines = ls} h c) j i = go (eqb j i) (cut-from c (suc j) i)
  where
    go : (x : Bool) → Cut (drop (bytes_before (suc j) i ls) t) (lines_from (suc j) i ls) → Cut (drop (pick x 0 (suc (length l) + bytes_before (suc j) i ls)) (l ++ (lf ∷ t))) (pick x (l ∷ ls) (lines_from (suc j) i ls))
    go true d = line h c
    go false d = rw (drop-on l t (bytes_before (suc j) i ls)) d

module _ (s : Bytes) (w from : ℕ) (starts : from ≡ bytes_before 1 w (lines_of s)) where
  pub lines-before : lines_before 1 w (lines_of s) ≡ lines_of (take from s)
  lines-before = sym (ap (λ (k : ℕ). lines_of (take k s)) starts ∙ cut-is (cut-before (cut s) 1 w))

  pub lines-from : lines_from 1 w (lines_of s) ≡ lines_of (drop from s)
  lines-from = sym (ap (λ (k : ℕ). lines_of (drop k s)) starts ∙ cut-is (cut-from (cut s) 1 w))
