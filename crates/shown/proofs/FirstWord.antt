-- The first word of a text, line by line. Assumes nothing.
use mathlib.Core.Path.{◌≡◌, refl, sym, ap, ◌∙◌}
use mathlib.Core.Bool.{Bool, true, false}
use mathlib.Core.List.{List, [], ◌∷◌}
use Prim.Native.Nat.{ℕ, ◌+◌, ◌-◌, ◌≤◌, ◌<◌}
use native.Mathlib.Omega.{arith}
use lib.ListN.{length, take, drop}
use borrow.Author.Tests.{lt-ltb, le-ltb, ltb-false}
use Rattle.terms.specs.Ascii.{Bytes}
use Rattle.terms.specs.Words.{pick}
use Rattle.scan.specs.Reach.{up_to, reach, stops_by}
use Rattle.scan.specs.declared.Until.TheVariants.{Byte, Separator, NotSeparator}
use Rattle.line.specs.Text.{lf}
use Rattle.line.specs.Lines.{lines_of, drop_cr, trim_of}
use Rattle.line.specs.Forms.{opens, outer_of, fields_at, span_at_of, filled, count_of, fields_in_of, listed, part}
use Rattle.line.proofs.Cuts.{lines_at, lines_end}
use Rattle.line.proofs.Comments.{outer-at}
use Rattle.line.proofs.Ends.{trim-take}
use Rattle.line.proofs.Spans.{fields-listed}
use Rattle.shown.specs.Shown.{first_bytes, word_in, first_word}

-- ## Of a line
-- the first stretch between separators is the first field, or empty where there is none
first_field : (s : Bytes) → part s (span_at_of s 0) ≡ first_bytes (fields_at 0 s)
unfolding fields_in_of count_of
first_field s = sym (ap first_bytes (fields-listed 0 s) ∙ go (filled (fields_in_of s).a) (filled (fields_in_of s).b) (filled (fields_in_of s).c) (filled (span_at_of s (fields_in_of s).c.stop)) refl)
  where
    go : (x y z w : Bool) → filled (span_at_of s 0) ≡ x → first_bytes (listed 0 s (fields_in_of s) (pick x (pick y (pick z (pick w 4 3) 2) 1) 0)) ≡ part s (span_at_of s 0)
    go true true true true e = refl
    go true true true false e = refl
    go true true false w e = refl
    go true false z w e = refl
    go false y z w e =
        let h = ltb-false (span_at_of s 0).start (span_at_of s 0).stop e in
        let none : 0 ≡ (span_at_of s 0).stop - (span_at_of s 0).start = omega arith in
        ap (λ (k : ℕ). take k (drop (span_at_of s 0).start s)) none

pub line_word : (line content s : Bytes) (t mark start stop : ℕ) → t ≡ trim_of line → content ≡ take t line → mark ≡ reach opens content 0 → s ≡ take mark content
    → start ≡ reach (stops_by NotSeparator) s 0 → stop ≡ reach (stops_by Separator) s start → take (stop - start) (drop start s) ≡ word_in line
unfolding word_in span_at_of
line_word line content s t mark start stop et ec em es ea eb =
    let c : content ≡ drop_cr line = ec ∙ ap (λ (n : ℕ). take n line) et ∙ trim-take line in
    let m : mark ≡ up_to opens content = omega (arith, em) in
    let o : s ≡ outer_of (drop_cr line) = es ∙ ap (λ (n : ℕ). take n content) m ∙ sym (outer-at content) ∙ ap outer_of c in
    rw (eb, ea) (ap (λ (x : Bytes). part x (span_at_of x 0)) o ∙ first_field (outer_of (drop_cr line)))

-- ## Of lines
module _ (l : Bytes) (lines : List Bytes) where
  this-line : 0 < length (word_in l) → first_word (l ∷ lines) ≡ word_in l
  unfolding first_word
  this-line h = rw (lt-ltb 0 (length (word_in l)) h)

  next-line : length (word_in l) ≤ 0 → first_word (l ∷ lines) ≡ first_word lines
  unfolding first_word
  next-line h = rw (le-ltb 0 (length (word_in l)) h)

-- the line that begins at `from` and ends at e; w is the first word of the whole text
module _ (text w : Bytes) (from e : ℕ) (h : from < length text) (q : e ≡ reach (stops_by (Byte lf)) text from) (inv : first_word (lines_of (drop from text)) ≡ w) where
  pub has_word : 0 < length (word_in (take (e - from) (drop from text))) → word_in (take (e - from) (drop from text)) ≡ w
  has_word k = sym (ap first_word (lines_at text from e h q) ∙ this-line _ _ k) ∙ inv

  pub no_word : length (word_in (take (e - from) (drop from text))) ≤ 0 → first_word (lines_of (drop (e + 1) text)) ≡ w
  no_word k = sym (ap first_word (lines_at text from e h q) ∙ next-line _ _ k) ∙ inv

pub no_line : (text w : Bytes) (from : ℕ) → length text ≤ from → first_word (lines_of (drop from text)) ≡ w → [] ≡ w
unfolding first_word
no_line text w from h inv = sym (ap first_word (lines_end text from h)) ∙ inv
