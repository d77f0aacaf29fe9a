-- The lines of a text from one of them on. Assumes nothing.
use mathlib.Core.Path.{◌≡◌, refl, sym, ap, ◌∙◌}
use mathlib.Core.List.{List, [], ◌∷◌}
use Prim.Native.Nat.{ℕ, zero, suc, ◌+◌, ◌-◌, ◌≤◌, ◌<◌}
use native.Mathlib.Omega.{arith}
use lib.ListN.{length, take, drop, get_or}
use Rattle.terms.specs.Ascii.{Bytes}
use Rattle.scan.specs.Reach.{reach, stops_by}
use Rattle.scan.specs.declared.Until.TheVariants.{Byte}
use Rattle.line.specs.Text.{lf}
use Rattle.line.specs.Lines.{lines_of, drop_cr, trim_of}
use Rattle.line.proofs.Cuts.{lines_at, lines_end}
use Rattle.line.proofs.Ends.{trim-take}
use Rattle.shown.specs.Shown.{line_in}

none_left : (k : ℕ) → ◌≡◌ {A = List Bytes} (drop k []) []
none_left zero = refl
none_left (suc k) = refl

first-left : (ls : List Bytes) (k : ℕ) → get_or ls k [] ≡ get_or (drop k ls) 0 []
first-left ls zero = refl
first-left [] (suc k) = refl
first-left (l ∷ ls) (suc k) = first-left ls k

-- one line further
pub one_less : (text : Bytes) (from e left k : ℕ) → from < length text → e ≡ reach (stops_by (Byte lf)) text from → 1 < left → drop (left - 1) (lines_of (drop from text)) ≡ drop k (lines_of text)
    → drop (left - 1 - 1) (lines_of (drop (e + 1) text)) ≡ drop k (lines_of text)
one_less text from e left k h q more inv =
    let s : left - 1 ≡ suc (left - 1 - 1) = omega arith in
    sym (ap (λ (n : ℕ). drop n (lines_of (drop from text))) s ∙ ap (drop (suc (left - 1 - 1))) (lines_at text from e h q)) ∙ inv

-- this line is the first of them
pub here : (text : Bytes) (from left k : ℕ) → left ≤ 1 → drop (left - 1) (lines_of (drop from text)) ≡ drop k (lines_of text) → lines_of (drop from text) ≡ drop k (lines_of text)
here text from left k few inv =
    let z : 0 ≡ left - 1 = omega arith in
    ap (λ (n : ℕ). drop n (lines_of (drop from text))) z ∙ inv

-- there is no such line
pub nowhere : (text : Bytes) (from left k : ℕ) → length text ≤ from → drop (left - 1) (lines_of (drop from text)) ≡ drop k (lines_of text) → lines_of (drop from text) ≡ drop k (lines_of text)
nowhere text from left k h inv = lines_end text from h ∙ sym (none_left (left - 1)) ∙ ap (drop (left - 1)) (sym (lines_end text from h)) ∙ inv

-- ## The line itself
pub line_there : (text : Bytes) (from e i : ℕ) → from < length text → e ≡ reach (stops_by (Byte lf)) text from → lines_of (drop from text) ≡ drop (i - 1) (lines_of text)
    → take 513 (take (trim_of (take (e - from) (drop from text))) (take (e - from) (drop from text))) ≡ line_in text i
unfolding line_in
line_there text from e i h q inv =
    let l : take (e - from) (drop from text) ≡ get_or (lines_of text) (i - 1) [] = ap (λ (ls : List Bytes). get_or ls 0 []) (sym (lines_at text from e h q) ∙ inv) ∙ sym (first-left (lines_of text) (i - 1)) in
    ap (take 513) (trim-take (take (e - from) (drop from text)) ∙ ap drop_cr l)

pub line-nowhere : (text : Bytes) (from i : ℕ) → length text ≤ from → lines_of (drop from text) ≡ drop (i - 1) (lines_of text) → [] ≡ line_in text i
unfolding line_in drop_cr
line-nowhere text from i h inv =
    let l : [] ≡ get_or (lines_of text) (i - 1) [] = ap (λ (ls : List Bytes). get_or ls 0 []) (sym (lines_end text from h) ∙ inv) ∙ sym (first-left (lines_of text) (i - 1)) in
    ap (λ (x : Bytes). take 513 (drop_cr x)) l
