-- The line at a place of the text: alone it is one line, as it is and with its number replaced. Assumes nothing.
use mathlib.Core.Path.{◌≡◌, refl, sym, ap, ◌∙◌}
use mathlib.Core.List.{[], ◌∷◌, ◌++◌}
use mathlib.Core.Bool.{Bool, true, false}
use Prim.Native.Nat.{ℕ, suc, ◌+◌, ◌-◌, ◌≤◌, ◌<◌}
use native.Mathlib.Omega.{arith}
use borrow.Author.Tests.{eqb-true, ltb-true, ltb-false}
use lib.ListN.{length, take, drop, get_or, length-drop}
use lib.Seq.{length-take-le, take-add, take-suc, drop_at}
use lib.Dec.{ltb}
use Rattle.terms.specs.Words.{Bytes, pick}
use Rattle.scan.specs.Reach.{up_to, stops_by}
use Rattle.scan.specs.declared.Until.TheVariants.{Byte}
use Rattle.scan.proofs.Reach.{up_to_le, up_to_hit, first-at}
use Rattle.line.specs.Text.{lf, Lacks, nothing, unfinished, line}
use Rattle.line.specs.Lines.{lines_of}
use Rattle.line.proofs.Cuts.{cut-is, line-lacks, line-long}
use Rattle.mend_lines.specs.declared.Becomes.TheVariants.{Recount}
use Rattle.mend_pieces.specs.Pieces.{lf_from, stop_of, piece_of}
use Rattle.mend_pieces.proofs.Recounted.{recounted-some, recounted-lacks}

-- bytes without LF, if there are any, are one line
pub one_line : (l : Bytes) → 0 < length l → Lacks lf l → lines_of l ≡ l ∷ []
one_line [] h k = absurd (omega arith)
one_line (b ∷ l) h k = cut-is (unfinished k)

-- ## The line as it is
-- the bytes from a place on, of what a text begins with
from_front : (from n : ℕ) (text : Bytes) → from ≤ length text → drop from (take (from + n) text) ≡ take n (drop from text)
from_front from n text h = ap (drop from) (take-add from n text) ∙ drop_at (take from text) (take n (drop from text)) from (length-take-le from text h)

-- where a line stops is within the text
pub stop-within : (text : Bytes) (from : ℕ) → from < length text → stop_of text from ≤ length text
unfolding stop_of
stop-within text from h = go (ltb (lf_from text from) (length text)) refl
  where
    go : (x : Bool) → ltb (lf_from text from) (length text) ≡ x → pick x (lf_from text from + 1) (lf_from text from) ≤ length text
    go true q = omega (arith, ltb-true (lf_from text from) (length text) q)
    go false q = omega (arith, up_to_le (stops_by (Byte 10)) (drop from text), length-drop from text)

-- of a text that stops behind it, it is the last line
pub line-alone : (text : Bytes) (from : ℕ) → from < length text → lines_of (drop from (take (stop_of text from) text)) ≡ take (lf_from text from - from) (drop from text) ∷ []
unfolding stop_of
line-alone text from h = go (ltb (from + u) (length text)) refl
  where
    rest : Bytes
    rest = drop from text

    u : ℕ
    u = up_to (stops_by (Byte 10)) rest

    same : from + u - from ≡ u
    same = omega arith

    long : length rest ≡ length text - from
    long = length-drop from text

    lacks : Lacks lf (take (from + u - from) rest)
    lacks = line-lacks text from (from + u) h refl

    hit : u < length rest → get_or rest u 0 ≡ lf
    hit k = eqb-true (get_or rest u 0) lf (sym (first-at lf rest u k) ∙ up_to_hit (stops_by (Byte lf)) rest k)

    go : (x : Bool) → ltb (from + u) (length text) ≡ x → lines_of (drop from (take (pick x (from + u + 1) (from + u)) text)) ≡ take (from + u - from) rest ∷ []
    go true q =
        let k = ltb-true (from + u) (length text) q in
        let n : from + u + 1 ≡ from + suc u = omega arith in
        let inside : u < length rest = omega (arith, long) in
        let whole : drop from (take (from + suc u) text) ≡ take (from + u - from) rest ++ (lf ∷ []) = rw same (from_front from (suc u) text (omega arith) ∙ take-suc rest u 0 inside ∙ ap (λ (b : ℕ). take u rest ++ (b ∷ [])) (hit inside)) in
        rw (n, whole) (cut-is (line lacks nothing))
    go false q =
        let k = ltb-false (from + u) (length text) q in
        let whole : drop from (take (from + u) text) ≡ take (from + u - from) rest = rw same (from_front from u text (omega arith)) in
        rw whole (one_line (take (from + u - from) rest) (omega (arith, line-long text from (from + u) h refl)) lacks)

-- ## With a number in place of a part of it: still one line
pub recounted-alone : (text : Bytes) (from start stop n : ℕ) → from < length text
    → lines_of (piece_of (Recount start stop n) (take (lf_from text from - from) (drop from text))) ≡ piece_of (Recount start stop n) (take (lf_from text from - from) (drop from text)) ∷ []
recounted-alone text from start stop n h =
    let l = take (lf_from text from - from) (drop from text) in
    let k = line-lacks text from (lf_from text from) h refl in
    one_line (piece_of (Recount start stop n) l) (recounted-some l start stop n) (recounted-lacks l start stop n k)
