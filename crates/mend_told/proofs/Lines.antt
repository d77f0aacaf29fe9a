-- THE LAW of the lines that come out: the mended text is cut into them (`mended-lines`), and they are no more than the given ones (`few-lines`). Assumes nothing.
use mathlib.Core.Path.{◌≡◌, refl, sym, ap, subst, ◌∙◌}
use mathlib.Core.List.{List, [], ◌∷◌, ◌++◌, append_assoc, append-nil}
use Prim.Native.Nat.{ℕ, ◌≤◌, ◌<◌}
use native.Mathlib.Omega.{arith}
use lib.ListN.{length, length-append}
use lib.Seq.{take-append-le, drop-append-le}
use Rattle.terms.specs.Words.{Bytes}
use Rattle.line.specs.Line.{lf, Lacks, more, Cut, nothing, unfinished, line}
use Rattle.line.specs.Lines.{lines_of}
use Rattle.line.proofs.Cuts.{cut, cut-is}
use Rattle.number.specs.House.{house_integer}
use Rattle.room.specs.Room.{fitted}
use Rattle.mend_law.specs.Mend.{mended_text}
use Rattle.mend_law.proofs.Ties.{whole-line, line-left, whole-last}
use Rattle.mend_lines.specs.declared.Before.{Before}
use Rattle.mend_lines.specs.declared.Becomes.{Becomes}
use Rattle.mend_lines.specs.declared.Becomes.TheVariants.{Stays, Goes, Recount}
use Rattle.mend_lines.specs.Forward.{none_before_of, change_of}
use Rattle.mend_pieces.specs.Pieces.{piece_of, lines_for, behind_line, mended_bytes, mended_lines_of}
use Rattle.mend_pieces.proofs.Recounted.{recounted-some, recounted-lacks}
use Rattle.mend_told.proofs.Bounds.{Inside, recount-inside}
use Rattle.mend_told.proofs.Told.{bytes-told}

-- ## A line whose number is replaced
module _ (l : Bytes) (start stop n : ℕ) where
  abbrev recounted : Bytes
  recounted = piece_of (Recount start stop n) l

  -- the LF behind it stays
  recounted-ended : Inside l start stop n → piece_of (Recount start stop n) (l ++ (lf ∷ [])) ≡ recounted ++ (lf ∷ [])
  recounted-ended i =
      let a = take-append-le start l (lf ∷ []) (omega (arith, i.order, i.inside)) in
      let z = drop-append-le stop l (lf ∷ []) i.inside in
      (λ j. a j ++ (house_integer (fitted n) ++ z j)) ∙ simp append_assoc

-- ## One line in front
-- it comes out finished, or last and unfinished
finished : {m w t : Bytes} {ms : List Bytes} → w ≡ m ++ (lf ∷ []) → Lacks lf m → Cut t ms → Cut (w ++ t) (m ∷ ms)
finished {m} {w} {t} {ms} e h c = subst (λ (x : Bytes). Cut x (m ∷ ms)) (sym (ap (λ (x : Bytes). x ++ t) e ∙ append_assoc m (lf ∷ []) t)) (line h c)

last : (m : Bytes) → 0 < length m → Lacks lf m → Cut (m ++ []) (m ∷ [])
last [] some h = absurd (omega arith)
last (b ∷ m) some h = rw append-nil (unfinished h)

module _ (l : Bytes) (h : Lacks lf l) where
  piece-finished : (c : Becomes) → ((start stop n : ℕ) → c ≡ Recount start stop n → Inside l start stop n) → {t : Bytes} {ms : List Bytes} → Cut t ms → Cut (piece_of c (l ++ (lf ∷ [])) ++ t) (lines_for c l ++ ms)
  piece-finished Stays i k = finished refl h k
  piece-finished (Goes which) i k = k
  piece-finished (Recount start stop n) i k = finished (recounted-ended l start stop n (i start stop n refl)) (recounted-lacks l start stop n h) k

  piece-last : (c : Becomes) → 0 < length l → Cut (piece_of c l ++ []) (lines_for c l ++ [])
  piece-last Stays some = last l some h
  piece-last (Goes which) some = nothing
  piece-last (Recount start stop n) some = last (recounted l start stop n) (recounted-some l start stop n) (recounted-lacks l start stop n h)

-- ## All lines
pieces-cut : (b : Before) {text : Bytes} {ls : List Bytes} → Cut text ls → Cut (mended_bytes b text ls) (mended_lines_of b ls)
unfolding mended_bytes mended_lines_of
pieces-cut b nothing = nothing
pieces-cut b (unfinished {b = a} {l = l} h) =
    let c = change_of b (a ∷ l) [] in
    subst (λ (w : Bytes). Cut (piece_of c w ++ []) (lines_for c (a ∷ l) ++ [])) (sym (whole-last (a ∷ l))) (piece-last (a ∷ l) h c (omega arith))
pieces-cut b (line {l = l} {text = text} {lines = ls} h k) =
    let c = change_of b l ls in
    let w = sym (whole-line l text) in
    let r = sym (line-left l text) in
    subst (λ (x : Bytes). Cut x (mended_lines_of b (l ∷ ls))) (λ j. piece_of c (w j) ++ mended_bytes (behind_line b l) (r j) ls)
    (piece-finished l h c (recount-inside b l ls) (pieces-cut (behind_line b l) k))

pub mended-lines : (text : Bytes) → lines_of (mended_text text) ≡ mended_lines_of none_before_of (lines_of text)
mended-lines text = ap lines_of (sym (bytes-told text)) ∙ cut-is (pieces-cut none_before_of (cut text))

-- ## No more than the given ones
one_line : (c : Becomes) (l : Bytes) → length (lines_for c l) ≤ 1
one_line Stays l = omega arith
one_line (Goes which) l = omega arith
one_line (Recount start stop n) l = omega arith

pub few-lines : (b : Before) (ls : List Bytes) → length (mended_lines_of b ls) ≤ length ls
unfolding mended_lines_of
few-lines b [] = omega arith
few-lines b (l ∷ ls) =
    let c = change_of b l ls in
    let m = few-lines (behind_line b l) ls in
    rw (length-append (lines_for c l) (mended_lines_of (behind_line b l) ls)) (omega (arith, one_line c l))
