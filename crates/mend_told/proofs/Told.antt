-- THE LAWS of what comes out: going forward, the pieces are the law's mended text (`bytes-told`), and the rows its listed rows (`rows_told`), no more than the text has lines (`few-rows`). Assumes nothing.
use mathlib.Core.Path.{◌≡◌, refl, ap, ◌∙◌}
use mathlib.Core.List.{List, [], ◌∷◌, ◌++◌}
use Prim.Native.Nat.{ℕ, suc, ◌+◌, ◌-◌, ◌≤◌}
use native.Mathlib.Omega.{arith}
use lib.ListN.{length, take, drop, length-append, length-drop}
use lib.Seq.{length-take-le}
use Rattle.terms.specs.Words.{Bytes}
use Rattle.line.specs.Lines.{lines_of}
use Rattle.number.specs.Decimal.{decimal}
use Rattle.number.specs.House.{house_integer}
use Rattle.room.specs.Room.{fitted}
use Rattle.room.proofs.Fitted.{fitted-kept}
use Rattle.law.specs.Tables.{gather}
use Rattle.mend_law.specs.Mend.{first_field, Change, piece, row, changes_from, mended_text, listed_rows}
use Rattle.mend_lines.specs.declared.Before.{Before}
use Rattle.mend_lines.specs.declared.Becomes.{Becomes}
use Rattle.mend_lines.specs.declared.Becomes.TheVariants.{Stays, Goes, Recount}
use Rattle.mend_lines.specs.Forward.{none_before_of, change_of}
use Rattle.mend_lines.proofs.Steps.{Keeps, none-keeps}
use Rattle.mend_lines.proofs.Changes.{change-of, change-is, step_keeps}
use Rattle.mend_pieces.specs.Pieces.{piece_of, row_for, behind_line, mended_bytes, changed_rows}
use Rattle.mend_told.proofs.Bounds.{Inside, recount-inside}

-- ## One line
-- by the program's answer and by the law's; w: the line with its LF or without
same-piece : (l : Bytes) (c : Becomes) → ((start stop n : ℕ) → c ≡ Recount start stop n → Inside l start stop n) → (w : Bytes) → piece_of c w ≡ piece (change-of l c) w
unfolding house_integer
same-piece l Stays h w = refl
same-piece l (Goes k) h w = refl
same-piece l (Recount start stop n) h w =
    let i = h start stop n refl in
    let d : decimal (fitted n) ≡ decimal n = ap decimal (fitted-kept n (omega (arith, i.small))) in
    let long : length (take (stop - start) (drop start l)) ≡ stop - start = length-take-le (stop - start) (drop start l) (omega (arith, length-drop start l, i.order, i.inside)) in
    let k : stop ≡ start + length (take (stop - start) (drop start l)) = omega (arith, i.order) in
    λ j. take start w ++ (d j ++ drop (k j) w)

same_row : (i : ℕ) (l : Bytes) (c : Becomes) → row_for i c ≡ row i (change-of l c)
same_row i l Stays = refl
same_row i l (Goes k) = refl
same_row i l (Recount start stop n) = refl

-- ## All lines from one on
bytes-from : (i : ℕ) (before : List Bytes) (b : Before) (text : Bytes) (ls : List Bytes) → Keeps before b → mended_bytes b text ls ≡ gather (λ c. piece c.change c.whole) (changes_from i before text ls)
unfolding mended_bytes changes_from
bytes-from i before b text [] h = refl
bytes-from i before b text (l ∷ ls) h =
    let w = take (suc (length l)) text in
    let p = same-piece l (change_of b l ls) (recount-inside b l ls) w ∙ ap (λ (c : Change). piece c w) (change-is before b l ls h) in
    let r = bytes-from (suc i) (first_field l ∷ before) (behind_line b l) (drop (suc (length l)) text) ls (step_keeps before b l ls h) in
    λ j. p j ++ r j

rows_from : (i : ℕ) (before : List Bytes) (b : Before) (text : Bytes) (ls : List Bytes) → Keeps before b → changed_rows i b ls ≡ gather (λ c. row c.line c.change) (changes_from i before text ls)
unfolding changed_rows changes_from
rows_from i before b text [] h = refl
rows_from i before b text (l ∷ ls) h =
    let p = same_row i l (change_of b l ls) ∙ ap (row i) (change-is before b l ls h) in
    let r = rows_from (suc i) (first_field l ∷ before) (behind_line b l) (drop (suc (length l)) text) ls (step_keeps before b l ls h) in
    λ j. p j ++ r j

pub bytes-told : (text : Bytes) → mended_bytes none_before_of text (lines_of text) ≡ mended_text text
unfolding mended_text
bytes-told text = bytes-from 1 [] none_before_of text (lines_of text) none-keeps

pub rows_told : (text : Bytes) → changed_rows 1 none_before_of (lines_of text) ≡ listed_rows text
unfolding listed_rows
rows_told text = rows_from 1 [] none_before_of text (lines_of text) none-keeps

-- ## No more than the lines
one-row : (i : ℕ) (c : Becomes) → length (row_for i c) ≤ 1
one-row i Stays = omega arith
one-row i (Goes k) = omega arith
one-row i (Recount start stop n) = omega arith

pub few-rows : (i : ℕ) (b : Before) (ls : List Bytes) → length (changed_rows i b ls) ≤ length ls
unfolding changed_rows
few-rows i b [] = omega arith
few-rows i b (l ∷ ls) =
    let c = change_of b l ls in
    let m = few-rows (suc i) (behind_line b l) ls in
    rw (length-append (row_for i c) (changed_rows (suc i) (behind_line b l) ls)) (omega (arith, one-row i c))
