-- What is left in the output and the list is what the law says. Assumes nothing.
use mathlib.Core.Path.{◌≡◌, refl, sym, ap, ◌∙◌}
use mathlib.Core.List.{List, [], ◌∷◌, ◌++◌, map}
use Prim.Native.Nat.{ℕ, suc, ◌-◌, ◌/◌, ◌*◌, ◌≤◌, ◌<◌}
use native.Mathlib.Omega.{arith}
use lib.ListN.{length, replicate, length-map}
use lib.Dec.{lit<}
use Rattle.terms.specs.Words.{Bytes}
use Rattle.line.specs.Lines.{lines_of}
use Rattle.law.specs.Tables.{gather, holding}
use Rattle.law_tables.proofs.SameRows.{flat_rows}
use Rattle.rows.specs.Lay.{put_row_of}
use Rattle.rows.specs.Table.{table_of, put_rows}
use Rattle.rows.proofs.Tables.{put-rows-cleared}
use Rattle.output.specs.Pen.{pen, Wrote}
use Rattle.output.proofs.Counting.{counted}
use Rattle.refusal.specs.Size.{most}
use Rattle.mend_law.specs.Mend.{mended_text, listed_rows}
use Rattle.mend_lines.specs.declared.Before.{Before}
use Rattle.mend_lines.specs.declared.Becomes.{Becomes}
use Rattle.mend_lines.specs.declared.Becomes.TheVariants.{Stays, Goes, Recount}
use Rattle.mend_lines.specs.Forward.{none_before_of, change_of}
use Rattle.mend_pieces.specs.Pieces.{mended_bytes, row_for, behind_line, changed_rows}
use Rattle.mend_told.proofs.Told.{bytes-told, rows_told, few-rows}
use Rattle.mend_passes.specs.Passes.{list_row}

-- ## The output
-- what is put to an output of no bytes is counted, up to one more than the longest text
module _ (text : Bytes) (at : ℕ) (w : Wrote (pen [] 0) (mended_bytes none_before_of text (lines_of text)) (pen [] at)) where
  pub counted-length : at ≤ most → length (mended_text text) ≤ most
  counted-length h = omega (arith, counted w, ap length (bytes-told text))

  pub counted-long : most < at → most < length (mended_text text)
  counted-long h = omega (arith, counted w, ap length (bytes-told text))

-- ## The list
-- a row is two words
abbrev both : ℕ × ℕ → List ℕ
both p = p.0 ∷ p.1 ∷ []

-- so the rows that are listed are pairs
pairs : (i : ℕ) (b : Before) (ls : List Bytes) → (ps : List (ℕ × ℕ)) × (map both ps ≡ changed_rows i b ls)
unfolding changed_rows
pairs i b [] = ([], refl)
pairs i b (l ∷ ls) = go (change_of b l ls) (pairs (suc i) (behind_line b l) ls)
  where
    go : (m : Becomes) → (ps : List (ℕ × ℕ)) × (map both ps ≡ changed_rows (suc i) (behind_line b l) ls) → (ps : List (ℕ × ℕ)) × (map both ps ≡ row_for i m ++ changed_rows (suc i) (behind_line b l) ls)
    go Stays r = r
    go (Goes k) r = ((i, k) ∷ r.0, ap (◌∷◌ (i ∷ k ∷ [])) r.1)
    go (Recount start stop n) r = ((i, 1) ∷ r.0, ap (◌∷◌ (i ∷ 1 ∷ [])) r.1)

-- and are stored as these
pairs-put : (t : List ℕ) (at : ℕ) (ps : List (ℕ × ℕ)) → put_rows 2 both t at ps ≡ put_rows 2 list_row t at (map both ps)
unfolding put_rows
pairs-put t at [] = refl
pairs-put t at (p ∷ ps) = pairs-put (put_row_of 2 t at (both p)) (suc at) ps

-- the rows, stored one by one in a cleared list with a row for each line
pub listed-left : (text : Bytes) (list : List ℕ) → length (lines_of text) ≤ length list / 2 → put_rows 2 list_row (replicate (length list) 0) 0 (changed_rows 1 none_before_of (lines_of text)) ≡ holding 0 (listed_rows text) list
unfolding table_of
listed-left text list room =
    let x = pairs 1 none_before_of (lines_of text) in
    let ps = x.0 in
    let many : length ps ≡ length (changed_rows 1 none_before_of (lines_of text)) = sym (length-map ps both) ∙ ap (λ (l : List (List ℕ)). length l) x.1 in
    let fits : length ps * 2 ≤ length list = omega (arith, few-rows 1 none_before_of (lines_of text)) in
    ap (put_rows 2 list_row (replicate (length list) 0) 0) (sym x.1)
    ∙ sym (pairs-put (replicate (length list) 0) 0 ps)
    ∙ put-rows-cleared 2 both (lit< tt) (λ v. refl) 0 (length list) ps fits
    ∙ ap (λ (l : List ℕ). l ++ replicate (length list - length l) 0) (flat_rows both ps ∙ ap (gather (λ row. row)) (x.1 ∙ rows_told text))
