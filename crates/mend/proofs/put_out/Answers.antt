-- `mend::put_out` meets its contract. Assumes nothing.
use mathlib.Core.Path.{ap, ◌∙◌}
use mathlib.Core.List.{List}
use Prim.Native.Nat.{ℕ}
use lib.ListN.{length, length-replicate}
use Rattle.terms.specs.Words.{Bytes}
use Rattle.line.specs.Lines.{lines_of}
use Rattle.rows.specs.Table.{put_rows}
use Rattle.output.specs.Output.{zero_bytes}
use Rattle.output.proofs.Whole.{answered_too-long}
use Rattle.mend_lines.specs.Forward.{none_before_of}
use Rattle.mend_pieces.specs.Pieces.{changed_rows}
use Rattle.mend_passes.specs.Passes.{list_row}
use Rattle.mend.proofs.Steps.{output-so, put-good, put-long, fits_word}
use Rattle.mend.proofs.put_out.Goals as goal

pub overflow_cast-result : goal.overflow_cast-result
overflow_cast-result c =
    let A = c.args in
    let o = output-so A.text.now A.list.now (length A.out.now) c.clear_output.ensures c.put_mended-at.ensures c.finish-finished.ensures in
    fits_word (rw c.in-Some.is at o)

pub returns-in-Some : goal.returns-in-Some
returns-in-Some c =
    let A = c.args in
    let o = output-so A.text.now A.list.now (length A.out.now) c.clear_output.ensures c.put_mended-at.ensures c.finish-finished.ensures in
    let size = c.requires.text_len_bound in
    put-good A.text.now A.list.now (length A.out.now) _ _ _ _ (rw c.in-Some.is at o) c.requires.text_in_bounds (c.list_changes-rows.ensures.value size)
    (c.list_changes-rows.ensures.list_after size ∙ ap (λ (t : List ℕ). put_rows 2 list_row t 0 (changed_rows 1 none_before_of (lines_of A.text.now))) c.clear.ensures)

pub returns-in-None : goal.returns-in-None
returns-in-None c =
    let A = c.args in
    let o = output-so A.text.now A.list.now (length A.out.now) c.clear_output.ensures c.put_mended-at.ensures c.finish-finished.ensures in
    let long = rw c.in-None.is at o in
    put-long A.text.now A.list.now (length A.out.now) _ _ _ _ long c.refused.ensures.value c.refused.ensures.list_after
    (c.refused.ensures.out_after ∙ ap (λ (x : Bytes). zero_bytes (length x)) (answered_too-long long).1 ∙ ap zero_bytes (length-replicate (length A.out.now) 0))
