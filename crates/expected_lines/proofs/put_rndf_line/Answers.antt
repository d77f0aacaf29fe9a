-- `expected_lines::put_rndf_line` meets its contract. Assumes nothing.
use mathlib.Core.Path.{sym, ◌∙◌}
use lib.Seq.{length-take-le}
use Rattle.scan.proofs.Reach.{up_to_le, from_start}
use Rattle.line.specs.Forms.{opens}
use Rattle.expected_lines.specs.Words.{rndf_line_words}
use Rattle.expected_lines.proofs.put_rndf_line.Goals as goal

pub returns-then-lists : goal.returns-then-lists
unfolding rndf_line_words
returns-then-lists c = rw (← c.lists.ensures, c.if-lists.true, ← c.rndf_table-table.ensures) c.put_rndf_lines.ensures

pub slice_bounds-put_rndf_fields-end : goal.slice_bounds-put_rndf_fields-end
slice_bounds-put_rndf_fields-end c =
    let s = c.args.s.now in
    let m = c.two_from-e.ensures ∙ from_start opens s in
    sym (length-take-le c.two_from-e.result s (rw m (up_to_le opens s)))

pub returns : goal.returns
unfolding rndf_line_words
returns c =
    let s = c.args.s.now in
    let m = c.two_from-e.ensures ∙ from_start opens s in
    rw (← c.lists.ensures, c.if-lists.false, ← c.rndf_table-table.ensures, ← m) c.put_rndf_fields.ensures
