-- `column::column_at` meets its contract. Assumes nothing.
use Rattle.std.specs.Prelude.{Option}
use mathlib.Core.Path.{sym, ap, ◌∙◌}
use native.Mathlib.Omega.{arith}
use lib.Seq.{length-take-le}
use lib.ListN.{take, drop}
use Rattle.scan.specs.Reach.{stops_by}
use Rattle.scan.specs.declared.Until.TheVariants.{Byte}
use Rattle.scan.proofs.Reach.{reach_le}
use Rattle.line.specs.Lines.{lines_of}
use Rattle.column.specs.Before.{place_behind_of, column_behind}
use Rattle.column.proofs.Places.{line_there}
use Rattle.column.proofs.column_at.Goals as goal
use Rattle.place.specs.declared.Place.{Place}

pub slice_bounds-place_behind-end : goal.slice_bounds-place_behind-end
slice_bounds-place_behind-end c = let h = c.requires in sym (length-take-le _ _ (omega arith))

pub place_behind-requires : goal.place_behind-requires
place_behind-requires c = c.rndf_table-table.ensures

pub returns-in_default : goal.returns-in_default
unfolding column_behind
returns-in_default c =
    let A = c.args in
    ap (λ (x : Option Place). column_behind A.number x (lines_of (drop A.from A.text.now))) (sym c.in_default.is ∙ c.place_behind.ensures)

pub slice_bounds-line_column-end : goal.slice_bounds-line_column-end
slice_bounds-line_column-end c =
    let A = c.args in
    let h = c.requires in
    omega (arith, c.far_byte_from-e.ensures, reach_le (stops_by (Byte 10)) A.text.now A.from (omega arith))

pub returns : goal.returns
returns c =
    let t = c.rndf_table-table in
    let start = c in
    let A = start.args in
    line_there A.text.now A.from c.far_byte_from-e.result start.requires c.far_byte_from-e.ensures t.result t.ensures A.number c.in-Some.place c.line_column.result c.line_column.ensures (place_behind_of (take A.from A.text.now)) (sym c.in-Some.is ∙ c.place_behind.ensures)
