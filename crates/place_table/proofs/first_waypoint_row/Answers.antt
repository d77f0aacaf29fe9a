-- `place_table::first_waypoint_row` meets its contract. Assumes nothing.
use mathlib.Core.Path.{ap, ◌∙◌}
use mathlib.Core.List.{List}
use Prim.Native.Nat.{ℕ}
use Rattle.grammar.specs.PlaceTable.{rndf_table_of}
use Rattle.place_table.specs.Cells.{also_row}
use Rattle.place_table.proofs.first_waypoint_row.Goals as goal

-- src/lib.rt:56:1
pub returns : goal.returns
unfolding rndf_table_of
returns c = c.also.ensures ∙ ap (λ (row : List ℕ). also_row row 16 128) (c.also-stops.ensures ∙ ap (λ (row : List ℕ). also_row row 15 128) (c.also-checkpoints.ensures ∙ ap (λ (row : List ℕ). also_row row 14 128) (c.also-right.ensures ∙ ap (λ (row : List ℕ). also_row row 13 131) (c.also-left.ensures ∙ ap (λ (row : List ℕ). also_row row 12 130) (c.also-width.ensures ∙ ap (λ (row : List ℕ). also_row row 11 129) c.due-due.ensures)))))
