-- `place_table::rndf_table` meets its contract: row by row. Assumes nothing.
use mathlib.Core.Path.{ap, ◌∙◌}
use mathlib.Core.List.{List, [], ◌∷◌}
use Prim.Native.Nat.{ℕ}
use lib.ListN.{replicate}
use Rattle.grammar.specs.PlaceTable.{rndf_table_of}
use Rattle.place_table.specs.Cells.{also_row}
use Rattle.place_table.proofs.rndf_table.Goals as goal

-- src/lib.rt:69:1
pub returns : goal.returns
unfolding rndf_table_of
returns c =
    λ i.
    (c.due.ensures i) ∷
    (c.due-2.ensures i) ∷
    (c.due-3.ensures i) ∷
    ((c.also-2.ensures ∙ ap (λ (row : List ℕ). also_row row 4 130) (c.also.ensures ∙ ap (λ (row : List ℕ). also_row row 3 129) c.due-4.ensures)) i) ∷
    (c.due-5.ensures i) ∷
    (c.due-6.ensures i) ∷
    (c.due-7.ensures i) ∷
    (c.due-8.ensures i) ∷
    ((c.also-3.ensures ∙ ap (λ (row : List ℕ). also_row row 7 129) c.due-9.ensures) i) ∷
    (c.due-10.ensures i) ∷
    (c.due-11.ensures i) ∷
    (c.due-12.ensures i) ∷
    (c.first_waypoint_row.ensures i) ∷
    (c.due-13.ensures i) ∷
    (c.due-14.ensures i) ∷
    (c.due-15.ensures i) ∷
    ((c.also-4.ensures ∙ ap (λ (row : List ℕ). also_row row 20 129) c.due-16.ensures) i) ∷
    (c.due-17.ensures i) ∷
    ((c.also-5.ensures ∙ ap (λ (row : List ℕ). also_row row 16 128) c.due-18.ensures) i) ∷
    (c.due-19.ensures i) ∷
    (c.due-20.ensures i) ∷
    (c.due-21.ensures i) ∷
    (c.due-22.ensures i) ∷
    ((c.also-7.ensures ∙ ap (λ (row : List ℕ). also_row row 14 130) (c.also-6.ensures ∙ ap (λ (row : List ℕ). also_row row 26 129) c.due-23.ensures)) i) ∷
    (c.due-24.ensures i) ∷
    (c.due-25.ensures i) ∷
    (replicate 30 255) ∷
    []
