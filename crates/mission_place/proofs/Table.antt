-- The row that a place of the program has in the table is the grammar's, and nothing stands behind the end. Assumes nothing.
use mathlib.Core.Path.{◌≡◌, refl, subst}
use mathlib.Core.List.{List}
use mathlib.Core.Bool.{Bool, true}
use Prim.Native.Nat.{zero, suc}
use borrow.Author.Tests.{eqb-true}
use lib.Dec.{T, eqb, ltb→lt}
use Rattle.grammar.specs.MissionStatements.{Kind, MDF_name_of}
use Rattle.grammar.specs.Machine.{inside}
use Rattle.grammar.specs.MissionPlaces.{Base, name_due, RNDF_due, checkpoints_due, num_checkpoints_due, goal_due, speed_limits_due, num_speed_limits_due, limit_due, end_file_due}
use Rattle.grammar.specs.PlaceTable.{cell, mdf_table_of}
use Rattle.grammar.specs.PlaceRows.{mission_kinds, mission_kind_row, mdf_row}
use Rattle.terms.proofs.Computed.{every-at}
use Rattle.grammar.proofs.MdfTable.{coded, short}
use Rattle.mission_place.specs.Step.{index_of}
use Rattle.mission_place.specs.Abstract.{place_of}

pub row_is : (b : Base) (g : List Bool) → index_of (place_of (inside b g)) ≡ mdf_row b
unfolding index_of
row_is name_due g = refl
row_is RNDF_due g = refl
row_is checkpoints_due g = refl
row_is num_checkpoints_due g = refl
row_is (goal_due zero) g = refl
row_is (goal_due (suc n)) g = refl
row_is speed_limits_due g = refl
row_is num_speed_limits_due g = refl
row_is (limit_due zero) g = refl
row_is (limit_due (suc n)) g = refl
row_is end_file_due g = refl

pub shut : (k : Kind) → cell mdf_table_of 11 (mission_kind_row k) ≡ 255
unfolding mdf_table_of
shut k =
    let P : Kind → Bool = λ k. eqb (cell mdf_table_of 11 (mission_kind_row k)) 255 in
    eqb-true _ _ (subst (λ (j : Kind). P j ≡ true) (coded k) (every-at P mission_kinds (mission_kind_row k) MDF_name_of refl (ltb→lt (mission_kind_row k) 13 (short k))))
