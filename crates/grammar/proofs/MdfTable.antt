-- The MDF's table fits the MDF's places: a computed test over every row. Assumes nothing.
use mathlib.Core.Path.{◌≡◌, refl}
use mathlib.Core.Option.{Option, none, some}
use mathlib.Core.Bool.{true}
use Prim.Native.Nat.{zero, suc}
use lib.Dec.{T, ltb}
use lib.ListN.{get_or, length}
use Rattle.terms.proofs.Computed.{every}
use Rattle.grammar.specs.MissionStatements.{Kind, Says, MDF_name_of, RNDF, format_version_of, creation_date_of, checkpoints, num_checkpoints, end_checkpoints, speed_limits, num_speed_limits, end_speed_limits, end_file_of, goal, limit}
use Rattle.grammar.specs.MissionPlaces.{mdf, Base, opts, due, name_due, RNDF_due, checkpoints_due, num_checkpoints_due, goal_due, speed_limits_due, num_speed_limits_due, limit_due, end_file_due}
use Rattle.grammar.specs.PlaceTable.{mdf_table_of, cell}
use Rattle.grammar.specs.PlaceRows.{mission_kinds, mission_kind_row, mdf_row, mdf_stem}
use Rattle.grammar.proofs.Tabled.{fits, Tabled}

pub coded : (k : Kind) → get_or mission_kinds (mission_kind_row k) MDF_name_of ≡ k
coded MDF_name_of = refl
coded RNDF = refl
coded format_version_of = refl
coded creation_date_of = refl
coded checkpoints = refl
coded num_checkpoints = refl
coded end_checkpoints = refl
coded speed_limits = refl
coded num_speed_limits = refl
coded end_speed_limits = refl
coded end_file_of = refl
coded goal = refl
coded limit = refl

pub short : (k : Kind) → T (ltb (mission_kind_row k) (length mission_kinds))
short MDF_name_of = tt
short RNDF = tt
short format_version_of = tt
short creation_date_of = tt
short checkpoints = tt
short num_checkpoints = tt
short end_checkpoints = tt
short speed_limits = tt
short num_speed_limits = tt
short end_speed_limits = tt
short end_file_of = tt
short goal = tt
short limit = tt

pub stems : (n : Option Base) → T (ltb (mdf_stem n) 128)
stems none = tt
stems (some name_due) = tt
stems (some RNDF_due) = tt
stems (some checkpoints_due) = tt
stems (some num_checkpoints_due) = tt
stems (some (goal_due g)) = tt
stems (some speed_limits_due) = tt
stems (some num_speed_limits_due) = tt
stems (some (limit_due l)) = tt
stems (some end_file_due) = tt

module _ (N : Type 0) where
  pub few : (b : Base) → T (ltb (length (opts N b)) 99)
  few name_due = tt
  few RNDF_due = tt
  few checkpoints_due = tt
  few num_checkpoints_due = tt
  few (goal_due (suc g)) = tt
  few (goal_due zero) = tt
  few speed_limits_due = tt
  few num_speed_limits_due = tt
  few (limit_due (suc l)) = tt
  few (limit_due zero) = tt
  few end_file_due = tt

  pub beside : (b : Base) → every (fits (mdf N) mdf_table_of mdf_row mission_kind_row b) mission_kinds ≡ true
  unfolding mdf_table_of
  beside name_due = refl
  beside RNDF_due = refl
  beside checkpoints_due = refl
  beside num_checkpoints_due = refl
  beside (goal_due (suc g)) = refl
  beside (goal_due zero) = refl
  beside speed_limits_due = refl
  beside num_speed_limits_due = refl
  beside (limit_due (suc l)) = refl
  beside (limit_due zero) = refl
  beside end_file_due = refl

  pub leads : (b : Base) (v : Says N (due N b).on) → cell mdf_table_of (mdf_row b) (mission_kind_row (due N b).on) ≡ mdf_stem ((due N b).then v)
  unfolding mdf_table_of
  leads name_due v = refl
  leads RNDF_due v = refl
  leads checkpoints_due v = refl
  leads num_checkpoints_due v = refl
  leads (goal_due (suc g)) v = refl
  leads (goal_due zero) v = refl
  leads speed_limits_due v = refl
  leads num_speed_limits_due v = refl
  leads (limit_due (suc l)) v = refl
  leads (limit_due zero) v = refl
  leads end_file_due v = refl

  abbrev pub mdf-tabled : Tabled (mdf N)
  mdf-tabled = record { kinds = mission_kinds; code = mission_kind_row; first = MDF_name_of; coded = coded; short = short; row = mdf_row; stem = mdf_stem; table = mdf_table_of; few = few; beside = beside; leads = leads; stems = stems }
