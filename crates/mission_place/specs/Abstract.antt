-- Executable: the place of the grammar's machine that a place of the program stands for, and back; an answer by its number and its place. Assumes nothing.
use Rattle.std.specs.Prelude.{List, [], ◌∷◌, Bool, false, ℕ, eqb, get_or, Ok, Err, Result}
use Rattle.terms.specs.Words.{pick}
use Rattle.grammar.specs.Machine.{Out, next, refuse, Stand, over, inside}
use Rattle.grammar.specs.MissionStatements.{Kind, MDF_name_of, RNDF, format_version_of, creation_date_of, checkpoints, num_checkpoints, end_checkpoints, speed_limits, num_speed_limits, end_speed_limits, end_file_of, goal, limit}
use Rattle.grammar.specs.MissionPlaces.{Base, due, name_due, RNDF_due, checkpoints_due, num_checkpoints_due, goal_due, speed_limits_due, num_speed_limits_due, limit_due, end_file_due}
use Rattle.grammar.specs.PlaceRows.{mission_kind_row}
use Rattle.statement.specs.Meaning.{Stretch}
use Rattle.place_table.specs.MdfRows as rows
use Rattle.mission_place.specs.declared.MissionPlace.{MissionPlace}
use Rattle.mission_place.specs.Step.{placed, with_given}

-- an answer: the next place, or document 01's number
abbrev pub seen : Result MissionPlace ℕ → Out MissionPlace
seen (Ok p) = next p
seen (Err c) = refuse c

-- ## From the machine's places
abbrev pub core : Base → MissionPlace
core name_due = placed rows.name_due 0
core RNDF_due = placed rows.RNDF_due 0
core checkpoints_due = placed rows.checkpoints_due 0
core num_checkpoints_due = placed rows.num_checkpoints_due 0
core (goal_due n) = placed rows.goal_due n
core speed_limits_due = placed rows.speed_limits_due 0
core num_speed_limits_due = placed rows.num_speed_limits_due 0
core (limit_due n) = placed rows.limit_due n
core end_file_due = placed rows.end_file_due 0

abbrev pub place_of : Stand Base → MissionPlace
place_of over = placed rows.over 0
place_of (inside b g) = with_given (core b) (get_or g 0 false) (get_or g 1 false)

-- the flags of a base: those of its single options (of three, an MDF has two)
abbrev pub flags : Base → Bool → Bool → Bool → List Bool
flags name_due x y u = []
flags RNDF_due x y u = []
flags checkpoints_due x y u = x ∷ y ∷ []
flags num_checkpoints_due x y u = []
flags (goal_due n) x y u = []
flags speed_limits_due x y u = []
flags num_speed_limits_due x y u = []
flags (limit_due n) x y u = []
flags end_file_due x y u = []

-- ## To the machine's places, by the row
unfoldable pub abs_of : MissionPlace → Stand Base
abs_of p =
    pick (eqb p.row rows.name_due) (inside name_due ([])) (
    pick (eqb p.row rows.RNDF_due) (inside RNDF_due ([])) (
    pick (eqb p.row rows.checkpoints_due) (inside checkpoints_due (p.version ∷ p.date ∷ [])) (
    pick (eqb p.row rows.num_checkpoints_due) (inside num_checkpoints_due ([])) (
    pick (eqb p.row rows.goal_due) (inside (goal_due p.owed) ([])) (
    pick (eqb p.row rows.speed_limits_due) (inside speed_limits_due ([])) (
    pick (eqb p.row rows.num_speed_limits_due) (inside num_speed_limits_due ([])) (
    pick (eqb p.row rows.limit_due) (inside (limit_due p.owed) ([])) (
    pick (eqb p.row rows.end_file_due) (inside end_file_due ([])) (
    over)))))))))

-- ## A line that begins with a digit
-- the columns of the two kinds that have no keyword
abbrev pub digit_column : Kind → ℕ
digit_column MDF_name_of = 255
digit_column RNDF = 255
digit_column format_version_of = 255
digit_column creation_date_of = 255
digit_column checkpoints = 255
digit_column num_checkpoints = 255
digit_column end_checkpoints = 255
digit_column speed_limits = 255
digit_column num_speed_limits = 255
digit_column end_speed_limits = 255
digit_column end_file_of = 255
digit_column goal = mission_kind_row goal
digit_column limit = mission_kind_row limit

-- the one of them that is due, if one is
abbrev pub due_digit : Stand Base → ℕ
due_digit over = 255
due_digit (inside b g) = digit_column (due Stretch b).on
