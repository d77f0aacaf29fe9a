-- Executable: one step of the reader of an MDF, over the program's own types: which kinds may stand, which values are permitted, and the place after each. Assumes nothing.
use Rattle.std.specs.Prelude.{Bool, true, false, List, ℕ, pred, ◌-◌, eqb, ltb, Ok, Err, Result}
use Rattle.terms.specs.Words.{pick}
use Rattle.grammar.specs.PlaceTable.{cell, mdf_table_of}
use Rattle.grammar.specs.PlaceRows.{mission_kind_row}
use Rattle.grammar.specs.MissionStatements.{goal, limit}
use Rattle.statement.specs.declared.Order.{Order}
use Rattle.statement.specs.declared.Order.TheVariants as or
use Rattle.statement.specs.MissionKinds.{order_of}
use Rattle.permitted.specs.Tests.{is_counted}
use Rattle.permitted.specs.MissionTests.{is_limit}
use Rattle.permitted.specs.Owed.{owing}
use Rattle.place_table.specs.Cells.{cell_in}
use Rattle.place_table.specs.MdfRows as rows
use Rattle.mission_place.specs.declared.MissionPlace.{MissionPlace}

-- ## The values of each kind
abbrev pub permits_of : Order → Bool
permits_of (or.MdfName a l) = true
permits_of (or.Rndf a l) = true
permits_of (or.FormatVersion a l) = true
permits_of (or.CreationDate a l) = true
permits_of or.Checkpoints = true
permits_of (or.NumCheckpoints k) = is_counted k
permits_of or.EndCheckpoints = true
permits_of or.SpeedLimits = true
permits_of (or.NumSpeedLimits k) = is_counted k
permits_of or.EndSpeedLimits = true
permits_of or.EndFile = true
permits_of (or.Goal k) = is_counted k
permits_of (or.Limit i a b) = is_limit i a b

-- ## The place after each kind, in the row that the table gives
abbrev pub placed : (row owed : ℕ) → MissionPlace
placed row owed = record { row = row; owed = owed; version = false; date = false }

abbrev pub first_place : MissionPlace
first_place = placed rows.name_due 0

abbrev pub after_of : MissionPlace → Order → ℕ → MissionPlace
after_of p (or.MdfName a l) row = placed row p.owed
after_of p (or.Rndf a l) row = placed row p.owed
after_of p (or.FormatVersion a l) row = placed row p.owed
after_of p (or.CreationDate a l) row = placed row p.owed
after_of p or.Checkpoints row = placed row p.owed
after_of p (or.NumCheckpoints k) row = placed row k
after_of p or.EndCheckpoints row = placed row p.owed
after_of p or.SpeedLimits row = placed row p.owed
after_of p (or.NumSpeedLimits k) row = placed row k
after_of p or.EndSpeedLimits row = placed row p.owed
after_of p or.EndFile row = placed row p.owed
after_of p (or.Goal k) row = placed row (pred p.owed)
after_of p (or.Limit i a b) row = placed row (pred p.owed)

-- ## Single options, by their slot
abbrev pub has_of : MissionPlace → ℕ → Bool
has_of p slot = pick (eqb slot 1) p.version (pick (eqb slot 2) p.date false)

abbrev pub with_given : MissionPlace → (version date : Bool) → MissionPlace
with_given p v d = record { row = p.row; owed = p.owed; version = v; date = d }

abbrev pub opted_of : MissionPlace → ℕ → MissionPlace
opted_of p slot = pick (eqb slot 1) (with_given p true p.date) (pick (eqb slot 2) (with_given p p.version true) p)

-- ## The table's row
abbrev pub row_at : ℕ → MissionPlace → ℕ
row_at row p = pick (eqb row rows.goal_due) (owing p.owed rows.goal_due rows.end_checkpoints_due) (pick (eqb row rows.limit_due) (owing p.owed rows.limit_due rows.end_speed_limits_due) row)

unfoldable pub index_of : MissionPlace → ℕ
index_of p = row_at p.row p

-- ## The cell of a kind: in any table, so that whoever lends one says which it is
unfoldable pub cell_of : List (List ℕ) → MissionPlace → ℕ → ℕ
cell_of table p kind = cell_in 12 13 table (index_of p) kind

-- ## The step: by the cell's number the due order, an option, or none
unfoldable pub due_of : MissionPlace → Order → ℕ → Result MissionPlace ℕ
due_of p s row = pick (permits_of s) (Ok (after_of p s row)) (Err 9)

unfoldable pub option_of : MissionPlace → Order → ℕ → Result MissionPlace ℕ
option_of p s slot = pick (has_of p slot) (Err 6) (pick (permits_of s) (Ok (opted_of p slot)) (Err 9))

unfoldable pub by_cell : MissionPlace → Order → ℕ → Result MissionPlace ℕ
by_cell p s c = pick (ltb c 128) (due_of p s c) (pick (ltb c 255) (option_of p s (c - 128)) (Err 5))

-- with the cell of its kind in the table of an MDF
unfoldable pub step_of : MissionPlace → Order → Result MissionPlace ℕ
step_of p s = by_cell p s (cell mdf_table_of (index_of p) (order_of s))

-- by the kind alone: 5, 6, or 0 where it may stand
unfoldable pub refuses_by : MissionPlace → ℕ → ℕ
refuses_by p c = pick (ltb c 128) 0 (pick (ltb c 255) (pick (has_of p (c - 128)) 6 0) 5)

unfoldable pub refuses_of : MissionPlace → ℕ → ℕ
refuses_of p kind = refuses_by p (cell mdf_table_of (index_of p) kind)

abbrev pub over_of : MissionPlace → Bool
over_of p = eqb p.row rows.over

-- 01: "A first field that begins with a digit makes .. by its place, a goal or limit line in an MDF (5 where none is due)"
unfoldable pub number_kind_of : MissionPlace → ℕ
number_kind_of p = pick (eqb (index_of p) rows.goal_due) (mission_kind_row goal) (pick (eqb (index_of p) rows.limit_due) (mission_kind_row limit) 255)
