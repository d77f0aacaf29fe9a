-- Executable: the rows that the statements of an MDF give: one for each goal line and each limit line, and the file's own.
use Rattle.std.specs.Prelude.{List, [], ◌∷◌, ◌++◌, ℕ}
use Rattle.std.proofs.Math.Option.{none, some}
use Rattle.grammar.specs.MissionStatements.{Kind, Says, Statement, Limit, orders, MDF_name_of, RNDF, format_version_of, creation_date_of, checkpoints, num_checkpoints, end_checkpoints, speed_limits, num_speed_limits, end_speed_limits, end_file_of, goal, limit}
use Rattle.grammar.specs.Tables.{MissionFileRow, MissionTables}
use Rattle.fill.specs.Filling.{Filling}
use Rattle.fill.specs.Filling as Filling

-- what one statement gives: nothing, or one row of one table
pub data Row : Type 0 where
  nothing : Row
  a_goal : ℕ → Row
  a_limit : Limit → Row

-- the tables but for the file's own row
pub record Rows : Type 0 where
  pub goals : List ℕ
  pub limits : List Limit

-- N: what a name is
abbrev pub gives : (N : Type 0) (k : Kind) → Says N k → Row
gives N MDF_name_of v = nothing
gives N RNDF v = nothing
gives N format_version_of v = nothing
gives N creation_date_of v = nothing
gives N checkpoints v = nothing
gives N num_checkpoints v = nothing
gives N end_checkpoints v = nothing
gives N speed_limits v = nothing
gives N num_speed_limits v = nothing
gives N end_speed_limits v = nothing
gives N end_file_of v = nothing
gives N goal v = a_goal v
gives N limit v = a_limit v

abbrev pub in_tables : Row → Rows
in_tables nothing = record { goals = []; limits = [] }
in_tables (a_goal a) = record { goals = a ∷ []; limits = [] }
in_tables (a_limit a) = record { goals = []; limits = a ∷ [] }

module _ {N : Type 0} where
  -- before the first statement; blank: what stands for a name until it is given
  abbrev pub start : N → MissionFileRow N
  start blank = record { name = blank; rndf = blank; version = none; date = none }

  -- the file's row behind a statement
  abbrev pub next : (k : Kind) → Says N k → MissionFileRow N → MissionFileRow N
  next MDF_name_of v f = record { name = v; rndf = f.rndf; version = f.version; date = f.date }
  next RNDF v f = record { name = f.name; rndf = v; version = f.version; date = f.date }
  next format_version_of v f = record { name = f.name; rndf = f.rndf; version = some v; date = f.date }
  next creation_date_of v f = record { name = f.name; rndf = f.rndf; version = f.version; date = some v }
  next checkpoints v f = f
  next num_checkpoints v f = f
  next end_checkpoints v f = f
  next speed_limits v f = f
  next num_speed_limits v f = f
  next end_speed_limits v f = f
  next end_file_of v f = f
  next goal v f = f
  next limit v f = f

  abbrev pub mission_filling : Filling (orders N)
  mission_filling = record {
    State = MissionFileRow N;
    Rows = Rows;
    no_rows = in_tables nothing;
    join = λ a b. record { goals = a.goals ++ b.goals; limits = a.limits ++ b.limits };
    next = next;
    gives = λ k v f. in_tables (gives N k v);
  }

  -- the tables: the file's row is the one that is left
  unfoldable pub mission_fill : N → List (Statement N) → MissionTables N
  mission_fill blank l = let o = Filling.rows mission_filling l (start blank) in record { file = Filling.ends mission_filling l (start blank); goals = o.goals; limits = o.limits }
