-- Executable: the column of an order's kind in the MDF's table of places by statements, and the order of the program that has a given meaning. Assumes nothing.
use Rattle.std.specs.Prelude.{ℕ}
use Rattle.grammar.specs.MissionStatements.{Kind, Says, MDF_name_of, RNDF, format_version_of, creation_date_of, checkpoints, num_checkpoints, end_checkpoints, speed_limits, num_speed_limits, end_speed_limits, end_file_of, goal, limit}
use Rattle.grammar.specs.MissionStatements as G
use Rattle.statement.specs.declared.Order.{Order}
use Rattle.statement.specs.declared.Order.TheVariants as o
use Rattle.statement.specs.Meaning.{Stretch}
use Rattle.statement.specs.MissionMeaning.{meant}
use Rattle.grammar.specs.PlaceRows.{mission_kind_row}

-- the column of an order's kind
abbrev pub order_of : Order → ℕ
order_of s = mission_kind_row (meant s).kind

-- ## The way back
abbrev pub of_kind : (k : Kind) → Says Stretch k → Order
of_kind MDF_name_of v = o.MdfName v.start v.length
of_kind RNDF v = o.Rndf v.start v.length
of_kind format_version_of v = o.FormatVersion v.start v.length
of_kind creation_date_of v = o.CreationDate v.start v.length
of_kind checkpoints v = o.Checkpoints
of_kind num_checkpoints v = o.NumCheckpoints v
of_kind end_checkpoints v = o.EndCheckpoints
of_kind speed_limits v = o.SpeedLimits
of_kind num_speed_limits v = o.NumSpeedLimits v
of_kind end_speed_limits v = o.EndSpeedLimits
of_kind end_file_of v = o.EndFile
of_kind goal v = o.Goal v
of_kind limit v = o.Limit v.id v.minimum v.maximum

abbrev pub written : G.Statement Stretch → Order
written s = of_kind s.kind s.val
