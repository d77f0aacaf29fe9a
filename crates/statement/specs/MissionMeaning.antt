-- What an order of the program means, as a statement of an MDF of the grammar. Assumes nothing.
use Rattle.grammar.specs.MissionStatements.{say, MDF_name_of, RNDF, format_version_of, creation_date_of, checkpoints, num_checkpoints, end_checkpoints, speed_limits, num_speed_limits, end_speed_limits, end_file_of, goal, limit}
use Rattle.grammar.specs.MissionStatements as G
use Rattle.statement.specs.declared.Order.{Order}
use Rattle.statement.specs.declared.Order.TheVariants as o
use Rattle.statement.specs.Meaning.{Stretch, stretch}

abbrev pub meant : Order → G.Statement Stretch
meant (o.MdfName a l) = say MDF_name_of (stretch a l)
meant (o.Rndf a l) = say RNDF (stretch a l)
meant (o.FormatVersion a l) = say format_version_of (stretch a l)
meant (o.CreationDate a l) = say creation_date_of (stretch a l)
meant o.Checkpoints = say checkpoints tt
meant (o.NumCheckpoints n) = say num_checkpoints n
meant o.EndCheckpoints = say end_checkpoints tt
meant o.SpeedLimits = say speed_limits tt
meant (o.NumSpeedLimits n) = say num_speed_limits n
meant o.EndSpeedLimits = say end_speed_limits tt
meant o.EndFile = say end_file_of tt
meant (o.Goal n) = say goal n
meant (o.Limit i a b) = say limit (record { id = i; minimum = a; maximum = b })
