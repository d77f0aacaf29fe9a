-- The fields of every statement of an MDF, from the first on. Document 01, "The order of an MDF". Assumes nothing.
use Rattle.std.specs.Prelude.{List, [], ◌∷◌}
use Rattle.line.specs.Content.{Field}
use Rattle.grammar.specs.MissionStatements.{Kind, Says, MDF_name_of, RNDF, format_version_of, creation_date_of, checkpoints, num_checkpoints, end_checkpoints, speed_limits, num_speed_limits, end_speed_limits, end_file_of, goal, limit}
use Rattle.text.specs.Said.{Said, keyword, name, integer}

unfoldable pub the_mdf_line_of : (k : Kind) → Says Field k → List Said
the_mdf_line_of MDF_name_of v = keyword "MDF_name" ∷ name v ∷ []
the_mdf_line_of RNDF v = keyword "RNDF" ∷ name v ∷ []
the_mdf_line_of format_version_of v = keyword "format_version" ∷ name v ∷ []
the_mdf_line_of creation_date_of v = keyword "creation_date" ∷ name v ∷ []
the_mdf_line_of checkpoints v = keyword "checkpoints" ∷ []
the_mdf_line_of num_checkpoints n = keyword "num_checkpoints" ∷ integer n ∷ []
the_mdf_line_of end_checkpoints v = keyword "end_checkpoints" ∷ []
the_mdf_line_of speed_limits v = keyword "speed_limits" ∷ []
the_mdf_line_of num_speed_limits n = keyword "num_speed_limits" ∷ integer n ∷ []
the_mdf_line_of end_speed_limits v = keyword "end_speed_limits" ∷ []
the_mdf_line_of end_file_of v = keyword "end_file" ∷ []
the_mdf_line_of goal n = integer n ∷ []
the_mdf_line_of limit a = integer a.id ∷ integer a.minimum ∷ integer a.maximum ∷ []
