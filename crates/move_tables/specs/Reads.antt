-- What the tables of a network read as: its parts and its exits. Assumes nothing.
use Rattle.std.specs.Prelude.{◌+◌, ◌≤◌}
use Rattle.terms.specs.Words.{List, map, ℕ, length}
use Rattle.line.specs.Line.{Field}
use Rattle.law.specs.Network.{Network}
use Rattle.law.specs.Tables.{exit_rows}
use Rattle.rows.specs.Lay.{rows_of, row_at}
use Rattle.rows.specs.Strides.{lane_stride, zone_stride, exit_stride}
use Rattle.filled_rows.specs.From.{From}
use Rattle.moves.specs.declared.Part.{Part}
use Rattle.moves.specs.Moves.{part, lane_part_of, zone_part_of}
use Rattle.route_law.specs.Moves.{Span, lane_spans, zone_spans}

abbrev pub span_part : Span → Part
span_part s = part s.first (s.first + s.size)

pub record Reads (n : Network Field) (lanes zones exits : List ℕ) : Type 0 where
  pub lane_room : length (lane_spans n) ≤ rows_of (length lanes) lane_stride
  pub lanes_read : From (lane_part_of lanes) 0 (map span_part (lane_spans n))
  pub zone_room : length (zone_spans n) ≤ rows_of (length zones) zone_stride
  pub zones_read : From (zone_part_of zones) 0 (map span_part (zone_spans n))
  pub exit_room : length (exit_rows n) ≤ rows_of (length exits) exit_stride
  pub exits_read : From (row_at exit_stride exits) 0 (exit_rows n)
