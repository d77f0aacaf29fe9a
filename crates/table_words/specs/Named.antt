-- Executable: tables with their names told in another way. That these are the tables of the network or mission with its names so told is a law (proofs/Renamed.antt). Assumes nothing.
use Rattle.std.specs.Prelude.{map}
use Rattle.grammar.specs.Tables.{FileRow, SegmentRow, ZoneRow, Tables, MissionTables}
use Rattle.grammar.specs.Names.{perhaps_name}

module _ {N M : Type 0} (f : N → M) where
  abbrev pub file_row_named : FileRow N → FileRow M
  file_row_named r = record { name = f r.name; version = perhaps_name f r.version; date = perhaps_name f r.date }

  abbrev pub segment_row_named : SegmentRow N → SegmentRow M
  segment_row_named r = record { first_lane = r.first_lane; lanes = r.lanes; name = perhaps_name f r.name }

  abbrev pub zone_row_named : ZoneRow N → ZoneRow M
  zone_row_named r = record { first_point_of = r.first_point_of; points = r.points; first_spot_of = r.first_spot_of; spots = r.spots; name = perhaps_name f r.name }

  abbrev pub tables_named : {E : Type 0} → Tables N E → Tables M E
  tables_named t = record {
    file = file_row_named t.file;
    segments = map segment_row_named t.segments;
    lanes = t.lanes;
    zones = map zone_row_named t.zones;
    spots = t.spots;
    points = t.points;
    checkpoints = t.checkpoints;
    stops = t.stops;
    exits = t.exits;
  }

  abbrev pub mission_tables_named : MissionTables N → MissionTables M
  mission_tables_named t = record {
    file = record { name = f t.file.name; rndf = f t.file.rndf; version = perhaps_name f t.file.version; date = perhaps_name f t.file.date };
    goals = t.goals;
    limits = t.limits;
  }
