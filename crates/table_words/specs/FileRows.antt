-- The file's own row, which is no lent table but part of the reply (Readings, 17): each name as a start and a length. Document 01, "Tables". Assumes nothing.
use Rattle.std.proofs.Math.Option.{Option, none, some}
use Rattle.std.specs.Prelude.{ℕ, length}
use Rattle.grammar.specs.Network.{Network}
use Rattle.grammar.specs.Mission.{Mission}
use Rattle.grammar.specs.Tables.{the_file_row_of, mission_tables}
use Rattle.grammar.specs.Tables as G
use Rattle.line.specs.Content.{Field}
use Rattle.rows.specs.Read.{the_stretch_of}
use Rattle.rows.specs.declared.Stretch.{Stretch}
use Rattle.rows.specs.declared.FileRow.{FileRow}
use Rattle.rows.specs.declared.MissionFileRow.{MissionFileRow}

-- N: what a name is; start, len: its start and length in the lent text
module _ {N : Type 0} (start len : N → ℕ) where
  -- 01: "A name is its start and length in the lent text; a missing name is 0, 0."
  abbrev pub shown_name : Option N → Stretch
  shown_name none = the_stretch_of 0 0
  shown_name (some name) = the_stretch_of (start name) (len name)

  -- 01: "File: its name, format version, creation date, in an MDF its `RNDF` name too."
  abbrev pub shown_file : G.FileRow N → FileRow
  shown_file r = record { name = shown_name (some r.name); version = shown_name r.version; date = shown_name r.date }

  abbrev pub shown_mission_file : G.MissionFileRow N → MissionFileRow
  shown_mission_file r = record { name = shown_name (some r.name); rndf = shown_name (some r.rndf); version = shown_name r.version; date = shown_name r.date }

-- names that are known by their places in a text: start, and how many bytes
abbrev pub network_file : Network Field → FileRow
network_file n = shown_file (λ name. name.start) (λ name. length name.bytes) (the_file_row_of n)

abbrev pub mission_file_of : Mission Field → MissionFileRow
mission_file_of m = shown_mission_file (λ name. name.start) (λ name. length name.bytes) (mission_tables m).file
