-- When an MDF is accepted for a network, and when it is refused, at which line and with which number. Document 01, "Refusal numbers". Assumes nothing.
use Rattle.std.specs.Prelude.{◌≡◌, List, ℕ, ◌≤◌, ◌<◌, length}
use Rattle.terms.specs.Ascii.{Bytes}
use Rattle.line.specs.Content.{Field}
use Rattle.grammar.specs.Network.{Network}
use Rattle.grammar.specs.Mission.{Mission}
use Rattle.grammar.specs.Names.{network_named, mission_named}
use Rattle.grammar.specs.Tables.{mission_tables}
use Rattle.grammar.specs.References.{MissionFits}
use Rattle.text.specs.Spelling.{SpellsMdf, bytes_of}
use Rattle.fill.specs.Counts.{mission_sizes}
use Rattle.rows.specs.declared.MissionFileRow.{MissionFileRow}
use Rattle.table_words.specs.Words.{MissionLent, MissionHasRoom, mission_filled}
use Rattle.table_words.specs.FileRows.{mission_file_of}
use Rattle.form_faults.specs.FormFaults.{MdfBadLine, MdfUnended}
use Rattle.fault_lines.specs.FaultLines.{FirstMdfFault}
use Rattle.counts.specs.declared.MissionCounts.{MissionCounts}
pub use Rattle.refusal.specs.Size.{most}

-- 01: 11 "a table has fewer rows than needed"; there is room where none has
abbrev pub RoomFor : Mission Field → MissionLent → Type 0
RoomFor m = MissionHasRoom (mission_sizes (mission_tables m))

-- n: the network that was accepted before, u: the goals and limits that are lent
module _ (n : Network Field) (mdf : Bytes) (u : MissionLent) where
  -- the MDF spells the mission m, within the size and the room, and m fits the network
  pub record AcceptsMdf (m : Mission Field) : Type 0 where
    pub size : length mdf ≤ most
    -- 01: ""Well-formed" means spelled by the grammar"
    pub spelled : SpellsMdf m mdf
    pub room : RoomFor m u
    -- none of 14 to 18, with names compared byte for byte
    pub fits : MissionFits (network_named bytes_of n) (mission_named bytes_of m)

  pub data RefusesMdf : (line number : ℕ) → Type 0 where
    -- 01: 1 "text over 16,777,215 bytes", line 0
    too_long : most < length mdf → RefusesMdf 0 1
    -- 01: "then the first line with a fault of 2 to 9, lowest number first"
    bad_line : {line number : ℕ} → length mdf ≤ most → MdfBadLine mdf line number → RefusesMdf line number
    -- 01: 10 "text ends before `end_file`", at "lines + 1"
    unended : {line : ℕ} → length mdf ≤ most → MdfUnended mdf line → RefusesMdf line 10
    -- 01: 11 "a table has fewer rows than needed", line 0
    no_room : {m : Mission Field} → length mdf ≤ most → SpellsMdf m mdf → (RoomFor m u → ⊥) → RefusesMdf 0 11
    -- 01: "14 to 18 by first line, 16 before 17"
    bad_reference : {m : Mission Field} {line number : ℕ} → length mdf ≤ most → SpellsMdf m mdf → RoomFor m u → FirstMdfFault n mdf line number → RefusesMdf line number

-- ## What an acceptance gives
-- 01: "the rows used of each table"
abbrev pub rows_used_of : Mission Field → MissionCounts
rows_used_of m = record { goals = length m.goals; limits = length m.limits }

-- 01: "Acceptance replies with the rows used of each table; rows beyond are zero". Readings, 17: the file's own row is part of the reply
pub record Delivers (u : MissionLent) (m : Mission Field) (counts : MissionCounts) (file : MissionFileRow) (goals limits : List ℕ) : Type 0 where
  pub counted : counts ≡ rows_used_of m
  pub own_row : file ≡ mission_file_of m
  pub goals_hold : goals ≡ (mission_filled (mission_tables m) u).goals
  pub limits_hold : limits ≡ (mission_filled (mission_tables m) u).limits

-- the MDF is accepted with some mission, which is what is replied and what the tables hold
pub record Takes (n : Network Field) (mdf : Bytes) (u : MissionLent) (counts : MissionCounts) (file : MissionFileRow) (goals limits : List ℕ) : Type 0 where
  pub mission : Mission Field
  pub accepts : AcceptsMdf n mdf u mission
  pub delivers : Delivers u mission counts file goals limits
