-- WHAT A READER MUST BELIEVE. What the entry points reply, and what the lent tables then hold. Document 01, "Refusal numbers", "Tables"; document 02, L7. Assumes nothing.
use Rattle.replies.specs.Types.{PairReply, RndfReply}
use Rattle.std.specs.Prelude.{◌≡◌, ◌≤◌, ◌<◌, Ok, Err}
use Rattle.terms.specs.Words.{List, Option, none, some, ℕ, length, Bytes}
use Rattle.line.specs.Line.{Field}
use Rattle.law.specs.Network.{Network, Mission, Line, Rules, SpellsNetwork, SpellsMission, SpellsText}
use Rattle.law.specs.Tables.{Lent, MissionLent, segment_rows, lane_rows_of, zone_rows, spot_rows, point_rows, checkpoint_rows, stop_rows, exit_rows, HasRoom, MissionHasRoom, filled, mission_filled, zeros, mission_zeros}
use Rattle.law.specs.Faults.{BadLine, Unended, FirstFault, RndfFault, MdfFault, Sound, MissionFits}
use Rattle.law_columns.specs.Columns.{Column}
use Rattle.rows.specs.declared.Stretch.{Stretch}
use Rattle.rows.specs.declared.FileRow.{FileRow}
use Rattle.rows.specs.declared.MissionFileRow.{MissionFileRow}
use Rattle.counts.specs.declared.Counts.{Counts}
use Rattle.refusal.specs.declared.Refusal.{Refusal}

-- 01: 1 "text over 16,777,215 bytes"
abbrev pub longest : ℕ
longest = 16777215

-- ## What a file is: how what it means is spelled; whether the lent tables have room for that; whether its references are right, and which lines have wrong ones
pub record File (Meaning : Type 0) : Type 1 where
  pub Spells : Rules → Meaning → List Line → Type 0
  pub Roomy : Meaning → Type 0
  pub Right : Meaning → Type 0
  pub Wrong : Meaning → List Line → Line → ℕ → Type 0

-- t: the tables as they were lent; u: those of the MDF; n: the network of the RNDF, which was accepted before; rules: those of the entry points are `reading` of the edition that the caller says (L10)
abbrev pub an_rndf : Lent → File (Network Field)
an_rndf t = record { Spells = SpellsNetwork; Roomy = λ n. HasRoom n t; Right = Sound; Wrong = RndfFault }

abbrev pub an_mdf : Network Field → MissionLent → File (Mission Field)
an_mdf n u = record { Spells = SpellsMission; Roomy = λ m. MissionHasRoom m u; Right = MissionFits n; Wrong = λ m. MdfFault n }

module _ (rules : Rules) {Meaning : Type 0} (file : File Meaning) (text : Bytes) where
  pub record Accepts (n : Meaning) : Type 0 where
    pub size : length text ≤ longest
    pub spelled : SpellsText rules file.Spells n text
    pub room : file.Roomy n
    pub right : file.Right n

  -- 01: "Order: for the RNDF 1; then the first line with a fault of 2 to 9, ..; then 10; 11; then the first line with 12 or 13. Then the MDF likewise, 14 to 18 by first line"; L7: "Where the line is 0, for 10, .. it is 0": the column
  -- Yard A with `exit>1.1.2>1.1.3` as its line 9 spells a network, there is room, and that line is the first with a wrong reference, the entry: Refuses 9 12 12
  pub data Refuses : (line number column : ℕ) → Type 0 where
    too_long : longest < length text → Refuses 0 1 0
    bad_line : {line number column : ℕ} → length text ≤ longest → (bad : BadLine rules file.Spells text line number) → Column rules file.Spells bad.front bad.this number column → Refuses line number column
    unended : {line : ℕ} → length text ≤ longest → Unended rules file.Spells text line → Refuses line 10 0
    no_room : (n : Meaning) → length text ≤ longest → SpellsText rules file.Spells n text → (file.Roomy n → ⊥) → Refuses 0 11 0
    bad_reference : (n : Meaning) {line number column : ℕ} → length text ≤ longest → SpellsText rules file.Spells n text → file.Roomy n → (bad : FirstFault rules file.Spells (file.Wrong n) text line number) → Column rules file.Spells bad.front bad.at.this number column → Refuses line number column

-- ## What is replied. 01: "Each gives file (1 RNDF, 2 MDF), line, number."; L7: "Add a column to the refusal record"
abbrev pub refusal : (file line number column : ℕ) → Refusal
refusal file line number column = record { file = file; line = line; number = number; column = column }

-- 01: "Acceptance replies with the rows used of each table"
abbrev pub rows_used_of : Network Field → Counts
rows_used_of n = record { segments = length (segment_rows n); lanes = length (lane_rows_of n); zones = length (zone_rows n); spots = length (spot_rows n); points = length (point_rows n); checkpoints = length (checkpoint_rows n); stops = length (stop_rows n); exits = length (exit_rows n) }

-- 01: "A name is its start and length in the lent text; a missing name is 0, 0."
abbrev pub stretch : Option Field → Stretch
stretch none = record { start = 0; length = 0 }
stretch (some v) = record { start = v.start; length = length v.bytes }

-- 01: "File: its name, format version, creation date, in an MDF its `RNDF` name too." Readings, 17: part of the reply
abbrev pub network_file : Network Field → FileRow
network_file n = record { name = stretch (some n.name); version = stretch n.version; date = stretch n.date }

abbrev pub mission_file_of : Mission Field → MissionFileRow
mission_file_of m = record { name = stretch (some m.name); rndf = stretch (some m.rndf); version = stretch m.version; date = stretch m.date }

-- ## An RNDF alone: the reply, and what is left in the lent tables
pub data ReadsRndf (rules : Rules) (text : Bytes) (t : Lent) (reply : RndfReply) (left : Lent) : Type 0 where
  -- 01: "rows beyond are zero"
  accepted : (n : Network Field) → Accepts rules (an_rndf t) text n → reply ≡ Ok (rows_used_of n, network_file n) → left ≡ filled n t → ReadsRndf rules text t reply left
  -- 01: "All lent tables .. are then zero over their whole length"
  refused : (line number column : ℕ) → Refuses rules (an_rndf t) text line number column → reply ≡ Err (refusal 1 line number column) → left ≡ zeros t → ReadsRndf rules text t reply left

-- ## An RNDF with its MDF
pub data ReadsPair (rules : Rules) (rndf mdf : Bytes) (t : Lent) (u : MissionLent) (reply : PairReply) (left : Lent) (mission_left : MissionLent) : Type 0 where
  accepted : (n : Network Field) (m : Mission Field) → Accepts rules (an_rndf t) rndf n → Accepts rules (an_mdf n u) mdf m → reply ≡ Ok (rows_used_of n, network_file n, record { goals = length m.goals; limits = length m.limits }, mission_file_of m)
      → left ≡ filled n t → mission_left ≡ mission_filled m u → ReadsPair rules rndf mdf t u reply left mission_left
  -- 01: "for the RNDF 1; ..": everything about the RNDF comes first
  rndf_refused_of : (line number column : ℕ) → Refuses rules (an_rndf t) rndf line number column → reply ≡ Err (refusal 1 line number column) → left ≡ zeros t → mission_left ≡ mission_zeros u → ReadsPair rules rndf mdf t u reply left mission_left
  -- 01: "Then the MDF likewise"
  mdf_refused_of : (n : Network Field) (line number column : ℕ) → Accepts rules (an_rndf t) rndf n → Refuses rules (an_mdf n u) mdf line number column → reply ≡ Err (refusal 2 line number column)
      → left ≡ zeros t → mission_left ≡ mission_zeros u → ReadsPair rules rndf mdf t u reply left mission_left
