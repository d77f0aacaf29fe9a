-- WHAT A READER MUST BELIEVE. What is accepted, and what asking for a name gives. Document 01, "How much a contract has to say", "Tables". Assumes nothing.
use Rattle.replies.specs.Types.{PairReply, RndfReply}
use Rattle.std.specs.Prelude.{◌≡◌, Ok, Err}
use Rattle.terms.specs.Words.{[], Option, none, some, length, Bytes, Each}
use Rattle.line.specs.Line.{Field}
use Rattle.law.specs.Network.{Network, Mission, Rules}
use Rattle.law.specs.Tables.{Lent, MissionLent, filled, mission_filled}
use Rattle.rows.specs.declared.FileRow.{FileRow}
use Rattle.rows.specs.declared.MissionFileRow.{MissionFileRow}
use Rattle.rows.specs.Name.{name_of}
use Rattle.counts.specs.declared.Counts.{Counts}
use Rattle.counts.specs.declared.MissionCounts.{MissionCounts}
use Rattle.replies.specs.Replies.{an_rndf, an_mdf, Accepts, rows_used_of, stretch, network_file, mission_file_of}

-- ## Replies that accept
abbrev pub IsAccepted : RndfReply → Type 0
IsAccepted (Ok (c, file)) = Unit {0}
IsAccepted (Err x) = ⊥

abbrev pub IsPairAccepted : PairReply → Type 0
IsPairAccepted (Ok (c, file, d, own)) = Unit {0}
IsPairAccepted (Err x) = ⊥

-- ## Texts to be accepted. 01: "every pair that spells a network and mission is accepted"
-- the text spells a network whose references are right; it is not too long, and there is room
abbrev pub Acceptable : Rules → Bytes → Lent → Type 0
Acceptable rules text t = (n : Network Field) × Accepts rules (an_rndf t) text n

-- likewise the MDF, with a mission that fits the network
pub record PairAcceptable (rules : Rules) (rndf mdf : Bytes) (t : Lent) (u : MissionLent) : Type 0 where
  pub net : Network Field
  pub mission : Mission Field
  pub network_accepted : Accepts rules (an_rndf t) rndf net
  pub mission_accepted : Accepts rules (an_mdf net u) mdf mission

-- ## Meaning
abbrev pub mission_rows_used : Mission Field → MissionCounts
mission_rows_used m = record { goals = length m.goals; limits = length m.limits }

-- the reply and the tables are the network's and the mission's. t, u: the tables as they were lent; l, k: as they are left
pub record Meant (t : Lent) (u : MissionLent) (n : Network Field) (m : Mission Field) (c : Counts) (file : FileRow) (d : MissionCounts) (own : MissionFileRow) (l : Lent) (k : MissionLent) : Type 0 where
  pub counted : c ≡ rows_used_of n
  pub row : file ≡ network_file n
  pub mission_counted : d ≡ mission_rows_used m
  pub mission_row : own ≡ mission_file_of m
  pub holds : l ≡ filled n t
  pub mission_holds : k ≡ mission_filled m u

-- ## Names. 01: "Asking for a name returns that stretch of the caller's own text"
-- a missing name has no bytes
abbrev pub name_bytes : Option Field → Bytes
name_bytes none = []
name_bytes (some v) = v.bytes

-- asking for it gives its bytes
abbrev pub Asked : Bytes → Option Field → Type 0
Asked text v = name_of text (stretch v) ≡ name_bytes v

-- of the names in the reply's row of the file, and of those in the rows of segments and zones (the words of a row's name are its stretch's: Names.words-of-name)
pub record NamesAsked (text : Bytes) (file : FileRow) (n : Network Field) : Type 0 where
  pub name : name_of text file.name ≡ n.name.bytes
  pub version : name_of text file.version ≡ name_bytes n.version
  pub date : name_of text file.date ≡ name_bytes n.date
  pub segments : Each (λ s. Asked text s.name) n.segments
  pub zones : Each (λ z. Asked text z.name) n.zones

pub record MissionNamesAsked (text : Bytes) (own : MissionFileRow) (m : Mission Field) : Type 0 where
  pub name : name_of text own.name ≡ m.name.bytes
  pub rndf : name_of text own.rndf ≡ m.rndf.bytes
  pub version : name_of text own.version ≡ name_bytes m.version
  pub date : name_of text own.date ≡ name_bytes m.date
