-- Executable: what a pair gets, and what the lent tables then hold where it is accepted. Assumes nothing.
use Rattle.replies.specs.Types.{PairReply}
use Rattle.mission_reader.specs.Types.{MissionReply}
use Rattle.std.specs.Prelude.{◌+◌, Ok, Err}
use Rattle.terms.specs.Ascii.{Bytes}
use Rattle.grammar.specs.Editions.{Edition}
use Rattle.rows.specs.declared.FileRow.{FileRow}
use Rattle.rows.specs.declared.MissionFileRow.{MissionFileRow}
use Rattle.table_words.specs.Words.{Lent, MissionLent}
use Rattle.room.specs.Room.{fitted}
use Rattle.counts.specs.declared.Counts.{Counts}
use Rattle.network_reader.specs.Reading as N
use Rattle.network_reader.specs.Reading.{read_of}
use Rattle.counts.specs.declared.MissionCounts.{MissionCounts}
use Rattle.mission_reader.specs.MissionReading as M
use Rattle.mission_reader.specs.MissionReading.{rndf_of, mission_of}
use Rattle.law.specs.Tables.{mission_lent}
use Rattle.refusal.specs.declared.Refusal.{Refusal}
use Rattle.reader.specs.Columns.{rndf_refusal, mdf_refusal}

abbrev pub joined_of : Bytes → Counts → FileRow → MissionReply → PairReply
joined_of mdf c file (Ok (m, f)) = Ok (c, file, m, f)
joined_of mdf c file (Err f) = Err (mdf_refusal mdf f.line f.number)

pub data Read : Type 0 where
  refused : Refusal → Read
  accepted : Counts → FileRow → MissionCounts → MissionFileRow → Lent → MissionLent → Read

abbrev pub outcome : PairReply → Lent → MissionLent → Read
outcome (Ok (c, f, m, g)) left mission_left = accepted c f m g left mission_left
outcome (Err x) left mission_left = refused x

abbrev pub from_mission : Bytes → Counts → FileRow → Lent → M.Read → Read
from_mission mdf c f left (M.refused line number) = refused (mdf_refusal mdf line number)
from_mission mdf c f left (M.accepted m g goals limits) = accepted c f m g left (mission_lent goals limits)

abbrev pub from_network : Bytes → Bytes → MissionLent → N.Read → Read
from_network rndf mdf u (N.refused line number) = refused (rndf_refusal rndf line number)
from_network rndf mdf u (N.accepted c f left) = from_mission mdf c f left (mission_of (rndf_of rndf f.name left.checkpoints c.checkpoints (fitted (c.segments + c.zones))) mdf u.goals u.limits)

-- the RNDF by an edition
unfoldable pub the_pair_of : Edition → (rndf mdf : Bytes) → Lent → MissionLent → Read
the_pair_of e rndf mdf t u = from_network rndf mdf u (read_of e rndf t)
