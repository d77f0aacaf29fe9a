-- WHAT A READER MUST BELIEVE. The return trip over the contracts: what was written is read again as the same network, or mission, with as many rows. Document 01, "House writing"; "A network or mission is its tables with each name's bytes in place of start and length." Assumes nothing.
use Rattle.replies.specs.Types.{PairReply, RndfReply}
use Rattle.std.specs.Prelude.{◌≡◌, ◌≤◌, ◌/◌, Ok}
use Rattle.terms.specs.Words.{none, length, Bytes}
use Rattle.line.specs.Content.{Field}
use Rattle.grammar.specs.Network.{Network}
use Rattle.grammar.specs.Mission.{Mission}
use Rattle.law.specs.Network.{Rules, SpellsNetwork, SpellsMission, SpellsText}
use Rattle.rows.specs.declared.FileRow.{FileRow}
use Rattle.rows.specs.declared.MissionFileRow.{MissionFileRow}
use Rattle.law.specs.Tables.{Lent, MissionLent}
use Rattle.counts.specs.declared.Counts.{Counts}
use Rattle.counts.specs.declared.MissionCounts.{MissionCounts}
use Rattle.same.specs.Same.{SameNetwork, SameMission}
use Rattle.house_text.specs.House.{undated, mission_undated}
use Rattle.replies.specs.Replies.{stretch}

-- lent tables with room for so many rows as were replied
pub record RoomFor (c : Counts) (t : Lent) : Type 0 where
  pub segments : c.segments ≤ length t.segments / 4
  pub lanes : c.lanes ≤ length t.lanes / 5
  pub zones : c.zones ≤ length t.zones / 6
  pub spots : c.spots ≤ length t.spots / 2
  pub points : c.points ≤ length t.points / 2
  pub checkpoints : c.checkpoints ≤ length t.checkpoints / 2
  pub stops : c.stops ≤ length t.stops / 1
  pub exits : c.exits ≤ length t.exits / 2

pub record MissionRoomFor (c : MissionCounts) (u : MissionLent) : Type 0 where
  pub goals : c.goals ≤ length u.goals / 1
  pub limits : c.limits ≤ length u.limits / 3

-- two texts that by these rules spell the same network apart from their dates (L12), names by their bytes
pub record SameRndf (rules : Rules) (text text' : Bytes) : Type 0 where
  pub one : Network Field
  pub other : Network Field
  pub spells_one : SpellsText rules SpellsNetwork one text
  pub spells_other : SpellsText rules SpellsNetwork other text'
  pub same : SameNetwork (undated other) (undated one)

pub record SameMdf (rules : Rules) (text text' : Bytes) : Type 0 where
  pub one : Mission Field
  pub other : Mission Field
  pub spells_one : SpellsText rules SpellsMission one text
  pub spells_other : SpellsText rules SpellsMission other text'
  pub same : SameMission (mission_undated other) (mission_undated one)

-- the reply to what was written of an RNDF
pub record RndfReadBack (rules : Rules) (text writing : Bytes) (c : Counts) (reply : RndfReply) : Type 0 where
  pub file : FileRow
  pub replied : reply ≡ Ok (c, file)
  -- L12: "but for a missing date"
  pub dateless : file.date ≡ stretch none
  pub network : SameRndf rules text writing

-- the reply to an RNDF with what was written of an MDF; that RNDF is the one that was read then, or what was written of it
pub record PairReadBack (rules : Rules) (rndf mdf rndf' writing : Bytes) (c : Counts) (d : MissionCounts) (reply : PairReply) : Type 0 where
  pub file : FileRow
  pub mission_file_of : MissionFileRow
  pub replied : reply ≡ Ok (c, file, d, mission_file_of)
  pub dateless : mission_file_of.date ≡ stretch none
  pub network : SameRndf rules rndf rndf'
  pub mission : SameMdf rules mdf writing
