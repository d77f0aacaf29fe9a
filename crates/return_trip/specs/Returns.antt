-- WHAT A READER MUST BELIEVE. The return trip: the house writing of what was accepted is accepted by the same rules in the same tables, and is the same network, or mission, but for a missing date. Document 01, "House writing"; document 02, L12: "Demand 2's return trip then gives the same network and mission but for a missing date."; "A network or mission is its tables with each name's bytes in place of start and length." Assumes nothing.
use Rattle.terms.specs.Words.{Bytes}
use Rattle.line.specs.Line.{Field}
use Rattle.law.specs.Network.{Network, Mission, Rules}
use Rattle.law.specs.Tables.{Lent, MissionLent}
use Rattle.same.specs.Same.{SameNetwork, SameMission}
use Rattle.house_text.specs.House.{undated, mission_undated}
use Rattle.replies.specs.Replies.{an_rndf, an_mdf, Accepts}

-- rules: those by which it was accepted, so that the trip stays within its edition (L10)
-- an RNDF alone: these bytes are accepted in these tables, and spell the same network again
pub record RndfReturns (rules : Rules) (n : Network Field) (house : Bytes) (t : Lent) : Type 0 where
  pub again : Network Field
  pub accepts : Accepts rules (an_rndf t) house again
  pub same : SameNetwork again (undated n)

-- an MDF for a network
pub record MdfReturns (rules : Rules) (n : Network Field) (m : Mission Field) (house : Bytes) (u : MissionLent) : Type 0 where
  pub again : Mission Field
  pub accepts : Accepts rules (an_mdf n u) house again
  pub same : SameMission again (mission_undated m)

-- an RNDF with its MDF
pub record PairReturns (rules : Rules) (n : Network Field) (m : Mission Field) (rndf-house mdf-house : Bytes) (t : Lent) (u : MissionLent) : Type 0 where
  pub network : RndfReturns rules n rndf-house t
  pub mission : MdfReturns rules network.again m mdf-house u
