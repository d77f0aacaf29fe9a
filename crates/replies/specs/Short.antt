-- Short names for what Replies says of an RNDF and of an MDF; nothing more to believe. Assumes nothing.
use Rattle.terms.specs.Words.{ℕ, Bytes}
use Rattle.line.specs.Line.{Field}
use Rattle.law.specs.Network.{Network, Mission, Rules}
use Rattle.law.specs.Tables.{Lent, MissionLent}
use Rattle.replies.specs.Replies.{an_rndf, an_mdf, Accepts, Refuses}

module _ (rules : Rules) (text : Bytes) (t : Lent) where
  abbrev pub AcceptsRndf : Network Field → Type 0
  AcceptsRndf = Accepts rules (an_rndf t) text

  abbrev pub RefusesRndf : (line number column : ℕ) → Type 0
  RefusesRndf = Refuses rules (an_rndf t) text

module _ (rules : Rules) (n : Network Field) (text : Bytes) (u : MissionLent) where
  abbrev pub AcceptsMdf : Mission Field → Type 0
  AcceptsMdf = Accepts rules (an_mdf n u) text

  abbrev pub RefusesMdf : (line number column : ℕ) → Type 0
  RefusesMdf = Refuses rules (an_mdf n u) text
