-- WHAT A READER MUST BELIEVE. What a reader does, and that it meets its contract on some texts and lent tables. Document 01, "The contracts have to shut out". Assumes nothing.
use Rattle.replies.specs.Types.{PairReply, RndfReply}
use Rattle.terms.specs.Words.{Bytes}
use Rattle.edition.specs.declared.Edition.{Edition}
use Rattle.edition.specs.Editions.{rules_of}
use Rattle.law.specs.Tables.{Lent, MissionLent}
use Rattle.replies.specs.Replies.{ReadsRndf, ReadsPair}
use Rattle.promises.specs.Yards.{used, mission_used}

-- its reply to a text, and what it leaves in the tables that it was lent
abbrev pub Reader : Type 0
Reader = Bytes → Lent → RndfReply × Lent

-- that is what the contract says, in an edition (L10: "The caller says which edition.")
abbrev pub Meets : Edition → Reader → Bytes → Lent → Type 0
Meets edition f text t = ReadsRndf (rules_of edition) text t (f text t).0 (f text t).1

-- of an RNDF with its MDF
pub record Read : Type 0 where
  pub reply : PairReply
  pub left : Lent
  pub mission_left : MissionLent

abbrev pub PairReader : Type 0
PairReader = (rndf mdf : Bytes) → Lent → MissionLent → Read

abbrev pub PairMeets : Edition → PairReader → (rndf mdf : Bytes) → Lent → MissionLent → Type 0
PairMeets edition f rndf mdf t u = ReadsPair (rules_of edition) rndf mdf t u (f rndf mdf t u).reply (f rndf mdf t u).left (f rndf mdf t u).mission_left

-- what it does with a pair and tables that were in use; and that it meets the contract there
abbrev pub done : PairReader → (rndf mdf : Bytes) → Read
done f rndf mdf = f rndf mdf used mission_used

abbrev pub On : Edition → PairReader → (rndf mdf : Bytes) → Type 0
On edition f rndf mdf = PairMeets edition f rndf mdf used mission_used
