-- WHAT A READER MUST BELIEVE. Same writing, same yard: what is promised of house writings, over the contracts of the writers. Document 02, L14. Assumes nothing.
use Rattle.writings.specs.Types.{WriteMdfReply, WriteReply}
use Rattle.std.specs.Prelude.{◌↔◌, ◌≡◌, Ok}
use Rattle.terms.specs.Words.{ℕ, length, take, Bytes}
use Rattle.line.specs.Line.{Field}
use Rattle.law.specs.Network.{Network, Mission, Rules, SpellsNetwork, SpellsMission, SpellsText}
use Rattle.law.specs.Tables.{Lent, MissionLent}
use Rattle.house_text.specs.House.{undated, mission_undated, HouseRndf, HouseMdf}
use Rattle.same.specs.Same.{SameNetwork, SameMission}
use Rattle.output.specs.Output.{Fits, padded}
use Rattle.rows.specs.declared.FileRow.{FileRow}
use Rattle.rows.specs.declared.MissionFileRow.{MissionFileRow}
use Rattle.counts.specs.declared.Counts.{Counts}
use Rattle.counts.specs.declared.MissionCounts.{MissionCounts}
use Rattle.replies.specs.Replies.{an_rndf, an_mdf, Accepts}
use Rattle.writings.specs.Writes.{WritesRndf, WritesMdf}

-- ## Of any file. Files: the writer wrote this of that text, which these rules accept; Same: two texts, each by its own rules, mean the same
module _ (Files : Rules → (text writing : Bytes) → Type 0) (Same : (rules rules' : Rules) → (text text' : Bytes) → Type 0) where
  -- "two accepted RNDFs have equal house writings exactly when they mean the same network apart from creation dates"
  abbrev pub Alike : (rules rules' : Rules) → Type 0
  Alike rules rules' = (text text' writing writing' : Bytes) → Files rules text writing → Files rules' text' writing' → (writing ≡ writing') ↔ Same rules rules' text text'

  -- "writing a house writing again gives the same bytes", wherever and by whichever rules it is written again
  abbrev pub Again : (rules rules' : Rules) → Type 0
  Again rules rules' = (text writing again : Bytes) → Files rules text writing → Files rules' writing again → again ≡ writing

-- ## RNDFs. rules: those of the edition by which the text is accepted (L10)
-- the writer wrote this of the text, in some tables and some output
pub record Filed (rules : Rules) (text writing : Bytes) : Type 0 where
  pub tables : Lent
  pub lent : ℕ
  pub counts : Counts
  pub file : FileRow
  pub left : Lent
  pub out : Bytes
  pub writes : WritesRndf rules text tables lent (Ok (counts, file, length writing)) left out
  pub is : writing ≡ take (length writing) out

-- "the same network apart from creation dates": names by their bytes
abbrev pub SameButDate : Network Field → Network Field → Type 0
SameButDate n n' = SameNetwork (undated n) (undated n')

-- "they mean" it
abbrev pub SameYard : (rules rules' : Rules) (text text' : Bytes) → Type 0
SameYard rules rules' text text' = (n : Network Field) × (n' : Network Field) × SpellsText rules SpellsNetwork n text × SpellsText rules' SpellsNetwork n' text' × SameButDate n n'

-- "Premise: both writings fit the lent output and the size limit": it was written exactly if the text is accepted, and its house writing is this and fits
abbrev pub WrittenIfFits : Rules → Type 0
WrittenIfFits rules = (text : Bytes) (t : Lent) (lent : ℕ) (reply : WriteReply) (left : Lent) (out : Bytes) → WritesRndf rules text t lent reply left out → (writing : Bytes)
    → ((n : Network Field) × Accepts rules (an_rndf t) text n × HouseRndf n writing × Fits lent writing) ↔ ((c : Counts) × (file : FileRow) × (reply ≡ Ok (c, file, length writing)) × (out ≡ padded lent writing))

-- "writing a house writing again", in the same tables and output: it is accepted, with as many rows, and the whole output is the same
abbrev pub WrittenAgain : Rules → Type 0
WrittenAgain rules = (text writing : Bytes) (w : Filed rules text writing) (reply : WriteReply) (left : Lent) (out : Bytes) → WritesRndf rules writing w.tables w.lent reply left out
    → ((file : FileRow) × (reply ≡ Ok (w.counts, file, length writing))) × (out ≡ w.out)

-- ## "The same for missions.", each with an RNDF of its own
pub record MdfFiled (rules : Rules) (mdf writing : Bytes) : Type 0 where
  pub rndf : Bytes
  pub tables : Lent
  pub mission_tables : MissionLent
  pub lent : ℕ
  pub counts : Counts
  pub file : FileRow
  pub mission_counts : MissionCounts
  pub mission_file_of : MissionFileRow
  pub left : Lent
  pub mission_left : MissionLent
  pub out : Bytes
  pub writes : WritesMdf rules rndf mdf tables mission_tables lent (Ok (counts, file, mission_counts, mission_file_of, length writing)) left mission_left out
  pub is : writing ≡ take (length writing) out

abbrev pub SameOrders : (rules rules' : Rules) (mdf mdf' : Bytes) → Type 0
SameOrders rules rules' mdf mdf' = (m : Mission Field) × (m' : Mission Field) × SpellsText rules SpellsMission m mdf × SpellsText rules' SpellsMission m' mdf' × SameMission (mission_undated m) (mission_undated m')

abbrev pub MissionWrittenIfFits : Rules → Type 0
MissionWrittenIfFits rules = (rndf mdf : Bytes) (t : Lent) (u : MissionLent) (lent : ℕ) (reply : WriteMdfReply) (left : Lent) (mission_left : MissionLent) (out : Bytes) → WritesMdf rules rndf mdf t u lent reply left mission_left out → (writing : Bytes)
    → ((n : Network Field) × (m : Mission Field) × Accepts rules (an_rndf t) rndf n × Accepts rules (an_mdf n u) mdf m × HouseMdf m writing × Fits lent writing)
    ↔ ((c : Counts) × (file : FileRow) × (d : MissionCounts) × (own : MissionFileRow) × (reply ≡ Ok (c, file, d, own, length writing)) × (out ≡ padded lent writing))

abbrev pub MissionWrittenAgain : Rules → Type 0
MissionWrittenAgain rules = (mdf writing : Bytes) (w : MdfFiled rules mdf writing) (reply : WriteMdfReply) (left : Lent) (mission_left : MissionLent) (out : Bytes) → WritesMdf rules w.rndf writing w.tables w.mission_tables w.lent reply left mission_left out
    → ((file : FileRow) × (own : MissionFileRow) × (reply ≡ Ok (w.counts, file, w.mission_counts, own, length writing))) × (out ≡ w.out)
