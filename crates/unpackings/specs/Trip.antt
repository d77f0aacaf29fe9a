-- WHAT A READER MUST BELIEVE. What is promised of packing and unpacking beside their contracts. Document 02, L11 and L12. Assumes nothing.
use Rattle.replies.specs.Types.{RndfReply}
use Rattle.std.specs.Prelude.{◌≡◌, ◌≤◌, Ok}
use Rattle.terms.specs.Words.{ℕ, length, take, Bytes}
use Rattle.line.specs.Line.{Field}
use Rattle.law.specs.Network.{Network, Rules, SpellsNetwork, SpellsText}
use Rattle.law.specs.Tables.{Lent, HasRoom, filled}
use Rattle.same.specs.Same.{SameNetwork}
use Rattle.house_text.specs.House.{undated}
use Rattle.packed_law.specs.Packed.{packed_form}
use Rattle.rows.specs.declared.FileRow.{FileRow}
use Rattle.counts.specs.declared.Counts.{Counts}
use Rattle.replies.specs.Replies.{longest, rows_used_of, network_file}
use Rattle.promises.specs.Accepted.{NamesAsked}
use Rattle.writings.specs.Writes.{WritesPacked}
use Rattle.unpackings.specs.Unpacks.{IsNetwork, IsPackedFormOf, Unpacks}

-- "One network has one packed form": names by their bytes, wherever they stood; dates apart (L12)
abbrev pub OneForm : Type 0
OneForm = (n n' : Network Field) → SameNetwork (undated n) (undated n') → packed_form n ≡ packed_form n'

-- and one form is one network's, with one place for each name
abbrev pub OneNetwork : Type 0
OneNetwork = (bytes : Bytes) (n n' : Network Field) → length bytes ≤ longest → IsPackedFormOf n bytes → IsPackedFormOf n' bytes → n ≡ n'

-- L12: "Unpacking gives the network back but for the date": this network without it, in tables that were lent as t, with so many rows; its names lie in the packed bytes, and asking there for each gives its bytes
pub record Back (n : Network Field) (form : Bytes) (t : Lent) (c : Counts) (reply : RndfReply) (left : Lent) : Type 0 where
  pub again : Network Field
  pub same : SameNetwork again (undated n)
  pub is_form : IsPackedFormOf again form
  pub replied : reply ≡ Ok (c, network_file again)
  pub holds : left ≡ filled again t
  pub names : NamesAsked form (network_file again) again

-- of every network, whatever the size of its texts, into any tables with room
abbrev pub GivesBack : Type 0
GivesBack = (n : Network Field) → IsNetwork n → length (packed_form n) ≤ longest → (t : Lent) → HasRoom n t → (reply : RndfReply) (left : Lent) → Unpacks (packed_form n) t reply left → Back n (packed_form n) t (rows_used_of n) reply left

-- THERE AND BACK, from the contracts alone: what was packed of a text is unpacked as the network that the text spells, but for its date. t': the receiver's tables, any with room. rules: those of the edition that the text was packed by (L10); unpacking has none
abbrev pub ThereAndBack : Rules → Type 0
ThereAndBack rules = (text : Bytes) (t : Lent) (lent : ℕ) (c : Counts) (file : FileRow) (k : ℕ) (left : Lent) (out : Bytes) → WritesPacked rules text t lent (Ok (c, file, k)) left out
    → (n : Network Field) → SpellsText rules SpellsNetwork n text → (t' : Lent) → HasRoom n t' → (reply : RndfReply) (left' : Lent) → Unpacks (take k out) t' reply left' → Back n (take k out) t' c reply left'

-- "bytes that are not some network's packed form are refused"
abbrev pub NoOthers : Type 0
NoOthers = (bytes : Bytes) (t : Lent) (c : Counts) (file : FileRow) (left : Lent) → Unpacks bytes t (Ok (c, file)) left → (n : Network Field) × IsPackedFormOf n bytes
