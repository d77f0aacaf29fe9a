-- WHAT A READER MUST BELIEVE. What unpacking replies, and what the lent tables then hold. Document 02, L11 and L12. Assumes nothing.
use Rattle.replies.specs.Types.{RndfReply}
use Rattle.std.specs.Prelude.{◌≡◌, ◌≤◌, ◌<◌, Ok, Err}
use Rattle.terms.specs.Words.{none, ℕ, length, Bytes}
use Rattle.line.specs.Line.{Field}
use Rattle.law.specs.Network.{Network, present, SpellsNetwork, SpellsText}
use Rattle.law.specs.Tables.{Lent, HasRoom, filled, zeros}
use Rattle.law.specs.Faults.{Sound}
use Rattle.law.specs.Same.{SameNetwork}
use Rattle.packed_law.specs.Packed.{packed_form, all_slots, NamesLie, OfThisVersion, LengthsRight}
use Rattle.replies.specs.Replies.{longest, refusal, rows_used_of, network_file}

-- L11: "a network by 01 and L8, text size apart": some text, of any size, spells it by the present rules (L8's is among them), names by their bytes; and its references are right
pub record IsNetwork (n : Network Field) : Type 0 where
  pub text : Bytes
  pub written : Network Field
  pub spelled : SpellsText present SpellsNetwork written text
  pub same : SameNetwork written n
  pub sound : Sound n

-- these bytes are the packed form of this network. L11: "Names then lie in the packed bytes": the first record stands behind the version byte and the four of the length
pub record IsPackedFormOf (n : Network Field) (bytes : Bytes) : Type 0 where
  pub network : IsNetwork n
  pub form : bytes ≡ packed_form n
  pub names : NamesLie 5 (all_slots n)
  -- L12: "Unpacking gives the network back but for the date."
  pub dateless : n.date ≡ none

-- t: the tables as they were lent
module _ (bytes : Bytes) (t : Lent) where
  -- L11: "Refusals, in order": a later one only where none before it holds. L4: "Numbers from 20 on give file 0"; 01: "1, 11 and 19 of a part that takes no MDF give file 1"
  pub data UnpackRefuses : (file number : ℕ) → Type 0 where
    -- "1 over 16,777,215 bytes"
    too_long : longest < length bytes → UnpackRefuses 1 1
    -- "27 version not 1 or no bytes", by L12 not 2
    other_version : length bytes ≤ longest → (OfThisVersion bytes → ⊥) → UnpackRefuses 0 27
    -- "28 the first length is cut short or not the count of bytes behind it, or a record runs past the end"
    cut_short : length bytes ≤ longest → OfThisVersion bytes → (LengthsRight bytes → ⊥) → UnpackRefuses 0 28
    -- "29 records that are not the packed form of a network by 01 and L8, text size apart"
    no_network : length bytes ≤ longest → OfThisVersion bytes → LengthsRight bytes → ((n : Network Field) → IsPackedFormOf n bytes → ⊥) → UnpackRefuses 0 29
    -- "then 11": a packed form has this version and right lengths, so that none of the others holds; "and 19" is packing's (writings/specs/Writes), since unpacking has no output
    no_room : (n : Network Field) → length bytes ≤ longest → IsPackedFormOf n bytes → (HasRoom n t → ⊥) → UnpackRefuses 1 11

  pub data Unpacks (reply : RndfReply) (left : Lent) : Type 0 where
    -- L4: "and line 0"; L7: "Where the line is 0 .. it is 0", the column. 01: "All lent tables .. are then zero over their whole length"
    refused : (file number : ℕ) → UnpackRefuses file number → reply ≡ Err (refusal file 0 number 0) → left ≡ zeros t → Unpacks reply left
    -- "unpacking gives the network back": the reply and the tables of a reader, each name by its place in the packed bytes
    unpacked : (n : Network Field) → length bytes ≤ longest → IsPackedFormOf n bytes → HasRoom n t → reply ≡ Ok (rows_used_of n, network_file n) → left ≡ filled n t → Unpacks reply left
