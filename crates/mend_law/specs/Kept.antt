-- WHAT A READER MUST BELIEVE. What is promised of the mending tool beside its contract: of lines that are not listed, and of accepted texts. Request L9. Assumes nothing.
use Rattle.mend_law.specs.Types.{MendReply}
use Rattle.std.specs.Prelude.{◌≡◌, Ok}
use Rattle.terms.specs.Words.{List, ℕ, length, take, replicate, Bytes, Each, Among}
use Rattle.law.specs.Network.{Edition, reading}
use Rattle.law.specs.Tables.{gather}
use Rattle.output.specs.Output.{Fits, padded}
use Rattle.mend_law.specs.Mend.{piece, changes, listed_rows}
use Rattle.mend_law.specs.Mends.{AcceptedWithRoom, ListRoom, Mends}

-- "Lines not listed come out byte for byte and in order.": the lines are the text, and one is listed exactly if another thing comes out in its place. What comes out is the pieces in this order (Mend.mended_text); gather (take 1): the numbers listed
pub record LinesKept (text : Bytes) : Type 0 where
  pub whole : gather (λ c. c.whole) (changes text) ≡ text
  pub kept : Each (λ c. (Among c.line (gather (take 1) (listed_rows text)) → ⊥) → piece c.change c.whole ≡ c.whole) (changes text)
  pub listed : Each (λ c. Among c.line (gather (take 1) (listed_rows text)) → piece c.change c.whole ≡ c.whole → ⊥) (changes text)

-- "An accepted text comes out the same with an empty list; list rows not used are zero.": by the tool's contract, in an edition (L10), where there is room for the list and for the text
abbrev pub AcceptedStays : Edition → Type 0
AcceptedStays edition = (text : Bytes) (list : List ℕ) (lent : ℕ) (reply : MendReply) (left : List ℕ) (out : Bytes) → AcceptedWithRoom (reading edition) text → ListRoom text list → Fits lent text
    → Mends (reading edition) text list lent reply left out → (reply ≡ Ok (0, length text)) × (left ≡ replicate (length list) 0) × (out ≡ padded lent text)
