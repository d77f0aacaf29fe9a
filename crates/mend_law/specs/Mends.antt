-- WHAT A READER MUST BELIEVE. What the mending tool replies, and what the lent list and the lent output then hold. Request L9. Assumes nothing.
use Rattle.mend_law.specs.Types.{MendReply}
use Rattle.std.specs.Prelude.{◌≡◌, ◌/◌, ◌≤◌, ◌<◌, Ok, Err}
use Rattle.terms.specs.Words.{List, ℕ, length, replicate, Bytes}
use Rattle.line.specs.Line.{Field}
use Rattle.line.specs.Cutting.{lines_of}
use Rattle.law.specs.Network.{Network, Rules}
use Rattle.law.specs.Tables.{Lent, holding}
use Rattle.output.specs.Output.{zero_bytes, Fits, padded}
use Rattle.replies.specs.Replies.{an_rndf, Accepts, longest, refusal}
use Rattle.mend_law.specs.Mend.{mended_text, listed_rows}

-- "a reader with room enough" accepts the text: there are tables with which it does
abbrev pub AcceptedWithRoom : Rules → Bytes → Type 0
AcceptedWithRoom rules text = (tables : Lent) × (n : Network Field) × Accepts rules (an_rndf tables) text n

-- "The lent list has a row for each line of the text": a row is two words
abbrev pub ListRoom : Bytes → List ℕ → Type 0
ListRoom text list = length (lines_of text) ≤ length list / 2

-- rules: `reading` of the edition that the caller says (L10); they bear on 26 alone, not on what is changed; list: as it was lent; lent: the length of the lent output
module _ (rules : Rules) (text : Bytes) (list : List ℕ) (lent : ℕ) where
  -- "Refusals: 1, then 11, then 26 exactly if the text with those three changes would still be refused by a reader with room enough, then 19": a later one only where none before it holds
  -- 01: "1, 11 and 19 of a part that takes no MDF give file 1"; L4: "Numbers from 20 on give file 0 and line 0 unless their request says otherwise"; L2: "19, with its zeros, where this or a later request's output is over 16,777,215 bytes or longer than the lent one" (one over that size has got 26 before)
  pub data MendRefuses : (file number : ℕ) → Type 0 where
    too_long : longest < length text → MendRefuses 1 1
    no_room : length text ≤ longest → (ListRoom text list → ⊥) → MendRefuses 1 11
    past_mending : length text ≤ longest → ListRoom text list → (AcceptedWithRoom rules (mended_text text) → ⊥) → MendRefuses 0 26
    no_output : length text ≤ longest → ListRoom text list → AcceptedWithRoom rules (mended_text text) → (Fits lent (mended_text text) → ⊥) → MendRefuses 1 19

  -- the reply, and what is left in the lent list and the lent output
  pub data Mends (reply : MendReply) (left : List ℕ) (out : Bytes) : Type 0 where
    -- "the output and list are zero". The line and (L7: "Where the line is 0, .. it is 0") the column are 0
    refused : (file number : ℕ) → MendRefuses file number → reply ≡ Err (refusal file 0 number 0) → left ≡ replicate (length list) 0 → out ≡ zero_bytes lent → Mends reply left out
    -- how many lines are listed and how many bytes came out. "list rows not used are zero"; 01: "A lent output is zero behind what was written."
    done : length text ≤ longest → ListRoom text list → AcceptedWithRoom rules (mended_text text) → Fits lent (mended_text text)
        → reply ≡ Ok (length (listed_rows text), length (mended_text text)) → left ≡ holding 0 (listed_rows text) list → out ≡ padded lent (mended_text text) → Mends reply left out
