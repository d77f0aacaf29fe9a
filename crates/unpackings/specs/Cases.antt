-- WHAT A READER MUST BELIEVE. Bytes that are refused, and with what number, whatever is lent; yard A's form, where there is room for its rows and where there is not. Document 02, L11 and L12. Assumes nothing.
use Rattle.replies.specs.Types.{RndfReply}
use Rattle.std.specs.Prelude.{◌≡◌, ◌∷◌, ◌++◌, ◌<◌, Ok, Err}
use Rattle.terms.specs.Words.{List, [], ℕ, length, take, drop, Bytes, Each}
use Rattle.law.specs.Tables.{Lent, HasRoom, filled, zeros}
use Rattle.packed_law.specs.Yards.{yard_a, form_a}
use Rattle.rows.specs.declared.FileRow.{FileRow}
use Rattle.replies.specs.Replies.{refusal}
use Rattle.promises.specs.Yards.{counts, the_the_stretch_of}
use Rattle.unpackings.specs.Unpacks.{Unpacks}

-- this reply, with all lent tables zero, meets the contract, and no other does
pub record Refused (bytes : Bytes) (t : Lent) (file number : ℕ) : Type 0 where
  pub meets : Unpacks bytes t (Err (refusal file 0 number 0)) (zeros t)
  pub only : (r : RndfReply) (l : Lent) → Unpacks bytes t r l → (r ≡ Err (refusal file 0 number 0)) × (l ≡ zeros t)

pub record Case : Type 0 where
  pub bytes : Bytes
  pub number : ℕ

abbrev pub case : (bytes : Bytes) (number : ℕ) → Case
case bytes number = record { bytes = bytes; number = number }

-- no bytes; version 1 (L12: "bytes of version 1 give 27 from then on"), whatever follows, and another version; the first length missing, and cut short; no record; a record's length cut short, and a record past the end; an empty record; yard A's form without its last byte, and with a byte more
abbrev pub cases : List Case
cases =
    case [] 27
    ∷ case (1 ∷ drop 1 form_a) 27
    ∷ case (3 ∷ []) 27
    ∷ case (2 ∷ []) 28
    ∷ case (2 ∷ 0 ∷ 0 ∷ 0 ∷ []) 28
    ∷ case (2 ∷ 0 ∷ 0 ∷ 0 ∷ 0 ∷ []) 29
    ∷ case (2 ∷ 0 ∷ 0 ∷ 0 ∷ 1 ∷ 0 ∷ []) 28
    ∷ case (2 ∷ 0 ∷ 0 ∷ 0 ∷ 3 ∷ 0 ∷ 2 ∷ 0 ∷ []) 28
    ∷ case (2 ∷ 0 ∷ 0 ∷ 0 ∷ 2 ∷ 0 ∷ 0 ∷ []) 29
    ∷ case (take 108 form_a) 28
    ∷ case (form_a ++ (0 ∷ [])) 28
    ∷ []

abbrev pub AllRefused : Lent → List Case → Type 0
AllRefused t = Each (λ c. Refused c.bytes t 0 c.number)

-- yard A's name starts at 41 of its form; no format version, no creation date
abbrev pub unpacked_file : FileRow
unpacked_file = record { name = the_the_stretch_of 41 6; version = the_the_stretch_of 0 0; date = the_the_stretch_of 0 0 }

-- its two points take four numbers of the table of points
pub record YardUnpacked (t : Lent) : Type 0 where
  pub roomy : HasRoom (yard_a 41) t → Unpacks form_a t (Ok (counts, unpacked_file)) (filled (yard_a 41) t)
  pub short : length t.points < 4 → Refused form_a t 1 11
