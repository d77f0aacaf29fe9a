-- WHAT A READER MUST BELIEVE. What was mended once needs no second mending, by the tool's contract, in an edition (L10). Request L9. Assumes nothing.
use Rattle.mend_law.specs.Types.{MendReply}
use Rattle.std.specs.Prelude.{◌≡◌, Ok}
use Rattle.terms.specs.Words.{List, ℕ, length, take, replicate, Bytes}
use Rattle.law.specs.Network.{Edition, reading}
use Rattle.output.specs.Output.{Fits, padded}
use Rattle.mend_law.specs.Mends.{AcceptedWithRoom, ListRoom, Mends}

-- a reader with room enough accepts what came out
abbrev pub MendedOnce : Edition → Type 0
MendedOnce edition = (text : Bytes) (list : List ℕ) (lent rows bytes : ℕ) (left : List ℕ) (out : Bytes) → Mends (reading edition) text list lent (Ok (rows, bytes)) left out → AcceptedWithRoom (reading edition) (take bytes out)

-- and where it is mended again, with room for the list and for the text, it stays, with an empty list
abbrev pub MendedAgain : Edition → Type 0
MendedAgain edition = (text : Bytes) (list : List ℕ) (lent rows bytes : ℕ) (left : List ℕ) (out : Bytes) → Mends (reading edition) text list lent (Ok (rows, bytes)) left out
    → (list' : List ℕ) (lent' : ℕ) (reply : MendReply) (left' : List ℕ) (out' : Bytes) → ListRoom (take bytes out) list' → Fits lent' (take bytes out) → Mends (reading edition) (take bytes out) list' lent' reply left' out'
    → (reply ≡ Ok (0, length (take bytes out))) × (left' ≡ replicate (length list') 0) × (out' ≡ padded lent' (take bytes out))
