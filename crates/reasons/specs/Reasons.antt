-- WHAT A READER MUST BELIEVE. The words of each refusal number: those of docs/REFUSALS.md's table. Assumes nothing.
use Rattle.std.specs.Prelude.{get_or, ◌∷◌}
use Rattle.terms.specs.Words.{List, [], ℕ, eqb, Bytes, ascii, pick}

-- no reply has such a number
abbrev pub no_reason : Bytes
no_reason = ascii "no such refusal"

-- 01, "Refusal numbers", and those that the requests add (L4: 20; L5: 21 to 24; L8: 25; L9: 26; L11: 27 to 29; L13: 30 and 31): from 0, which none has
unfoldable pub reasons : List Bytes
reasons =
    no_reason
    ∷ ascii "the text is over 16,777,215 bytes"
    ∷ ascii "the line is over 512 bytes"
    ∷ ascii "the comment is not closed, or something other than tabs and spaces follows it"
    ∷ ascii "a byte that is not allowed"
    ∷ ascii "unknown statement, or one that may not stand here"
    ∷ ascii "a single option given again"
    ∷ ascii "wrong number of fields"
    ∷ ascii "a field is not of its kind"
    ∷ ascii "a value that is not permitted here"
    ∷ ascii "the text ends before `end_file`"
    ∷ ascii "a table has fewer rows than needed"
    ∷ ascii "the entry is no declared lane waypoint or perimeter point"
    ∷ ascii "the checkpoint number is already declared"
    ∷ ascii "the MDF names another RNDF"
    ∷ ascii "the goal is no checkpoint of the RNDF"
    ∷ ascii "the limit's id is not in the RNDF"
    ∷ ascii "the limit's id was already given"
    ∷ ascii "some segment or zone has no limit"
    ∷ ascii "the writing is over 16,777,215 bytes, or longer than the lent output"
    ∷ ascii "the two lists differ in length"
    ∷ ascii "the route is empty, or does not begin at a declared start"
    ∷ ascii "a step of the route is no move"
    ∷ ascii "a goal is not met in order"
    ∷ ascii "the route does not end at the last goal's point"
    ∷ ascii "the spot has no checkpoint"
    ∷ ascii "past mending"
    ∷ ascii "the bytes are of another version, or there are none"
    ∷ ascii "a length is wrong: the first is cut short or not the count of the bytes behind it, or a record runs past the end"
    ∷ ascii "the records are not the packed form of a network"
    ∷ ascii "the start is no declared point"
    ∷ ascii "a goal can't be reached"
    ∷ []

unfoldable pub reason : ℕ → Bytes
reason number = get_or reasons number no_reason

-- L13: "11 (file 0) for the work space": there it is no table that is short
abbrev pub short_work : Bytes
short_work = ascii "the work space has fewer rows than points"

-- the words of a refusal, by its file too
unfoldable pub reason_of : (file number : ℕ) → Bytes
reason_of file number = pick (eqb file 0) (pick (eqb number 11) short_work (reason number)) (reason number)
