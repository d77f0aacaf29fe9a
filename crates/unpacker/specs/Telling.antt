-- Executable: what is told of bytes, with the refusals in their order. Assumes nothing.
use Rattle.std.specs.Prelude.{Some, None, Ok, Err, Option, Result}
use Rattle.terms.specs.Words.{ℕ, ltb, length, Bytes, pick}
use Rattle.counts.specs.declared.Counts.{Counts}
use Rattle.room.specs.Room.{parts_fit_of, marks_fit_of}
use Rattle.replies.specs.Replies.{longest, refusal}
use Rattle.packed_check.specs.Judgement.{judgement}
use Rattle.unpacked_rows.specs.Front.{version_here, framed_here}
use Rattle.rows.specs.declared.FileRow.{FileRow}
use Rattle.unpacked_rows.specs.declared.Places.{Places}
use Rattle.refusal.specs.declared.Refusal.{Refusal}

-- ## The bytes alone
-- L11: "29 records that are not the packed form of a network by 01 and L8, text size apart"
abbrev pub told_of : Option (Counts × FileRow × Places) → Result (Counts × FileRow × Places) Refusal
told_of None = Err (refusal 0 0 29 0)
told_of (Some (c, file, places)) = Ok (c, file, places)

-- "1 over 16,777,215 bytes; 27 version not 1 or no bytes; 28 the first length is cut short or not the count of bytes behind it, or a record runs past the end"
unfoldable pub looked : Bytes → Result (Counts × FileRow × Places) Refusal
looked b = pick (ltb longest (length b)) (Err (refusal 1 0 1 0)) (pick (version_here b) (pick (framed_here b) (told_of (judgement b)) (Err (refusal 0 0 28 0))) (Err (refusal 0 0 27 0)))

-- ## Room: "then 11"
-- where tables of so many numbers are lent
abbrev pub roomed : Result (Counts × FileRow × Places) Refusal → (segments lanes zones spots points checkpoints stops exits : ℕ) → Result (Counts × FileRow × Places) Refusal
roomed (Err why) a b d e g h k l = Err why
roomed (Ok (c, file, places)) a b d e g h k l = pick (parts_fit_of c a b d e) (pick (marks_fit_of c g h k l) (Ok (c, file, places)) (Err (refusal 1 0 11 0))) (Err (refusal 1 0 11 0))
