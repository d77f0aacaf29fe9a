-- `reasons::put_reason_of` meets its contract: 11 of file 0, and all others. Assumes nothing.
use Rattle.terms.specs.Ascii.{ascii}
use Rattle.output.proofs.Writing.{same}
use Rattle.reasons.proofs.Others.{of-a-file, of_another, of_work}
use Rattle.reasons.proofs.put_reason_of.Goals as goal
use Rattle.reasons.proofs.put_reason_of.Goals.{else-file-eq0-via-then-file-eq0+else-number-eq11, else-file-eq0-via-else-file-eq0}

pub returns-then-number-eq11 : goal.returns-then-number-eq11
unfolding ascii
returns-then-number-eq11 c = same (of_work _ _ c.if-file-eq0.true c.if-number-eq11.true) c.put_bytes.ensures

pub returns : goal.returns
returns c =
    elim c.else-file-eq0.branch [
      | else-file-eq0-via-then-file-eq0+else-number-eq11 w ↦ same (of_another _ _ w.if-number-eq11.false) c.put_reason.ensures
      | else-file-eq0-via-else-file-eq0 w ↦ same (of-a-file _ _ w.if-file-eq0.false) c.put_reason.ensures
    ]
