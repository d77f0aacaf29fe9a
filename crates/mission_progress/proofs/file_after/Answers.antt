-- `mission_progress::file_after` meets its contract. Assumes nothing.
use mathlib.Core.Path.{sym}
use borrow.Enum.Refused.{opened}
use Rattle.mission_progress.specs.Progress.{file_after_of}
use Rattle.mission_progress.proofs.Rest.{file-stays}
use Rattle.mission_progress.proofs.file_after.Goals as goal

pub returns-in-MdfName : goal.returns-in-MdfName
unfolding file_after_of
returns-in-MdfName c = rw (c.in-MdfName.is, c.name_at.ensures)

pub returns-in-Rndf : goal.returns-in-Rndf
unfolding file_after_of
returns-in-Rndf c = rw (c.in-Rndf.is, c.name_at-in-Rndf.ensures)

pub returns-in-FormatVersion : goal.returns-in-FormatVersion
unfolding file_after_of
returns-in-FormatVersion c = rw (c.in-FormatVersion.is, c.name_at-in-FormatVersion.ensures)

pub returns-in-CreationDate : goal.returns-in-CreationDate
unfolding file_after_of
returns-in-CreationDate c = rw (c.in-CreationDate.is, c.name_at-in-CreationDate.ensures)

pub returns-in_default : goal.returns-in_default
unfolding file_after_of
returns-in_default c =
    let a = c.args in
    sym (file-stays a.o a.file (opened c.in_default.in_default-own.keys5))
