-- `files::put_trouble` meets its contract: by what came of the file. Assumes nothing.
use Rattle.terms.specs.Ascii.{ascii}
use Rattle.output.proofs.Writing.{none}
use Rattle.files.specs.Troubles.{trouble}
use Rattle.files.proofs.put_trouble.Goals as goal

pub returns-in-Missing : goal.returns-in-Missing
unfolding ascii trouble
returns-in-Missing c = rw c.in-Missing.is c.put_of.ensures

pub returns-in-Folder : goal.returns-in-Folder
unfolding ascii trouble
returns-in-Folder c = rw c.in-Folder.is c.put_of-in-Folder.ensures

pub returns-in-Unreadable : goal.returns-in-Unreadable
unfolding ascii trouble
returns-in-Unreadable c = rw c.in-Unreadable.is c.put_of-in-Unreadable.ensures

pub returns-in-Mission : goal.returns-in-Mission
unfolding ascii trouble
returns-in-Mission c = rw c.in-Mission.is c.put_of-in-Mission.ensures

pub returns-in-TooBig : goal.returns-in-TooBig
unfolding ascii trouble
returns-in-TooBig c = rw c.in-TooBig.is c.put_of-in-TooBig.ensures

pub returns-in-OverLimit : goal.returns-in-OverLimit
unfolding ascii trouble
returns-in-OverLimit c = rw c.in-OverLimit.is c.put_of-in-OverLimit.ensures

pub returns-in-Bytes : goal.returns-in-Bytes
unfolding trouble
returns-in-Bytes c = rw c.in-Bytes.is none

pub returns-in-NotAsked : goal.returns-in-NotAsked
unfolding trouble
returns-in-NotAsked c = rw c.in-NotAsked.is none
