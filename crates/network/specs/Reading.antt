-- Executable: the walk over an RNDF's lines that stores their rows. Assumes nothing.
use Rattle.std.specs.Prelude.{ℕ, Ok, Err, Result}
use Rattle.terms.specs.Ascii.{Bytes}
use Rattle.line.specs.Lines.{lines_of}
use Rattle.grammar.specs.Editions.{Edition}
use Rattle.statement.specs.declared.Statement.{Statement}
use Rattle.place.specs.Step.{first_place, over_of}
use Rattle.progress.specs.declared.Progress.{Progress}
use Rattle.progress.specs.After.{after_of}
use Rattle.progress.specs.Given.{row_of}
use Rattle.walk.specs.Standing.{Where}
use Rattle.walk.specs.Walking.{Found, fault, gathered, walked}
use Rattle.edition_judge.specs.EditionLine.{judging_in}
use Rattle.refusal.specs.Size.{if_too_long}
use Rattle.network.specs.Storing.{Memory, memory, stored}
pub use Rattle.refusal.specs.Size.{most}
use Rattle.refusal.specs.declared.Fault.{Fault}

abbrev pub with_progress : Progress → Memory → Memory
with_progress p m = memory p m.segments m.lanes m.zones m.spots m.points m.checkpoints m.stops m.exits

-- a statement on a line: its row is stored, and counted
unfoldable pub put : Where → Statement → Memory → Memory
put w s m = with_progress (after_of s m.so_far) (stored (row_of s w.last m.so_far) m)

-- what was answered, and what the tables then hold, where there is no fault
abbrev pub told : Result Progress Fault → (Progress → Memory) → Found Memory
told (Err f) tables = fault f.line f.number
told (Ok p) tables = gathered (tables p)

-- tables of which there is so much so far, behind all lines of a text that is read by an edition
unfoldable pub filled_of : Edition → Bytes → Memory → Found Memory
filled_of e text m = walked (judging_in e) put over_of first_place m 0 1 (lines_of text)

-- 1 of a text that is too long; else the walk
unfoldable pub filled_in : Edition → Bytes → Memory → Found Memory
filled_in e text m = if_too_long text (fault 0 1) (filled_of e text m)
