-- `edition_judge::barred` meets its contract. Assumes nothing.
use mathlib.Core.Path.{refl}
use Rattle.place_table.specs.Verdicts.{verdict_of}
use Rattle.edition_judge.specs.EditionLine.{bars_of}
use Rattle.edition_judge.proofs.barred.Goals as goal

pub returns-in-March2007 : goal.returns-in-March2007
unfolding bars_of verdict_of
returns-in-March2007 c = rw c.in-March2007.is refl

pub returns-in-December2006 : goal.returns-in-December2006
returns-in-December2006 c = rw c.in-December2006.is c.bars.ensures
