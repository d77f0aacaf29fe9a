-- `mission_reader::limits_fault` meets its contract. Assumes nothing.
use borrow.Author.Tests.{eq-eqb, ne_eqb}
use Rattle.mission_reader.specs.MissionReading.{limit_found}
use mathlib.Core.Path.{refl}
use Rattle.mission_reader.proofs.limits_fault.Goals as goal

pub returns-in-NotThere : goal.returns-in-NotThere
unfolding limit_found
returns-in-NotThere c = rw (← c.first_bad_limit-bad.ensures, c.in-NotThere.is, ← c.mdf_line.ensures) refl

pub returns-in-Again : goal.returns-in-Again
unfolding limit_found
returns-in-Again c = rw (← c.first_bad_limit-bad.ensures, c.in-Again.is, ← c.mdf_line-in-Again.ensures) refl

pub returns-then-limit_count-parts : goal.returns-then-limit_count-parts
unfolding limit_found
returns-then-limit_count-parts c = rw (← c.first_bad_limit-bad.ensures, c.in-Nothing.is, eq-eqb _ _ c.if-limit_count-parts.true) refl

pub returns-else-limit_count-parts : goal.returns-else-limit_count-parts
unfolding limit_found
returns-else-limit_count-parts c = rw (← c.first_bad_limit-bad.ensures, c.in-Nothing.is, ne_eqb _ _ c.if-limit_count-parts.false, ← c.mdf_line-else-limit_count-parts.ensures) refl
