-- `marks::is_there` meets its contract. Assumes nothing.
use mathlib.Core.Path.{sym}
use Rattle.units.specs.Range.{largest}
use Rattle.marks.specs.Tests.{ids_to}
use Rattle.marks.proofs.Walked.{never-there, there-by-most, above-parts}
use Rattle.marks.proofs.is_there.Goals as goal

pub returns-then-id-lt1 : goal.returns-then-id-lt1
returns-then-id-lt1 c = let a = c.args in sym (never-there (ids_to a.parts) a.id.0 c.if-id-lt1.true)

pub returns-then-id-parts : goal.returns-then-id-parts
returns-then-id-parts c =
    let a = c.args in
    sym (there-by-most a.parts largest a.id.0 c.if-id-lt1.false c.if-id-parts.true)

pub returns-else-id-parts : goal.returns-else-id-parts
returns-else-id-parts c =
    let a = c.args in
    sym (above-parts a.parts largest a.id.0 c.if-id-lt1.false c.if-id-parts.false)
