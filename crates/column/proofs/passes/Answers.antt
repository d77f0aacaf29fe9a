-- `column::passes` meets its contract. Assumes nothing.
use mathlib.Core.Path.{◌≡◌}
use mir.Syntax.{w32}
use mir.Val.{to_z, of_z}
use borrow.Author.Rules.{rules}
use Rattle.column.proofs.passes.Goals as goal

pub returns : goal.returns
returns c =
    let z = c.args.latitude in
    let e : to_z w32 (of_z w32 z) ≡ z = search rules in
    rw (← e, ← c.major.ensures, ← c.minor.ensures) c.the_point.ensures
