-- `column::latitude_wrong` meets its contract. Assumes nothing.
use mathlib.Core.Path.{◌≡◌}
use mir.Syntax.{w32}
use mir.Val.{to_z, of_z}
use borrow.Author.Rules.{rules}
use Rattle.columns.specs.RndfColumns.{latitude_wrong_of}
use Rattle.column.proofs.latitude_wrong.Goals as goal

pub returns-in_default : goal.returns-in_default
unfolding latitude_wrong_of
returns-in_default c = rw c.in_default.is

pub returns-then-tried : goal.returns-then-tried
unfolding latitude_wrong_of
returns-then-tried c =
    let z = c.in-Some.latitude in
    let e : to_z w32 (of_z w32 z) ≡ z = search (rules, c.in-Some.known_told-1-own.given) in
    rw (c.in-Some.is, ← e, ← c.passes.ensures, ← c.tried.ensures, c.if-tried.true)

pub returns-else-tried : goal.returns-else-tried
unfolding latitude_wrong_of
returns-else-tried c =
    let z = c.in-Some.latitude in
    let e : to_z w32 (of_z w32 z) ≡ z = search (rules, c.in-Some.known_told-1-own.given) in
    rw (c.in-Some.is, ← e, ← c.passes.ensures, ← c.tried.ensures, c.if-tried.false)
