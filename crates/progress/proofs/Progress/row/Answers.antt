-- `progress::Progress::row` meets its contract. Assumes nothing.
use mathlib.Core.Path.{◌≡◌, refl, sym}
use mir.Syntax.{w32}
use mir.Val.{to_z, of_z}
use Rattle.progress.specs.Given.{row_of}
use Rattle.progress.proofs.Rest.{no_row}
use borrow.Author.Rules.{rules}
use Rattle.progress.proofs.Progress.row.Goals as goal

pub returns-in-EndSegment : goal.returns-in-EndSegment
unfolding row_of
returns-in-EndSegment c = rw c.in-EndSegment.is refl

pub returns-in-EndLane : goal.returns-in-EndLane
unfolding row_of
returns-in-EndLane c = rw c.in-EndLane.is refl

pub returns-in-EndZone : goal.returns-in-EndZone
unfolding row_of
returns-in-EndZone c = rw c.in-EndZone.is refl

pub returns-in-EndSpot : goal.returns-in-EndSpot
unfolding row_of
returns-in-EndSpot c = rw c.in-EndSpot.is refl

pub returns-in-Point : goal.returns-in-Point
unfolding row_of
returns-in-Point c =
    let a = c.in-Point.latitude in
    let o = c.in-Point.longitude in
    let e : to_z w32 (of_z w32 a) ≡ a = search (rules, c.in-Point.known_told-1-own.given) in
    let g : to_z w32 (of_z w32 o) ≡ o = search (rules, c.in-Point.known_told-1-own.given) in
    rw (e, g, c.in-Point.is) refl

pub returns-in-Checkpoint : goal.returns-in-Checkpoint
unfolding row_of
returns-in-Checkpoint c = rw (c.in-Checkpoint.is, c.new.ensures, c.point_row.ensures) refl

pub returns-in-Stop : goal.returns-in-Stop
unfolding row_of
returns-in-Stop c = rw (c.in-Stop.is, c.point_row-in-Stop.ensures) refl

pub returns-in-Exit : goal.returns-in-Exit
unfolding row_of
returns-in-Exit c = rw (c.in-Exit.is, c.point_row-in-Exit.ensures) refl

pub returns-in_default : goal.returns-in_default
returns-in_default c = sym (no_row c.args.s c.args.start c.args.self (search (rules, c.in_default.in_default-own)))
