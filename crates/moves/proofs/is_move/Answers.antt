-- `moves::is_move` meets its contract. Assumes nothing.
use mathlib.Core.Path.{sym, ap, ◌∙◌}
use Rattle.moves.specs.declared.Part.{Part}
use Rattle.moves.specs.Moves.{inside, lane_move_of, zone_move_of, is_move}
use Rattle.moves.proofs.is_move.Goals as goal

pub returns-then-inside : goal.returns-then-inside
unfolding is_move
returns-then-inside c =
    let a = c.args in
    let found = c.lane_of-lane.ensures in
    let in_lane = ap (λ (p : Part). inside p a.a) (sym found) ∙ sym c.inside.ensures ∙ c.if-inside.true in
    c.lane_move.ensures ∙ ap (λ (p : Part). lane_move_of a.exits.now a.c.exits p a.a a.b) found ∙ rw in_lane

pub returns-then-inside-2 : goal.returns-then-inside-2
unfolding is_move
returns-then-inside-2 c =
    let a = c.args in
    let found = c.zone_of-zone.ensures in
    let the_no_lane_of = ap (λ (p : Part). inside p a.a) (sym c.lane_of-lane.ensures) ∙ sym c.inside.ensures ∙ c.if-inside.false in
    let in-zone = ap (λ (p : Part). inside p a.a) (sym found) ∙ sym c.inside-2.ensures ∙ c.if-inside-2.true in
    c.zone_move.ensures ∙ ap (λ (p : Part). zone_move_of a.exits.now a.c.exits p a.a a.b) found ∙ rw (the_no_lane_of, in-zone)

pub returns-else-inside-2 : goal.returns-else-inside-2
unfolding is_move
returns-else-inside-2 c =
    let a = c.args in
    let the_no_lane_of = ap (λ (p : Part). inside p a.a) (sym c.lane_of-lane.ensures) ∙ sym c.inside.ensures ∙ c.if-inside.false in
    let the_no_zone_of = ap (λ (p : Part). inside p a.a) (sym c.zone_of-zone.ensures) ∙ sym c.inside-2.ensures ∙ c.if-inside-2.false in
    c.if-inside-2.false ∙ rw (the_no_lane_of, the_no_zone_of)
