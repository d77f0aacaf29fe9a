-- `legs::stuck_from` meets its contract. Assumes nothing.
use mathlib.Core.Path.{sym, ◌∙◌}
use lib.ListN.{length}
use Rattle.search.specs.Search.{found_from}
use Rattle.goal_points.specs.Goals.{goal_point_of}
use Rattle.legs.proofs.Steps.{stuck-before, stuck-after}
use Rattle.legs.proofs.stuck_from.Goals as goal

pub returns-then-stood : goal.returns-then-stood
returns-then-stood c =
    let a = c.args in
    stuck-before a.goals.now (goal_point_of a.checkpoints.now a.goals.now) (found_from a.lanes.now a.zones.now a.exits.now a.c (length a.work.now)) a.row a.bad c.word-number.result c.word-number.ensures (sym c.stood.ensures ∙ c.if-stood.true)

pub returns : goal.returns
returns c =
    let a = c.args in
    c.first_unmarked.ensures
    ∙ stuck-after a.goals.now (goal_point_of a.checkpoints.now a.goals.now) (found_from a.lanes.now a.zones.now a.exits.now a.c (length a.work.now)) a.row a.bad c.word-number.result c.word-number.ensures c.goal_point-from.result c.search_from.new.work (sym c.stood.ensures ∙ c.if-stood.false) c.goal_point-from.ensures c.search_from.ensures
