-- `legs::later_stuck` meets its contract: what is known of the legs from the numbers of the rows passed. Assumes nothing.
use mathlib.Core.Path.{refl, sym, ap, subst, ◌∙◌}
use Prim.Native.Nat.{ℕ, ◌+◌}
use native.Mathlib.Omega.{arith}
use lib.ListN.{length, replicate}
use Rattle.search.specs.Search.{found_from, leads_to_of}
use Rattle.goal_points.specs.Goals.{goal_point_of}
use Rattle.legs.specs.Legs.{stuck_from_of}
use Rattle.legs.proofs.Steps.{Looked, looked-first, looked-on, looked-over, same_point, by-search}
use Rattle.legs.proofs.later_stuck.Goals as goal

pub loop-row-init : goal.loop-row-init
loop-row-init c =
    let a = c.args in
    (refl, omega arith, looked-first (leads_to_of a.lanes.now a.zones.now a.exits.now a.c (length a.work.now)) (goal_point_of a.checkpoints.now a.goals.now) a.goals.now a.count c.requires)

pub stuck_from-bad-requires : goal.stuck_from-bad-requires
stuck_from-bad-requires c = c.loop-row.invariant.1

pub overflow_add-row : goal.overflow_add-row
overflow_add-row c =
    let w = c.loop-row.invariant.2.within in
    omega arith

pub loop-row-smaller : goal.loop-row-smaller
loop-row-smaller c =
    let w = c.loop-row.invariant.2.within in
    omega arith

pub loop-row-preserved : goal.loop-row-preserved
loop-row-preserved c =
    let a = c.args in
    let L = leads_to_of a.lanes.now a.zones.now a.exits.now a.c (length a.work.now) in
    let P = goal_point_of a.checkpoints.now a.goals.now in
    let F = found_from a.lanes.now a.zones.now a.exits.now a.c (length a.work.now) in
    let told = c.stuck_from-bad.ensures ∙ ap (λ (x : ℕ). stuck_from_of a.goals.now P (found_from a.lanes.now a.zones.now a.exits.now a.c x) c.loop-row.row c.loop-row.bad) c.loop-row.invariant.0 in (
      c.stuck_from-bad.auto.work ∙ c.loop-row.invariant.0,
      omega arith,
      subst (λ (x : ℕ). Looked L P a.goals.now a.count (c.loop-row.row + 1) x) (sym told)
          (looked-on L P a.goals.now a.count (same_point a.checkpoints.now a.goals.now) F (by-search a.lanes.now a.zones.now a.exits.now a.c (length a.work.now)) c.loop-row.row c.loop-row.bad c.loop-row.invariant.1 c.loop-row-test.true c.loop-row.invariant.2),
    )

pub shape_of-work : goal.shape_of-work
shape_of-work c = c.clear.auto.t ∙ c.loop-row.invariant.0

pub returns : goal.returns
returns c =
    let a = c.args in record {
      value = looked-over (leads_to_of a.lanes.now a.zones.now a.exits.now a.c (length a.work.now)) (goal_point_of a.checkpoints.now a.goals.now) a.goals.now a.count c.loop-row.row c.loop-row.bad c.loop-row-test.false c.loop-row.invariant.2;
      work_after = c.clear.ensures ∙ ap (λ (x : ℕ). replicate x 0) c.loop-row.invariant.0;
    }
