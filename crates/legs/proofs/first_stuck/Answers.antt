-- `legs::first_stuck` meets its contract. Assumes nothing.
use mathlib.Core.Path.{sym, ap, ◌∙◌}
use Prim.Native.Nat.{ℕ, ◌-◌}
use native.Mathlib.Omega.{arith}
use lib.ListN.{length, replicate}
use Rattle.search.specs.Search.{leads_to_of}
use Rattle.goal_points.specs.Goals.{goal_point_of}
use Rattle.legs.specs.Legs.{later_stuck_of}
use Rattle.legs.proofs.Steps.{no-goal, at_once, by-moves, not_first}
use Rattle.legs.proofs.first_stuck.Goals as goal

pub returns-then-count-eq0 : goal.returns-then-count-eq0
returns-then-count-eq0 c =
    let a = c.args in
    let L = leads_to_of a.lanes.now a.zones.now a.exits.now a.c (length a.work.now) in
    let P = goal_point_of a.checkpoints.now a.goals.now in
    let long = c.clear.auto.t in
    record { value = no-goal L P a.count a.start c.if-count-eq0.true; work_after = c.clear.ensures }

pub later_stuck-requires : goal.later_stuck-requires
later_stuck-requires c =
    let n = c.if-count-eq0.false in
    omega arith

pub returns-then-start-first : goal.returns-then-start-first
returns-then-start-first c =
    let a = c.args in
    let L = leads_to_of a.lanes.now a.zones.now a.exits.now a.c (length a.work.now) in
    let P = goal_point_of a.checkpoints.now a.goals.now in
    let long = c.clear.auto.t in
    let n = c.if-count-eq0.false in record {
      value = at_once L P a.count a.start c.goal_point-first.result c.later_stuck.result (omega arith) c.goal_point-first.ensures c.if-start-first.true (c.later_stuck.ensures.value ∙ ap (λ (x : ℕ). later_stuck_of (leads_to_of a.lanes.now a.zones.now a.exits.now a.c x) P (P 0) 1 (a.count - 1)) long);
      work_after = c.later_stuck.ensures.work_after ∙ ap (λ (x : ℕ). replicate x 0) long;
    }

pub later_stuck-requires-then-leads_to : goal.later_stuck-requires-then-leads_to
later_stuck-requires-then-leads_to c =
    let n = c.if-count-eq0.false in
    omega arith

pub returns-then-leads_to : goal.returns-then-leads_to
returns-then-leads_to c =
    let a = c.args in
    let L = leads_to_of a.lanes.now a.zones.now a.exits.now a.c (length a.work.now) in
    let P = goal_point_of a.checkpoints.now a.goals.now in
    let long = c.clear.auto.t in
    let told = ap (λ (x : ℕ). leads_to_of a.lanes.now a.zones.now a.exits.now a.c x a.start c.goal_point-first.result) (sym long) ∙ sym c.leads_to.ensures.value ∙ c.if-leads_to.true in
    let n = c.if-count-eq0.false in
    let all = c.leads_to.auto.work ∙ long in record {
      value = by-moves L P a.count a.start c.goal_point-first.result c.later_stuck-then-leads_to.result (omega arith) c.goal_point-first.ensures c.if-start-first.false told (c.later_stuck-then-leads_to.ensures.value ∙ ap (λ (x : ℕ). later_stuck_of (leads_to_of a.lanes.now a.zones.now a.exits.now a.c x) P (P 0) 1 (a.count - 1)) all);
      work_after = c.later_stuck-then-leads_to.ensures.work_after ∙ ap (λ (x : ℕ). replicate x 0) all;
    }

pub returns-else-leads_to : goal.returns-else-leads_to
returns-else-leads_to c =
    let a = c.args in
    let L = leads_to_of a.lanes.now a.zones.now a.exits.now a.c (length a.work.now) in
    let P = goal_point_of a.checkpoints.now a.goals.now in
    let long = c.clear.auto.t in
    let told = ap (λ (x : ℕ). leads_to_of a.lanes.now a.zones.now a.exits.now a.c x a.start c.goal_point-first.result) (sym long) ∙ sym c.leads_to.ensures.value ∙ c.if-leads_to.false in
    let n = c.if-count-eq0.false in
    record { value = not_first L P a.count a.start c.goal_point-first.result (omega arith) c.goal_point-first.ensures c.if-start-first.false told; work_after = c.leads_to.ensures.work_after ∙ ap (λ (x : ℕ). replicate x 0) long }
