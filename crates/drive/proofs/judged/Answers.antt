-- `drive::judged` meets its contract. Assumes nothing.
use mathlib.Core.Path.{sym, ap, ◌∙◌}
use Prim.Native.Nat.{ℕ, ◌≤◌}
use native.Mathlib.Omega.{arith}
use lib.ListN.{length, replicate}
use lib.Seq.{length-take-le}
use Rattle.goal_points.specs.Goals.{goal_point_of}
use Rattle.search.specs.Search.{leads_to_of}
use Rattle.legs.specs.Legs.{first_stuck_of}
use Rattle.drive.proofs.Parts.{zero-whole, short, undeclared, stuck, free}
use Rattle.drive.proofs.judged.Goals as goal

pub returns-then-work-points : goal.returns-then-work-points
returns-then-work-points c =
    let a = c.args in
    let long = c.clear.auto.t in
    let h = c.if-work-points.true in
    record { value = short (leads_to_of a.lanes.now a.zones.now a.exits.now a.c a.c.points) (goal_point_of a.checkpoints.now a.goals.now) a.c.points (length a.work.now) a.m.goals a.start (omega arith); work_after = c.clear.ensures }

pub slice_bounds-first_stuck-end-then-start-c : goal.slice_bounds-first_stuck-end-then-start-c
slice_bounds-first_stuck-end-then-start-c c = sym (length-take-le c.args.c.points c.clear.new.t c.if-work-points.false)

pub returns-then-stuck-m : goal.returns-then-stuck-m
returns-then-stuck-m c =
    let a = c.args in
    let L = leads_to_of a.lanes.now a.zones.now a.exits.now a.c a.c.points in
    let P = goal_point_of a.checkpoints.now a.goals.now in
    let long = c.clear.auto.t in
    let left = c.if-work-points.false in
    let r : a.c.points ≤ length a.work.now = omega arith in
    let part = length-take-le a.c.points c.clear.new.t left in
    let e = c.first_stuck-stuck.ensures.value ∙ ap (λ (x : ℕ). first_stuck_of (leads_to_of a.lanes.now a.zones.now a.exits.now a.c x) P a.m.goals a.start) part in record {
      value = stuck L P a.c.points (length a.work.now) a.m.goals a.start c.first_stuck-stuck.result r c.if-start-c.true e c.if-stuck-m.true c.in_word.result c.in_word.ensures;
      work_after = zero-whole a.c.points (length a.work.now) c.clear.new.t c.first_stuck-stuck.new.work r c.clear.ensures (c.first_stuck-stuck.ensures.work_after ∙ ap (λ (x : ℕ). replicate x 0) part);
    }

pub returns-else-stuck-m : goal.returns-else-stuck-m
returns-else-stuck-m c =
    let a = c.args in
    let L = leads_to_of a.lanes.now a.zones.now a.exits.now a.c a.c.points in
    let P = goal_point_of a.checkpoints.now a.goals.now in
    let long = c.clear.auto.t in
    let left = c.if-work-points.false in
    let r : a.c.points ≤ length a.work.now = omega arith in
    let part = length-take-le a.c.points c.clear.new.t left in
    let e = c.first_stuck-stuck.ensures.value ∙ ap (λ (x : ℕ). first_stuck_of (leads_to_of a.lanes.now a.zones.now a.exits.now a.c x) P a.m.goals a.start) part in record {
      value = free L P a.c.points (length a.work.now) a.m.goals a.start c.first_stuck-stuck.result r c.if-start-c.true e c.if-stuck-m.false;
      work_after = zero-whole a.c.points (length a.work.now) c.clear.new.t c.first_stuck-stuck.new.work r c.clear.ensures (c.first_stuck-stuck.ensures.work_after ∙ ap (λ (x : ℕ). replicate x 0) part);
    }

pub returns-else-start-c : goal.returns-else-start-c
returns-else-start-c c =
    let a = c.args in
    let long = c.clear.auto.t in
    let left = c.if-work-points.false in
    record { value = undeclared (leads_to_of a.lanes.now a.zones.now a.exits.now a.c a.c.points) (goal_point_of a.checkpoints.now a.goals.now) a.c.points (length a.work.now) a.m.goals a.start (omega arith) c.if-start-c.false; work_after = c.clear.ensures }
