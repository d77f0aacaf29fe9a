-- `reach::check_mission` meets its contract. Assumes nothing.
use lib.ListN.{replicate}
use lib.IntN.{pos}
use Rattle.law.specs.Tables.{lent, mission_lent}
use Rattle.reach.proofs.Lawful.{accepted-so, refused-so}
use Rattle.reach.proofs.check_mission.Goals as goal

pub returns-in-Ok : goal.returns-in-Ok
returns-in-Ok c =
    let a = c.args in
    accepted-so a.edition a.start a.work.now a.rndf.now a.mdf.now (lent a.segments.now a.lanes.now a.zones.now a.spots.now a.points.now a.checkpoints.now a.stops.now a.exits.now) (mission_lent a.goals.now a.limits.now) c.read_pair-read.result c.ruled-reply.result
    (lent c.read_pair-read.new.segments c.read_pair-read.new.lanes c.read_pair-read.new.zones c.read_pair-read.new.spots c.read_pair-read.new.points c.read_pair-read.new.checkpoints c.read_pair-read.new.stops c.read_pair-read.new.exits) (mission_lent c.read_pair-read.new.goals c.read_pair-read.new.limits)
    c.read_pair-read.ensures c.ruled-reply.ensures.value _ _ _ _ c.in-Ok.is c.ruled-reply.new.work c.ruled-reply.ensures.work_after

pub returns-in-Err : goal.returns-in-Err
returns-in-Err c =
    let a = c.args in
    refused-so a.edition a.start a.work.now a.rndf.now a.mdf.now (lent a.segments.now a.lanes.now a.zones.now a.spots.now a.points.now a.checkpoints.now a.stops.now a.exits.now) (mission_lent a.goals.now a.limits.now) c.read_pair-read.result c.ruled-reply.result
    (lent c.read_pair-read.new.segments c.read_pair-read.new.lanes c.read_pair-read.new.zones c.read_pair-read.new.spots c.read_pair-read.new.points c.read_pair-read.new.checkpoints c.read_pair-read.new.stops c.read_pair-read.new.exits) (mission_lent c.read_pair-read.new.goals c.read_pair-read.new.limits)
    c.read_pair-read.ensures c.ruled-reply.ensures.value _ c.in-Err.is
    (lent c.clear_tables.new.segments c.clear_tables.new.lanes c.clear_tables.new.zones c.clear_tables.new.spots c.clear_tables.new.points c.clear_tables.new.checkpoints c.clear_tables.new.stops c.clear_tables.new.exits) (mission_lent c.clear.new.t c.clear-in-Err.new.t)
    c.clear_tables.ensures
    (λ i. lent (replicate (c.read_pair-read.auto.segments i) 0) (replicate (c.read_pair-read.auto.lanes i) 0) (replicate (c.read_pair-read.auto.zones i) 0) (replicate (c.read_pair-read.auto.spots i) 0) (replicate (c.read_pair-read.auto.points i) (pos 0)) (replicate (c.read_pair-read.auto.checkpoints i) 0) (replicate (c.read_pair-read.auto.stops i) 0) (replicate (c.read_pair-read.auto.exits i) 0))
    (λ i. mission_lent (c.clear.ensures i) (c.clear-in-Err.ensures i))
    (λ i. mission_lent (replicate (c.read_pair-read.auto.goals i) 0) (replicate (c.read_pair-read.auto.limits i) 0))
    c.ruled-reply.new.work c.ruled-reply.ensures.work_after
