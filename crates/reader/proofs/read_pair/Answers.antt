use lib.ListN.{replicate}
use lib.IntN.{pos}
use Rattle.law.specs.Tables.{lent}
use Rattle.law.specs.Tables.{mission_lent}
use Rattle.reader.proofs.Pairing.{pair-accepted, pair-refused}
use Rattle.edition.specs.Editions.{inner}
use Rattle.reader.proofs.read_pair.Goals as goal

-- src/lib.rt:135:1
pub returns-in-Ok : goal.returns-in-Ok
returns-in-Ok c = let A = c.args in pair-accepted (inner A.edition) A.rndf.now A.mdf.now (lent A.segments.now A.lanes.now A.zones.now A.spots.now A.points.now A.checkpoints.now A.stops.now A.exits.now) (lent c.read_both-reply.new.segments c.read_both-reply.new.lanes c.read_both-reply.new.zones c.read_both-reply.new.spots c.read_both-reply.new.points c.read_both-reply.new.checkpoints c.read_both-reply.new.stops c.read_both-reply.new.exits) (mission_lent A.goals.now A.limits.now) (mission_lent c.read_both-reply.new.goals c.read_both-reply.new.limits) _ _ _ _ (rw c.in-Ok.is at c.read_both-reply.ensures)

-- src/lib.rt:135:1
pub returns-in-Err : goal.returns-in-Err
returns-in-Err c = let A = c.args in pair-refused (inner A.edition) A.rndf.now A.mdf.now (lent A.segments.now A.lanes.now A.zones.now A.spots.now A.points.now A.checkpoints.now A.stops.now A.exits.now) (lent c.read_both-reply.new.segments c.read_both-reply.new.lanes c.read_both-reply.new.zones c.read_both-reply.new.spots c.read_both-reply.new.points c.read_both-reply.new.checkpoints c.read_both-reply.new.stops c.read_both-reply.new.exits) (lent c.clear_tables.new.segments c.clear_tables.new.lanes c.clear_tables.new.zones c.clear_tables.new.spots c.clear_tables.new.points c.clear_tables.new.checkpoints c.clear_tables.new.stops c.clear_tables.new.exits) (mission_lent A.goals.now A.limits.now) (mission_lent c.read_both-reply.new.goals c.read_both-reply.new.limits) (mission_lent c.clear.new.t c.clear-in-Err.new.t) _ (rw c.in-Err.is at c.read_both-reply.ensures) c.clear_tables.ensures (λ i. lent (replicate (c.read_both-reply.auto.segments i) 0) (replicate (c.read_both-reply.auto.lanes i) 0) (replicate (c.read_both-reply.auto.zones i) 0) (replicate (c.read_both-reply.auto.spots i) 0) (replicate (c.read_both-reply.auto.points i) (pos 0)) (replicate (c.read_both-reply.auto.checkpoints i) 0) (replicate (c.read_both-reply.auto.stops i) 0) (replicate (c.read_both-reply.auto.exits i) 0)) (λ i. mission_lent (c.clear.ensures i) (c.clear-in-Err.ensures i)) (λ i. mission_lent (replicate (c.read_both-reply.auto.goals i) 0) (replicate (c.read_both-reply.auto.limits i) 0))
