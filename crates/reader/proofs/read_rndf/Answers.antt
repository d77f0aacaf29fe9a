use lib.ListN.{replicate}
use lib.IntN.{pos}
use Rattle.law.specs.Tables.{lent}
use Rattle.reader.proofs.Steps.{accepted-so, refused-so}
use Rattle.edition.specs.Editions.{inner}
use Rattle.reader.proofs.read_rndf.Goals as goal

pub returns-in-Ok : goal.returns-in-Ok
returns-in-Ok c = let A = c.args in accepted-so (inner A.edition) A.text.now (lent A.segments.now A.lanes.now A.zones.now A.spots.now A.points.now A.checkpoints.now A.stops.now A.exits.now) (lent c.read_network-reply.new.segments c.read_network-reply.new.lanes c.read_network-reply.new.zones c.read_network-reply.new.spots c.read_network-reply.new.points c.read_network-reply.new.checkpoints c.read_network-reply.new.stops c.read_network-reply.new.exits) _ _ (rw c.in-Ok.is at c.read_network-reply.ensures)

pub returns-in-Err : goal.returns-in-Err
returns-in-Err c = let A = c.args in rw c.rndf_refused.ensures (refused-so (inner A.edition) A.text.now (lent A.segments.now A.lanes.now A.zones.now A.spots.now A.points.now A.checkpoints.now A.stops.now A.exits.now) (lent c.read_network-reply.new.segments c.read_network-reply.new.lanes c.read_network-reply.new.zones c.read_network-reply.new.spots c.read_network-reply.new.points c.read_network-reply.new.checkpoints c.read_network-reply.new.stops c.read_network-reply.new.exits) (lent c.clear_tables.new.segments c.clear_tables.new.lanes c.clear_tables.new.zones c.clear_tables.new.spots c.clear_tables.new.points c.clear_tables.new.checkpoints c.clear_tables.new.stops c.clear_tables.new.exits) _ _ (rw c.in-Err.is at c.read_network-reply.ensures) c.clear_tables.ensures (λ i. lent (replicate (c.read_network-reply.auto.segments i) 0) (replicate (c.read_network-reply.auto.lanes i) 0) (replicate (c.read_network-reply.auto.zones i) 0) (replicate (c.read_network-reply.auto.spots i) 0) (replicate (c.read_network-reply.auto.points i) (pos 0)) (replicate (c.read_network-reply.auto.checkpoints i) 0) (replicate (c.read_network-reply.auto.stops i) 0) (replicate (c.read_network-reply.auto.exits i) 0)))
