use Rattle.law.specs.Tables.{lent}
use Rattle.law.specs.Tables.{mission_lent}
use Rattle.reader.proofs.Pairing.{both-accepted, both-refused}
use Rattle.edition.specs.Editions.{inner}
use Rattle.reader.proofs.read_both.Goals as goal

pub returns-in-Ok : goal.returns-in-Ok
returns-in-Ok c = let A = c.args in both-accepted (inner A.edition) A.rndf.now A.mdf.now (lent A.segments.now A.lanes.now A.zones.now A.spots.now A.points.now A.checkpoints.now A.stops.now A.exits.now) (lent c.read_network-network.new.segments c.read_network-network.new.lanes c.read_network-network.new.zones c.read_network-network.new.spots c.read_network-network.new.points c.read_network-network.new.checkpoints c.read_network-network.new.stops c.read_network-network.new.exits) (mission_lent A.goals.now A.limits.now) _ _ c.parts.result c.read_mission-mission.result _ _ c.joined.result (rw c.in-Ok.is at c.read_network-network.ensures) c.parts.ensures c.read_mission-mission.ensures c.joined.ensures

pub returns-in-Err : goal.returns-in-Err
returns-in-Err c = let A = c.args in rw c.rndf_refused.ensures (both-refused (inner A.edition) A.rndf.now A.mdf.now (lent A.segments.now A.lanes.now A.zones.now A.spots.now A.points.now A.checkpoints.now A.stops.now A.exits.now) (lent c.read_network-network.new.segments c.read_network-network.new.lanes c.read_network-network.new.zones c.read_network-network.new.spots c.read_network-network.new.points c.read_network-network.new.checkpoints c.read_network-network.new.stops c.read_network-network.new.exits) (mission_lent A.goals.now A.limits.now) (mission_lent A.goals.now A.limits.now) _ _ (rw c.in-Err.is at c.read_network-network.ensures))
