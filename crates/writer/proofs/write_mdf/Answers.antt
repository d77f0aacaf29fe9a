-- `writer::write_mdf` meets its contract. Assumes nothing.
use lib.ListN.{length, replicate}
use lib.IntN.{pos}
use Rattle.law.specs.Tables.{lent, mission_lent}
use Rattle.writer.proofs.Steps.{mdf-written-so, mdf-refused-so}
use Rattle.writer.proofs.write_mdf.Goals as goal

pub returns-in-Ok : goal.returns-in-Ok
returns-in-Ok c = let A = c.args in mdf-written-so A.edition A.rndf.now A.mdf.now (lent A.segments.now A.lanes.now A.zones.now A.spots.now A.points.now A.checkpoints.now A.stops.now A.exits.now) (lent c.read_pair-read.new.segments c.read_pair-read.new.lanes c.read_pair-read.new.zones c.read_pair-read.new.spots c.read_pair-read.new.points c.read_pair-read.new.checkpoints c.read_pair-read.new.stops c.read_pair-read.new.exits) (mission_lent A.goals.now A.limits.now) (mission_lent c.read_pair-read.new.goals c.read_pair-read.new.limits) c.read_pair-read.result (length A.out.now) c.write_mdf_read-reply.new.out c.read_pair-read.ensures _ _ _ _ _ (rw c.in-Ok.is at c.write_mdf_read-reply.ensures)

pub returns-in-Err : goal.returns-in-Err
returns-in-Err c = let A = c.args in mdf-refused-so A.edition A.rndf.now A.mdf.now (lent A.segments.now A.lanes.now A.zones.now A.spots.now A.points.now A.checkpoints.now A.stops.now A.exits.now) (lent c.read_pair-read.new.segments c.read_pair-read.new.lanes c.read_pair-read.new.zones c.read_pair-read.new.spots c.read_pair-read.new.points c.read_pair-read.new.checkpoints c.read_pair-read.new.stops c.read_pair-read.new.exits) (mission_lent A.goals.now A.limits.now) (mission_lent c.read_pair-read.new.goals c.read_pair-read.new.limits) c.read_pair-read.result (length A.out.now) c.write_mdf_read-reply.new.out c.read_pair-read.ensures _ (lent c.clear_tables.new.segments c.clear_tables.new.lanes c.clear_tables.new.zones c.clear_tables.new.spots c.clear_tables.new.points c.clear_tables.new.checkpoints c.clear_tables.new.stops c.clear_tables.new.exits) (mission_lent c.clear.new.t c.clear-in-Err.new.t) (rw c.in-Err.is at c.write_mdf_read-reply.ensures) c.clear_tables.ensures (λ i. lent (replicate (c.read_pair-read.auto.segments i) 0) (replicate (c.read_pair-read.auto.lanes i) 0) (replicate (c.read_pair-read.auto.zones i) 0) (replicate (c.read_pair-read.auto.spots i) 0) (replicate (c.read_pair-read.auto.points i) (pos 0)) (replicate (c.read_pair-read.auto.checkpoints i) 0) (replicate (c.read_pair-read.auto.stops i) 0) (replicate (c.read_pair-read.auto.exits i) 0)) (λ i. mission_lent (c.clear.ensures i) (c.clear-in-Err.ensures i)) (λ i. mission_lent (replicate (c.read_pair-read.auto.goals i) 0) (replicate (c.read_pair-read.auto.limits i) 0))
