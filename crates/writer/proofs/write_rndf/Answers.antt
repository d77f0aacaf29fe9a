-- `writer::write_rndf` meets its contract. Assumes nothing.
use lib.ListN.{length, replicate}
use lib.IntN.{pos}
use Rattle.law.specs.Tables.{lent}
use Rattle.writer.proofs.Steps.{written-so, refused-so}
use Rattle.writer.proofs.write_rndf.Goals as goal

pub returns-in-Ok : goal.returns-in-Ok
returns-in-Ok c = let A = c.args in written-so A.edition A.text.now (lent A.segments.now A.lanes.now A.zones.now A.spots.now A.points.now A.checkpoints.now A.stops.now A.exits.now) (lent c.read_rndf-read.new.segments c.read_rndf-read.new.lanes c.read_rndf-read.new.zones c.read_rndf-read.new.spots c.read_rndf-read.new.points c.read_rndf-read.new.checkpoints c.read_rndf-read.new.stops c.read_rndf-read.new.exits) c.read_rndf-read.result (length A.out.now) c.write_read-reply.new.out c.read_rndf-read.ensures _ _ _ (rw c.in-Ok.is at c.write_read-reply.ensures)

pub returns-in-Err : goal.returns-in-Err
returns-in-Err c = let A = c.args in refused-so A.edition A.text.now (lent A.segments.now A.lanes.now A.zones.now A.spots.now A.points.now A.checkpoints.now A.stops.now A.exits.now) (lent c.read_rndf-read.new.segments c.read_rndf-read.new.lanes c.read_rndf-read.new.zones c.read_rndf-read.new.spots c.read_rndf-read.new.points c.read_rndf-read.new.checkpoints c.read_rndf-read.new.stops c.read_rndf-read.new.exits) c.read_rndf-read.result (length A.out.now) c.write_read-reply.new.out c.read_rndf-read.ensures _ (lent c.clear_tables.new.segments c.clear_tables.new.lanes c.clear_tables.new.zones c.clear_tables.new.spots c.clear_tables.new.points c.clear_tables.new.checkpoints c.clear_tables.new.stops c.clear_tables.new.exits) (rw c.in-Err.is at c.write_read-reply.ensures) c.clear_tables.ensures (λ i. lent (replicate (c.read_rndf-read.auto.segments i) 0) (replicate (c.read_rndf-read.auto.lanes i) 0) (replicate (c.read_rndf-read.auto.zones i) 0) (replicate (c.read_rndf-read.auto.spots i) 0) (replicate (c.read_rndf-read.auto.points i) (pos 0)) (replicate (c.read_rndf-read.auto.checkpoints i) 0) (replicate (c.read_rndf-read.auto.stops i) 0) (replicate (c.read_rndf-read.auto.exits i) 0))
