-- `unpacked_rows::store_tables` meets its contract. Assumes nothing.
use Rattle.law.specs.Tables.{lent}
use Rattle.unpacked_rows.specs.Stored.{tables_stored}
use Rattle.unpacked_rows.proofs.store_tables.Goals as goal

pub returns : goal.returns
unfolding tables_stored
returns c = λ i. lent (c.store_segments.ensures i) (c.store_lanes.ensures i) (c.store_zones.ensures i) (c.store_spots.ensures i) (c.store_points.ensures i) (c.store_checkpoints.ensures i) (c.store_stops.ensures i) (c.store_exits.ensures i)
