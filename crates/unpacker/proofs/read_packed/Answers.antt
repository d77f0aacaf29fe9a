-- `unpacker::read_packed` meets its contract. Assumes nothing.
use Rattle.std.specs.Prelude.{Result}
use Rattle.std.proofs.lemmas.Result.{err_from_is_err_and}
use native.Mathlib.Omega.{arith}
use mathlib.Core.Path.{ap, ◌∙◌}
use lib.ListN.{length}
use Rattle.law.specs.Tables.{lent}
use Rattle.unpacker.specs.Telling.{roomed}
use Rattle.unpacker.proofs.Steps.{refused-so, unpacked-so}
use Rattle.unpacker.proofs.read_packed.Goals as goal
use Rattle.counts.specs.declared.Counts.{Counts}
use Rattle.rows.specs.declared.FileRow.{FileRow}
use Rattle.unpacked_rows.specs.declared.Places.{Places}
use Rattle.refusal.specs.declared.Refusal.{Refusal}

pub returns-in_err-c : goal.returns-in_err-c
returns-in_err-c c =
    let A = c.args in
    let is = c.roomed-told.ensures ∙ ap (λ (x : Result (Counts × FileRow × Places) Refusal). roomed x (length A.segments.now) (length A.lanes.now) (length A.zones.now) (length A.spots.now) (length A.points.now) (length A.checkpoints.now) (length A.stops.now) (length A.exits.now)) c.look.ensures in
    let p = err_from_is_err_and c.from_residual.result c.from_residual.ensures.1 in
    rw (p.1, p.2) (refused-so A.bytes.now (lent A.segments.now A.lanes.now A.zones.now A.spots.now A.points.now A.checkpoints.now A.stops.now A.exits.now) c.type_inv.bytes c.roomed-told.result is _ (lent c.clear_tables.new.segments c.clear_tables.new.lanes c.clear_tables.new.zones c.clear_tables.new.spots c.clear_tables.new.points c.clear_tables.new.checkpoints c.clear_tables.new.stops c.clear_tables.new.exits) (grind arith) c.clear_tables.ensures)

pub returns : goal.returns
returns c =
    let A = c.args in
    let is = c.roomed-told.ensures ∙ ap (λ (x : Result (Counts × FileRow × Places) Refusal). roomed x (length A.segments.now) (length A.lanes.now) (length A.zones.now) (length A.spots.now) (length A.points.now) (length A.checkpoints.now) (length A.stops.now) (length A.exits.now)) c.look.ensures in
    unpacked-so A.bytes.now (lent A.segments.now A.lanes.now A.zones.now A.spots.now A.points.now A.checkpoints.now A.stops.now A.exits.now) c.type_inv.bytes c.roomed-told.result is _ _ _ (lent c.clear_tables.new.segments c.clear_tables.new.lanes c.clear_tables.new.zones c.clear_tables.new.spots c.clear_tables.new.points c.clear_tables.new.checkpoints c.clear_tables.new.stops c.clear_tables.new.exits) (lent c.store_tables.new.segments c.store_tables.new.lanes c.store_tables.new.zones c.store_tables.new.spots c.store_tables.new.points c.store_tables.new.checkpoints c.store_tables.new.stops c.store_tables.new.exits) (grind arith) c.clear_tables.ensures c.store_tables.ensures
