-- `mission_reader::read_mission` meets its contract. Assumes nothing.
use Rattle.mission.specs.Storing.{memory}
use Rattle.mission_reader.specs.MissionReading.{rndf_of}
use Rattle.mission_reader.proofs.Steps.{judged-told, cleared}
use mathlib.Core.Path.{◌∙◌}
use Rattle.mission_reader.proofs.read_mission.Goals as goal

pub returns-in-Err : goal.returns-in-Err
returns-in-Err c =
    let A = c.args in
    cleared (rndf_of A.rndf.now A.name A.checkpoints.now A.checkpoint_count A.parts) A.mdf.now _ _ _ _ _ (rw c.in-Err.is at c.fill_orders-filled.ensures) c.clear.ensures c.clear-2.ensures

pub returns-in-Ok : goal.returns-in-Ok
returns-in-Ok c =
    let A = c.args in
    let b = rndf_of A.rndf.now A.name A.checkpoints.now A.checkpoint_count A.parts in
    judged-told b A.mdf.now (memory _ _ _) c.judge_rows.result c.judge_rows.ensures
    ∙ cleared b A.mdf.now _ _ _ _ _ (rw c.in-Ok.is at c.fill_orders-filled.ensures) c.clear.ensures c.clear-2.ensures
