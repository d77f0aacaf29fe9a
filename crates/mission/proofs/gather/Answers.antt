-- `mission::gather` meets its contract. Assumes nothing.
use mathlib.Core.Path.{◌∙◌}
use Rattle.mission_progress.proofs.Shown.{counts}
use Rattle.mission.proofs.Steps.{put-so}
use Rattle.mission.proofs.gather.Goals as goal

pub returns : goal.returns
returns c w =
    let a = c.args in
    put-so w a.s a.gained c.after.result _ a.goals.now a.limits.now c.store.new.goals c.store.new.limits c.mission_row.ensures c.store.ensures (c.after.ensures ∙ counts a.s a.gained c.requires)
