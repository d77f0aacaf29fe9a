-- `mission_progress::MissionProgress::none` meets its contract. Assumes nothing.
use Rattle.mission_progress.proofs.MissionProgress.none.Goals as goal

pub returns : goal.returns
returns c = rw c.name_at-missing.ensures
