use Rattle.mission_judge.proofs.values_told.Goals as goal

pub returns : goal.returns
returns c = rw (c.in-Some.is, ← c.step.ensures) c.taken_told.ensures
