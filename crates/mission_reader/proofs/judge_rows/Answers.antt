-- `mission_reader::judge_rows` meets its contract. Assumes nothing.
use Rattle.mission_reader.specs.MissionReading.{judged_of}
use mathlib.Core.Path.{refl}
use Rattle.mission_reader.proofs.judge_rows.Goals as goal

pub returns-then-both_fit : goal.returns-then-both_fit
unfolding judged_of
returns-then-both_fit c = rw (← c.both_fit.ensures, c.if-both_fit.true, ← c.refer-found.ensures) c.answered.ensures

pub returns-else-both_fit : goal.returns-else-both_fit
unfolding judged_of
returns-else-both_fit c = rw (← c.both_fit.ensures, c.if-both_fit.false) refl
