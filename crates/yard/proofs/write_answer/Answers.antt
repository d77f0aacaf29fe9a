-- `yard::write_answer` meets its contract, by the reply's two cases. Assumes nothing.
use mathlib.Core.Path.{refl}
use Rattle.yard.proofs.write_answer.Goals as goal

pub returns-in-Ok : goal.returns-in-Ok
returns-in-Ok c = rw (c.in-Ok.is, c.taken.ensures) refl

pub returns-in-Err : goal.returns-in-Err
returns-in-Err c = rw (c.in-Err.is, c.refused.ensures) refl
