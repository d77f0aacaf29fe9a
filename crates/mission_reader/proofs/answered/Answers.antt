-- `mission_reader::answered` meets its contract. Assumes nothing.
use mathlib.Core.Path.{refl}
use Rattle.mission_reader.proofs.answered.Goals as goal

pub returns-in-Ok : goal.returns-in-Ok
returns-in-Ok c = rw c.in-Ok.is refl

pub returns-in-Err : goal.returns-in-Err
returns-in-Err c = rw c.in-Err.is refl
