-- `packer::write_read` meets its contract. Assumes nothing.
use mathlib.Core.Path.{refl}
use borrow.Author.Rules.{rules}
use Rattle.packer.specs.Answers.{as_read, over, wrote}
use Rattle.packer.proofs.Steps.{few}
use Rattle.packer.proofs.write_read.Goals as goal

pub overflow_cast-result : goal.overflow_cast-result
overflow_cast-result c = search (rules, few (rw c.in-Some.is at c.put_whole-ended.ensures))

pub returns-in-Some : goal.returns-in-Some
returns-in-Some c = rw c.in-Ok.is (wrote _ _ _ refl (rw c.in-Some.is at c.put_whole-ended.ensures) refl)

pub returns-in-None : goal.returns-in-None
returns-in-None c = rw c.in-Ok.is (over _ _ refl (rw c.in-None.is at c.put_whole-ended.ensures) refl)

pub returns-in-Err : goal.returns-in-Err
returns-in-Err c = as_read _ c.in-Err.is refl c.clear_output.ensures
