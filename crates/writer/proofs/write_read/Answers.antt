use mathlib.Core.Path.{refl}
use lib.ListN.{length}
use Rattle.writer.specs.Answers.{as_read}
use Rattle.writer.proofs.Steps.{few, put-so, over-so}
use borrow.Author.Rules.{rules}
use Rattle.writer.proofs.write_read.Goals as goal

pub overflow_cast-result : goal.overflow_cast-result
overflow_cast-result c = search (rules, few _ _ _ _ (rw c.in-Some.is at c.put_whole-ended.ensures))

pub returns-in-Some : goal.returns-in-Some
returns-in-Some c = rw c.in-Ok.is (put-so (length c.args.out.now) _ _ _ _ _ (rw c.in-Some.is at c.put_whole-ended.ensures))

pub returns-in-None : goal.returns-in-None
returns-in-None c = rw c.in-Ok.is (over-so (length c.args.out.now) _ _ _ _ (rw c.in-None.is at c.put_whole-ended.ensures))

pub returns-in-Err : goal.returns-in-Err
returns-in-Err c = as_read _ c.in-Err.is refl c.clear_output.ensures
