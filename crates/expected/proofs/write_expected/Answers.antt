-- `expected::write_expected` meets its contract: cleared, put and finished. Assumes nothing.
use mathlib.Core.Path.{◌∙◌}
use lib.ListN.{length}
use Rattle.output.proofs.Whole.{written}
use Rattle.expected.proofs.Answers.{answers-whole, answers-none, fits_word}
use Rattle.expected.proofs.write_expected.Goals as goal

pub overflow_cast-n : goal.overflow_cast-n
overflow_cast-n c =
    let o = written {lent = length c.args.out.now} c.clear_output.ensures c.put_expected-at.ensures c.finish-finished.ensures in
    fits_word (rw c.in-Some.is at o)

pub shape_of-out-in-Some : goal.shape_of-out-in-Some
shape_of-out-in-Some c =
    c.finish-finished.auto.out ∙ c.put_expected-at.auto.out ∙ c.clear_output.auto.out

pub returns-in-Some : goal.returns-in-Some
returns-in-Some c =
    let o = written {lent = length c.args.out.now} c.clear_output.ensures c.put_expected-at.ensures c.finish-finished.ensures in
    answers-whole c.answer_of.ensures (rw c.in-Some.is at o)

pub shape_of-out-in-None : goal.shape_of-out-in-None
shape_of-out-in-None c =
    c.finish-finished.auto.out ∙ c.put_expected-at.auto.out ∙ c.clear_output.auto.out

pub returns-in-None : goal.returns-in-None
returns-in-None c =
    let o = written {lent = length c.args.out.now} c.clear_output.ensures c.put_expected-at.ensures c.finish-finished.ensures in
    answers-none c.too_short.ensures (rw c.in-None.is at o)
