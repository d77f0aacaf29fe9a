-- `answers::write_sentence` meets its contract: cleared, put and finished. Assumes nothing.
use mathlib.Core.Path.{◌∙◌}
use lib.ListN.{length}
use Rattle.output.proofs.Whole.{written}
use Rattle.answers.proofs.Wholes.{told-whole, told_none, fits_word}
use Rattle.answers.proofs.write_sentence.Goals as goal

pub overflow_cast-result : goal.overflow_cast-result
overflow_cast-result c =
    let o = written {lent = length c.args.out.now} c.clear_output.ensures c.put_sentence-at.ensures c.finish-finished.ensures in
    fits_word (rw c.in-Some.is at o)

pub shape_of-out-in-Some : goal.shape_of-out-in-Some
shape_of-out-in-Some c =
    c.finish-finished.auto.out ∙ c.put_sentence-at.auto.out ∙ c.clear_output.auto.out

pub returns-in-Some : goal.returns-in-Some
returns-in-Some c =
    let o = written {lent = length c.args.out.now} c.clear_output.ensures c.put_sentence-at.ensures c.finish-finished.ensures in
    told-whole (rw c.in-Some.is at o)

pub shape_of-out-in-None : goal.shape_of-out-in-None
shape_of-out-in-None c =
    c.finish-finished.auto.out ∙ c.put_sentence-at.auto.out ∙ c.clear_output.auto.out

pub returns-in-None : goal.returns-in-None
returns-in-None c =
    let o = written {lent = length c.args.out.now} c.clear_output.ensures c.put_sentence-at.ensures c.finish-finished.ensures in
    told_none (rw c.in-None.is at o)
