-- `answers::put_refused` meets its contract: one sentence, by the file. Assumes nothing.
use Rattle.output.proofs.Writing.{same}
use Rattle.answers.proofs.Cases.{of_rndf, of-neither, of_mdf}
use Rattle.answers.proofs.put_refused.Goals as goal

pub returns-then-why-eq1 : goal.returns-then-why-eq1
returns-then-why-eq1 c =
    same (of_rndf _ _ _ _ c.args.why c.if-why-eq1.true) c.put_sentence.ensures

pub returns-then-why-eq0 : goal.returns-then-why-eq0
returns-then-why-eq0 c =
    same (of-neither _ _ _ _ c.args.why c.if-why-eq0.true) c.put_unplaced.ensures

pub returns : goal.returns
returns c =
    same (of_mdf _ _ _ _ c.args.why c.if-why-eq1.false c.if-why-eq0.false) c.put_sentence-2.ensures
