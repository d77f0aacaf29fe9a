-- `expected::put_expected` meets its contract: by the file. Assumes nothing.
use Rattle.output.proofs.Writing.{none, same}
use Rattle.expected.proofs.Cases.{without-line, of-file_1, of-file_2, of-no-file}
use Rattle.expected.proofs.put_expected.Goals as goal

pub returns-then-line-eq0 : goal.returns-then-line-eq0
returns-then-line-eq0 c = same (without-line _ _ _ _ _ _ c.if-line-eq0.true) none

pub returns-then-file-eq1 : goal.returns-then-file-eq1
returns-then-file-eq1 c =
    same (of-file_1 _ _ _ _ _ _ c.if-line-eq0.false c.if-file-eq1.true) c.put_of_rndf.ensures

pub returns-then-file-eq2 : goal.returns-then-file-eq2
returns-then-file-eq2 c =
    same (of-file_2 _ _ _ _ _ _ c.if-line-eq0.false c.if-file-eq2.true) c.put_of_mdf.ensures

pub returns : goal.returns
returns c = same (of-no-file _ _ _ _ _ _ c.if-line-eq0.false c.if-file-eq1.false c.if-file-eq2.false) none
