-- `answers::put_not_driven` meets its contract: one sentence, by the number. Assumes nothing.
use Rattle.output.proofs.Writing.{same}
use Rattle.answers.proofs.Cases.{told-stuck, told-no-start, told-refused}
use Rattle.answers.proofs.put_not_driven.Goals as goal

pub returns-then-why-eq31 : goal.returns-then-why-eq31
returns-then-why-eq31 c =
    same (told-stuck _ _ _ _ _ _ c.args.why c.if-why-eq31.true) c.put_stuck.ensures

pub returns-then-why-eq30 : goal.returns-then-why-eq30
returns-then-why-eq30 c =
    same (told-no-start _ _ _ _ _ _ c.args.why c.if-why-eq30.true) c.put_no_start.ensures

pub returns : goal.returns
returns c =
    same (told-refused _ _ _ _ _ _ c.args.why c.if-why-eq31.false c.if-why-eq30.false) c.put_refused.ensures
