-- `mend_words::put_gone_words` meets its contract, by which it is. Assumes nothing.
use Rattle.terms.specs.Ascii.{ascii}
use Rattle.output.proofs.Writing.{same}
use Rattle.mend_words.proofs.Forward.{gone-again, gone-behind}
use Rattle.mend_words.proofs.put_gone_words.Goals as goal

pub returns-then-which-eq2 : goal.returns-then-which-eq2
unfolding ascii
returns-then-which-eq2 c = same (gone-again _ c.if-which-eq2.true) c.put_bytes.ensures

pub returns : goal.returns
unfolding ascii
returns c = same (gone-behind _ c.if-which-eq2.false) c.put_bytes-2.ensures
