-- `shown::put_byte_alone` meets its contract: by the byte. Assumes nothing.
use Rattle.terms.specs.Ascii.{ascii}
use Rattle.output.proofs.Writing.{same}
use Rattle.shown.proofs.Words.{nul, carriage-return, other}
use Rattle.shown.proofs.put_byte_alone.Goals as goal

pub returns-then-b-eq0 : goal.returns-then-b-eq0
unfolding ascii
returns-then-b-eq0 c = same (nul _ c.if-b-eq0.true) c.put_bytes.ensures

pub returns-then-b-eq13 : goal.returns-then-b-eq13
unfolding ascii
returns-then-b-eq13 c = same (carriage-return _ c.if-b-eq0.false c.if-b-eq13.true) c.put_bytes-then-b-eq13.ensures

pub returns : goal.returns
returns c = same (other _ c.if-b-eq0.false c.if-b-eq13.false) c.put_byte_from_42.ensures
