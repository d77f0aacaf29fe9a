-- `shown::put_byte_from_42` meets its contract: by the byte. Assumes nothing.
use Rattle.terms.specs.Ascii.{ascii}
use Rattle.output.proofs.Writing.{same}
use Rattle.shown.proofs.Words.{asterisk, backslash, letter, control}
use Rattle.shown.proofs.put_byte_from_42.Goals as goal

pub returns-then-b-eq42 : goal.returns-then-b-eq42
unfolding ascii
returns-then-b-eq42 c = same (asterisk _ c.if-b-eq42.true) c.put_bytes.ensures

pub returns-then-b-eq92 : goal.returns-then-b-eq92
unfolding ascii
returns-then-b-eq92 c = same (backslash _ c.if-b-eq42.false c.if-b-eq92.true) c.put_bytes-then-b-eq92.ensures

pub returns-then-b-gt127 : goal.returns-then-b-gt127
unfolding ascii
returns-then-b-gt127 c = same (letter _ c.if-b-eq42.false c.if-b-eq92.false c.if-b-gt127.true) c.put_bytes-then-b-gt127.ensures

pub returns : goal.returns
unfolding ascii
returns c = same (control _ c.if-b-eq42.false c.if-b-eq92.false c.if-b-gt127.false) c.put_bytes-2.ensures
