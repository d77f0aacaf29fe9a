-- `mend_lines::with_kind` meets its contract. Assumes nothing.
use borrow.Author.Tests.{lt-ltb, le-ltb}
use Rattle.mend_lines.specs.Forward.{with_kind_of}
use Rattle.mend_lines.proofs.with_kind.Goals as goal

pub returns-then-i-lt31 : goal.returns-then-i-lt31
unfolding with_kind_of
returns-then-i-lt31 c = rw (lt-ltb _ 31 c.if-i-lt31.true)

pub returns : goal.returns
unfolding with_kind_of
returns c = rw (le-ltb _ 31 c.if-i-lt31.false)
