-- `mend_lines::Before::has` meets its contract. Assumes nothing.
use borrow.Author.Tests.{lt-ltb, le-ltb}
use Rattle.mend_lines.specs.Forward.{has_of}
use Rattle.mend_lines.proofs.Before.has.Goals as goal

pub returns-then-i-lt31 : goal.returns-then-i-lt31
unfolding has_of
returns-then-i-lt31 c = rw (lt-ltb _ 31 c.if-i-lt31.true)

pub returns-else-i-lt31 : goal.returns-else-i-lt31
unfolding has_of
returns-else-i-lt31 c = rw (le-ltb _ 31 c.if-i-lt31.false)
