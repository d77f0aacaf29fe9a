-- `line::count_of` meets its contract. Assumes nothing.
use borrow.Author.Tests.{lt-ltb, le-ltb}
use Rattle.line.specs.Forms.{count_of}
use Rattle.line.proofs.count_of.Goals as goal

pub returns-then-a : goal.returns-then-a
unfolding count_of
returns-then-a c = simp (le-ltb _ _ c.if-a.true)

pub returns-then-b : goal.returns-then-b
unfolding count_of
returns-then-b c = simp (lt-ltb _ _ c.if-a.false, le-ltb _ _ c.if-b.true)

pub returns-then-c : goal.returns-then-c
unfolding count_of
returns-then-c c = simp (lt-ltb _ _ c.if-a.false, lt-ltb _ _ c.if-b.false, le-ltb _ _ c.if-c.true)

pub returns-then-d : goal.returns-then-d
unfolding count_of
returns-then-d c = simp (lt-ltb _ _ c.if-a.false, lt-ltb _ _ c.if-b.false, lt-ltb _ _ c.if-c.false, le-ltb _ _ c.if-d.true)

pub returns-else-d : goal.returns-else-d
unfolding count_of
returns-else-d c = simp (lt-ltb _ _ c.if-a.false, lt-ltb _ _ c.if-b.false, lt-ltb _ _ c.if-c.false, lt-ltb _ _ c.if-d.false)
