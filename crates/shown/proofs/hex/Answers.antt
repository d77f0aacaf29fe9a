-- `shown::hex` meets its contract. Assumes nothing.
use mathlib.Core.Path.{refl}
use borrow.Author.Tests.{lt-ltb, le-ltb}
use Rattle.shown.specs.Shown.{hex}
use Rattle.shown.proofs.hex.Goals as goal

pub returns-then-d-lt10 : goal.returns-then-d-lt10
unfolding hex
returns-then-d-lt10 c = rw (lt-ltb _ _ c.if-d-lt10.true) refl

pub returns : goal.returns
unfolding hex
returns c = rw (le-ltb _ _ c.if-d-lt10.false) refl
