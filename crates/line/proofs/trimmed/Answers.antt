-- `line::trimmed` meets its contract. Assumes nothing.
use mathlib.Core.Path.{◌≡◌}
use native.Mathlib.Omega.{arith}
use borrow.Author.Tests.{eq-eqb, ne_eqb, lt-ltb, le-ltb}
use lib.ListN.{length}
use Rattle.line.specs.Lines.{trim_of}
use Rattle.line.proofs.trimmed.Goals.{else-s-gt0-via-then-s-gt0+else-s-eq13, else-s-gt0-via-else-s-gt0}
use Rattle.line.proofs.trimmed.Goals as goal

pub returns-then-s-eq13 : goal.returns-then-s-eq13
unfolding trim_of
returns-then-s-eq13 c = simp (lt-ltb _ _ c.if-s-gt0.true, eq-eqb _ _ c.if-s-eq13.true)

pub returns : goal.returns
unfolding trim_of
returns c =
    elim c.else-s-gt0.branch [
      | else-s-gt0-via-then-s-gt0+else-s-eq13 w ↦ simp (lt-ltb _ _ w.if-s-gt0.true, ne_eqb _ _ w.if-s-eq13.false)
      | else-s-gt0-via-else-s-gt0 w ↦ let z : length c.args.s.now ≡ 0 = let e = w.if-s-gt0.false in omega (arith, e) in rw (le-ltb _ _ w.if-s-gt0.false) z
    ]
