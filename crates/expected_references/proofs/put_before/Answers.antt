-- `expected_references::put_before` meets its contract. Assumes nothing.
use borrow.Author.Tests.{eq-eqb, ne_eqb}
use Rattle.terms.specs.Ascii.{ascii}
use Rattle.expected_references.proofs.put_before.Goals as goal

pub returns-then-i-eq0 : goal.returns-then-i-eq0
returns-then-i-eq0 c = rw (eq-eqb _ _ c.if-i-eq0.true) c.put_bytes.ensures

pub returns : goal.returns
unfolding ascii
returns c = rw (ne_eqb _ _ c.if-i-eq0.false) c.put_bytes-2.ensures
