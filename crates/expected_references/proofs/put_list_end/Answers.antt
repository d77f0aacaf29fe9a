-- `expected_references::put_list_end` meets its contract. Assumes nothing.
use mathlib.Core.Path.{◌≡◌}
use Prim.Native.Nat.{◌-◌}
use native.Mathlib.Omega.{arith}
use borrow.Author.Tests.{eq-eqb, ne_eqb}
use Rattle.output.proofs.Writing.{none}
use Rattle.expected_references.specs.Listing.{listing_end}
use Rattle.expected_references.proofs.put_list_end.Goals as goal

pub returns-then-count-eq0 : goal.returns-then-count-eq0
unfolding listing_end
returns-then-count-eq0 c = rw (eq-eqb _ _ c.if-count-eq0.true) c.put_bytes.ensures

pub returns-then-count-lt7 : goal.returns-then-count-lt7
unfolding listing_end
returns-then-count-lt7 c =
    let n : c.args.count - 6 ≡ 0 = omega arith in
    rw (ne_eqb _ _ c.if-count-eq0.false, n) none

pub returns : goal.returns
unfolding listing_end
returns c = rw (ne_eqb _ _ c.if-count-eq0.false) c.put_and_more.ensures
