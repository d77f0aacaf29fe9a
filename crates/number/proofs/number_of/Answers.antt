-- `number::number_of` meets its contract. Assumes nothing.
use Prim.Native.Nat.{◌≤◌, ◌<◌}
use native.Mathlib.Omega.{arith}
use lib.ListN.{length}
use borrow.Author.Tests.{le-leb, lt-leb}
use Rattle.number.proofs.number_of.Goals as goal

pub returns-then-s-gt-MOST_DIGITS : goal.returns-then-s-gt-MOST_DIGITS
returns-then-s-gt-MOST_DIGITS c =
    let s = c.args.s.now in
    let h : 9 < length s = omega arith in
    rw (lt-leb (length s) 9 h)

pub returns : goal.returns
returns c =
    let s = c.args.s.now in
    let h : length s ≤ 9 = omega arith in
    rw (le-leb (length s) 9 h) c.digits_worth.ensures
