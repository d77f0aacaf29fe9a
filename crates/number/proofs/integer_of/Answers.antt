-- `number::integer_of` meets its contract. Assumes nothing.
use Prim.Native.Nat.{◌≤◌, ◌<◌}
use native.Mathlib.Omega.{arith}
use lib.ListN.{length}
use borrow.Author.Tests.{le-leb, lt-leb}
use Rattle.number.specs.Executable.{the_integer_of}
use Rattle.number.proofs.integer_of.Goals as goal

pub returns-then-s-gt5 : goal.returns-then-s-gt5
unfolding the_integer_of
returns-then-s-gt5 c =
    let s = c.args.s.now in
    let h : 5 < length s = omega arith in
    rw (lt-leb (length s) 5 h)

pub returns : goal.returns
unfolding the_integer_of
returns c =
    let s = c.args.s.now in
    let h : length s ≤ 5 = omega arith in
    rw (le-leb (length s) 5 h) c.plain_worth.ensures
