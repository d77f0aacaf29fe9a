-- `word::three` meets its contract. Assumes nothing.
use native.Mathlib.Omega.{arith}
use Rattle.word.proofs.Packed.{packed-last-two}
use Rattle.word.proofs.three.Goals as goal

pub returns-then-at-s : goal.returns-then-at-s
returns-then-at-s c =
    let a = c.args in
    (rw (c.two.ensures.0, c.one.ensures.0) (packed-last-two a.s.now a.at (omega arith)), omega (arith, c.two.ensures.1, c.one.ensures.1))
