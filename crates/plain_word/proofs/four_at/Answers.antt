-- `plain_word::four_at` meets its contract. Assumes nothing.
use native.Mathlib.Omega.{arith}
use Rattle.word.proofs.Packed.{packed_four}
use Rattle.plain_word.proofs.four_at.Goals as goal

-- src/lib.rt:215:1
pub returns : goal.returns
returns c =
    let a = c.args in
    (rw (c.two_at.ensures.0, c.two_at-2.ensures.0) (packed_four a.s.now a.i (omega arith)), omega (arith, c.two_at.ensures.1, c.two_at-2.ensures.1))
