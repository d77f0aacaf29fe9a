-- `word::four` meets its contract. Assumes nothing.
use native.Mathlib.Omega.{arith}
use Rattle.word.proofs.Packed.{packed_four}
use Rattle.word.proofs.four.Goals as goal

pub returns : goal.returns
returns c =
    let a = c.args in
    (rw (c.two.ensures.0, c.two-2.ensures.0) (packed_four a.s.now a.i (omega arith)), omega (arith, c.two.ensures.1, c.two-2.ensures.1))
