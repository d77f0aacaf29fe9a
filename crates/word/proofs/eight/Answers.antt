-- `word::eight` meets its contract. Assumes nothing.
use native.Mathlib.Omega.{arith}
use Rattle.word.proofs.Packed.{packed-eight}
use Rattle.word.proofs.eight.Goals as goal

pub returns : goal.returns
returns c =
    let a = c.args in
    rw (c.four.ensures.0, c.four-2.ensures.0) (packed-eight a.s.now a.i (omega arith))
