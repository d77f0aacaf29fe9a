-- `plain_word::eight_at` meets its contract. Assumes nothing.
use native.Mathlib.Omega.{arith}
use Rattle.word.proofs.Packed.{packed-eight}
use Rattle.plain_word.proofs.eight_at.Goals as goal

-- src/lib.rt:222:1
pub returns : goal.returns
returns c =
    let a = c.args in
    rw (c.four_at.ensures.0, c.four_at-2.ensures.0) (packed-eight a.s.now a.i (omega arith))
