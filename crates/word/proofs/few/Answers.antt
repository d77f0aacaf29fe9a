-- `word::few` meets its contract. Assumes nothing.
use native.Mathlib.Omega.{arith}
use Rattle.word.proofs.Packed.{packed-last_four}
use Rattle.word.proofs.few.Goals as goal

pub returns-then-at-s : goal.returns-then-at-s
returns-then-at-s c =
    let a = c.args in
    rw (c.four.ensures.0, c.three.ensures.0) (packed-last_four a.s.now a.at (omega arith))
