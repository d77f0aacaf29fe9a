-- `word::two` meets its contract. Assumes nothing.
use mathlib.Core.Path.{◌∙◌}
use native.Mathlib.Omega.{arith}
use Rattle.word.proofs.Packed.{packed-two}
use Rattle.word.proofs.two.Goals as goal

pub returns : goal.returns
returns c =
    let a = c.args in
    (c.pair.ensures.0 ∙ packed-two a.s.now a.i (omega arith), c.pair.ensures.1)
