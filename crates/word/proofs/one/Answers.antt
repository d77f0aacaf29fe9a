-- `word::one` meets its contract. Assumes nothing.
use mathlib.Core.Path.{sym, ◌∙◌}
use native.Mathlib.Omega.{arith}
use lib.Dec.{lit<}
use Rattle.word.proofs.Packed.{packed_none, packed-last}
use Rattle.word.proofs.one.Goals as goal

pub returns-then-at-s : goal.returns-then-at-s
returns-then-at-s c =
    let a = c.args in
    (c.wide.ensures.0 ∙ packed-last a.s.now a.at (omega arith) (omega arith), c.wide.ensures.1)

pub returns-else-at-s : goal.returns-else-at-s
returns-else-at-s c = let a = c.args in (sym (packed_none a.s.now a.at c.if-at-s.false), lit< tt)
