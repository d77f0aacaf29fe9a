-- `plain_word::short_stands` meets its contract. Assumes nothing.
use native.Mathlib.Omega.{arith}
use Rattle.plain_word.proofs.Rows.{row-between, short_row}
use Rattle.plain_word.proofs.short_stands.Goals as goal

-- src/lib.rt:252:16
pub overflow_sub-last : goal.overflow_sub-last
overflow_sub-last c = (row-between c.requires.0).low

-- src/lib.rt:253:6
pub four_at-requires : goal.four_at-requires
four_at-requires c =
    let p = c.requires in
    omega (arith, (row-between p.0).low, p.1)

-- src/lib.rt:253:36
pub four_at-requires-2 : goal.four_at-requires-2
four_at-requires-2 c =
    let p = c.requires in
    omega (arith, (row-between p.0).low, p.1)

-- src/lib.rt:248:1
pub returns : goal.returns
returns c =
    short_row c.args.s.now c.args.from c.args.row c.requires.0 c.requires.1 c.requires.2 c.four_at.result c.four_at-2.result c.four_at.ensures.0 c.four_at-2.ensures.0
