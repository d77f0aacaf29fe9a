-- `plain_word::boundary_at` meets its contract. Assumes nothing.
use native.Mathlib.Omega.{arith}
use Rattle.word.proofs.Packed.{Small}
use Rattle.plain_word.proofs.Rows.{boundary-here}
use Rattle.plain_word.proofs.boundary_at.Goals as goal

-- src/lib.rt:203:1
pub returns-then-long_stands : goal.returns-then-long_stands
returns-then-long_stands c =
    let p : Small c.args.s.now = λ i. omega (arith, c.shared_slice_known-1.given i) in
    boundary-here c.args.s.now c.args.from c.side_row-row.result c.side_row-row.ensures.0 (omega arith) p (rw c.if-long_stands.true at c.long_stands.ensures) c.side_row-row.ensures.1
