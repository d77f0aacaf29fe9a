-- `plain_word::keyword_at` meets its contract. Assumes nothing.
use native.Mathlib.Omega.{arith}
use Rattle.word.proofs.Packed.{Small}
use Rattle.plain_word.proofs.Rows.{keyword-here}
use Rattle.plain_word.proofs.keyword_at.Goals as goal

-- src/lib.rt:279:1
pub returns-then-stands : goal.returns-then-stands
returns-then-stands c =
    let p : Small c.args.s.now = λ i. omega (arith, c.shared_slice_known-1.given i) in
    keyword-here c.args.s.now c.args.from c.row_at-row.result c.row_at-row.ensures.0 (omega arith) p (rw c.if-stands.true at c.stands.ensures) c.row_at-row.ensures.1
