-- `unpacked_rows::is_framed` meets its contract. Assumes nothing.
use Rattle.unpacked_rows.proofs.Storing.{too_short, length-right, length-wrong}
use native.Mathlib.Omega.{arith}
use mathlib.Core.Path.{sym, ◌∙◌}
use Rattle.unpacked_rows.proofs.is_framed.Goals as goal

pub returns-then-bytes-lt5 : goal.returns-then-bytes-lt5
returns-then-bytes-lt5 c = too_short c.args.bytes.now (omega arith)

pub returns-then-four_at-bytes : goal.returns-then-four_at-bytes
returns-then-four_at-bytes c = c.are_records.ensures ∙ length-right c.args.bytes.now (omega arith) (sym c.four_at.ensures ∙ c.if-four_at-bytes.true)

pub returns-else-four_at-bytes : goal.returns-else-four_at-bytes
returns-else-four_at-bytes c = length-wrong c.args.bytes.now (omega arith) (λ e. c.if-four_at-bytes.false (c.four_at.ensures ∙ e))
