-- `mended_lines::left_behind` meets its contract. Assumes nothing.
use Rattle.mended_lines.proofs.Numbers.{left-kept, left-same}
use Rattle.mended_lines.proofs.left_behind.Goals as goal

pub returns-then-kept : goal.returns-then-kept
returns-then-kept c = left-kept _ _ c.if-kept.true

pub returns : goal.returns
returns c = left-same _ _ c.if-kept.false
