-- `expected_references::mark_number` meets its contract. Assumes nothing.
use mathlib.Core.Path.{sym}
use Rattle.expected_references.proofs.Steps.{no-mark}
use Rattle.expected_references.proofs.mark_number.Goals as goal

pub returns-else-n-le32768 : goal.returns-else-n-le32768
returns-else-n-le32768 c = sym (no-mark _ _ c.if-n-le32768.false)
