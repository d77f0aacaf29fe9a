-- `plain_word::middle_stands` meets its contract. Assumes nothing.
use Rattle.plain_word.proofs.Rows.{middle-here}
use Rattle.plain_word.proofs.middle_stands.Goals as goal

-- src/lib.rt:135:1
pub returns-else-size-le16 : goal.returns-else-size-le16
returns-else-size-le16 c =
    let a = c.args in
    middle-here a.s.now a.from a.size c.eight_at.result c.eight_at.ensures
