-- `plain_word::long_stands` meets its contract. Assumes nothing.
use Rattle.plain_word.proofs.Rows.{long-row}
use Rattle.plain_word.proofs.long_stands.Goals as goal

-- src/lib.rt:147:1
pub returns : goal.returns
returns c =
    long-row c.args.s.now c.args.from c.args.row c.requires.0 c.requires.1 c.requires.2 c.eight_at.result c.eight_at-2.result c.middle_stands.result c.eight_at.ensures c.eight_at-2.ensures c.middle_stands.ensures
