-- `plain_parts::comment_end` meets its contract. Assumes nothing.
use Rattle.plain_parts.proofs.Ended.{behind-note}
use Rattle.plain_parts.proofs.comment_end.Goals as goal

pub returns : goal.returns
returns c = behind-note c.args.s.now c.args.from c.in_ok-e.e c.bare_end.result c.in_ok-e.ensures c.bare_end.ensures
