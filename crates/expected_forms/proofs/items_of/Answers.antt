-- `expected_forms::items_of` meets its contract. Assumes nothing.
use Rattle.expected_forms.proofs.PutLists.{few-items, all-items}
use Rattle.expected_forms.proofs.items_of.Goals as goal

pub returns-then-f-lt3 : goal.returns-then-f-lt3
returns-then-f-lt3 c = few-items c.args.f c.if-f-lt3.true

pub returns-else-f-lt3 : goal.returns-else-f-lt3
returns-else-f-lt3 c = all-items c.args.f c.if-f-lt3.false
