-- `output::put_byte` meets its contract. Assumes nothing.
use Rattle.output.proofs.Writing.{put-inside, put-past}
use Rattle.output.proofs.put_byte.Goals as goal

pub returns-then-at-lt-MOST : goal.returns-then-at-lt-MOST
returns-then-at-lt-MOST c = rw c.store.ensures (put-inside _ _ _ c.if-at-lt-MOST.true)

pub returns : goal.returns
returns c = put-past _ _ _ c.if-at-lt-MOST.false
