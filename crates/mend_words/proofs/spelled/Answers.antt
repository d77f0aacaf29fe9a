-- `mend_words::spelled` meets its contract. Assumes nothing.
use Rattle.mend_words.proofs.Forward.{whole-rest, no-rest}
use Rattle.mend_words.proofs.spelled.Goals as goal

pub returns-then-start-front : goal.returns-then-start-front
returns-then-start-front c = whole-rest c.args.start c.args.stop c.first-front.result.now c.args.given.now c.first-front.ensures

pub returns-else-start-front : goal.returns-else-start-front
returns-else-start-front c = no-rest c.args.start c.args.stop c.first-front.result.now c.args.given.now c.first-front.ensures c.if-start-front.false
