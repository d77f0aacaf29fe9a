use Rattle.law.specs.Tables.{lent}
use Rattle.room.proofs.clear_tables.Goals as goal

pub returns : goal.returns
returns c = λ i. lent (c.clear.ensures i) (c.clear-2.ensures i) (c.clear-3.ensures i) (c.clear-4.ensures i) (c.clear_signed.ensures i) (c.clear-5.ensures i) (c.clear-6.ensures i) (c.clear-7.ensures i)
