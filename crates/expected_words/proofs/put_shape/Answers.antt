-- `expected_words::put_shape` meets its contract: an arm for each item that is typed as it stands, the last for those that capitals stand for. Assumes nothing.
use Rattle.output.proofs.Writing.{same}
use Rattle.expected_law.specs.Telling.{shape}
use Rattle.expected_words.proofs.Cases.{pair-shape}
use Rattle.expected_words.proofs.Rest.{capitals-told}
use borrow.Enum.Refused.{opened}
use Rattle.expected_words.proofs.put_shape.Goals as goal

pub returns-in-Word : goal.returns-in-Word
unfolding shape
returns-in-Word c = rw c.in-Word.is c.put_word.ensures

pub returns-in-Order : goal.returns-in-Order
unfolding shape
returns-in-Order c = rw c.in-Order.is c.put_order.ensures

pub returns-in-Number : goal.returns-in-Number
unfolding shape
returns-in-Number c = rw c.in-Number.is c.put_number_shape.ensures

pub returns-in-Part : goal.returns-in-Part
returns-in-Part c = rw c.in-Part.is (same (pair-shape _ _) c.put_pair.ensures)

pub returns-in-Point : goal.returns-in-Point
unfolding shape
returns-in-Point c = rw c.in-Point.is c.put_point_shape.ensures

pub returns-in_default : goal.returns-in_default
returns-in_default c = same (capitals-told c.args.i (opened c.in_default.in_default-own.keys6)) c.put_capitals.ensures
