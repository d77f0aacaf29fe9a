-- `expected_words::put_item` meets its contract: an arm for each item that has numbers or depends on something, the last for those that are always told alike. Assumes nothing.
use Rattle.output.proofs.Writing.{same}
use Rattle.expected_law.specs.Telling.{item_words}
use Rattle.expected_words.proofs.Cases.{pair-told, points-told}
use Rattle.expected_words.proofs.Rest.{fixed_told}
use borrow.Enum.Refused.{opened}
use Rattle.expected_words.proofs.put_item.Goals as goal

pub returns-in-Word : goal.returns-in-Word
unfolding item_words
returns-in-Word c = rw c.in-Word.is c.put_word.ensures

pub returns-in-Order : goal.returns-in-Order
unfolding item_words
returns-in-Order c = rw c.in-Order.is c.put_order.ensures

pub returns-in-Number : goal.returns-in-Number
unfolding item_words
returns-in-Number c = rw c.in-Number.is c.put_number_words.ensures

pub returns-in-Part : goal.returns-in-Part
returns-in-Part c = rw c.in-Part.is (same (pair-told _ _ _) c.put_pair.ensures)

pub returns-in-Point : goal.returns-in-Point
returns-in-Point c = rw c.in-Point.is (same (points-told _ _ _ _ _) c.put_point_words.ensures)

pub returns-in-Entry : goal.returns-in-Entry
unfolding item_words
returns-in-Entry c = rw c.in-Entry.is c.put_entry_words.ensures

pub returns-in-Maximum : goal.returns-in-Maximum
returns-in-Maximum c = rw c.in-Maximum.is c.put_maximum_words.ensures

pub returns-in-Boundary : goal.returns-in-Boundary
unfolding item_words
returns-in-Boundary c = rw c.in-Boundary.is c.put_boundaries.ensures

pub returns-in_default : goal.returns-in_default
returns-in_default c = same (fixed_told _ c.args.i c.in_default.in_default-own.keys9) c.put_fixed_words.ensures
