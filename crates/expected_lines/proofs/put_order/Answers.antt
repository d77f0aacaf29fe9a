-- `expected_lines::put_order` meets its contract. Assumes nothing.
use borrow.Author.Tests.{eq-eqb, ne_eqb}
use Rattle.output.proofs.Writing.{none}
use Rattle.expected_lines.specs.Words.{order_words}
use Rattle.expected_lines.proofs.put_order.Goals as goal

pub returns-then-number-eq7 : goal.returns-then-number-eq7
unfolding order_words
returns-then-number-eq7 c = rw (eq-eqb _ 7 c.if-number-eq7.true, ← c.order_form-form.ensures) c.put_fields.ensures

pub returns-then-i-eq2 : goal.returns-then-i-eq2
unfolding order_words
returns-then-i-eq2 c = rw (ne_eqb _ 7 c.if-number-eq7.false, ← c.lists_field.ensures, c.if-lists_field.true, ← c.mission_field_at_fault-i.ensures, eq-eqb _ 2 c.if-i-eq2.true) c.put_maximum.ensures

pub returns-then-lists_field : goal.returns-then-lists_field
unfolding order_words
returns-then-lists_field c = rw (ne_eqb _ 7 c.if-number-eq7.false, ← c.lists_field.ensures, c.if-lists_field.true, ← c.mission_field_at_fault-i.ensures, ne_eqb _ 2 c.if-i-eq2.false, ← c.order_form-form.ensures, ← c.item_at.ensures) c.put_field.ensures

pub returns : goal.returns
unfolding order_words
returns c = rw (ne_eqb _ 7 c.if-number-eq7.false, ← c.lists_field.ensures, c.if-lists_field.false) none
