-- `expected_lines::put_kind` meets its contract. Assumes nothing.
use borrow.Author.Tests.{eq-eqb, ne_eqb}
use Rattle.output.proofs.Writing.{none}
use Rattle.expected_lines.specs.Words.{kind_words}
use Rattle.expected_lines.proofs.put_kind.Goals as goal

pub returns-then-number-eq7 : goal.returns-then-number-eq7
unfolding kind_words
returns-then-number-eq7 c = rw (eq-eqb _ 7 c.if-number-eq7.true, ← c.rndf_form-form.ensures) c.put_fields.ensures

pub returns-then-lists_field : goal.returns-then-lists_field
unfolding kind_words
returns-then-lists_field c = rw (ne_eqb _ 7 c.if-number-eq7.false, ← c.lists_field.ensures, c.if-lists_field.true, ← c.rndf_form-form.ensures, ← c.field_at_fault-i.ensures, ← c.item_at.ensures) c.put_field.ensures

pub returns : goal.returns
unfolding kind_words
returns c = rw (ne_eqb _ 7 c.if-number-eq7.false, ← c.lists_field.ensures, c.if-lists_field.false) none
