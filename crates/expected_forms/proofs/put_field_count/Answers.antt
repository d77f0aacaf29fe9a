-- `expected_forms::put_field_count` meets its contract. Assumes nothing.
use mathlib.Core.Path.{◌∙◌}
use borrow.Author.Tests.{eq-eqb, ne_eqb}
use Rattle.terms.specs.Ascii.{ascii}
use Rattle.output.proofs.Writing.{◌then◌}
use Rattle.expected_forms.specs.Listing.{field_count}
use Rattle.expected_forms.proofs.put_field_count.Goals as goal

pub shape_of-out-then-count-eq1 : goal.shape_of-out-then-count-eq1
shape_of-out-then-count-eq1 c =
    c.put_bytes.auto.out ∙ c.put_integer-b.auto.out ∙ c.put_bytes-a.auto.out

pub returns-then-count-eq1 : goal.returns-then-count-eq1
unfolding field_count ascii
returns-then-count-eq1 c =
    rw (eq-eqb _ 1 c.if-count-eq1.true) (c.put_bytes-a.ensures then (c.put_integer-b.ensures then c.put_bytes.ensures))

pub shape_of-out : goal.shape_of-out
shape_of-out c =
    c.put_bytes-2.auto.out ∙ c.put_integer-b.auto.out ∙ c.put_bytes-a.auto.out

pub returns : goal.returns
unfolding field_count ascii
returns c =
    rw (ne_eqb _ 1 c.if-count-eq1.false) (c.put_bytes-a.ensures then (c.put_integer-b.ensures then c.put_bytes-2.ensures))
