-- `expected_words::put_form` meets its contract: by how many items it has. Assumes nothing.
use Rattle.terms.specs.Ascii.{ascii}
use Rattle.output.proofs.Writing.{none, same, ◌then◌}
use Rattle.expected_words.proofs.Cases.{form-of-none, form-of-one, form-of-two, form-of-three}
use Rattle.expected_words.proofs.put_form.Goals as goal

pub returns-then-f-eq0 : goal.returns-then-f-eq0
returns-then-f-eq0 c = same (form-of-none _ _ _ _ c.if-f-eq0.true) none

pub returns-then-f-eq1 : goal.returns-then-f-eq1
returns-then-f-eq1 c = same (form-of-one _ _ _ _ c.if-f-eq1.true) c.put_shape-a.ensures

pub returns-then-f-eq2 : goal.returns-then-f-eq2
unfolding ascii
returns-then-f-eq2 c = same (form-of-two _ _ _ _ c.if-f-eq2.true) (c.put_shape-a.ensures then c.put_next_shape-b.ensures)

pub returns : goal.returns
unfolding ascii
returns c = same (form-of-three _ _ _ _ c.if-f-eq0.false c.if-f-eq1.false c.if-f-eq2.false) (c.put_shape-a.ensures then (c.put_next_shape-b.ensures then c.put_next_shape.ensures))
