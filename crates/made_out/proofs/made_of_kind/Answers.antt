-- `made_out::made_of_kind` meets its contract. Assumes nothing.
use mathlib.Core.Path.{ap, ◌∙◌}
use borrow.Author.Tests.{ne_eqb}
use Rattle.number.specs.Executable.{the_integer_of, the_pair_of, triple_of}
use Rattle.coordinate.specs.Executable.{the_coordinate_of}
use Rattle.word.specs.Number.{boundary_number}
use Rattle.made_out.specs.Made.{made_of}
use Rattle.made_out.proofs.made_of_kind.Goals as goal

pub returns-in-0 : goal.returns-in-0
unfolding made_of
returns-in-0 c = rw (← c.shape_of-shape.ensures, c.in-0.is, c.bare.ensures)

pub returns-in-1 : goal.returns-in-1
unfolding made_of
returns-in-1 c = rw (← c.shape_of-shape.ensures, c.in-1.is) c.name_made.ensures

pub returns-in-2 : goal.returns-in-2
unfolding made_of
returns-in-2 c = rw (← c.shape_of-shape.ensures, c.in-2.is, ← (c.integer_of.ensures ∙ ap the_integer_of c.field.ensures)) c.number_made.ensures

pub returns-in-3 : goal.returns-in-3
unfolding made_of
returns-in-3 c = rw (← c.shape_of-shape.ensures, c.in-3.is, ← (c.pair_of.ensures ∙ ap the_pair_of c.field-in-3.ensures)) c.pair_made.ensures

pub returns-in-4 : goal.returns-in-4
unfolding made_of
returns-in-4 c = rw (← c.shape_of-shape.ensures, c.in-4.is, ← (c.boundary_word.ensures ∙ ap boundary_number c.field-in-4.ensures)) c.side_made.ensures

pub returns-in-5 : goal.returns-in-5
unfolding made_of
returns-in-5 c = rw (← c.shape_of-shape.ensures, c.in-5.is, ← (c.triple_of.ensures ∙ ap triple_of c.field-in-5.ensures), ← (c.integer_of-in-5.ensures ∙ ap the_integer_of c.field-in-5-2.ensures)) c.checkpoint_made.ensures

pub returns-in-6 : goal.returns-in-6
unfolding made_of
returns-in-6 c = rw (← c.shape_of-shape.ensures, c.in-6.is, ← (c.triple_of-in-6.ensures ∙ ap triple_of c.field-in-6.ensures)) c.stop_made.ensures

pub returns-in-7 : goal.returns-in-7
unfolding made_of
returns-in-7 c = rw (← c.shape_of-shape.ensures, c.in-7.is, ← (c.triple_of-in-7.ensures ∙ ap triple_of c.field-in-7.ensures), ← (c.triple_of-in-7-2.ensures ∙ ap triple_of c.field-in-7-2.ensures)) c.exit_made.ensures

pub returns-in_default : goal.returns-in_default
unfolding made_of
returns-in_default c = rw (← c.shape_of-shape.ensures, ne_eqb _ 0 c.in_default.in_default-own.rest.0.0.0.0.0.0.0.1, ne_eqb _ 1 c.in_default.in_default-own.rest.0.0.0.0.0.0.1, ne_eqb _ 2 c.in_default.in_default-own.rest.0.0.0.0.0.1, ne_eqb _ 3 c.in_default.in_default-own.rest.0.0.0.0.1, ne_eqb _ 4 c.in_default.in_default-own.rest.0.0.0.1, ne_eqb _ 5 c.in_default.in_default-own.rest.0.0.1, ne_eqb _ 6 c.in_default.in_default-own.rest.0.1, ne_eqb _ 7 c.in_default.in_default-own.rest.1, ← (c.triple_of-in_default.ensures ∙ ap triple_of c.field-in_default.ensures), ← (c.coordinate_of.ensures ∙ ap the_coordinate_of c.field-in_default-2.ensures), ← (c.coordinate_of-in_default.ensures ∙ ap the_coordinate_of c.field-in_default-3.ensures)) c.point_made.ensures
