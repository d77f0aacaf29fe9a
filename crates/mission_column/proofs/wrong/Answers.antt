-- `mission_column::wrong` meets its contract. Assumes nothing.
use native.Mathlib.Omega.{arith}
use borrow.Author.Tests.{ne_eqb}
use Rattle.line.specs.Forms.{SpanWithin}
use Rattle.line.proofs.Spans.{fields_within}
use Rattle.columns.specs.MdfColumns.{mdf_wrong}
use Rattle.mission_column.proofs.wrong.Goals as goal

pub slice_bounds-integer_of-count : goal.slice_bounds-integer_of-count
slice_bounds-integer_of-count c = let h : SpanWithin c.args.s.now c.args.f.a = rw c.requires (fields_within c.args.s.now).first in omega (arith, h.order, h.inside)

pub slice_bounds-integer_of-start : goal.slice_bounds-integer_of-start
slice_bounds-integer_of-start c = let h : SpanWithin c.args.s.now c.args.f.a = rw c.requires (fields_within c.args.s.now).first in omega (arith, h.order, h.inside)

pub slice_bounds-integer_of-end : goal.slice_bounds-integer_of-end
slice_bounds-integer_of-end c = let h : SpanWithin c.args.s.now c.args.f.a = rw c.requires (fields_within c.args.s.now).first in omega (arith, h.order, h.inside)

pub slice_bounds-integer_of-count-in-12 : goal.slice_bounds-integer_of-count-in-12
slice_bounds-integer_of-count-in-12 c = let h : SpanWithin c.args.s.now c.args.f.b = rw c.requires (fields_within c.args.s.now).second in omega (arith, h.order, h.inside)

pub slice_bounds-integer_of-start-in-12 : goal.slice_bounds-integer_of-start-in-12
slice_bounds-integer_of-start-in-12 c = let h : SpanWithin c.args.s.now c.args.f.b = rw c.requires (fields_within c.args.s.now).second in omega (arith, h.order, h.inside)

pub slice_bounds-integer_of-end-in-12 : goal.slice_bounds-integer_of-end-in-12
slice_bounds-integer_of-end-in-12 c = let h : SpanWithin c.args.s.now c.args.f.b = rw c.requires (fields_within c.args.s.now).second in omega (arith, h.order, h.inside)

pub returns-in-12 : goal.returns-in-12
unfolding mdf_wrong
returns-in-12 c = rw (c.in-12.is, ← c.integer_of.ensures, ← c.integer_of-in-12.ensures) c.limit_wrong.ensures

pub returns-in-11 : goal.returns-in-11
unfolding mdf_wrong
returns-in-11 c = rw c.in-11.is

pub returns-in_default : goal.returns-in_default
unfolding mdf_wrong
returns-in_default c = rw (ne_eqb _ 12 c.in_default.in_default-own.rest.0.1, ne_eqb _ 11 c.in_default.in_default-own.rest.1)
