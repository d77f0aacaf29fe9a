-- `column::wrong` meets its contract. Assumes nothing.
use native.Mathlib.Omega.{arith}
use borrow.Author.Tests.{ne_eqb}
use Rattle.line.specs.Forms.{SpanWithin}
use Rattle.line.proofs.Spans.{fields_within}
use Rattle.columns.specs.RndfColumns.{rndf_wrong}
use Rattle.column.proofs.wrong.Goals as goal

pub slice_bounds-triple_of-count : goal.slice_bounds-triple_of-count
slice_bounds-triple_of-count c = let h : SpanWithin c.args.s.now c.args.f.b = rw c.requires (fields_within c.args.s.now).second in omega (arith, h.order, h.inside)

pub slice_bounds-triple_of-start : goal.slice_bounds-triple_of-start
slice_bounds-triple_of-start c = let h : SpanWithin c.args.s.now c.args.f.b = rw c.requires (fields_within c.args.s.now).second in omega (arith, h.order, h.inside)

pub slice_bounds-triple_of-end : goal.slice_bounds-triple_of-end
slice_bounds-triple_of-end c = let h : SpanWithin c.args.s.now c.args.f.b = rw c.requires (fields_within c.args.s.now).second in omega (arith, h.order, h.inside)

pub slice_bounds-triple_of-count-in-16 : goal.slice_bounds-triple_of-count-in-16
slice_bounds-triple_of-count-in-16 c = let h : SpanWithin c.args.s.now c.args.f.b = rw c.requires (fields_within c.args.s.now).second in omega (arith, h.order, h.inside)

pub slice_bounds-triple_of-start-in-16 : goal.slice_bounds-triple_of-start-in-16
slice_bounds-triple_of-start-in-16 c = let h : SpanWithin c.args.s.now c.args.f.b = rw c.requires (fields_within c.args.s.now).second in omega (arith, h.order, h.inside)

pub slice_bounds-triple_of-end-in-16 : goal.slice_bounds-triple_of-end-in-16
slice_bounds-triple_of-end-in-16 c = let h : SpanWithin c.args.s.now c.args.f.b = rw c.requires (fields_within c.args.s.now).second in omega (arith, h.order, h.inside)

pub slice_bounds-triple_of-count-in-29 : goal.slice_bounds-triple_of-count-in-29
slice_bounds-triple_of-count-in-29 c = let h : SpanWithin c.args.s.now c.args.f.a = rw c.requires (fields_within c.args.s.now).first in omega (arith, h.order, h.inside)

pub slice_bounds-triple_of-start-in-29 : goal.slice_bounds-triple_of-start-in-29
slice_bounds-triple_of-start-in-29 c = let h : SpanWithin c.args.s.now c.args.f.a = rw c.requires (fields_within c.args.s.now).first in omega (arith, h.order, h.inside)

pub slice_bounds-triple_of-end-in-29 : goal.slice_bounds-triple_of-end-in-29
slice_bounds-triple_of-end-in-29 c = let h : SpanWithin c.args.s.now c.args.f.a = rw c.requires (fields_within c.args.s.now).first in omega (arith, h.order, h.inside)

pub slice_bounds-coordinate_of-count : goal.slice_bounds-coordinate_of-count
slice_bounds-coordinate_of-count c = let h : SpanWithin c.args.s.now c.args.f.b = rw c.requires (fields_within c.args.s.now).second in omega (arith, h.order, h.inside)

pub slice_bounds-coordinate_of-start : goal.slice_bounds-coordinate_of-start
slice_bounds-coordinate_of-start c = let h : SpanWithin c.args.s.now c.args.f.b = rw c.requires (fields_within c.args.s.now).second in omega (arith, h.order, h.inside)

pub slice_bounds-coordinate_of-end : goal.slice_bounds-coordinate_of-end
slice_bounds-coordinate_of-end c = let h : SpanWithin c.args.s.now c.args.f.b = rw c.requires (fields_within c.args.s.now).second in omega (arith, h.order, h.inside)

pub returns-in-14 : goal.returns-in-14
unfolding rndf_wrong
returns-in-14 c = rw (c.in-14.is, ← c.triple_of.ensures) c.checkpoint_wrong.ensures

pub returns-in-16 : goal.returns-in-16
unfolding rndf_wrong
returns-in-16 c = rw (c.in-16.is, ← c.triple_of-in-16.ensures) c.exit_wrong.ensures

pub returns-in-29 : goal.returns-in-29
unfolding rndf_wrong
returns-in-29 c = rw (c.in-29.is, ← c.triple_of-in-29.ensures, ← c.coordinate_of.ensures) c.point_wrong.ensures

pub returns-in_default : goal.returns-in_default
unfolding rndf_wrong
returns-in_default c = rw (ne_eqb _ 14 c.in_default.in_default-own.rest.0.0.1, ne_eqb _ 16 c.in_default.in_default-own.rest.0.1, ne_eqb _ 29 c.in_default.in_default-own.rest.1)
