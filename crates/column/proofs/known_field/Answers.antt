-- `column::known_field` meets its contract. Assumes nothing.
use native.Mathlib.Omega.{arith}
use borrow.Author.Tests.{lt-ltb, le-ltb}
use Rattle.line.specs.Forms.{SpanWithin}
use Rattle.line.proofs.Spans.{fields_within}
use Rattle.columns.specs.Locating.{known_field_of}
use Rattle.column.proofs.known_field.Goals as goal

pub slice_bounds-kind_of-count : goal.slice_bounds-kind_of-count
slice_bounds-kind_of-count c = let h : SpanWithin c.args.s.now c.args.f.a = rw c.requires (fields_within c.args.s.now).first in omega (arith, h.order, h.inside)

pub slice_bounds-kind_of-start : goal.slice_bounds-kind_of-start
slice_bounds-kind_of-start c = let h : SpanWithin c.args.s.now c.args.f.a = rw c.requires (fields_within c.args.s.now).first in omega (arith, h.order, h.inside)

pub slice_bounds-kind_of-end : goal.slice_bounds-kind_of-end
slice_bounds-kind_of-end c = let h : SpanWithin c.args.s.now c.args.f.a = rw c.requires (fields_within c.args.s.now).first in omega (arith, h.order, h.inside)

pub kind_field-requires : goal.kind_field-requires
kind_field-requires c = (c.requires, c.if-kind-lt-COUNT.true)

pub returns-then-kind-lt-COUNT : goal.returns-then-kind-lt-COUNT
unfolding known_field_of
returns-then-kind-lt-COUNT c = rw (← c.kind_of-kind.ensures, lt-ltb _ 30 c.if-kind-lt-COUNT.true) c.kind_field.ensures

pub returns-else-kind-lt-COUNT : goal.returns-else-kind-lt-COUNT
unfolding known_field_of
returns-else-kind-lt-COUNT c = rw (← c.kind_of-kind.ensures, le-ltb _ 30 c.if-kind-lt-COUNT.false)
