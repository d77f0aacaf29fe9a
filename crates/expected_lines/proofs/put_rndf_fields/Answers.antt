-- `expected_lines::put_rndf_fields` meets its contract. Assumes nothing.
use native.Mathlib.Omega.{arith}
use Rattle.line.specs.Forms.{SpanWithin}
use Rattle.line.proofs.Spans.{fields_within}
use borrow.Author.Tests.{lt-ltb, le-ltb}
use Rattle.output.proofs.Writing.{none}
use Rattle.expected_lines.specs.Words.{fields_words}
use Rattle.expected_lines.proofs.put_rndf_fields.Goals as goal

pub slice_bounds-kind_of-count : goal.slice_bounds-kind_of-count
slice_bounds-kind_of-count c =
    let s = c.args.s.now in
    let h : SpanWithin s c.fields_of-f.result.a = rw c.fields_of-f.ensures (fields_within s).first in
    omega (arith, h.order, h.inside)

pub slice_bounds-kind_of-start : goal.slice_bounds-kind_of-start
slice_bounds-kind_of-start c =
    let s = c.args.s.now in
    let h : SpanWithin s c.fields_of-f.result.a = rw c.fields_of-f.ensures (fields_within s).first in
    omega (arith, h.order, h.inside)

pub slice_bounds-kind_of-end : goal.slice_bounds-kind_of-end
slice_bounds-kind_of-end c =
    let s = c.args.s.now in
    let h : SpanWithin s c.fields_of-f.result.a = rw c.fields_of-f.ensures (fields_within s).first in
    omega (arith, h.order, h.inside)

pub returns-then-kind-lt-COUNT : goal.returns-then-kind-lt-COUNT
unfolding fields_words
returns-then-kind-lt-COUNT c = rw (← c.fields_of-f.ensures, ← c.kind_of-kind.ensures, lt-ltb _ 30 c.if-kind-lt-COUNT.true) c.put_kind.ensures

pub returns-else-kind-lt-COUNT : goal.returns-else-kind-lt-COUNT
unfolding fields_words
returns-else-kind-lt-COUNT c = rw (← c.fields_of-f.ensures, ← c.kind_of-kind.ensures, le-ltb _ 30 c.if-kind-lt-COUNT.false) none
