-- `expected_lines::put_maximum` meets its contract. Assumes nothing.
use native.Mathlib.Omega.{arith}
use Rattle.line.specs.Forms.{SpanWithin}
use Rattle.line.proofs.Spans.{fields_within}
use Rattle.expected_lines.specs.Words.{maximum_words}
use Rattle.expected_lines.proofs.put_maximum.Goals as goal

pub slice_bounds-integer_of-count : goal.slice_bounds-integer_of-count
slice_bounds-integer_of-count c =
    let s = c.args.s.now in
    let h : SpanWithin s c.fields_of-f.result.a = rw c.fields_of-f.ensures (fields_within s).first in
    omega (arith, h.order, h.inside)

pub slice_bounds-integer_of-start : goal.slice_bounds-integer_of-start
slice_bounds-integer_of-start c =
    let s = c.args.s.now in
    let h : SpanWithin s c.fields_of-f.result.a = rw c.fields_of-f.ensures (fields_within s).first in
    omega (arith, h.order, h.inside)

pub slice_bounds-integer_of-end : goal.slice_bounds-integer_of-end
slice_bounds-integer_of-end c =
    let s = c.args.s.now in
    let h : SpanWithin s c.fields_of-f.result.a = rw c.fields_of-f.ensures (fields_within s).first in
    omega (arith, h.order, h.inside)

pub slice_bounds-integer_of-count-2 : goal.slice_bounds-integer_of-count-2
slice_bounds-integer_of-count-2 c =
    let s = c.args.s.now in
    let h : SpanWithin s c.fields_of-f.result.b = rw c.fields_of-f.ensures (fields_within s).second in
    omega (arith, h.order, h.inside)

pub slice_bounds-integer_of-start-2 : goal.slice_bounds-integer_of-start-2
slice_bounds-integer_of-start-2 c =
    let s = c.args.s.now in
    let h : SpanWithin s c.fields_of-f.result.b = rw c.fields_of-f.ensures (fields_within s).second in
    omega (arith, h.order, h.inside)

pub slice_bounds-integer_of-end-2 : goal.slice_bounds-integer_of-end-2
slice_bounds-integer_of-end-2 c =
    let s = c.args.s.now in
    let h : SpanWithin s c.fields_of-f.result.b = rw c.fields_of-f.ensures (fields_within s).second in
    omega (arith, h.order, h.inside)

pub slice_bounds-put_field-count : goal.slice_bounds-put_field-count
slice_bounds-put_field-count c =
    let s = c.args.s.now in
    let h : SpanWithin s c.fields_of-f.result.b = rw c.fields_of-f.ensures (fields_within s).second in
    omega (arith, h.order, h.inside)

pub slice_bounds-put_field-start : goal.slice_bounds-put_field-start
slice_bounds-put_field-start c =
    let s = c.args.s.now in
    let h : SpanWithin s c.fields_of-f.result.b = rw c.fields_of-f.ensures (fields_within s).second in
    omega (arith, h.order, h.inside)

pub slice_bounds-put_field-end : goal.slice_bounds-put_field-end
slice_bounds-put_field-end c =
    let s = c.args.s.now in
    let h : SpanWithin s c.fields_of-f.result.b = rw c.fields_of-f.ensures (fields_within s).second in
    omega (arith, h.order, h.inside)

pub returns-then-goes_on : goal.returns-then-goes_on
unfolding maximum_words
returns-then-goes_on c = rw (← c.fields_of-f.ensures, ← c.integer_of.ensures, ← c.integer_of-2.ensures, ← c.goes_on.ensures, c.if-goes_on.true) c.put_field.ensures

pub returns : goal.returns
unfolding maximum_words
returns c = rw (← c.fields_of-f.ensures, ← c.integer_of.ensures, ← c.integer_of-2.ensures, ← c.goes_on.ensures, c.if-goes_on.false) c.put_field-2.ensures
