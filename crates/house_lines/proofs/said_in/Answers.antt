-- `house_lines::said_in` meets its contract. Assumes nothing.
use native.Mathlib.Omega.{arith}
use borrow.Author.Tests.{eq-eqb, ne_eqb}
use Rattle.line.specs.Forms.{SpanWithin}
use Rattle.line.proofs.Spans.{fields_within}
use Rattle.house_lines.specs.Said.{said_in_of}
use Rattle.house_lines.proofs.said_in.Goals as goal

pub returns-then-fields-eq0 : goal.returns-then-fields-eq0
unfolding said_in_of
returns-then-fields-eq0 c = rw (← c.fields_of-fields.ensures, eq-eqb _ 0 c.if-fields-eq0.true)

pub slice_bounds-rank_of-count : goal.slice_bounds-rank_of-count
slice_bounds-rank_of-count c =
    let s = c.args.body.now in
    let h : SpanWithin s c.fields_of-fields.result.a = rw c.fields_of-fields.ensures (fields_within s).first in
    omega (arith, h.order, h.inside)

pub slice_bounds-rank_of-start : goal.slice_bounds-rank_of-start
slice_bounds-rank_of-start c =
    let s = c.args.body.now in
    let h : SpanWithin s c.fields_of-fields.result.a = rw c.fields_of-fields.ensures (fields_within s).first in
    omega (arith, h.order, h.inside)

pub slice_bounds-rank_of-end : goal.slice_bounds-rank_of-end
slice_bounds-rank_of-end c =
    let s = c.args.body.now in
    let h : SpanWithin s c.fields_of-fields.result.a = rw c.fields_of-fields.ensures (fields_within s).first in
    omega (arith, h.order, h.inside)

pub returns : goal.returns
unfolding said_in_of
returns c = rw (← c.fields_of-fields.ensures, ne_eqb _ 0 c.if-fields-eq0.false, c.rank_of-rank.ensures)
