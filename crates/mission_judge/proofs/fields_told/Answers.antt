use Rattle.line.specs.Forms.{SpanWithin}
use Rattle.line.proofs.Spans.{fields_within}
use Rattle.judge.specs.Judging.{known, told}
use borrow.Author.Tests.{eq-eqb, ne_eqb, lt-ltb, le-ltb}
use native.Mathlib.Omega.{arith}
use Rattle.mission_judge.proofs.fields_told.Goals as goal

pub returns-then-f-eq0 : goal.returns-then-f-eq0
unfolding told
returns-then-f-eq0 c = rw (← c.fields_of-f.ensures, eq-eqb _ 0 c.if-f-eq0.true)

pub slice_bounds-kind_of-count : goal.slice_bounds-kind_of-count
slice_bounds-kind_of-count c = let h : SpanWithin c.args.s.now c.fields_of-f.result.a = rw c.fields_of-f.ensures (fields_within c.args.s.now).first in omega (arith, h.order, h.inside)

pub slice_bounds-kind_of-start : goal.slice_bounds-kind_of-start
slice_bounds-kind_of-start c = let h : SpanWithin c.args.s.now c.fields_of-f.result.a = rw c.fields_of-f.ensures (fields_within c.args.s.now).first in omega (arith, h.order, h.inside)

pub slice_bounds-kind_of-end : goal.slice_bounds-kind_of-end
slice_bounds-kind_of-end c = let h : SpanWithin c.args.s.now c.fields_of-f.result.a = rw c.fields_of-f.ensures (fields_within c.args.s.now).first in omega (arith, h.order, h.inside)

pub kind_told-requires : goal.kind_told-requires
kind_told-requires c = (c.requires, c.if-kind-lt-COUNT.true)

pub returns-then-kind-lt-COUNT : goal.returns-then-kind-lt-COUNT
unfolding told known
returns-then-kind-lt-COUNT c = rw (← c.fields_of-f.ensures, ne_eqb _ 0 c.if-f-eq0.false, ← c.kind_of-kind.ensures, lt-ltb _ 13 c.if-kind-lt-COUNT.true) c.kind_told.ensures

pub returns-else-kind-lt-COUNT : goal.returns-else-kind-lt-COUNT
unfolding told known
returns-else-kind-lt-COUNT c = rw (← c.fields_of-f.ensures, ne_eqb _ 0 c.if-f-eq0.false, ← c.kind_of-kind.ensures, le-ltb _ 13 c.if-kind-lt-COUNT.false)
