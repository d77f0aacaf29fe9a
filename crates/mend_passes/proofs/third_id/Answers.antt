-- `mend_passes::third_id` meets its contract. Assumes nothing.
use native.Mathlib.Omega.{arith}
use Rattle.line.specs.Forms.{SpanWithin}
use Rattle.line.proofs.Spans.{fields_within}
use Rattle.mend_tests.specs.Tests.{third_id_of}
use Rattle.mend_passes.proofs.third_id.Goals as goal

pub slice_bounds-triple_of-count : goal.slice_bounds-triple_of-count
slice_bounds-triple_of-count c = let s = c.args.s.now in let h : SpanWithin s c.fields_of-f.result.c = rw c.fields_of-f.ensures (fields_within s).third in omega (arith, h.order, h.inside)

pub slice_bounds-triple_of-start : goal.slice_bounds-triple_of-start
slice_bounds-triple_of-start c = let s = c.args.s.now in let h : SpanWithin s c.fields_of-f.result.c = rw c.fields_of-f.ensures (fields_within s).third in omega (arith, h.order, h.inside)

pub slice_bounds-triple_of-end : goal.slice_bounds-triple_of-end
slice_bounds-triple_of-end c = let s = c.args.s.now in let h : SpanWithin s c.fields_of-f.result.c = rw c.fields_of-f.ensures (fields_within s).third in omega (arith, h.order, h.inside)

pub returns : goal.returns
unfolding third_id_of
returns c = rw (← c.fields_of-f.ensures, ← c.triple_of.ensures) c.id_from.ensures
