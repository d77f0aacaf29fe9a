-- `expected_references::field_on` meets its contract. Assumes nothing.
use mathlib.Core.Path.{refl}
use native.Mathlib.Omega.{arith}
use Rattle.expected_references.specs.Named.{field_on_of}
use Rattle.expected_references.proofs.Steps.{span-inside}
use Rattle.expected_references.proofs.field_on.Goals as goal

pub slice_bounds-result-count : goal.slice_bounds-result-count
slice_bounds-result-count c = let h = span-inside _ _ c.args.i c.fields_of.ensures _ c.span_of-span.ensures in omega (arith, h.order, h.inside)

pub slice_bounds-result-start : goal.slice_bounds-result-start
slice_bounds-result-start c = let h = span-inside _ _ c.args.i c.fields_of.ensures _ c.span_of-span.ensures in omega (arith, h.order, h.inside)

pub slice_bounds-result-end : goal.slice_bounds-result-end
slice_bounds-result-end c = let h = span-inside _ _ c.args.i c.fields_of.ensures _ c.span_of-span.ensures in omega (arith, h.order, h.inside)

pub returns : goal.returns
unfolding field_on_of
returns c = rw (← c.fields_end.ensures, ← c.first-s.ensures, ← c.fields_of.ensures, ← c.span_of-span.ensures) refl
