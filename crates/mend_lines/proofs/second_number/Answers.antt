-- `mend_lines::second_number` meets its contract. Assumes nothing.
use native.Mathlib.Omega.{arith}
use borrow.Author.Tests.{eq-eqb, ne_eqb}
use mathlib.Core.Path.{◌≡◌, refl, ◌∙◌}
use mathlib.Core.Bool.{Bool, true, false}
use Rattle.std.specs.Prelude.{Some, None}
use Rattle.std.specs.Bool.{then_some}
use Rattle.terms.specs.Words.{pick}
use Rattle.line.specs.Forms.{SpanWithin}
use Rattle.line.proofs.Spans.{fields_within}
use Rattle.mend_lines.specs.Forward.{second_number_of}
use Rattle.mend_lines.proofs.second_number.Goals as goal

pub returns-then-f-ne2 : goal.returns-then-f-ne2
unfolding second_number_of
returns-then-f-ne2 c = rw (← c.fields_of-f.ensures, ne_eqb _ 2 c.if-f-ne2.true)

pub slice_bounds-integer_of-count : goal.slice_bounds-integer_of-count
slice_bounds-integer_of-count c = let h : SpanWithin c.args.s.now c.fields_of-f.result.b = rw c.fields_of-f.ensures (fields_within c.args.s.now).second in omega (arith, h.order, h.inside)

pub slice_bounds-integer_of-start : goal.slice_bounds-integer_of-start
slice_bounds-integer_of-start c = let h : SpanWithin c.args.s.now c.fields_of-f.result.b = rw c.fields_of-f.ensures (fields_within c.args.s.now).second in omega (arith, h.order, h.inside)

pub slice_bounds-integer_of-end : goal.slice_bounds-integer_of-end
slice_bounds-integer_of-end c = let h : SpanWithin c.args.s.now c.fields_of-f.result.b = rw c.fields_of-f.ensures (fields_within c.args.s.now).second in omega (arith, h.order, h.inside)

pub returns-in_err-m : goal.returns-in_err-m
unfolding second_number_of
returns-in_err-m c = rw (c.from_residual.ensures, ← c.fields_of-f.ensures, eq-eqb _ 2 c.if-f-ne2.false, ← c.integer_of.ensures, c.in_err-m.was)

small-alone : {A : Type 0} (b : Bool) (x : A) → then_some b x ≡ pick b (Some x) None
small-alone true x = refl
small-alone false x = refl

pub returns : goal.returns
unfolding second_number_of
returns c = rw (← c.fields_of-f.ensures, eq-eqb _ 2 c.if-f-ne2.false, ← c.integer_of.ensures, c.in_ok-m.was) (c.then_some.ensures ∙ small-alone _ _)
