-- `column::place_before` meets its contract. Assumes nothing.
use mathlib.Core.Path.{sym, ◌∙◌}
use mathlib.Core.Logic.{inl, inr}
use native.Mathlib.Omega.{arith}
use lib.Seq.{length-take-le}
use Rattle.refusal.proofs.Sized.{too_long}
use Rattle.column.specs.Before.{place_before_of}
use Rattle.column.proofs.Places.{before-so}
use Rattle.column.proofs.place_before.Goals as goal
use Rattle.column.proofs.place_before.Goals.{then-from-text, else-from-text}

pub returns-then-text-gt-LONGEST_TEXT : goal.returns-then-text-gt-LONGEST_TEXT
unfolding place_before_of
returns-then-text-gt-LONGEST_TEXT c = sym (too_long c.args.text.now _ _ c.if-text-gt-LONGEST_TEXT.true)

pub slice_bounds-place_behind-end : goal.slice_bounds-place_behind-end
slice_bounds-place_behind-end c =
    sym (length-take-le c.if-from-text.stop c.args.text.now (elim c.if-from-text.branch [ then-from-text w ↦ omega (arith, w.if-from-text.true, w.stop-is) | else-from-text w ↦ omega (arith, w.stop-is) ]))

pub returns : goal.returns
returns c =
    let A = c.args in
    let e = c.place_behind.ensures in
    e ∙ before-so A.text.now A.wanted c.start_of_line-from.result c.if-from-text.stop c.if-text-gt-LONGEST_TEXT.false c.start_of_line-from.ensures (elim c.if-from-text.branch [ then-from-text w ↦ inl w.stop-is | else-from-text w ↦ inr (w.if-from-text.false, w.stop-is) ])
