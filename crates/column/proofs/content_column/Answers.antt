-- `column::content_column` meets its contract. Assumes nothing.
use mathlib.Core.Path.{◌≡◌, sym, ◌∙◌}
use Prim.Native.Nat.{suc, ◌+◌}
use native.Mathlib.Omega.{arith}
use lib.Seq.{length-take-le}
use borrow.Author.Tests.{eq-eqb, ne_eqb}
use Rattle.scan.proofs.Reach.{up_to_le, from_start}
use Rattle.line.specs.Forms.{opens}
use Rattle.columns.specs.Locating.{content_column_of}
use Rattle.columns.proofs.Bounds.{bad_le}
use Rattle.column.proofs.content_column.Goals as goal

pub returns-then-number-eq2 : goal.returns-then-number-eq2
unfolding content_column_of
returns-then-number-eq2 c = rw (eq-eqb _ 2 c.if-number-eq2.true)

pub overflow_add-result : goal.overflow_add-result
overflow_add-result c =
    let s = c.args.s.now in
    omega (arith, c.two_from-mark.ensures ∙ from_start opens s, up_to_le opens s)

pub returns-then-number-eq3 : goal.returns-then-number-eq3
unfolding content_column_of
returns-then-number-eq3 c =
    let s = c.args.s.now in
    let m = c.two_from-mark.ensures ∙ from_start opens s in
    let e : suc c.two_from-mark.result ≡ c.two_from-mark.result + 1 = omega arith in
    rw (ne_eqb _ 2 c.if-number-eq2.false, eq-eqb _ 3 c.if-number-eq3.true, ← m) (sym e)

pub overflow_add-result-then-number-eq4 : goal.overflow_add-result-then-number-eq4
overflow_add-result-then-number-eq4 c =
    let s = c.args.s.now in
    omega (arith, c.bad_at-bad.ensures, bad_le s)

pub returns-then-number-eq4 : goal.returns-then-number-eq4
unfolding content_column_of
returns-then-number-eq4 c =
    let e : suc c.bad_at-bad.result ≡ c.bad_at-bad.result + 1 = omega arith in
    rw (ne_eqb _ 2 c.if-number-eq2.false, ne_eqb _ 3 c.if-number-eq3.false, eq-eqb _ 4 c.if-number-eq4.true, ← c.bad_at-bad.ensures) (sym e)

pub slice_bounds-fields_column-end : goal.slice_bounds-fields_column-end
slice_bounds-fields_column-end c =
    let s = c.args.s.now in
    let m = c.two_from-mark.ensures ∙ from_start opens s in
    sym (length-take-le c.two_from-mark.result s (rw m (up_to_le opens s)))

pub returns : goal.returns
unfolding content_column_of
returns c =
    let s = c.args.s.now in
    let m = c.two_from-mark.ensures ∙ from_start opens s in
    rw (ne_eqb _ 2 c.if-number-eq2.false, ne_eqb _ 3 c.if-number-eq3.false, ne_eqb _ 4 c.if-number-eq4.false, ← m) c.fields_column.ensures
