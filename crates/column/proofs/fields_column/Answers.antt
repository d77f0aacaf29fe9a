-- `column::fields_column` meets its contract. Assumes nothing.
use mathlib.Core.Path.{◌≡◌, sym}
use Prim.Native.Nat.{suc, ◌+◌, ◌≤◌}
use native.Mathlib.Omega.{arith}
use lib.ListN.{length}
use borrow.Author.Tests.{eq-eqb, ne_eqb}
use Rattle.columns.specs.Locating.{span_start, fields_column_of}
use Rattle.columns.proofs.Bounds.{start_le}
use Rattle.column.proofs.fields_column.Goals as goal

pub returns-then-f-eq0 : goal.returns-then-f-eq0
unfolding fields_column_of
returns-then-f-eq0 c = rw (← c.fields_of-f.ensures, eq-eqb _ 0 c.if-f-eq0.true)

pub field_of-i-requires : goal.field_of-i-requires
field_of-i-requires c = c.fields_of-f.ensures

pub overflow_add-result : goal.overflow_add-result
overflow_add-result c = let s = c.args.s.now in let h : span_start c.fields_of-f.result c.field_of-i.result ≤ length s = rw c.fields_of-f.ensures (start_le s c.field_of-i.result) in omega (arith, c.start_of-start.ensures, h)

pub returns : goal.returns
unfolding fields_column_of
returns c = let e : suc c.start_of-start.result ≡ c.start_of-start.result + 1 = omega arith in rw (← c.fields_of-f.ensures, ne_eqb _ 0 c.if-f-eq0.false, ← c.field_of-i.ensures, ← c.start_of-start.ensures) (sym e)
