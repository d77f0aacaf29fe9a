-- `plain_line::end_of` meets its contract. Assumes nothing.
use Rattle.std.specs.Prelude.{Some, None, Option}
use mathlib.Core.Path.{sym, subst}
use Prim.Native.Nat.{ℕ}
use Rattle.terms.specs.Ascii.{Bytes}
use Rattle.plain_parts.specs.Stands.{LineEnds}
use Rattle.plain_parts.proofs.Ended.{line-ends-here}
use Rattle.plain_line.specs.Plain.{EndsShort, FewBytes, ShortEnd}
use Rattle.plain_line.proofs.end_of.Goals as goal

short : (s : Bytes) (from stop end : ℕ) (r : Option ℕ) → LineEnds s stop end → FewBytes from end r → ShortEnd s from stop r
short s from stop end (Some e) h k = subst (EndsShort s from stop) (sym k.0) (record { ends = h; order = k.1; short = k.2 })
short s from stop end None h k = tt

pub returns-then-text-stop-eq10 : goal.returns-then-text-stop-eq10
returns-then-text-stop-eq10 c =
    let a = c.args in
    short a.text.now a.from a.stop a.stop c.short_end.result (line-ends-here a.text.now a.stop c.if-stop-text.true c.if-text-stop-eq10.true) c.short_end.ensures

pub returns : goal.returns
returns c =
    let a = c.args in
    short a.text.now a.from a.stop c.in_ok-end.end c.short_end-2.result c.in_ok-end.ensures c.short_end-2.ensures
