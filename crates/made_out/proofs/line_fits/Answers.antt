-- `made_out::line_fits` meets its contract. Assumes nothing.
use mathlib.Core.Path.{sym, ◌∙◌}
use Prim.Native.Nat.{◌+◌}
use native.Mathlib.Omega.{arith}
use borrow.Author.Tests.{le-ltb}
use Rattle.made_out.proofs.Whole.{fits-same}
use Rattle.made_out.proofs.line_fits.Goals as goal

pub returns-then-length-lt4294967296 : goal.returns-then-length-lt4294967296
returns-then-length-lt4294967296 c =
    let a = c.args in
    fits-same a.base a.length c.if-length-lt4294967296.true

pub returns-else-length-lt4294967296 : goal.returns-else-length-lt4294967296
returns-else-length-lt4294967296 c =
    let a = c.args in
    le-ltb a.length 4294967296 c.if-length-lt4294967296.false ∙ sym (le-ltb (a.base + a.length) 4294967296 (omega (arith, c.if-length-lt4294967296.false)))
