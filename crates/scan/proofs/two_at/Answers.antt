-- `scan::two_at` meets its contract. Assumes nothing.
use mathlib.Core.Path.{sym, ◌∙◌}
use borrow.Author.Tests.{ltb-true}
use native.Mathlib.Omega.{arith}
use Rattle.scan.proofs.Passing.{two_within, two_at_end}
use Rattle.scan.proofs.two_at.Goals.{then-i-s, else-i-s}
use Rattle.scan.proofs.two_at.Goals as goal

pub returns-then-s-i : goal.returns-then-s-i
returns-then-s-i c =
    let a = c.args in
    elim c.if-i-s.branch [
      | then-i-s w ↦
          let e = sym w.value-is ∙ c.if-s-i.true in
          rw e at (two_within a.a a.b a.s.now a.i w.if-i-s.true)
      | else-i-s w ↦ absurd (let h = ltb-true _ _ (sym w.value-is ∙ c.if-s-i.true) in omega (arith, w.if-i-s.false))
    ]

pub returns-else-s-i : goal.returns-else-s-i
returns-else-s-i c =
    let a = c.args in
    elim c.if-i-s.branch [
      | then-i-s w ↦
          let e = sym w.value-is ∙ c.if-s-i.false in
          c.if-s-i.false ∙ rw e at (two_within a.a a.b a.s.now a.i w.if-i-s.true)
      | else-i-s w ↦ c.if-s-i.false ∙ two_at_end a.a a.b a.s.now a.i c.requires w.if-i-s.false
    ]
