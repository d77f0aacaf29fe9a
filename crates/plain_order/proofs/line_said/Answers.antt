-- `plain_order::line_said` meets its contract. Assumes nothing.
use mathlib.Core.Path.{sym}
use native.Mathlib.Omega.{arith}
use Rattle.plain_order.proofs.Lines.{stood-says}
use Rattle.plain_order.proofs.line_said.Goals as goal

pub returns-then-text-from : goal.returns-then-text-from
returns-then-text-from c = λ h few. absurd (omega (arith, h, c.if-text-from.true))

pub returns-in-Some : goal.returns-in-Some
returns-in-Some c =
    let A = c.args in
    let h = rw c.in-Some.is at c.plain_order.ensures in
    λ inside few. rw c.stood.ensures (stood-says A.table.now A.text.now A.from c.number_kind-kind.result A.p c.in-Some.s c.in-Some.e h (sym c.number_kind-kind.ensures) c.stand.result c.stand.ensures)

pub returns-in-None : goal.returns-in-None
returns-in-None c = λ inside few. c.cut_at.ensures few
