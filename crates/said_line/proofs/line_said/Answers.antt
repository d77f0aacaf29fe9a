-- `said_line::line_said` meets its contract. Assumes nothing.
use native.Mathlib.Omega.{arith}
use Rattle.judge.specs.Judging.{blank}
use Rattle.judge.specs.RndfLine.{judging}
use Rattle.plain_line.specs.Plain.{stated, LineGets}
use Rattle.said_line.proofs.line_said.Goals as goal

pub returns-then-text-from : goal.returns-then-text-from
returns-then-text-from c = λ h k. absurd (omega (arith, h, c.if-text-from.true))

pub returns-then-text-gt4294967295 : goal.returns-then-text-gt4294967295
returns-then-text-gt4294967295 c = λ h k. absurd (omega (arith, k, c.if-text-gt4294967295.true))

pub returns-in-Said : goal.returns-in-Said
returns-in-Said c =
    let A = c.args in
    let here = rw c.in-Said.is at c.plain_line.ensures in
    let gets : LineGets A.text.now A.from c.in-Said.e (λ table p. stated (judging table) c.in-Said.kind c.in-Said.s p) = here.0 in
    λ h few. (gets.ends, gets.gets A.table.now A.p, here.1)

pub returns-in-Blank : goal.returns-in-Blank
returns-in-Blank c =
    let A = c.args in
    let gets : LineGets A.text.now A.from c.in-Blank.e (λ table p. blank) = rw c.in-Blank.is at c.plain_line.ensures in
    λ h few. (gets.ends, gets.gets A.table.now A.p)

pub returns-in-No : goal.returns-in-No
returns-in-No c = λ h few. c.cut_at.ensures
