-- `references::number_end` meets its contract: the scan from i reaches where the scan from `from` does. Assumes nothing.
use mathlib.Core.Path.{◌≡◌, refl, ◌∙◌, sym, ap}
use mathlib.Core.Bool.{not}
use native.Mathlib.Omega.{arith}
use Rattle.scan.specs.Reach.{fails}
use Rattle.scan.proofs.Reach.{reach-stop, reach-go, reach-end, not-passing}
use Rattle.number.specs.House.{number_byte}
use Rattle.references.proofs.number_end.Goals as goal

pub loop-i-preserved : goal.loop-i-preserved
loop-i-preserved c =
    let a = c.args in
    (reach-go (fails number_byte) a.s.now c.loop-i.i (omega arith) (not-passing (fails number_byte) number_byte (λ l. refl) a.s.now c.loop-i.i (omega arith) ∙ ap not (sym c.is_number_byte.ensures ∙ c.if-not-is_number_byte.false)) ∙ c.loop-i.invariant.0, omega arith)

pub returns-then-not-is_number_byte : goal.returns-then-not-is_number_byte
returns-then-not-is_number_byte c =
    let a = c.args in
    sym (reach-stop (fails number_byte) a.s.now c.loop-i.i (not-passing (fails number_byte) number_byte (λ l. refl) a.s.now c.loop-i.i (omega arith) ∙ ap not (sym c.is_number_byte.ensures ∙ c.if-not-is_number_byte.true))) ∙ c.loop-i.invariant.0

pub returns : goal.returns
returns c =
    let a = c.args in
    let end : c.max.result ≡ c.loop-i.i = omega (arith, c.max.ensures, c.loop-i.invariant.1, c.loop-i.auto.i) in
    end ∙ sym (reach-end (fails number_byte) a.s.now c.loop-i.i (omega arith)) ∙ c.loop-i.invariant.0
