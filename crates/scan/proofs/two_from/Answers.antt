-- `scan::two_from` meets its contract: the scan from i reaches where the scan from `from` does. Assumes nothing.
use mathlib.Core.Path.{◌∙◌, sym}
use native.Mathlib.Omega.{arith}
use Rattle.std.proofs.Common.{rules}
use lib.ListN.{drop}
use Rattle.scan.specs.Reach.{stops_by, other}
use Rattle.scan.specs.declared.Until.TheVariants.{Two}
use Rattle.scan.proofs.Reach.{reach-stop, reach-go, two_here}
use Rattle.scan.proofs.Eights.{two_none}
use Rattle.scan.proofs.Passing.{came_to_end}
use Rattle.scan.proofs.two_from.Goals as goal

pub returns-then-two_at : goal.returns-then-two_at
returns-then-two_at c =
    let a = c.args in
    let t = stops_by (Two a.x a.y) in
    let e = c.eights_passed-near.ensures (other a.x) (λ b h r p. search rules) t (two_none a.x a.y) in
    sym (reach-stop t a.s.now c.loop-i.i (two_here a.x a.y (drop c.loop-i.i a.s.now) ∙ sym c.two_at.ensures ∙ c.if-two_at.true)) ∙ c.loop-i.invariant ∙ e

pub loop-i-preserved : goal.loop-i-preserved
loop-i-preserved c =
    let a = c.args in
    reach-go (stops_by (Two a.x a.y)) a.s.now c.loop-i.i (omega arith) (two_here a.x a.y (drop c.loop-i.i a.s.now) ∙ sym c.two_at.ensures ∙ c.if-two_at.false) ∙ c.loop-i.invariant

pub returns : goal.returns
returns c =
    let a = c.args in
    let t = stops_by (Two a.x a.y) in
    let e = c.eights_passed-near.ensures (other a.x) (λ b h r p. search rules) t (two_none a.x a.y) in
    c.max.ensures ∙ came_to_end t a.s.now c.eights_passed-near.result c.loop-i.i c.loop-i-test.false c.loop-i.auto.i-end c.loop-i.invariant ∙ e
