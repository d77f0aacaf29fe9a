-- `scan::all_pass` meets its contract: the bytes before the one that is tested pass. Assumes nothing.
use mathlib.Core.Path.{refl}
use Rattle.scan.specs.Allowed.{all}
use Rattle.scan.proofs.Passing.{all_more}
use Rattle.scan.proofs.all_pass.Goals as goal

pub loop-b-init : goal.loop-b-init
unfolding all
loop-b-init g c t a = refl

pub loop-b-preserved : goal.loop-b-preserved
loop-b-preserved g c t a =
    let s = c.args.bytes.now in
    let n = c.loop-b.b-index in
    let e = a _ (c.type_inv.bytes n).fits _ c.test-pass.ensures in
    rw (c.loop-b.invariant t a, e) (all_more t s n c.loop-b-test.true)
