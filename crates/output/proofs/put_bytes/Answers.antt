-- `output::put_bytes` meets its contract: what is put are the bytes so far. Assumes nothing.
use mathlib.Core.Path.{refl, sym, ◌∙◌}
use Prim.Native.Nat.{◌<◌}
use native.Mathlib.Numerals.{add-one}
use native.Mathlib.Omega.{arith}
use lib.ListN.{length}
use lib.Seq.{take-suc, take_all}
use Rattle.output.proofs.Writing.{none, same, ◌then◌}
use Rattle.output.proofs.put_bytes.Goals as goal

pub loop-b-init : goal.loop-b-init
loop-b-init c = (refl, none)

pub loop-b-preserved : goal.loop-b-preserved
loop-b-preserved c =
    let l = c.loop-b in
    let s = c.args.s.now in
    let h : l.b-index < length s = omega arith in
    (c.put_byte-to.auto.out ∙ l.invariant.0, same (sym (rw add-one (take-suc s l.b-index 0 h))) (l.invariant.1 then c.put_byte-to.ensures))

pub shape_of-out : goal.shape_of-out
shape_of-out c = c.loop-b.invariant.0

pub returns : goal.returns
returns c = same (take_all c.loop-b.b-index c.args.s.now (omega arith)) c.loop-b.invariant.1
