-- `shown::put_blanks` meets its contract: what is put is of the bytes so far. Assumes nothing.
use mathlib.Core.Path.{refl, sym, ap, ◌∙◌}
use Prim.Native.Nat.{◌<◌}
use native.Mathlib.Numerals.{add-one}
use native.Mathlib.Omega.{arith}
use lib.ListN.{length, take}
use lib.Seq.{take-suc, take_all}
use Rattle.output.proofs.Writing.{none, same, ◌then◌}
use Rattle.shown.specs.Shown.{blanks}
use Rattle.shown.proofs.Laws.{blanks-none, blanks-last}
use Rattle.shown.proofs.put_blanks.Goals as goal

pub loop-b-init : goal.loop-b-init
loop-b-init c = (refl, same blanks-none none)

pub loop-b-preserved : goal.loop-b-preserved
loop-b-preserved c =
    let l = c.loop-b in
    let line = c.args.line.now in
    let h : l.b-index < length line = omega arith in (
      c.put_blank-to.auto.out ∙ l.invariant.0,
      same (blanks-last (take l.b-index line) _ ∙ ap blanks (sym (rw add-one (take-suc line l.b-index 0 h)))) (l.invariant.1 then c.put_blank-to.ensures),
    )

pub shape_of-out : goal.shape_of-out
shape_of-out c = c.loop-b.invariant.0

pub returns : goal.returns
returns c = same (ap blanks (take_all c.loop-b.b-index c.args.line.now (omega arith))) c.loop-b.invariant.1
