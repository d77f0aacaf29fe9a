-- `shown::first` meets its contract. Assumes nothing.
use mathlib.Core.Path.{sym}
use native.Mathlib.Omega.{arith}
use lib.Seq.{length-take-le, take_all}
use Rattle.shown.proofs.first.Goals as goal

pub slice_bounds-result-end : goal.slice_bounds-result-end
slice_bounds-result-end c =
    let h = c.if-n-s.true in
    sym (length-take-le _ _ (omega arith))

pub returns-else-n-s : goal.returns-else-n-s
returns-else-n-s c =
    let h = c.if-n-s.false in
    sym (take_all c.args.n c.args.s.now (omega arith))
