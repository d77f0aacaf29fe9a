-- `mend_pieces::put_front` meets its contract. Assumes nothing.
use mathlib.Core.Path.{sym}
use native.Mathlib.Omega.{arith}
use lib.Seq.{length-take-le, take_all}
use Rattle.output.proofs.Writing.{same}
use Rattle.mend_pieces.proofs.put_front.Goals as goal

pub slice_bounds-put_bytes-end : goal.slice_bounds-put_bytes-end
slice_bounds-put_bytes-end c = sym (length-take-le _ _ c.if-end-line.true)

pub returns : goal.returns
returns c = same (sym (take_all c.args.end c.args.line.now (omega (arith, c.if-end-line.false)))) c.put_bytes-2.ensures
