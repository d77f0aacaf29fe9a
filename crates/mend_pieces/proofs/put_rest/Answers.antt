-- `mend_pieces::put_rest` meets its contract. Assumes nothing.
use mathlib.Core.Path.{sym}
use Prim.Native.Nat.{◌-◌}
use native.Mathlib.Omega.{arith}
use lib.ListN.{length, drop, length-drop}
use lib.Seq.{take_all}
use Rattle.output.proofs.Writing.{same, none}
use Rattle.mend_pieces.proofs.Steps.{drop_past}
use Rattle.mend_pieces.proofs.put_rest.Goals as goal

pub returns-then-start-line : goal.returns-then-start-line
returns-then-start-line c = same (take_all (length c.args.line.now - c.args.start) (drop c.args.start c.args.line.now) (omega (arith, length-drop c.args.start c.args.line.now))) c.put_bytes.ensures

pub returns : goal.returns
returns c = same (sym (drop_past c.args.start c.args.line.now (omega (arith, c.if-start-line.false)))) none
