-- `find_line::first_kind` meets its contract. Assumes nothing.
use Prim.Native.Nat.{◌≤◌}
use native.Mathlib.Omega.{arith}
use lib.ListN.{length}
use Rattle.scan.specs.Reach.{stops_by}
use Rattle.scan.specs.declared.Until.TheVariants.{Separator, NotSeparator}
use Rattle.scan.proofs.Reach.{reach_le}
use Rattle.line.specs.Forms.{span_at_of}
use Rattle.find_line.specs.FoundLines.{first_of}
use Rattle.find_line.proofs.first_kind.Goals as goal

pub slice_bounds-kind_of-end : goal.slice_bounds-kind_of-end
slice_bounds-kind_of-end c =
    let s = c.args.s.now in
    let h : c.not_separator_from-a.result ≤ length s = rw c.not_separator_from-a.ensures (reach_le (stops_by NotSeparator) s 0 (omega arith)) in
    omega (arith, c.separator_from-e.ensures, reach_le (stops_by Separator) s c.not_separator_from-a.result h)

pub returns : goal.returns
unfolding first_of span_at_of
returns c = rw (← c.not_separator_from-a.ensures, ← c.separator_from-e.ensures) c.kind_of.ensures
