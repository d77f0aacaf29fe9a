-- `mend::are_entries_right` meets its contract. Assumes nothing.
use mathlib.Core.Path.{sym}
use Prim.Native.Nat.{◌*◌}
use native.Mathlib.Omega.{arith}
use lib.ListN.{length}
use lib.Seq.{length-take-le}
use Rattle.edition.specs.Editions.{inner}
use Rattle.mend.proofs.Parts.{entries-short, entries-told}
use Rattle.mend.proofs.are_entries_right.Goals as goal

pub returns-then-list-b : goal.returns-then-list-b
returns-then-list-b c =
    let A = c.args in
    entries-short (inner A.edition) A.text.now (length A.list.now) A.gained c.if-list-b.true

pub slice_bounds-fill_segments-end-2 : goal.slice_bounds-fill_segments-end-2
slice_bounds-fill_segments-end-2 c = sym (length-take-le (c.args.gained.segments * 4) c.clear.new.t (omega (arith, c.if-list-b.false, c.clear.auto.t)))

pub returns : goal.returns
returns c =
    let A = c.args in
    let size = c.requires in
    entries-told (inner A.edition) A.text.now (length A.list.now) A.gained c.clear.new.t c.fill_segments.new.segments c.fill_lanes.new.lanes c.fill_zones.new.zones c.if-list-b.false c.clear.ensures _ (c.fill_segments.ensures size) c.fill_segments.auto.segments (c.fill_lanes.ensures size) c.fill_lanes.auto.lanes (c.fill_zones.ensures size) c.are_entries_declared.ensures
