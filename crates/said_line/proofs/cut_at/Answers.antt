-- `said_line::cut_at` meets its contract. Assumes nothing.
use mathlib.Core.Path.{sym}
use Prim.Native.Nat.{◌-◌, ◌≤◌}
use native.Mathlib.Omega.{arith}
use lib.Seq.{length-take-le}
use lib.ListN.{length, drop, length-drop}
use Rattle.scan.specs.Reach.{stops_by}
use Rattle.scan.specs.declared.Until.TheVariants.{Byte}
use Rattle.scan.proofs.Reach.{reach_le, reach-from}
use Rattle.said_line.proofs.cut_at.Goals as goal

pub slice_bounds-line_cut-end : goal.slice_bounds-line_cut-end
slice_bounds-line_cut-end c =
    let s = c.args.text.now in
    omega (arith, c.far_byte_from-e.ensures, reach_le (stops_by (Byte 10)) s c.args.from (omega (arith, c.requires.0)))

pub line_cut-requires : goal.line_cut-requires
line_cut-requires c =
    let s = c.args.text.now in
    let from = c.args.from in
    let e = c.far_byte_from-e.result in
    let inside : e ≤ length s = omega (arith, c.far_byte_from-e.ensures, reach_le (stops_by (Byte 10)) s from (omega (arith, c.requires.0))) in
    let behind : from ≤ e = omega (arith, c.far_byte_from-e.ensures, reach-from (stops_by (Byte 10)) s from) in
    omega (arith, c.requires.1, length-take-le (e - from) (drop from s) (omega (arith, length-drop from s)))

pub returns-in-Blank : goal.returns-in-Blank
returns-in-Blank c =
    (c.far_byte_from-e.ensures, sym (rw c.in-Blank.is at c.line_cut.ensures).0)

pub returns-in-Said : goal.returns-in-Said
returns-in-Said c =
    let says = rw c.in-Said.is at c.line_cut.ensures in
    (c.far_byte_from-e.ensures, sym says.0, says.1)

pub returns-in-Bad : goal.returns-in-Bad
returns-in-Bad c =
    let A = c.args in
    rw (← c.far_byte_from-e.ensures) (sym (rw c.in-Bad.is at c.line_cut.ensures).0)
