-- `number::pair_of` meets its contract: cut at the first dot. Assumes nothing.
use mathlib.Core.Path.{◌≡◌, sym, ap, ◌∙◌}
use Prim.Native.Nat.{◌+◌, ◌-◌}
use native.Mathlib.Omega.{arith}
use borrow.Author.Tests.{lt-ltb, le-ltb}
use lib.ListN.{length, drop, length-drop}
use lib.Seq.{take_all}
use Rattle.scan.specs.Reach.{stops_by}
use Rattle.scan.specs.declared.Until.TheVariants.{Byte}
use Rattle.scan.proofs.Reach.{from_start}
use Rattle.number.specs.Executable.{dot, the_integer_of, the_pair_of}
use Rattle.number.proofs.pair_of.Goals as goal

pub returns-then-s-dot : goal.returns-then-s-dot
unfolding the_pair_of
returns-then-s-dot c =
    let s = c.args.s.now in
    let q : c.byte_from-dot.result ≡ dot s = c.byte_from-dot.ensures ∙ from_start (stops_by (Byte 46)) s in
    rw (← q, le-ltb _ _ c.if-s-dot.true)

pub returns-in_err-m : goal.returns-in_err-m
unfolding the_pair_of
returns-in_err-m c =
    let s = c.args.s.now in
    let q : c.byte_from-dot.result ≡ dot s = c.byte_from-dot.ensures ∙ from_start (stops_by (Byte 46)) s in
    rw (c.from_residual.ensures, ← q, lt-ltb _ _ c.if-s-dot.false, ← c.integer_of.ensures, c.in_err-m.was)

pub returns-in_err-n : goal.returns-in_err-n
unfolding the_pair_of
returns-in_err-n c =
    let s = c.args.s.now in
    let q : c.byte_from-dot.result ≡ dot s = c.byte_from-dot.ensures ∙ from_start (stops_by (Byte 46)) s in
    let k = c.byte_from-dot.result + 1 in
    let t = take_all (length s - k) (drop k s) (omega (arith, length-drop k s)) in
    rw (c.from_residual-in_err-n.ensures, ← q, lt-ltb _ _ c.if-s-dot.false, ← c.integer_of.ensures, c.in_ok-m.was, ← t, ← c.integer_of-2.ensures, c.in_err-n.was)

pub returns : goal.returns
unfolding the_pair_of
returns c =
    let s = c.args.s.now in
    let q : c.byte_from-dot.result ≡ dot s = c.byte_from-dot.ensures ∙ from_start (stops_by (Byte 46)) s in
    let k = c.byte_from-dot.result + 1 in
    let t = take_all (length s - k) (drop k s) (omega (arith, length-drop k s)) in
    let n : the_integer_of (drop k s) ≡ _ = ap the_integer_of (sym t) ∙ sym c.integer_of-2.ensures ∙ c.in_ok-n.was in
    rw (← q, lt-ltb _ _ c.if-s-dot.false, ← c.integer_of.ensures, c.in_ok-m.was, n)
