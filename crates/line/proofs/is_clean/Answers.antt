-- `line::is_clean` meets its contract. Assumes nothing.
use mathlib.Core.Path.{sym, ap, ◌∙◌}
use mathlib.Core.Bool.{◌&&◌}
use Prim.Native.Nat.{ℕ, ◌-◌}
use native.Mathlib.Omega.{arith}
use lib.ListN.{length, take, drop, length-drop}
use lib.Seq.{take_all}
use Rattle.scan.specs.Allowed.{outside, inside, all}
use Rattle.scan.specs.Reach.{up_to, fails, plain}
use Rattle.scan.proofs.Reach.{up_to_le}
use Rattle.line.specs.Forms.{opens, note_of}
use Rattle.line.proofs.Comments.{note-at}
use Rattle.line.proofs.Plain.{stop-first, outer-from}
use Rattle.line.proofs.is_clean.Goals as goal

pub slice_bounds-outside_bytes-count : goal.slice_bounds-outside_bytes-count
slice_bounds-outside_bytes-count c = omega (arith, c.requires.0, c.requires.1, stop-first c.args.s.now)

pub slice_bounds-outside_bytes-start : goal.slice_bounds-outside_bytes-start
slice_bounds-outside_bytes-start c = omega (arith, c.requires.0, c.requires.1, stop-first c.args.s.now)

pub slice_bounds-outside_bytes-end : goal.slice_bounds-outside_bytes-end
slice_bounds-outside_bytes-end c = omega (arith, c.requires.1, up_to_le opens c.args.s.now)

pub slice_bounds-inside_bytes-count : goal.slice_bounds-inside_bytes-count
slice_bounds-inside_bytes-count c =
    omega (arith, c.requires.1, up_to_le opens c.args.s.now)

pub slice_bounds-inside_bytes-start : goal.slice_bounds-inside_bytes-start
slice_bounds-inside_bytes-start c =
    omega (arith, c.requires.1, up_to_le opens c.args.s.now)

pub returns-then-outside_bytes : goal.returns-then-outside_bytes
returns-then-outside_bytes c =
    let s = c.args.s.now in
    let k = c.args.mark in
    let n = c.inside_bytes.ensures ∙ ap (all inside) (take_all (length s - k) (drop k s) (omega (arith, length-drop k s)) ∙ ap (λ (k : ℕ). drop k s) c.requires.1 ∙ sym (note-at s)) in
    let o = ap (λ (i : ℕ). all outside (take (k - i) (drop i s))) c.requires.0 ∙ ap (λ (m : ℕ). all outside (take (m - up_to (fails plain) s) (drop (up_to (fails plain) s) s))) c.requires.1 ∙ outer-from s in
    let b = sym c.if-outside_bytes.true ∙ c.outside_bytes.ensures ∙ o in
    n ∙ ap (λ x. x && all inside (note_of s)) b

pub returns-else-outside_bytes : goal.returns-else-outside_bytes
returns-else-outside_bytes c =
    let s = c.args.s.now in
    let k = c.args.mark in
    let o = ap (λ (i : ℕ). all outside (take (k - i) (drop i s))) c.requires.0 ∙ ap (λ (m : ℕ). all outside (take (m - up_to (fails plain) s) (drop (up_to (fails plain) s) s))) c.requires.1 ∙ outer-from s in
    let b = sym c.if-outside_bytes.false ∙ c.outside_bytes.ensures ∙ o in
    c.if-outside_bytes.false ∙ ap (λ x. x && all inside (note_of s)) b
