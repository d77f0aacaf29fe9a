-- `mend::are_entries_declared` meets its contract. Assumes nothing.
use mathlib.Core.Path.{sym, ap, ◌∙◌}
use mathlib.Core.List.{List}
use Prim.Native.Nat.{ℕ, ◌-◌}
use native.Mathlib.Omega.{arith}
use lib.ListN.{length, take, drop, length-drop}
use Rattle.line.specs.Lines.{lines_of}
use Rattle.references.specs.Finding.{look_in}
use Rattle.mend_lines.specs.Forward.{none_before_of}
use Rattle.mend_passes.specs.Passes.{are_exits_right_of}
use lib.Seq.{length-take-le, take_all}
use Rattle.mend.proofs.are_entries_declared.Goals as goal

pub slice_bounds-are_exits_right-end : goal.slice_bounds-are_exits_right-end
slice_bounds-are_exits_right-end c = sym (length-take-le c.args.a c.args.tables.now (omega (arith, c.requires.a_le_b, c.requires.b_in_bounds)))

pub returns : goal.returns
returns c =
    let A = c.args in
    let t = A.tables.now in
    c.are_exits_right.ensures ∙ ap (λ (z : List ℕ). are_exits_right_of (look_in (take A.a t) (take (A.b - A.a) (drop A.a t)) z) A.segment_count none_before_of (lines_of A.text.now)) (take_all (length t - A.b) (drop A.b t) (omega (arith, length-drop A.b t)))
