-- `features::walk_part` meets its contract. Assumes nothing.
use mathlib.Core.Path.{sym, ap, ◌∙◌}
use Prim.Native.Nat.{ℕ}
use Rattle.output.specs.Pen.{Pen, pen}
use Rattle.features.specs.Drawn.{walk, walk_to, part_walk}
use Rattle.features.proofs.walk_part.Goals as goal

pub returns : goal.returns
unfolding part_walk walk_to
returns c =
    let a = c.args in
    ap (λ (p : Pen). walk p c.part_end-end.result) (sym c.put_part-at.ensures.is) ∙ ap (λ (e : ℕ). walk_to a.points.now a.checkpoints.now a.m a.n a.first e (walk (pen a.out.now a.from.at) a.from.next)) c.part_end-end.ensures
