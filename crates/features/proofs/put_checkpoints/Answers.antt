-- `features::put_checkpoints` meets its contract. Assumes nothing.
use mathlib.Core.Path.{ap, ◌∙◌}
use Rattle.output.specs.Pen.{pen}
use Rattle.features.specs.Drawn.{steps, Walk, zone_walk, all_walk}
use Rattle.features.proofs.put_checkpoints.Goals as goal

pub returns : goal.returns
unfolding all_walk
returns c =
    let a = c.args in
    ap (λ (w : Walk). w.pen) (c.walk_zones-done.ensures ∙ ap (steps (zone_walk a.zones.now a.spots.now a.points.now a.checkpoints.now a.counts.checkpoints a.counts.segments) 0 a.counts.zones) c.walk_segments-walked.ensures)
