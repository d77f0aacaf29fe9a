-- `features::put_map` meets its contract. Assumes nothing.
use mathlib.Core.Path.{sym, ap, ◌∙◌}
use Rattle.terms.specs.Ascii.{ascii}
use Rattle.output.specs.Pen.{pen, put}
use Rattle.output.proofs.Writing.{◌then◌}
use Rattle.features.specs.Drawn.{walk, all_walk, drawn}
use Rattle.features.proofs.put_map.Goals as goal

pub returns : goal.returns
unfolding ascii drawn
returns c =
    let a = c.args in
    let w = c.put_bytes-a.ensures then c.put_lanes-b.ensures then c.put_perimeters-c.ensures in
    sym (ap (λ p. put p (ascii "]}")) (ap (λ p. (all_walk a.segments.now a.lanes.now a.zones.now a.spots.now a.points.now a.checkpoints.now a.counts (walk p 0)).pen) w.is ∙ sym c.put_checkpoints-d.ensures) ∙ c.put_bytes.ensures.is)
