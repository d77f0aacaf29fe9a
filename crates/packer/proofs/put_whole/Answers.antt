-- `packer::put_whole` meets its contract. Assumes nothing.
use mathlib.Core.Path.{sym}
use lib.ListN.{length}
use Rattle.output.specs.Pen.{put}
use Rattle.records.specs.Put.{form_put}
use Rattle.packer.proofs.Steps.{whole-so}
use Rattle.packer.proofs.put_whole.Goals as goal

pub returns : goal.returns
returns c =
    let a = c.args in
    whole-so (λ p. put p (form_put a.text.now a.segments.now a.lanes.now a.zones.now a.spots.now a.points.now a.checkpoints.now a.stops.now a.exits.now a.counts a.file)) (length a.out.now) c.clear_output.ensures (sym c.put_form-at.ensures.is) c.finish.ensures
