-- `features::put_checkpoint` meets its contract. Assumes nothing.
use mathlib.Core.Path.{ap, ◌∙◌}
use Rattle.terms.specs.Ascii.{ascii}
use Rattle.number.specs.House.{house_triple}
use Rattle.output.proofs.Writing.{same, ◌then◌}
use Rattle.features.specs.Drawn.{behind_one_of, checkpoint}
use Rattle.features.proofs.put_checkpoint.Goals as goal

pub returns : goal.returns
unfolding ascii checkpoint
returns c = c.put_bytes-a.ensures then c.put_position-b.ensures then c.put_bytes-c.ensures then same (ap (house_triple c.args.m c.args.n) (c.behind_one.ensures ∙ ap (behind_one_of 0) c.points_before.ensures)) c.put_triple-d.ensures then c.put_bytes-e.ensures then c.put_integer-f.ensures then c.put_bytes.ensures
