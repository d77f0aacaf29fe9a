-- `permitted::lane_width` meets its contract. Assumes nothing.
use mathlib.Core.Path.{ap, ◌∙◌}
use Rattle.std.specs.Option.{is_some}
use Rattle.permitted.proofs.Taken.{width-taken}
use Rattle.permitted.proofs.lane_width.Goals as goal

pub returns : goal.returns
returns c = c.is_some.ensures ∙ ap is_some c.new.ensures ∙ width-taken _
