-- `permitted::segment_id` meets its contract. Assumes nothing.
use mathlib.Core.Path.{ap, ◌∙◌}
use Rattle.std.specs.Option.{is_some}
use Rattle.permitted.proofs.Taken.{identifier-taken}
use Rattle.permitted.proofs.segment_id.Goals as goal

pub returns : goal.returns
returns c = c.is_some.ensures ∙ ap is_some c.new.ensures ∙ identifier-taken _
