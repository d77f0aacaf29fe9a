-- `permitted::checkpoint_number` meets its contract. Assumes nothing.
use mathlib.Core.Path.{ap, ◌∙◌}
use Rattle.std.specs.Option.{is_some}
use Rattle.permitted.proofs.Taken.{number-taken}
use Rattle.permitted.proofs.checkpoint_number.Goals as goal

pub returns : goal.returns
returns c = c.is_some.ensures ∙ ap is_some c.new.ensures ∙ number-taken _
