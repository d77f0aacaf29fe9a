-- `made_out::shape_of` meets its contract: past the last kind a list gives what it is asked to. Assumes nothing.
use mathlib.Core.Path.{sym}
use Rattle.std.proofs.lemmas.List.{get_or_past}
use Rattle.made_out.specs.Made.{shapes}
use Rattle.made_out.proofs.shape_of.Goals as goal

pub returns-else-kind-lt30 : goal.returns-else-kind-lt30
returns-else-kind-lt30 c = sym (get_or_past shapes c.args.kind 0 c.if-kind-lt30.false)
