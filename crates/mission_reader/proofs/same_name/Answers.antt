-- `mission_reader::same_name` meets its contract. Assumes nothing.
use Rattle.scan.specs.Reach.{same_bytes_of}
use Rattle.mission_reader.specs.MissionReading.{same_name}
use mathlib.Core.Path.{ap₂, ◌∙◌}
use Rattle.mission_reader.proofs.same_name.Goals as goal

pub returns : goal.returns
unfolding same_name
returns c = c.same.ensures ∙ ap₂ same_bytes_of c.name_of.ensures c.name_of-2.ensures
