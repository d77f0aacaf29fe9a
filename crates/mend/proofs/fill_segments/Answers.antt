-- `mend::fill_segments` meets its contract. Assumes nothing.
use mathlib.Core.Path.{refl, ◌∙◌}
use Rattle.progress.specs.declared.Progress.{Progress}
use Rattle.network.specs.Storing.{Memory}
use Rattle.mend_tests.specs.Tests.{few}
use Rattle.mend.proofs.Steps.{table-so}
use Rattle.mend.proofs.fill_segments.Goals as goal

pub returns : goal.returns
returns c =
    λ size p m i e. table-so c.walk_mended.result (λ (p : Progress). few p c.walk_mended.new.segments c.walk_mended.new.lanes c.walk_mended.new.zones c.walk_mended.new.checkpoints) (λ (x : Memory). x.segments) c.walk_mended.new.segments (λ g. refl) p m i (c.walk_mended.ensures size ∙ e)
