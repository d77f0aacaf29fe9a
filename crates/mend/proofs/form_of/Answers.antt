-- `mend::form_of` meets its contract. Assumes nothing.
use mathlib.Core.Path.{refl, sym, ◌∙◌}
use Rattle.progress.specs.declared.Progress.{Progress}
use Rattle.mend_tests.specs.Tests.{few}
use Rattle.mend.proofs.Steps.{form-fault, form-over, form-short}
use Rattle.mend.proofs.form_of.Goals as goal

pub returns-in-Err : goal.returns-in-Err
returns-in-Err c =
    form-fault _ _ (λ (p : Progress). few p c.walk_mended-walked.new.segments c.walk_mended-walked.new.lanes c.walk_mended-walked.new.zones c.walk_mended-walked.new.checkpoints) c.walk_mended-walked.new.checkpoints (rw c.in-Err.is at (c.walk_mended-walked.ensures c.requires))

pub returns-then-is_over : goal.returns-then-is_over
returns-then-is_over c =
    form-over _ _ _ _ (λ (p : Progress). few p c.walk_mended-walked.new.segments c.walk_mended-walked.new.lanes c.walk_mended-walked.new.zones c.walk_mended-walked.new.checkpoints) c.walk_mended-walked.new.checkpoints (rw c.in-Ok.is at (c.walk_mended-walked.ensures c.requires)) (sym c.is_over.ensures ∙ c.if-is_over.true) refl refl

pub returns-else-is_over : goal.returns-else-is_over
returns-else-is_over c =
    form-short _ _ _ _ (λ (p : Progress). few p c.walk_mended-walked.new.segments c.walk_mended-walked.new.lanes c.walk_mended-walked.new.zones c.walk_mended-walked.new.checkpoints) c.walk_mended-walked.new.checkpoints (rw c.in-Ok.is at (c.walk_mended-walked.ensures c.requires)) (sym c.is_over.ensures ∙ c.if-is_over.false)
