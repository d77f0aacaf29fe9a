-- `mission_progress::MissionProgress::after` meets its contract. Assumes nothing.
use mathlib.Core.Path.{◌≡◌, sym, ◌∙◌}
use mathlib.Core.Bool.{true, false}
use lib.Dec.{leb}
use borrow.Author.Tests.{leb-false}
use Rattle.mission_progress.specs.Progress.{total, mission_after_within}
use Rattle.mission_progress.proofs.MissionProgress.after.Goals as goal

pub onward-requires : goal.onward-requires
onward-requires c = leb-false 4294967295 (total c.args.self) (sym c.is_full.ensures ∙ c.if-is_full.false)

pub returns-then-is_full : goal.returns-then-is_full
unfolding mission_after_within
returns-then-is_full c =
    let e : leb 4294967295 (total c.args.self) ≡ true = sym c.is_full.ensures ∙ c.if-is_full.true in
    rw e

pub returns-else-is_full : goal.returns-else-is_full
unfolding mission_after_within
returns-else-is_full c =
    let e : leb 4294967295 (total c.args.self) ≡ false = sym c.is_full.ensures ∙ c.if-is_full.false in
    rw e c.onward.ensures
