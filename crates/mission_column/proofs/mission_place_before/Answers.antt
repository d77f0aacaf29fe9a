-- `mission_column::mission_place_before` meets its contract. Assumes nothing.
use mathlib.Core.Path.{sym, ap, ◌∙◌}
use Rattle.refusal.proofs.Sized.{too_long, not_too-long}
use Rattle.mission_column.specs.Before.{standing, mission_place_before_of}
use Rattle.mission_column.proofs.mission_place_before.Goals as goal

pub returns-then-text-gt-LONGEST_TEXT : goal.returns-then-text-gt-LONGEST_TEXT
unfolding mission_place_before_of
returns-then-text-gt-LONGEST_TEXT c = sym (too_long c.args.text.now _ _ c.if-text-gt-LONGEST_TEXT.true)

pub returns-in_default : goal.returns-in_default
unfolding mission_place_before_of
returns-in_default c =
    ap standing (sym c.in_default.is ∙ c.arrive.ensures) ∙ sym (not_too-long c.args.text.now _ _ c.if-text-gt-LONGEST_TEXT.false)

pub returns : goal.returns
unfolding mission_place_before_of
returns c =
    ap standing (sym c.in-Some.is ∙ c.arrive.ensures) ∙ sym (not_too-long c.args.text.now _ _ c.if-text-gt-LONGEST_TEXT.false)
