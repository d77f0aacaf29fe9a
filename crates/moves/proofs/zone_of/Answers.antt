-- `moves::zone_of` meets its contract. Assumes nothing.
use mathlib.Core.Path.{sym, ap, ◌∙◌}
use Prim.Native.Nat.{ℕ, ◌-◌}
use Rattle.moves.specs.Moves.{zone_part_of, the_the_zone_of}
use Rattle.moves.proofs.Moves.{none_before, one-before}
use Rattle.moves.proofs.zone_of.Goals as goal

pub returns-then-behind-eq0 : goal.returns-then-behind-eq0
unfolding the_the_zone_of
returns-then-behind-eq0 c = sym (none_before _ _ (sym c.first_row_from-behind.ensures ∙ c.if-behind-eq0.true))

pub returns-else-behind-eq0 : goal.returns-else-behind-eq0
unfolding the_the_zone_of
returns-else-behind-eq0 c =
    let a = c.args in
    let found = c.first_row_from-behind.ensures in
    c.zone_part.ensures ∙ ap (λ (k : ℕ). zone_part_of a.zones.now (k - 1)) found ∙ sym (one-before _ _ (λ e. c.if-behind-eq0.false (found ∙ e)))
