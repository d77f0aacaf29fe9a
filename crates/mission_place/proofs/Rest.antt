-- The arms `_` of the matches on an order. Assumes nothing.
use mathlib.Core.Path.{◌≡◌, refl}
use mathlib.Core.List.{List, [], ◌∷◌}
use mathlib.Core.Bool.{true}
use Prim.Native.Nat.{ℕ}
use types.Run.{OneOf, miss}
use denote.Enum.Declared.{tag_of}
use Rattle.statement.specs.declared.Order.{Order}
use Rattle.statement.specs.declared.Order.TheVariants as or
use Rattle.statement.specs.contracts.Order.{the_type}
use Rattle.mission_place.specs.declared.MissionPlace.{MissionPlace}
use Rattle.mission_place.specs.Step.{permits_of, after_of, placed}

-- the kinds that the matches leave to their last arm
abbrev other_keys : List ℕ
other_keys = 0 ∷ 1 ∷ 2 ∷ 3 ∷ 4 ∷ 6 ∷ 7 ∷ 9 ∷ 10 ∷ []

pub any_value : (s : Order) → OneOf other_keys (tag_of the_type s) → permits_of s ≡ true
any_value (or.MdfName a l) h = refl
any_value (or.Rndf a l) h = refl
any_value (or.FormatVersion a l) h = refl
any_value (or.CreationDate a l) h = refl
any_value or.Checkpoints h = refl
any_value (or.NumCheckpoints n) h = absurd (miss other_keys 5 tt h)
any_value or.EndCheckpoints h = refl
any_value or.SpeedLimits h = refl
any_value (or.NumSpeedLimits n) h = absurd (miss other_keys 8 tt h)
any_value or.EndSpeedLimits h = refl
any_value or.EndFile h = refl
any_value (or.Goal n) h = absurd (miss other_keys 11 tt h)
any_value (or.Limit i a b) h = absurd (miss other_keys 12 tt h)

pub stays : (p : MissionPlace) (s : Order) (row : ℕ) → OneOf other_keys (tag_of the_type s) → after_of p s row ≡ placed row p.owed
stays p (or.MdfName a l) row h = refl
stays p (or.Rndf a l) row h = refl
stays p (or.FormatVersion a l) row h = refl
stays p (or.CreationDate a l) row h = refl
stays p or.Checkpoints row h = refl
stays p (or.NumCheckpoints n) row h = absurd (miss other_keys 5 tt h)
stays p or.EndCheckpoints row h = refl
stays p or.SpeedLimits row h = refl
stays p (or.NumSpeedLimits n) row h = absurd (miss other_keys 8 tt h)
stays p or.EndSpeedLimits row h = refl
stays p or.EndFile row h = refl
stays p (or.Goal n) row h = absurd (miss other_keys 11 tt h)
stays p (or.Limit i a b) row h = absurd (miss other_keys 12 tt h)
