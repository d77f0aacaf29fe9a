-- The last arm of each match: the kinds that are left to it. Assumes nothing.
use mathlib.Core.Path.{◌≡◌, refl}
use mathlib.Core.List.{List, [], ◌∷◌}
use Prim.Native.Nat.{ℕ}
use types.Run.{OneOf, miss}
use denote.Enum.Declared.{tag_of}
use Rattle.rows.specs.declared.MissionFileRow.{MissionFileRow}
use Rattle.statement.specs.declared.Order.{Order}
use Rattle.statement.specs.declared.Order.TheVariants as o
use Rattle.statement.specs.contracts.Order.{the_type}
use Rattle.mission_progress.specs.declared.MissionProgress.{MissionProgress}
use Rattle.mission_progress.specs.declared.MissionRow.TheVariants as Row
use Rattle.mission_progress.specs.Progress.{file_after_of, mission_row_of, as_many, counted_of}

-- all but the four that give a name
abbrev nameless : List ℕ
nameless = 4 ∷ 5 ∷ 6 ∷ 7 ∷ 8 ∷ 9 ∷ 10 ∷ 11 ∷ 12 ∷ []

pub file-stays : (s : Order) (f : MissionFileRow) → OneOf nameless (tag_of the_type s) → file_after_of s f ≡ f
unfolding file_after_of
file-stays (o.MdfName a l) f h = absurd (miss nameless 0 tt h)
file-stays (o.Rndf a l) f h = absurd (miss nameless 1 tt h)
file-stays (o.FormatVersion a l) f h = absurd (miss nameless 2 tt h)
file-stays (o.CreationDate a l) f h = absurd (miss nameless 3 tt h)
file-stays o.Checkpoints f h = refl
file-stays (o.NumCheckpoints n) f h = refl
file-stays o.EndCheckpoints f h = refl
file-stays o.SpeedLimits f h = refl
file-stays (o.NumSpeedLimits n) f h = refl
file-stays o.EndSpeedLimits f h = refl
file-stays o.EndFile f h = refl
file-stays (o.Goal n) f h = refl
file-stays (o.Limit i a b) f h = refl

-- all but goals and limits
abbrev rowless : List ℕ
rowless = 0 ∷ 1 ∷ 2 ∷ 3 ∷ 4 ∷ 5 ∷ 6 ∷ 7 ∷ 8 ∷ 9 ∷ 10 ∷ []

pub no_row : (s : Order) → OneOf rowless (tag_of the_type s) → mission_row_of s ≡ Row.Nothing
unfolding mission_row_of
no_row (o.MdfName a l) h = refl
no_row (o.Rndf a l) h = refl
no_row (o.FormatVersion a l) h = refl
no_row (o.CreationDate a l) h = refl
no_row o.Checkpoints h = refl
no_row (o.NumCheckpoints n) h = refl
no_row o.EndCheckpoints h = refl
no_row o.SpeedLimits h = refl
no_row (o.NumSpeedLimits n) h = refl
no_row o.EndSpeedLimits h = refl
no_row o.EndFile h = refl
no_row (o.Goal n) h = absurd (miss rowless 11 tt h)
no_row (o.Limit i a b) h = absurd (miss rowless 12 tt h)

pub none_more : (s : Order) (f : MissionFileRow) (p : MissionProgress) → OneOf rowless (tag_of the_type s) → counted_of s f p ≡ as_many f p
unfolding counted_of
none_more (o.MdfName a l) f p h = refl
none_more (o.Rndf a l) f p h = refl
none_more (o.FormatVersion a l) f p h = refl
none_more (o.CreationDate a l) f p h = refl
none_more o.Checkpoints f p h = refl
none_more (o.NumCheckpoints n) f p h = refl
none_more o.EndCheckpoints f p h = refl
none_more o.SpeedLimits f p h = refl
none_more (o.NumSpeedLimits n) f p h = refl
none_more o.EndSpeedLimits f p h = refl
none_more o.EndFile f p h = refl
none_more (o.Goal n) f p h = absurd (miss rowless 11 tt h)
none_more (o.Limit i a b) f p h = absurd (miss rowless 12 tt h)
