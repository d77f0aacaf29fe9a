-- The kind of an order agrees with its meaning; an order is written by its meaning. Assumes nothing.
use mathlib.Core.Path.{◌≡◌, refl, ap}
use Rattle.grammar.specs.MissionStatements.{Kind, Says, say, MDF_name_of, RNDF, format_version_of, creation_date_of, checkpoints, num_checkpoints, end_checkpoints, speed_limits, num_speed_limits, end_speed_limits, end_file_of, goal, limit}
use Rattle.grammar.specs.PlaceRows.{mission_kind_row}
use Rattle.grammar.specs.MissionStatements as G
use Rattle.statement.specs.declared.Order.{Order}
use Rattle.statement.specs.declared.Order.TheVariants as o
use Rattle.statement.specs.Meaning.{Stretch, stretch}
use Rattle.statement.specs.MissionMeaning.{meant}
use Rattle.statement.specs.MissionKinds.{order_of, of_kind, written}

-- ## There and back again
pub means : (k : Kind) (v : Says Stretch k) → meant (of_kind k v) ≡ say k v
means MDF_name_of v = refl
means RNDF v = refl
means format_version_of v = refl
means creation_date_of v = refl
means checkpoints v = refl
means num_checkpoints v = refl
means end_checkpoints v = refl
means speed_limits v = refl
means num_speed_limits v = refl
means end_speed_limits v = refl
means end_file_of v = refl
means goal v = refl
means limit v = refl

pub back : (s : Order) → written (meant s) ≡ s
back (o.MdfName a l) = refl
back (o.Rndf a l) = refl
back (o.FormatVersion a l) = refl
back (o.CreationDate a l) = refl
back o.Checkpoints = refl
back (o.NumCheckpoints n) = refl
back o.EndCheckpoints = refl
back o.SpeedLimits = refl
back (o.NumSpeedLimits n) = refl
back o.EndSpeedLimits = refl
back o.EndFile = refl
back (o.Goal n) = refl
back (o.Limit i a b) = refl

-- the kind of what is written
pub kind-written : (k : Kind) (v : Says Stretch k) → order_of (of_kind k v) ≡ mission_kind_row k
kind-written k v = ap (λ (s : G.Statement Stretch). mission_kind_row s.kind) (means k v)

-- each kind says something
pub sample : (k : Kind) → Says Stretch k
sample MDF_name_of = stretch 0 0
sample RNDF = stretch 0 0
sample format_version_of = stretch 0 0
sample creation_date_of = stretch 0 0
sample checkpoints = tt
sample num_checkpoints = 0
sample end_checkpoints = tt
sample speed_limits = tt
sample num_speed_limits = 0
sample end_speed_limits = tt
sample end_file_of = tt
sample goal = 0
sample limit = record { id = 0; minimum = 0; maximum = 0 }
