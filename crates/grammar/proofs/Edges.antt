-- The ends of the ranges of document 01, from both sides. Assumes nothing.
use mathlib.Core.Path.{◌≡◌}
use Prim.Native.Nat.{ℕ}
use native.Mathlib.Omega.{arith}
use lib.IntN.{ℤ, pos, negsuc}
use Rattle.grammar.specs.Statements.{Position, point_id}
use Rattle.grammar.specs.Network.{OnEarth, GoodCheckpoint, GoodEntry}
use Rattle.grammar.specs.MissionStatements.{Limit}
use Rattle.grammar.specs.Mission.{GoodLimit}

abbrev position : ℤ → ℤ → Position
position a o = record { latitude = a; longitude = o }

-- negsuc n is -(n + 1)
pub corners : OnEarth (position (pos 90000000) (negsuc 179999999))
corners = record { latitude = omega arith; longitude = omega arith }

pub other-corners : OnEarth (position (negsuc 89999999) (pos 180000000))
other-corners = record { latitude = omega arith; longitude = omega arith }

pub too-north : OnEarth (position (pos 90000001) (pos 0)) → ⊥
too-north h = omega (arith, h.latitude)

pub too_south : OnEarth (position (negsuc 90000000) (pos 0)) → ⊥
too_south h = omega (arith, h.latitude)

pub too-east : OnEarth (position (pos 0) (pos 180000001)) → ⊥
too-east h = omega (arith, h.longitude)

pub too-west : OnEarth (position (pos 0) (negsuc 180000000)) → ⊥
too-west h = omega (arith, h.longitude)

-- a checkpoint's number, an entry
pub checkpoint-ends : GoodCheckpoint 1 2 (record { waypoint = 2; number = 32768 })
checkpoint-ends = record { waypoint = record { low = omega arith; high = omega arith }; number = record { low = omega arith; high = omega arith } }

pub checkpoint-none : GoodCheckpoint 1 2 (record { waypoint = 2; number = 0 }) → ⊥
checkpoint-none h = omega (arith, h.number.low)

pub checkpoint_large : GoodCheckpoint 1 2 (record { waypoint = 2; number = 32769 }) → ⊥
checkpoint_large h = omega (arith, h.number.high)

pub checkpoint-beyond : GoodCheckpoint 1 2 (record { waypoint = 3; number = 1 }) → ⊥
checkpoint-beyond h = omega (arith, h.waypoint.high)

-- L8: a spot's is on waypoint 2
pub spot_checkpoint : GoodCheckpoint 2 2 (record { waypoint = 2; number = 1 })
spot_checkpoint = record { waypoint = record { low = omega arith; high = omega arith }; number = record { low = omega arith; high = omega arith } }

pub spot-first : GoodCheckpoint 2 2 (record { waypoint = 1; number = 1 }) → ⊥
spot-first h = omega (arith, h.waypoint.low)

pub entry-ends : GoodEntry (point_id 32768 0 1)
entry-ends = record { x = record { low = omega arith; high = omega arith }; y = omega arith; z = record { low = omega arith; high = omega arith } }

pub entry_large : GoodEntry (point_id 1 32769 1) → ⊥
entry_large h = omega (arith, h.y)

-- a waypoint is counted from 1
pub entry_none : GoodEntry (point_id 1 0 0) → ⊥
entry_none h = omega (arith, h.z.low)

-- a speed limit
abbrev limit : ℕ → ℕ → ℕ → Limit
limit i a b = record { id = i; minimum = a; maximum = b }

pub limit-ends : GoodLimit (limit 32768 32768 32768)
limit-ends = record { id = record { low = omega arith; high = omega arith }; minimum = omega arith; maximum = omega arith; in_order = λ m. omega arith }

pub limit-none : GoodLimit (limit 1 0 0)
limit-none = record { id = record { low = omega arith; high = omega arith }; minimum = omega arith; maximum = omega arith; in_order = λ m. omega arith }

-- a maximum of 0 is no ceiling
pub limit_open : GoodLimit (limit 1 32768 0)
limit_open = record { id = record { low = omega arith; high = omega arith }; minimum = omega arith; maximum = omega arith; in_order = λ m. omega arith }

pub limit_fast : GoodLimit (limit 1 0 32769) → ⊥
limit_fast h = omega (arith, h.maximum)

pub limit_crossed : GoodLimit (limit 1 6 5) → ⊥
limit_crossed h = omega (arith, h.in_order (omega arith))
