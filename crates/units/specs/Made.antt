-- Executable: what each kind's constructor answers. That it accepts exactly the kind's range is a law (proofs/Ranges.antt). Assumes nothing.
use Rattle.std.specs.Prelude.{Bool, false, ℕ, leb, Option, Some, None}
use Rattle.terms.specs.Words.{pick}
use Rattle.units.specs.Range.{largest, missing}
use Rattle.units.specs.declared.Feet.{Feet}
use Rattle.units.specs.declared.Mph.{Mph}
use Rattle.units.specs.declared.CheckpointNumber.{CheckpointNumber}
use Rattle.units.specs.declared.SegmentId.{SegmentId}

-- a number as a value of the kind
abbrev pub feet : ℕ → Feet
feet n = record { 0 = n }

abbrev pub mph : ℕ → Mph
mph n = record { 0 = n }

abbrev pub checkpoint_number_of : ℕ → CheckpointNumber
checkpoint_number_of n = record { 0 = n }

abbrev pub segment_id_of : ℕ → SegmentId
segment_id_of n = record { 0 = n }

abbrev pub missing_feet : Feet
missing_feet = feet missing

-- not below `low`, not above the largest
abbrev pub within : ℕ → ℕ → Bool
within low n = pick (leb low n) (leb n largest) false

-- a number from `low` to `high` as it is, and any other refused
unfoldable pub in_range_of : ℕ → ℕ → ℕ → Option ℕ
in_range_of low high n = pick (pick (leb low n) (leb n high) false) (Some n) None

unfoldable pub feet_of : ℕ → Option Feet
feet_of n = pick (within 0 n) (Some (feet n)) None

unfoldable pub mph_of : ℕ → Option Mph
mph_of n = pick (within 0 n) (Some (mph n)) None

unfoldable pub the_checkpoint_number_of : ℕ → Option CheckpointNumber
the_checkpoint_number_of n = pick (within 1 n) (Some (checkpoint_number_of n)) None

unfoldable pub the_segment_id_of : ℕ → Option SegmentId
the_segment_id_of n = pick (within 1 n) (Some (segment_id_of n)) None
