-- Executable: which values a speed limit may have, as the grammar decides it. Assumes nothing.
use Rattle.std.specs.Prelude.{ℕ, Bool}
use Rattle.grammar.specs.Forms.{yes?, tested}
use Rattle.grammar.specs.MissionPlaces.{not_above?, limited}

-- L1: "minimum above maximum is a fault only where the maximum is not 0"
unfoldable pub is_not_above : (minimum maximum : ℕ) → Bool
is_not_above minimum maximum = yes? (not_above? minimum maximum)

unfoldable pub is_limit : (id minimum maximum : ℕ) → Bool
is_limit id minimum maximum = tested limited (record { id = id; minimum = minimum; maximum = maximum })
