-- The rows used of each table, as a reply tells them. Assumes nothing.
use Rattle.fill.specs.Counts as F
use Rattle.counts.specs.declared.Counts.{Counts}

-- 01: "Acceptance replies with the rows used of each table"
abbrev pub rows_used_of : F.Counts → Counts
rows_used_of c = record { segments = c.segments; lanes = c.lanes; zones = c.zones; spots = c.spots; points = c.points; checkpoints = c.checkpoints; stops = c.stops; exits = c.exits }
