-- WHAT A READER MUST BELIEVE. What a move is, and the points of a mission's goals. Request L5, "Is this route drivable?". Points are told by their rows in the point table, from 0: "routes as lists of point indexes". Assumes nothing.
use Rattle.std.specs.Prelude.{◌≡◌, ◌∷◌, ◌+◌, ◌≤◌, ◌<◌}
use Rattle.terms.specs.Words.{List, [], ℕ, suc, length, Among}
use Rattle.line.specs.Line.{Field}
use Rattle.law.specs.Network.{Network, Mission}
use Rattle.law.specs.Tables.{gather, lane_size, zone_size, placed_lanes, placed_zones, point_rows, checkpoint_rows, exit_rows}
use Rattle.look_up.specs.Listed.{Paired}

-- the points of one part, a lane or a zone: so many rows, from the first on
pub record Span : Type 0 where
  pub first : ℕ
  pub size : ℕ

pub record Inside (s : Span) (p : ℕ) : Type 0 where
  pub from : s.first ≤ p
  pub below : p < s.first + s.size

-- the waypoints of each lane
abbrev pub lane_spans : Network Field → List Span
lane_spans n = gather (λ a. record { first = a.first; size = lane_size a.part } ∷ []) (placed_lanes n)

-- the points of each zone, "among perimeter and spots"
abbrev pub zone_spans : Network Field → List Span
zone_spans n = gather (λ z. record { first = z.first; size = zone_size z.part } ∷ []) (placed_zones n)

pub data Move (n : Network Field) (a b : ℕ) : Type 0 where
  -- L5: "A move goes from a waypoint to the next in its lane;"
  next : (lane : Span) → Among lane (lane_spans n) → Inside lane a → Inside lane b → b ≡ suc a → Move n a b
  -- L5: "along an exit;". 01: "Exit: point, point."
  exit : Among (a ∷ b ∷ []) (exit_rows n) → Move n a b
  -- L5: "or, in one zone, between any two different points among perimeter and spots."
  across : (zone : Span) → Among zone (zone_spans n) → Inside zone a → Inside zone b → (a ≡ b → ⊥) → Move n a b

-- the points that are "declared": rows 0 to one below this
abbrev pub points_declared : Network Field → ℕ
points_declared n = length (point_rows n)

-- these are the points of the mission's goals, in order. 01: "Checkpoint: number, point."
abbrev pub GoalPoints : Network Field → Mission Field → List ℕ → Type 0
GoalPoints n m goals = Paired (λ number p. Among (number ∷ p ∷ []) (checkpoint_rows n)) m.goals goals
