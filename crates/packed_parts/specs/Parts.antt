-- Executable: every checkpoint, stop and exit is its part's, part by part in file order. key: what a row of the table at hand says; n: how many rows it has; i: the row next in turn. Assumes nothing.
use Rattle.std.specs.Prelude.{◌+◌, ◌-◌, ◌*◌, ◌/◌}
use Rattle.terms.specs.Words.{Bool, true, false, ℕ, zero, suc, leb, ltb, eqb, Bytes, pick}
use Rattle.packed_rows.specs.Points.{four_at_of}
use Rattle.packed_parts.specs.declared.Table.{Table}

-- a field of a row: the four bytes at this offset of the record
abbrev pub cell_at : Bytes → (from step offset row : ℕ) → ℕ
cell_at b from step offset row = four_at_of b (from + step * row + offset)

-- ## Lanes
-- the point is one of so many from p on
unfoldable pub own_point : (p size q : ℕ) → Bool
own_point p size q = pick (leb p q) (ltb q (p + size)) false

-- the rows next in turn whose point is one of these: the row behind them. k: how many rows are left
unfoldable pub next_row : (ℕ → ℕ) → (p size k i : ℕ) → ℕ
next_row key p size zero i = i
next_row key p size (suc k) i = pick (own_point p size (key i)) (next_row key p size k (i + 1)) i

-- first point and points of a lane or a zone whose record stands at this place
abbrev pub first-at : Bytes → ℕ → ℕ
first-at b at = four_at_of b (at + 2)

abbrev pub points_at : Bytes → ℕ → ℕ
points_at b at = four_at_of b (at + 6) / 65536

-- each of so many lanes, from this place on, takes its rows: the row behind those of all
unfoldable pub lanes_take : (ℕ → ℕ) → (n k : ℕ) → Bytes → (at i : ℕ) → ℕ
lanes_take key n zero b at i = i
lanes_take key n (suc k) b at i = lanes_take key n k b (at + 12) (next_row key (first-at b at) (points_at b at) (n - i) i)

-- behind the last lane's points
abbrev pub last_end : Bytes → (from count : ℕ) → ℕ
last_end b from zero = 0
last_end b from (suc k) = cell_at b from 12 2 k + cell_at b from 12 6 k / 65536

-- ## Zones
abbrev pub spots_at : Bytes → ℕ → ℕ
spots_at b at = four_at_of b (at + 12) / 65536

-- where the next zone's record stands
abbrev pub zone_next : Bytes → ℕ → ℕ
zone_next b at = at + 2 + four_at_of b at / 65536

-- so many rows from i on say less than `end`
unfoldable pub all-below : (ℕ → ℕ) → (end k i : ℕ) → Bool
all-below key end zero i = true
all-below key end (suc k) i = pick (ltb (key i) end) (all-below key end k (i + 1)) false

-- so many zones: the exits of each are those next in turn, and lead to lanes; none is left. point, entry: what an exit's row says
unfoldable pub zone_exits : (point entry : ℕ → ℕ) → (n end k : ℕ) → Bytes → (at i : ℕ) → Bool
zone_exits point entry n end zero b at i = leb n i
zone_exits point entry n end (suc k) b at i = pick (all-below entry end (next_row point (first-at b at) (points_at b at) (n - i) i - i) i) (zone_exits point entry n end k b (zone_next b at) (next_row point (first-at b at) (points_at b at) (n - i) i)) false

-- L8: each of so many spots has one checkpoint, on its second point. q: the first point of the first of them
unfoldable pub all_marked : (ℕ → ℕ) → (n q k i : ℕ) → Bool
all_marked key n q zero i = true
all_marked key n q (suc k) i = pick (leb n i) false (pick (eqb (key i) (q + 1)) (all_marked key n (q + 2) k (i + 1)) false)

-- so many zones: the checkpoints of each are those next in turn; none is left
unfoldable pub zone_checkpoints : (ℕ → ℕ) → (n k : ℕ) → Bytes → (at i : ℕ) → Bool
zone_checkpoints key n zero b at i = leb n i
zone_checkpoints key n (suc k) b at i = pick (all_marked key n (first-at b at + points_at b at) (spots_at b at) i) (zone_checkpoints key n k b (zone_next b at) (i + spots_at b at)) false

-- ## All parts
unfoldable pub parts_right : Bytes → (lanes zones checkpoints stops exits : Table) (end : ℕ) → Bool
parts_right b lanes zones checkpoints stops exits end =
    pick (ltb (lanes_take (cell_at b stops.from 6 2) stops.count lanes.count b lanes.from 0) stops.count) false
    (pick (zone_checkpoints (cell_at b checkpoints.from 8 4) checkpoints.count zones.count b zones.from (lanes_take (cell_at b checkpoints.from 8 4) checkpoints.count lanes.count b lanes.from 0))
    (zone_exits (cell_at b exits.from 10 2) (cell_at b exits.from 10 6) exits.count end zones.count b zones.from (lanes_take (cell_at b exits.from 10 2) exits.count lanes.count b lanes.from 0))
    false)
