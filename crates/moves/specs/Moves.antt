-- Executable: whether a step is a move, read of any tables; every contract cites this. That it is the law's `Move` where the tables are those of a network is `move_tables`. Assumes nothing.
use Rattle.terms.specs.Words.{List, ℕ, zero, suc, Bool, true, false, eqb, ltb, leb, pick}
use Rattle.std.specs.Prelude.{get_or, ◌+◌, ◌-◌, ◌*◌}
use Rattle.rows.specs.Read.{lane_at_of, zone_at_of}
use Rattle.rows.specs.Strides.{lane_stride, zone_stride, exit_stride}
use Rattle.counts.specs.declared.Counts.{Counts}
use Rattle.moves.specs.declared.Part.{Part}
use Rattle.moves.specs.Halving.{first_word, rows_there_of, first_row_from_of}

-- ## Parts
abbrev pub part : (first behind : ℕ) → Part
part first behind = record { first = first; behind = behind }

unfoldable pub inside : Part → ℕ → Bool
inside p point = pick (leb p.first point) (ltb point p.behind) false

unfoldable pub lane_part_of : List ℕ → ℕ → Part
lane_part_of lanes row = part (lane_at_of lanes row).first_point ((lane_at_of lanes row).first_point + (lane_at_of lanes row).points)

-- perimeter and spots: two points for each spot
unfoldable pub zone_part_of : List ℕ → ℕ → Part
zone_part_of zones row = part (zone_at_of zones row).first_point ((zone_at_of zones row).first_point + (zone_at_of zones row).points + 2 * (zone_at_of zones row).spots)

-- the part in the row before this one; before row 0 there is none
abbrev pub part_before : (ℕ → Part) → ℕ → Part
part_before part_at zero = part 0 0
part_before part_at (suc row) = part_at row

-- the last lane and the last zone that begin at the point or before it
unfoldable pub lane_of : List ℕ → (count point : ℕ) → Part
lane_of lanes count point = part_before (lane_part_of lanes) (first_row_from_of lanes lane_stride count (point + 1))

unfoldable pub the_the_zone_of : List ℕ → (count point : ℕ) → Part
the_the_zone_of zones count point = part_before (zone_part_of zones) (first_row_from_of zones zone_stride count (point + 1))

-- ## Exits
-- the exit in this row goes from a to b
unfoldable pub goes : List ℕ → (row a b : ℕ) → Bool
goes exits row a b = pick (eqb (first_word exits exit_stride row) a) (eqb (get_or exits (row * exit_stride + 1) 0) b) false

-- one of `left` exit rows from this one on does; none is asked from the first on that does not stand before `behind`
unfoldable pub leads_from : List ℕ → (behind a b row left : ℕ) → Bool
leads_from exits behind a b row zero = false
leads_from exits behind a b row (suc left) = pick (ltb (first_word exits exit_stride row) behind) (pick (goes exits row a b) true (leads_from exits behind a b (suc row) left)) false

-- one of a part's exits does: rows rise from part to part, not within one
unfoldable pub leads : List ℕ → (count : ℕ) → Part → (a b : ℕ) → Bool
leads exits count p a b = leads_from exits p.behind a b (first_row_from_of exits exit_stride count p.first) (rows_there_of exits exit_stride count - first_row_from_of exits exit_stride count p.first)

-- ## Moves from a point of this lane, of this zone
unfoldable pub next_in_of : Part → (a b : ℕ) → Bool
next_in_of lane a b = pick (eqb b (a + 1)) (inside lane b) false

unfoldable pub across : Part → (a b : ℕ) → Bool
across zone a b = pick (eqb a b) false (inside zone b)

unfoldable pub lane_move_of : List ℕ → (count : ℕ) → Part → (a b : ℕ) → Bool
lane_move_of exits count lane a b = pick (next_in_of lane a b) true (leads exits count lane a b)

unfoldable pub zone_move_of : List ℕ → (count : ℕ) → Part → (a b : ℕ) → Bool
zone_move_of exits count zone a b = pick (across zone a b) true (leads exits count zone a b)

unfoldable pub is_move : (lanes zones exits : List ℕ) → Counts → (a b : ℕ) → Bool
is_move lanes zones exits c a b = pick (inside (lane_of lanes c.lanes a) a)
    (lane_move_of exits c.exits (lane_of lanes c.lanes a) a b)
    (pick (inside (the_the_zone_of zones c.zones a) a) (zone_move_of exits c.exits (the_the_zone_of zones c.zones a) a b) false)
