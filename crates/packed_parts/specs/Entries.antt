-- Executable: records of exits, each with an entry. key: the first point of each spot; n: how many spots; end: the first zone point. Assumes nothing.
use Rattle.std.specs.Prelude.{◌+◌, ◌-◌, ◌/◌}
use Rattle.terms.specs.Words.{Bool, true, false, ℕ, zero, suc, leb, ltb, drop, Bytes, pick}
use Rattle.packed_rows.specs.Fixed.{record_here}
use Rattle.packed_rows.specs.Points.{four_at_of}

-- the first row, of those from low up to high, with a key above q, found by halving, in at most so many steps
abbrev pub middle : (low high : ℕ) → ℕ
middle low high = low + (high - low) / 2

unfoldable pub halve : (ℕ → ℕ) → (q steps low high : ℕ) → ℕ
halve key q zero low high = low
halve key q (suc k) low high = pick (ltb low high) (pick (leb (key (middle low high)) q) (halve key q k (middle low high + 1) high) (halve key q k low (middle low high))) low

-- not one of the two points of the last of so many spots
abbrev pub behind_last : (ℕ → ℕ) → (q to : ℕ) → Bool
behind_last key q zero = true
behind_last key q (suc i) = leb (key i + 2) q

-- 01: "An entry with y > 0 must be a lane's waypoint; a spot's is not an entry"
unfoldable pub entry_right : (ℕ → ℕ) → (n points end q : ℕ) → Bool
entry_right key n points end q = pick (ltb q end) true (pick (leb points q) false (behind_last key q (halve key q n 0 n)))

unfoldable pub exit_right : Bytes → ℕ → (ℕ → ℕ) → (n points end : ℕ) → Bool
exit_right b at key n points end = pick (record_here 8 (drop at b)) (entry_right key n points end (four_at_of b (at + 6))) false

-- so many of them
unfoldable pub exits_right : ℕ → Bytes → ℕ → (ℕ → ℕ) → (n points end : ℕ) → Bool
exits_right zero b at key n points end = true
exits_right (suc k) b at key n points end = pick (exit_right b at key n points end) (exits_right k b (at + 10) key n points end) false
