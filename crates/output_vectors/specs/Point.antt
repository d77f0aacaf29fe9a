-- WHAT A READER MUST BELIEVE. Two lines of a house writing: the waypoint 1.1.y, and the end of its lane. Assumes nothing.
use Rattle.std.specs.Prelude.{◌++◌, ℕ, ℤ}
use Rattle.terms.specs.Ascii.{Bytes, ascii}
use Rattle.number.specs.House.{house_triple}
use Rattle.coordinate.specs.House.{house_coordinate}

-- 01: "one tab between fields, LF after every line"
unfoldable pub point_line : ℕ → ℤ → ℤ → Bytes
point_line y latitude longitude =
    house_triple 1 1 y ++ ascii "\t" ++ house_coordinate latitude ++ ascii "\t" ++ house_coordinate longitude ++ ascii "\n" ++ ascii "end_lane\n"
