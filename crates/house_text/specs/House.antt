-- WHAT A READER MUST BELIEVE. The house writing of a network and of a mission. Document 01, "House writing"; document 02, L12. Assumes nothing.
use Rattle.std.specs.Prelude.{◌≡◌, ◌++◌}
use Rattle.terms.specs.Words.{List, map, none, Bytes, ascii}
use Rattle.line.specs.Line.{Field}
use Rattle.coordinate.specs.House.{house_coordinate}
use Rattle.law.specs.Network.{Network, Mission, Said, word, name, numbers, coordinate, boundary, Line, boundary_word_of, dotted, SpellsNetwork, SpellsMission}
use Rattle.law.specs.Tables.{gather}
use Rattle.law.specs.House.{house, tabbed}

-- the house spelling of a field: its only one, but for coordinates. 01: "`0.000000` has no sign."
abbrev pub house_field : Said → Bytes
house_field (word w) = w
house_field (name v) = v.bytes
house_field (numbers l) = dotted l
house_field (coordinate z) = house_coordinate z
house_field (boundary b) = boundary_word_of b

-- 01: "LF after every line, no comment, blank line or CR"
unfoldable pub written : List Line → Bytes
written = gather (λ line. tabbed (map house_field line) ++ ascii "\n")

-- L12: "the house writing and the packed form leave it out", the creation date: a network, and a mission, without it
module _ {N : Type 0} where
  abbrev pub undated : Network N → Network N
  undated n = record { name = n.name; version = n.version; date = none; segments = n.segments; zones = n.zones }

  abbrev pub mission_undated : Mission N → Mission N
  mission_undated m = record { name = m.name; rndf = m.rndf; version = m.version; date = none; goals = m.goals; limits = m.limits }

-- these bytes are the house writing: the lines that spell it without its date, "options in the order listed above, repeats in file order within their kind"
abbrev pub HouseRndf : Network Field → Bytes → Type 0
HouseRndf n bytes = (l : List Line) × SpellsNetwork house (undated n) l × (bytes ≡ written l)

abbrev pub HouseMdf : Mission Field → Bytes → Type 0
HouseMdf m bytes = (l : List Line) × SpellsMission house (mission_undated m) l × (bytes ≡ written l)
