-- The house writing of a line. Document 01, "House writing": "one tab between fields". Assumes nothing.
use Rattle.std.specs.Prelude.{List, map}
use Rattle.terms.specs.Ascii.{Bytes}
use Rattle.number.specs.House.{house_integer, house_pair, house_triple}
use Rattle.coordinate.specs.House.{house_coordinate}
use Rattle.word.specs.Keywords.{boundary_of}
unfoldable pub use Rattle.law.specs.House.{tabbed}
use Rattle.grammar.specs.Tables.{colour}
use Rattle.text.specs.Said.{Said, word, name, integer, pair, triple, coordinate, boundary}

unfoldable pub house_field : Said → Bytes
house_field (word w) = w
house_field (name f) = f.bytes
house_field (integer n) = house_integer n
house_field (pair i) = house_pair i.m i.n
house_field (triple i) = house_triple i.x i.y i.z
house_field (coordinate z) = house_coordinate z
house_field (boundary e b) = boundary_of (colour b)

abbrev pub house_line : List Said → Bytes
house_line said = tabbed (map house_field said)
