-- WHAT A READER MUST BELIEVE. When two networks are the same. Document 01, "Tables": "A network or mission is its tables with each name's bytes in place of start and length." Assumes nothing.
use Rattle.std.specs.Prelude.{◌≡◌}
use Rattle.terms.specs.Words.{map, Option, none, some, Bytes}
use Rattle.line.specs.Line.{Field}
use Rattle.law.specs.Network.{Segment, Zone, Network}

-- a network with its names told in another way
module _ {N M : Type 0} (f : N → M) where
  abbrev pub perhaps_name : Option N → Option M
  perhaps_name none = none
  perhaps_name (some a) = some (f a)

  abbrev pub segment_named_of : Segment N → Segment M
  segment_named_of s = record { name = perhaps_name s.name; lanes = s.lanes }

  abbrev pub zone_named_of : Zone N → Zone M
  zone_named_of z = record { name = perhaps_name z.name; border = z.border; spots = z.spots }

  unfoldable pub network_named : Network N → Network M
  network_named n = record { name = f n.name; version = perhaps_name n.version; date = perhaps_name n.date; segments = map segment_named_of n.segments; zones = map zone_named_of n.zones }

-- by its bytes
pub data Name : Type 0 where
  bytes : Bytes → Name

abbrev pub bytes_of : Field → Name
bytes_of f = bytes f.bytes

abbrev pub SameNetwork : Network Field → Network Field → Type 0
SameNetwork n n' = network_named bytes_of n ≡ network_named bytes_of n'
