-- Yard A's map, and that of a small yard with a name that has a quotation mark, zones of one, two and three perimeter points, two checkpoints on one waypoint, and a spot's checkpoint; byte for byte. Assumes nothing.
use mathlib.Core.Path.{◌≡◌, refl}
use mathlib.Core.List.{List, [], ◌∷◌, ◌++◌}
use mathlib.Core.Option.{none, some}
use Prim.Native.Nat.{ℕ}
use lib.ListN.{length}
use lib.IntN.{pos, neg_ℤ}
use Rattle.terms.specs.Ascii.{Bytes, ascii}
use Rattle.number.specs.Decimal.{decimal, spell, padded}
use Rattle.coordinate.specs.House.{house_degrees, house_coordinate}
use Rattle.line.specs.Line.{Field}
use Rattle.law.specs.Network.{Position, Spot, Zone, Network}
use Rattle.map_law.specs.Map.{geojson, commas}

abbrev west : (latitude longitude : ℕ) → Position
west latitude longitude = record { latitude = pos latitude; longitude = neg_ℤ (pos longitude) }

-- yard A (promises/specs/Yards.network)
abbrev pub yard_a : Network Field
yard_a = record {
  name = record { start = 10; bytes = ascii "yard_a" };
  version = none;
  date = none;
  segments = record { name = none; lanes = record { width = none; left = none; right = none; checkpoints = record { waypoint = 2; number = 7 } ∷ []; stops = []; exits = record { waypoint = 2; entry = record { x = 1; y = 1; z = 1 } } ∷ []; points = west 45000000 93000000 ∷ west 45000100 93000000 ∷ [] } ∷ [] } ∷ [];
  zones = [];
}

pub yard-a_map : geojson yard_a ≡
    ascii "{\"type\":\"FeatureCollection\",\"features\":["
    ++ (ascii "{\"type\":\"Feature\",\"geometry\":{\"type\":\"LineString\",\"coordinates\":[[-93.000000,45.000000],[-93.000000,45.000100]]},\"properties\":{\"kind\":\"lane\",\"id\":\"1.1\"}},"
    ++ (ascii "{\"type\":\"Feature\",\"geometry\":{\"type\":\"Point\",\"coordinates\":[-93.000000,45.000100]},\"properties\":{\"kind\":\"checkpoint\",\"id\":\"1.1.2\",\"number\":7}}"
    ++ ascii "]}"))
unfolding geojson commas ascii decimal spell padded house_degrees house_coordinate
yard-a_map = refl

pub yard-a-long : length (geojson yard_a) ≡ 338
unfolding geojson commas ascii decimal spell padded house_degrees house_coordinate
yard-a-long = refl

abbrev spot : Spot
spot = record { width = none; checkpoint = some (record { waypoint = 2; number = 9 }); first = west 5 6; second = west 7 8 }

abbrev the_the_zone_of : List Position → List Spot → Zone Field
the_the_zone_of ps spots = record { name = some (record { start = 0; bytes = ascii "a\"b" }); border = record { exits = []; points = ps }; spots = spots }

-- one lane of one point, named, with two checkpoints on it; zones of three, two and one perimeter points, the last with a spot
abbrev pub yard-z : Network Field
yard-z = record {
  name = record { start = 10; bytes = ascii "z" };
  version = none;
  date = none;
  segments = record { name = some (record { start = 0; bytes = ascii "\"" }); lanes = record { width = none; left = none; right = none; checkpoints = record { waypoint = 1; number = 8 } ∷ record { waypoint = 1; number = 4 } ∷ []; stops = []; exits = []; points = record { latitude = neg_ℤ (pos 500000); longitude = pos 0 } ∷ [] } ∷ [] } ∷ [];
  zones = the_the_zone_of (west 1 1 ∷ west 2 2 ∷ west 3 3 ∷ []) [] ∷ the_the_zone_of (west 1 1 ∷ west 2 2 ∷ []) [] ∷ the_the_zone_of (west 1 1 ∷ []) (spot ∷ []) ∷ [];
}

pub yard-z_map : geojson yard-z ≡
    ascii "{\"type\":\"FeatureCollection\",\"features\":["
    ++ (ascii "{\"type\":\"Feature\",\"geometry\":{\"type\":\"Point\",\"coordinates\":[0.000000,-0.500000]},\"properties\":{\"kind\":\"lane\",\"id\":\"1.1\",\"name\":\"\\\"\"}},"
    ++ (ascii "{\"type\":\"Feature\",\"geometry\":{\"type\":\"Polygon\",\"coordinates\":[[[-0.000003,0.000003],[-0.000002,0.000002],[-0.000001,0.000001],[-0.000003,0.000003]]]},\"properties\":{\"kind\":\"perimeter\",\"id\":\"2.0\",\"name\":\"a\\\"b\"}},"
    ++ (ascii "{\"type\":\"Feature\",\"geometry\":{\"type\":\"LineString\",\"coordinates\":[[-0.000001,0.000001],[-0.000002,0.000002]]},\"properties\":{\"kind\":\"perimeter\",\"id\":\"3.0\",\"name\":\"a\\\"b\"}},"
    ++ (ascii "{\"type\":\"Feature\",\"geometry\":{\"type\":\"Point\",\"coordinates\":[-0.000001,0.000001]},\"properties\":{\"kind\":\"perimeter\",\"id\":\"4.0\",\"name\":\"a\\\"b\"}},"
    ++ (ascii "{\"type\":\"Feature\",\"geometry\":{\"type\":\"Point\",\"coordinates\":[0.000000,-0.500000]},\"properties\":{\"kind\":\"checkpoint\",\"id\":\"1.1.1\",\"number\":8}},"
    ++ (ascii "{\"type\":\"Feature\",\"geometry\":{\"type\":\"Point\",\"coordinates\":[0.000000,-0.500000]},\"properties\":{\"kind\":\"checkpoint\",\"id\":\"1.1.1\",\"number\":4}},"
    ++ (ascii "{\"type\":\"Feature\",\"geometry\":{\"type\":\"Point\",\"coordinates\":[-0.000008,0.000007]},\"properties\":{\"kind\":\"checkpoint\",\"id\":\"4.1.2\",\"number\":9}}"
    ++ ascii "]}")))))))
unfolding geojson commas ascii decimal spell padded house_degrees house_coordinate
yard-z_map = refl
