-- Words worked out by hand from document 01: a row of every table, in lent slices that were not clean and have more room than is needed. Assumes nothing.
use mathlib.Core.Path.{◌≡◌, refl}
use mathlib.Core.List.{[], ◌∷◌}
use mathlib.Core.Option.{none, some}
use Prim.Native.Nat.{ℕ}
use lib.IntN.{pos, negsuc}
use Rattle.grammar.specs.Tables.{Tables, MissionTables}
use Rattle.rows.specs.Table.{flat, table_of}
use Rattle.statement.specs.Meaning.{Stretch, stretch}
use Rattle.table_words.specs.Words.{Lent, MissionLent, zeros, filled, mission_filled}

-- a segment with a name of 6 bytes at byte 40 and one without; a zone that has neither name nor spots
abbrev some-tables : Tables Stretch ℕ
some-tables = record {
  file = record { name = stretch 10 5; version = none; date = none };
  segments = record { first_lane = 0; lanes = 1; name = some (stretch 40 6) } ∷ record { first_lane = 1; lanes = 1; name = none } ∷ [];
  lanes = record { first_point_of = 0; points = 2; width = 12; left = 1; right = 4 } ∷ record { first_point_of = 2; points = 1; width = 65535; left = 0; right = 3 } ∷ [];
  zones = record { first_point_of = 3; points = 1; first_spot_of = 0; spots = 0; name = none } ∷ [];
  spots = record { first_point_of = 4; width = 9 } ∷ [];
  points = record { latitude = pos 45000000; longitude = negsuc 92999999 } ∷ record { latitude = pos 0; longitude = pos 1 } ∷ [];
  checkpoints = record { number = 7; point = 1 } ∷ [];
  stops = 1 ∷ 2 ∷ [];
  exits = record { point = 2; entry = 0 } ∷ [];
}

-- 5 is what stood there before
abbrev dirty : Lent
dirty = record {
  segments = 5 ∷ 5 ∷ 5 ∷ 5 ∷ 5 ∷ 5 ∷ 5 ∷ 5 ∷ 5 ∷ [];
  lanes = 5 ∷ 5 ∷ 5 ∷ 5 ∷ 5 ∷ 5 ∷ 5 ∷ 5 ∷ 5 ∷ 5 ∷ 5 ∷ [];
  zones = 5 ∷ 5 ∷ 5 ∷ 5 ∷ 5 ∷ 5 ∷ 5 ∷ [];
  spots = 5 ∷ 5 ∷ 5 ∷ [];
  points = pos 5 ∷ pos 5 ∷ pos 5 ∷ pos 5 ∷ pos 5 ∷ [];
  checkpoints = 5 ∷ 5 ∷ 5 ∷ 5 ∷ [];
  stops = 5 ∷ 5 ∷ 5 ∷ [];
  exits = 5 ∷ 5 ∷ [];
}

pub its-words : filled (λ s. s.start) (λ s. s.length) some-tables dirty
    ≡ record {
      segments = 0 ∷ 1 ∷ 40 ∷ 6 ∷ 1 ∷ 1 ∷ 0 ∷ 0 ∷ 0 ∷ [];
      lanes = 0 ∷ 2 ∷ 12 ∷ 1 ∷ 4 ∷ 2 ∷ 1 ∷ 65535 ∷ 0 ∷ 3 ∷ 0 ∷ [];
      zones = 3 ∷ 1 ∷ 0 ∷ 0 ∷ 0 ∷ 0 ∷ 0 ∷ [];
      spots = 4 ∷ 9 ∷ 0 ∷ [];
      points = pos 45000000 ∷ negsuc 92999999 ∷ pos 0 ∷ pos 1 ∷ pos 0 ∷ [];
      checkpoints = 7 ∷ 1 ∷ 0 ∷ 0 ∷ [];
      stops = 1 ∷ 2 ∷ 0 ∷ [];
      exits = 2 ∷ 0 ∷ [];
    }
unfolding flat table_of
its-words = refl

pub its-zeros : (zeros dirty).segments ≡ 0 ∷ 0 ∷ 0 ∷ 0 ∷ 0 ∷ 0 ∷ 0 ∷ 0 ∷ 0 ∷ []
its-zeros = refl

abbrev some-orders : MissionTables Stretch
some-orders = record { file = record { name = stretch 9 7; rndf = stretch 22 6; version = none; date = none }; goals = 7 ∷ 7 ∷ []; limits = record { id = 1; minimum = 0; maximum = 15 } ∷ [] }

abbrev dirty-orders : MissionLent
dirty-orders = record { goals = 5 ∷ 5 ∷ 5 ∷ []; limits = 5 ∷ 5 ∷ 5 ∷ 5 ∷ [] }

pub its-orders : mission_filled some-orders dirty-orders ≡ record { goals = 7 ∷ 7 ∷ 0 ∷ []; limits = 1 ∷ 0 ∷ 15 ∷ 0 ∷ [] }
unfolding flat table_of
its-orders = refl
