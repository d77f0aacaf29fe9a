-- A yard with everything, and its tables worked out by hand from document 01. Assumes nothing.
use mathlib.Core.Path.{◌≡◌, refl}
use mathlib.Core.List.{List, [], ◌∷◌, ◌++◌, map}
use mathlib.Core.Option.{Option, none, some}
use mathlib.Core.Logic.{◌⊎◌, inl, inr}
use native.Mathlib.Omega.{arith}
use Prim.Native.Nat.{ℕ, suc, ◌≤◌, ◌+◌}
use lib.ListN.{length}
use Rattle.terms.specs.Words.{Among, Between}
use lib.IntN.{ℤ, pos, negsuc}
use Rattle.grammar.specs.Statements.{Position, point_id, double_yellow_of, solid_yellow_of, solid_white_of, broken_white_of}
use Rattle.grammar.specs.Network.{Lane, Spot, Network}
use Rattle.grammar.specs.Tables.{tables, tables_with}
use Rattle.grammar.specs.Mission.{Mission}
use Rattle.grammar.specs.References.{all_exits, all_numbers, parts, MissionFits, Declared, waypoint, border, Nth, first, later}
use Rattle.grammar.specs.Names.{network_named, mission_named}

abbrev at : ℕ → Position
at n = record { latitude = pos n; longitude = negsuc n }

-- lane with points a, b, ..
abbrev plain : List Position → Lane
plain ps = record { width = none; left = none; right = none; checkpoints = []; stops = []; exits = []; points = ps }

abbrev l11 : Lane
l11 = record { width = some 0; left = some double_yellow_of; right = some broken_white_of; checkpoints = record { waypoint = 2; number = 7 } ∷ record { waypoint = 1; number = 9 } ∷ []; stops = 2 ∷ 2 ∷ []; exits = record { waypoint = 2; entry = point_id 2 1 1 } ∷ record { waypoint = 1; entry = point_id 4 0 2 } ∷ []; points = at 0 ∷ at 1 ∷ [] }

abbrev l12 : Lane
l12 = record { width = none; left = some solid_yellow_of; right = some solid_white_of; checkpoints = []; stops = 1 ∷ []; exits = record { waypoint = 3; entry = point_id 5 0 1 } ∷ record { waypoint = 3; entry = point_id 3 0 2 } ∷ []; points = at 2 ∷ at 3 ∷ at 4 ∷ [] }

abbrev spot1 : Spot
spot1 = record { width = some 9; checkpoint = some (record { waypoint = 2; number = 8 }); first = at 8; second = at 9 }

abbrev spot2 : Spot
spot2 = record { width = none; checkpoint = some (record { waypoint = 2; number = 6 }); first = at 10; second = at 11 }

abbrev spot3 : Spot
spot3 = record { width = none; checkpoint = some (record { waypoint = 2; number = 3 }); first = at 16; second = at 17 }

module _ {N : Type 0} (a s z d : N) where
  abbrev yard-b : Network N
  yard-b = record {
    name = a;
    version = none;
    date = some d;
    segments = record { name = some s; lanes = l11 ∷ l12 ∷ [] } ∷ record { name = none; lanes = plain (at 5 ∷ []) ∷ [] } ∷ [];
    zones =
        record { name = some z; border = record { exits = record { waypoint = 2; entry = point_id 1 2 3 } ∷ []; points = at 6 ∷ at 7 ∷ [] }; spots = spot1 ∷ spot2 ∷ [] }
        ∷ record { name = none; border = record { exits = []; points = at 12 ∷ at 13 ∷ [] }; spots = [] }
        ∷ record { name = none; border = record { exits = record { waypoint = 1; entry = point_id 2 1 1 } ∷ []; points = at 14 ∷ at 15 ∷ [] }; spots = spot3 ∷ [] } ∷ [];
  }

  pub its-tables : tables yard-b
      ≡ record {
        file = record { name = a; version = none; date = some d };
        segments = record { first_lane = 0; lanes = 2; name = some s } ∷ record { first_lane = 2; lanes = 1; name = none } ∷ [];
        lanes = record { first_point_of = 0; points = 2; width = 0; left = 1; right = 4 } ∷ record { first_point_of = 2; points = 3; width = 65535; left = 2; right = 3 } ∷ record { first_point_of = 5; points = 1; width = 65535; left = 0; right = 0 } ∷ [];
        zones = record { first_point_of = 6; points = 2; first_spot_of = 0; spots = 2; name = some z } ∷ record { first_point_of = 12; points = 2; first_spot_of = 0; spots = 0; name = none } ∷ record { first_point_of = 14; points = 2; first_spot_of = 2; spots = 1; name = none } ∷ [];
        spots = record { first_point_of = 8; width = 9 } ∷ record { first_point_of = 10; width = 65535 } ∷ record { first_point_of = 16; width = 65535 } ∷ [];
        points = at 0 ∷ at 1 ∷ at 2 ∷ at 3 ∷ at 4 ∷ at 5 ∷ at 6 ∷ at 7 ∷ at 8 ∷ at 9 ∷ at 10 ∷ at 11 ∷ at 12 ∷ at 13 ∷ at 14 ∷ at 15 ∷ at 16 ∷ at 17 ∷ [];
        checkpoints = record { number = 7; point = 1 } ∷ record { number = 9; point = 0 } ∷ record { number = 8; point = 9 } ∷ record { number = 6; point = 11 } ∷ record { number = 3; point = 17 } ∷ [];
        stops = 1 ∷ 1 ∷ 2 ∷ [];
        exits = record { point = 1; entry = 5 } ∷ record { point = 0; entry = 13 } ∷ record { point = 4; entry = 14 } ∷ record { point = 4; entry = 7 } ∷ record { point = 7; entry = 4 } ∷ record { point = 14; entry = 5 } ∷ [];
      }
  unfolding tables_with
  its-tables = refl

  pub its-numbers : all_numbers yard-b ≡ 7 ∷ 9 ∷ 8 ∷ 6 ∷ 3 ∷ []
  its-numbers = refl

  pub its-parts : parts yard-b ≡ 5
  its-parts = refl

  pub its-entries : map (λ e. e.entry) (all_exits yard-b) ≡ point_id 2 1 1 ∷ point_id 4 0 2 ∷ point_id 5 0 1 ∷ point_id 3 0 2 ∷ point_id 1 2 3 ∷ point_id 2 1 1 ∷ []
  its-entries = refl

  -- a mission with these limits
  abbrev errand : List ℕ → Mission N
  errand ids = record { name = d; rndf = a; version = some s; date = some z; goals = 8 ∷ []; limits = map (λ i. record { id = i; minimum = 0; maximum = 15 }) ids }

  -- 01: "some id has no limit": the first, and a zone's
  no-limit : (i : ℕ) (ids : List ℕ) → Between 1 5 i → (Among i (map (λ l. l.id) (errand ids).limits) → ⊥) → MissionFits yard-b (errand ids) → ⊥
  no-limit i ids b n f = n (f.all i b)

  not_1 : Among {A = ℕ} 1 (2 ∷ 3 ∷ 4 ∷ 5 ∷ []) → ⊥
  not_1 (inl e) = omega arith
  not_1 (inr (inl e)) = omega arith
  not_1 (inr (inr (inl e))) = omega arith
  not_1 (inr (inr (inr (inl e)))) = omega arith
  not_1 (inr (inr (inr (inr x)))) = x

  not_5 : Among {A = ℕ} 5 (1 ∷ 2 ∷ 3 ∷ 4 ∷ []) → ⊥
  not_5 (inl e) = omega arith
  not_5 (inr (inl e)) = omega arith
  not_5 (inr (inr (inl e))) = omega arith
  not_5 (inr (inr (inr (inl e)))) = omega arith
  not_5 (inr (inr (inr (inr x)))) = x

  pub first-without : MissionFits yard-b (errand (2 ∷ 3 ∷ 4 ∷ 5 ∷ [])) → ⊥
  first-without = no-limit 1 (2 ∷ 3 ∷ 4 ∷ 5 ∷ []) (record { low = omega arith; high = omega arith }) not_1

  pub last-without : MissionFits yard-b (errand (1 ∷ 2 ∷ 3 ∷ 4 ∷ [])) → ⊥
  last-without = no-limit 5 (1 ∷ 2 ∷ 3 ∷ 4 ∷ []) (record { low = omega arith; high = omega arith }) not_5

-- names told in another way
module _ {N M : Type 0} (f : N → M) (a s z d : N) where
  pub its-names : network_named f (yard-b a s z d) ≡ yard-b (f a) (f s) (f z) (f d)
  unfolding network_named
  its-names = refl

  pub its-orders : mission_named f (errand a s z d (1 ∷ [])) ≡ errand (f a) (f s) (f z) (f d) (1 ∷ [])
  unfolding mission_named
  its-orders = refl
