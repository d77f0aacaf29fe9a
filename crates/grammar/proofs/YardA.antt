-- Yard A as statements: its network, tables and references, and the cases of document 01's section 'Yard A' that show at this level, by computation. Assumes nothing.
use mathlib.Core.Path.{◌≡◌, refl, sym}
use mathlib.Core.List.{List, [], ◌∷◌, ◌++◌}
use mathlib.Core.Option.{Option, none, some}
use mathlib.Core.Logic.{◌⊎◌, inl, inr}
use Prim.Native.Nat.{ℕ, suc, ◌≤◌}
use native.Mathlib.Omega.{arith}
use lib.IntN.{pos, negsuc}
use Rattle.terms.specs.Words.{Between}
use Rattle.grammar.specs.Language.{Lang, S}
use Rattle.grammar.specs.Machine.{Machine, Out, next, refuse, over, inside, Place, at, step, run, guard, Accepts}
use Rattle.grammar.specs.Statements.{Statement, Position, PointId, say, point_id, part_id, point_line_of, numbered, RNDF_name_of, num_segments, num_zones, segment, num_lanes, end_segment, lane, num_waypoints, checkpoint, exit, end_lane_of, end_file_of}
use Rattle.grammar.specs.Network.{Network, Lane, Segment, SpellsNetwork}
use Rattle.grammar.specs.MissionStatements as M
use Rattle.grammar.specs.Mission.{Mission, GoodMission, SpellsMission}
use Rattle.grammar.specs.HouseOrder.{GoodNetwork, house_network, house_segment, segment_options, house_lane, lane_options, file_options, house_mission, mission_options}
use Rattle.grammar.specs.Tables.{Tables, tables_with, tables}
use Rattle.grammar.specs.References.{Nth, first, later, Declared, waypoint, border, Sound, MissionFits}
use Rattle.grammar.specs.Places.{rndf, name_due}
use Rattle.grammar.specs.MissionPlaces.{mdf}
use Rattle.grammar.specs.MissionPlaces as M-at
use Rattle.grammar.proofs.Written.{network-written, mission-written}
use Rattle.grammar.proofs.Theorems.{network-complete, mission-complete}

-- the first refused statement, counted from i, and its number; none where all are taken
module _ {L : Lang} (A : Machine L) where
  unfoldable pub refusal-from : ℕ → Place A → List (S L) → Option (ℕ × ℕ)
  refusal-from i p [] = none
  refusal-from i p (s ∷ l) = elim (step A p s) [ next q ↦ refusal-from (suc i) q l | refuse c ↦ some (i, c) ]

abbrev near : Position
near = record { latitude = pos 45000000; longitude = negsuc 92999999 }

abbrev far : Position
far = record { latitude = pos 45000100; longitude = negsuc 92999999 }

-- the names of yard A and of its mission, whatever they are
module _ {N : Type 0} (yard-name round-name : N) where
  abbrev road : List Position → ℕ → PointId → Lane
  road ps w e = record { width = none; left = none; right = none; checkpoints = record { waypoint = 2; number = 7 } ∷ []; stops = []; exits = record { waypoint = w; entry = e } ∷ []; points = ps }

  abbrev yard : PointId → Network N
  yard e = record { name = yard-name; version = none; date = none; zones = []; segments = record { name = none; lanes = road (near ∷ far ∷ []) 2 e ∷ [] } ∷ [] }

  abbrev pub yard_a : Network N
  yard_a = yard (point_id 1 1 1)

  -- its lines, with another number of waypoints, another exit, and what follows `end_segment`
  abbrev lines_with : ℕ → ℕ → List (Statement N) → List (Statement N)
  lines_with w x rest =
      say RNDF_name_of yard-name ∷ say num_segments 1 ∷ say num_zones 0 ∷ say segment 1 ∷ say num_lanes 1 ∷ say lane (part_id 1 1) ∷ say num_waypoints w
      ∷ say checkpoint (record { waypoint = point_id 1 1 2; number = 7 }) ∷ say exit (record { waypoint = point_id 1 1 x; entry = point_id 1 1 1 })
      ∷ point_line_of (point_id 1 1 1) near ∷ point_line_of (point_id 1 1 2) far ∷ say end_lane_of tt ∷ say end_segment tt ∷ rest

  abbrev pub yard-lines : List (Statement N)
  yard-lines = lines_with 2 2 (say end_file_of tt ∷ [])

  is-house : house_network yard_a ≡ yard-lines
  unfolding house_network file_options house_segment segment_options house_lane lane_options numbered
  is-house = refl

  pub good : GoodNetwork yard_a
  good = omega arith

  -- the lines spell the network, and are accepted
  pub spelled : SpellsNetwork yard_a yard-lines
  spelled = rw is-house at (network-written yard_a good)

  pub taken : Accepts (rndf N) (at (rndf N) name_due) yard-lines
  taken = network-complete yard_a yard-lines spelled

  pub its-tables : tables yard_a
      ≡ record {
        file = record { name = yard-name; version = none; date = none };
        segments = record { first_lane = 0; lanes = 1; name = none } ∷ [];
        lanes = record { first_point_of = 0; points = 2; width = 65535; left = 0; right = 0 } ∷ [];
        zones = [];
        spots = [];
        points = near ∷ far ∷ [];
        checkpoints = record { number = 7; point = 1 } ∷ [];
        stops = [];
        exits = record { point = 1; entry = 0 } ∷ [];
      }
  unfolding tables_with
  its-tables = refl

  abbrev refusal : List (Statement N) → Option (ℕ × ℕ)
  refusal = refusal-from (rndf N) 1 (at (rndf N) name_due)

  -- 01: "exit from 1.1.3: refused 1 9 9"
  pub exit_from_3 : refusal (lines_with 2 3 (say end_file_of tt ∷ [])) ≡ some (9, 9)
  unfolding refusal-from step guard
  exit_from_3 = refl

  -- 01: "`num_waypoints` 3: refused 1 12 5; 1: refused 1 8 9"
  pub three_waypoints : refusal (lines_with 3 2 (say end_file_of tt ∷ [])) ≡ some (12, 5)
  unfolding refusal-from step guard
  three_waypoints = refl

  pub one_waypoint : refusal (lines_with 1 2 (say end_file_of tt ∷ [])) ≡ some (8, 9)
  unfolding refusal-from step guard
  one_waypoint = refl

  -- 01: "without `end_file`": every line is taken, and the end is not reached; the empty RNDF likewise
  pub without_end : (refusal (lines_with 2 2 []) ≡ none) × (run (rndf N) (at (rndf N) name_due) (lines_with 2 2 []) ≡ next (inside (Rattle.grammar.specs.Places.part_due 2 0 0) []))
  unfolding refusal-from run step guard
  without_end = (refl, refl)

  pub empty : run (rndf N) (at (rndf N) name_due) [] ≡ next (inside name_due [])
  unfolding run
  empty = refl

  -- 01: "entry 1.1.3: .. 12": it is no declared point; yard A's own entry is
  pub sound : Sound yard_a
  sound = record { entries = (waypoint _ _ first first (record { low = omega arith; high = omega arith }), tt); numbers = ((λ a. a), tt) }

  one-of-one : {A : Type 0} {a b : A} → Nth 1 a (b ∷ []) → a ≡ b
  one-of-one first = refl
  one-of-one {A = A} {a = a} {b = b} (later x5) = elim x5 [ ]

  pub entry-3 : Declared (yard (point_id 1 1 3)) (point_id 1 1 3) → ⊥
  entry-3 (waypoint s a x y z) = let p = one-of-one x in let q = one-of-one (subst-lanes p y) in let h : 3 ≤ 2 = rw q at z.high in omega arith
    where
      subst-lanes : {s : Segment N} {a : Lane} → s ≡ record { name = none; lanes = road (near ∷ far ∷ []) 2 (point_id 1 1 3) ∷ [] } → Nth 1 a s.lanes → Nth 1 a (road (near ∷ far ∷ []) 2 (point_id 1 1 3) ∷ [])
      subst-lanes p y = rw p at y
  entry-3 (border i z y x n b) = omega arith

  -- ## The mission
  abbrev pub round : ℕ → Mission N
  round g = record { name = round-name; rndf = yard-name; version = none; date = none; goals = g ∷ []; limits = record { id = 1; minimum = 0; maximum = 15 } ∷ [] }

  abbrev orders-with : ℕ → ℕ → List (M.Statement N)
  orders-with low high = M.say M.MDF_name_of round-name ∷ M.say M.RNDF yard-name ∷ M.say M.checkpoints tt ∷ M.say M.num_checkpoints 1 ∷ M.say M.goal 7 ∷ M.say M.end_checkpoints tt ∷ M.say M.speed_limits tt
      ∷ M.say M.num_speed_limits 1 ∷ M.say M.limit (record { id = 1; minimum = low; maximum = high }) ∷ M.say M.end_speed_limits tt ∷ M.say M.end_file_of tt ∷ []

  house-round : house_mission (round 7) ≡ orders-with 0 15
  unfolding house_mission mission_options
  house-round = refl

  pub good_round : GoodMission (round 7)
  good_round = omega arith

  pub round-spelled : SpellsMission (round 7) (orders-with 0 15)
  round-spelled = rw house-round at (mission-written (round 7) good_round)

  pub round-taken : Accepts (mdf N) (at (mdf N) M-at.name_due) (orders-with 0 15)
  round-taken = mission-complete (round 7) (orders-with 0 15) round-spelled

  -- 01: "limit `1>10>5`: refused 2 9 9"
  pub upside_down : refusal-from (mdf N) 1 (at (mdf N) M-at.name_due) (orders-with 10 5) ≡ some (9, 9)
  unfolding refusal-from step guard
  upside_down = refl

  pub fits : MissionFits yard_a (round 7)
  fits = record { name = refl; goals = (inl refl, tt); known = omega arith; once = ((λ a. a), tt); all = λ i b. inl (omega arith) }

  -- 01: "goal 8: .. 15": it is no checkpoint of yard A
  pub goal_8 : MissionFits yard_a (round 8) → ⊥
  goal_8 f = go f.goals.0
    where
      go : (◌≡◌ {A = ℕ} 8 7) ⊎ ⊥ → ⊥
      go (inl e) = omega arith
      go (inr x) = x
