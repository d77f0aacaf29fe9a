-- THE TABLE: what every cell says holds of every spelling (specs/Cells), and a cell is 5 exactly where no spelling has that statement at that place; over the whole table, for the RNDF, in each edition, with L8's rule and without, and for the MDF. Assumes nothing.
use mathlib.Core.Path.{◌≡◌, refl, sym, ap, subst, ◌∙◌}
use mathlib.Core.List.{List, [], ◌∷◌, ◌++◌}
use mathlib.Core.Option.{Option, none, some}
use mathlib.Core.Bool.{Bool, true, false}
use Prim.Native.Nat.{ℕ, zero, suc, ◌<◌}
use native.Mathlib.Omega.{arith}
use lib.IntN.{pos, negsuc}
use Rattle.grammar.specs.Language.{Lang, S}
use Rattle.grammar.specs.Machine.{Machine, over, inside, refuse, Place, at, enter, step, guard, run, Accepts}
use Rattle.grammar.specs.Forms.{eq?}
use Rattle.grammar.specs.Statements.{Kind, Position, Statement, lines, point_id, double_yellow_of, solid_white_of, numbered}
use Rattle.grammar.specs.Editions.{Edition, march, december}
use Rattle.grammar.specs.Network.{Network, Lane, Under, under, SpellsNetworkBy}
use Rattle.grammar.specs.Mission.{Mission, GoodMission, SpellsMission}
use Rattle.grammar.specs.MissionStatements as M
use Rattle.grammar.specs.HouseOrder.{house_network, file_options, house_segment, segment_options, house_lane, lane_options, house_zone, zone_options, house_perimeter, perimeter_options, house_spot, spot_options, house_mission, mission_options}
use Rattle.grammar.specs.Places.{rndf_by, Base, name_due, num_segments_due, num_zones_due, first_segment_due, part_due, num_lanes_due, first_lane_due, lane_due, num_waypoints_due, first_waypoint_due, waypoint_due, num_spots_due, perimeter_due, num_perimeterpoints_due, first_perimeterpoint_due, perimeterpoint_due, spot_due, first_of_spot_due, second_of_spot_due, end_spot_due}
use Rattle.grammar.specs.MissionPlaces.{mdf}
use Rattle.grammar.specs.MissionPlaces as M-at
use Rattle.grammar.specs.PlaceTable.{rndf_table_of, mdf_table_of, cell}
use Rattle.grammar.specs.PlaceRows.{kind_row, rndf_row, rndf_stem, mission_kind_row, mdf_row, mdf_stem}
use Rattle.cells.specs.Cells.{Numbered, rndf_named, rndf_numbered, mdf_named, mdf_numbered, place_row, NoSpelling, SomeSpelling, CellHolds}
use Rattle.grammar.proofs.Tabled.{Tabled, comes-by, covers, covered, refused_5}
use Rattle.grammar.proofs.RndfTable.{rndf-tabled-by}
use Rattle.grammar.proofs.MdfTable.{mdf-tabled}
use Rattle.grammar.proofs.Written.{mission-written}
use Rattle.cells.proofs.CellLaws.{next_row, may_repeat, only-once}
use Rattle.grammar.proofs.Theorems.{network-complete-by, network-sound-by, network-refusal-by, mission-complete, mission-sound, mission-refusal}

-- a value whose spelling comes by every cell that is not 255 shows that each of these cells stands in some spelling
module _ {L : Lang} (A : Machine L) (Tb : Tabled A) {Net : Type 0} (Spells : Net → List (S L) → Type 0) (start : A.Base) (last : ℕ) (named : ℕ → ℕ) where
  abbrev table_of : Numbered A
  table_of = record { table = Tb.table; column = Tb.code; row = Tb.row; last = last; named = named }

  pub shown : (rows : ℕ) (n : Net) (w : List (S L)) → Spells n w → covers A Tb rows (at A start) w ≡ true → (i : ℕ) → i < rows → (k : L.Kind) → (cell Tb.table i (Tb.code k) ≡ 255 → ⊥) → SomeSpelling A table_of Spells start i k
  shown rows n w sp t i h k m =
      let x = covered A Tb rows (at A start) w t i h k m in
      (x.this, same k x.this.kind x.of_kind_of, record { net = n; before = x.before; behind = x.rest; leads = record { place = inside x.base x.given; came = x.came; in_row = x.place }; spelled = subst (Spells n) x.made sp })
    where
      same : (k j : L.Kind) → Tb.code j ≡ Tb.code k → j ≡ k
      same k j e = sym (Tb.coded j) ∙ ap (λ (c : ℕ). lib.ListN.get_or Tb.kinds c Tb.first) e ∙ Tb.coded k

  -- what a cell says is so, and 5 is exactly where nothing stands
  pub five-exactly : (i : ℕ) (k : L.Kind) → CellHolds A table_of Spells start i k → NoSpelling A table_of Spells start i k → cell Tb.table i (Tb.code k) ≡ 255
  five-exactly i k c never = go (eq? (cell Tb.table i (Tb.code k)) 255)
    where
      go : Dec (cell Tb.table i (Tb.code k) ≡ 255) → cell Tb.table i (Tb.code k) ≡ 255
      go (yes e) = e
      go (no m) = let x = c.some m in absurd (never x.0 x.1 x.2)

-- a cell of 255 is refused with 5, behind the end too
not_there : {L : Lang} (A : Machine L) (Tb : Tabled A) (last : ℕ) (p : Place A) (s : S L) (i : ℕ) (k : L.Kind) → cell Tb.table i (Tb.code k) ≡ 255 → place_row Tb.row last p ≡ i → s.kind ≡ k → step A p s ≡ refuse 5
unfolding step
not_there A Tb last over s i k e at_row of_kind_of = refl
not_there A Tb last (inside b g) s i k e at_row of_kind_of = refused_5 A Tb b g s (rw (at_row, of_kind_of) e)

-- ## A network and a mission that have everything, in each edition
abbrev here : Position
here = record { latitude = pos 45000000; longitude = negsuc 92999999 }

abbrev road : Lane
road = record { width = some 12; left = some double_yellow_of; right = some solid_white_of; checkpoints = record { waypoint = 2; number = 7 } ∷ []; stops = 2 ∷ []; exits = record { waypoint = 2; entry = point_id 1 1 1 } ∷ []; points = here ∷ here ∷ [] }

module _ {N : Type 0} (some-name : N) where
  abbrev everything : Network N
  everything = record {
    name = some-name;
    version = some some-name;
    date = some some-name;
    segments = record { name = some some-name; lanes = road ∷ road ∷ [] } ∷ record { name = none; lanes = road ∷ [] } ∷ [];
    zones = record {
      name = some some-name;
      border = record { exits = record { waypoint = 1; entry = point_id 1 1 1 } ∷ []; points = here ∷ here ∷ [] };
      spots = record { width = some 9; checkpoint = some (record { waypoint = 2; number = 8 }); first = here; second = here } ∷ [];
    } ∷ [];
  }

  -- its house order is taken from the first place to the end ..
  all-taken : (e : Edition) (strict : Bool) → Accepts (rndf_by N (under e strict)) (at (rndf_by N (under e strict)) name_due) (house_network everything)
  unfolding run step guard numbered house_network file_options house_segment segment_options house_lane lane_options house_zone zone_options house_perimeter perimeter_options house_spot spot_options
  all-taken march true = refl
  all-taken march false = refl
  all-taken december true = refl
  all-taken december false = refl

  -- .. and comes by every cell that is not 255
  all-cells : (e : Edition) (strict : Bool) → covers (rndf_by N (under e strict)) (rndf-tabled-by N (under e strict)) 27 (at (rndf_by N (under e strict)) name_due) (house_network everything) ≡ true
  unfolding comes-by rndf_table_of step guard numbered house_network file_options house_segment segment_options house_lane lane_options house_zone zone_options house_perimeter perimeter_options house_spot spot_options
  all-cells march true = refl
  all-cells march false = refl
  all-cells december true = refl
  all-cells december false = refl

  -- `by`: in which edition, and with L8's rule or without. 5 is asked of the grammar without it (law/specs/Faults.Follows)
  module _ (by : Under) where
    abbrev places : Machine (lines N)
    places = rndf_by N by

    abbrev table : Numbered (rndf_by N by)
    table = rndf_numbered N by

    abbrev Spells : Network N → List (Statement N) → Type 0
    Spells = SpellsNetworkBy by

    rndf-led : (n : Option Base) → rndf_named (place_row rndf_row 26 (enter places n)) ≡ rndf_stem n
    rndf-led none = refl
    rndf-led (some name_due) = refl
    rndf-led (some num_segments_due) = refl
    rndf-led (some (num_zones_due o)) = refl
    rndf-led (some (first_segment_due o z)) = refl
    rndf-led (some (part_due m (suc o) z)) = refl
    rndf-led (some (part_due m zero (suc z))) = refl
    rndf-led (some (part_due m zero zero)) = refl
    rndf-led (some (num_lanes_due m o z)) = refl
    rndf-led (some (first_lane_due m o z l)) = refl
    rndf-led (some (lane_due m o z n (suc l))) = refl
    rndf-led (some (lane_due m o z n zero)) = refl
    rndf-led (some (num_waypoints_due m o z n l)) = refl
    rndf-led (some (first_waypoint_due m o z n l w)) = refl
    rndf-led (some (waypoint_due m o z n l k (suc w))) = refl
    rndf-led (some (waypoint_due m o z n l k zero)) = refl
    rndf-led (some (num_spots_due m z)) = refl
    rndf-led (some (perimeter_due m z s)) = refl
    rndf-led (some (num_perimeterpoints_due m z s)) = refl
    rndf-led (some (first_perimeterpoint_due m z s p)) = refl
    rndf-led (some (perimeterpoint_due m z s k (suc p))) = refl
    rndf-led (some (perimeterpoint_due m z s k zero)) = refl
    rndf-led (some (spot_due m z n (suc s))) = refl
    rndf-led (some (spot_due m z n zero)) = refl
    rndf-led (some (first_of_spot_due m z n s)) = refl
    rndf-led (some (second_of_spot_due m z n s)) = refl
    rndf-led (some (end_spot_due m z n s)) = refl

    -- RNDF: every cell of the table holds of every spelling of every network
    pub rndf-cell : (i : ℕ) → i < 27 → (k : Kind) → CellHolds places table Spells name_due i k
    rndf-cell i h k =
        let Tb = rndf-tabled-by N by in
        let x = network-sound-by by (house_network everything) (all-taken by.edition by.strict) in
        record {
          five = λ e s of_kind_of x. network-refusal-by by x.before x.behind x.leads.place s 5 x.net x.leads.came (not_there places Tb 26 x.leads.place s i k e x.leads.in_row of_kind_of) x.spelled;
          some = shown places Tb Spells name_due 26 rndf_named 27 x.0 (house_network everything) x.1 (all-cells by.edition by.strict) i h k;
          next_row = next_row places Tb 26 rndf_named rndf-led Spells name_due (network-complete-by by) (network-sound-by by) i k;
          repeats = may_repeat places Tb 26 rndf_named rndf-led Spells name_due (network-complete-by by) (network-sound-by by) i k;
          once = only-once places Tb 26 rndf_named rndf-led Spells name_due (network-complete-by by) (network-sound-by by) i k;
        }

    -- a cell is 5 exactly where no spelling has that statement at that place
    pub rndf-cell_5 : (i : ℕ) → i < 27 → (k : Kind) → (cell rndf_table_of i (kind_row k) ≡ 255 → NoSpelling places table Spells name_due i k) × (NoSpelling places table Spells name_due i k → cell rndf_table_of i (kind_row k) ≡ 255)
    rndf-cell_5 i h k = let c = rndf-cell i h k in (c.five, five-exactly places (rndf-tabled-by N by) Spells name_due 26 rndf_named i k c)

  abbrev errand : Mission N
  errand = record { name = some-name; rndf = some-name; version = some some-name; date = some some-name; goals = 7 ∷ 7 ∷ []; limits = record { id = 1; minimum = 0; maximum = 15 } ∷ record { id = 2; minimum = 0; maximum = 15 } ∷ [] }

  good-errand : GoodMission errand
  good-errand = omega arith

  all-orders : covers (mdf N) (mdf-tabled N) 12 (at (mdf N) M-at.name_due) (house_mission errand) ≡ true
  unfolding comes-by mdf_table_of step guard house_mission mission_options
  all-orders = refl

  mdf-led : (n : Option M-at.Base) → mdf_named (place_row mdf_row 11 (enter (mdf N) n)) ≡ mdf_stem n
  mdf-led none = refl
  mdf-led (some M-at.name_due) = refl
  mdf-led (some M-at.RNDF_due) = refl
  mdf-led (some M-at.checkpoints_due) = refl
  mdf-led (some M-at.num_checkpoints_due) = refl
  mdf-led (some (M-at.goal_due (suc g))) = refl
  mdf-led (some (M-at.goal_due zero)) = refl
  mdf-led (some M-at.speed_limits_due) = refl
  mdf-led (some M-at.num_speed_limits_due) = refl
  mdf-led (some (M-at.limit_due (suc l))) = refl
  mdf-led (some (M-at.limit_due zero)) = refl
  mdf-led (some M-at.end_file_due) = refl

  -- MDF: the same. Editions and L8's rule are of the RNDF alone: one grammar spells every mission
  pub mdf-cell : (i : ℕ) → i < 12 → (k : M.Kind) → CellHolds (mdf N) (mdf_numbered N) SpellsMission M-at.name_due i k
  mdf-cell i h k = record {
    five = λ e s of_kind_of x. mission-refusal x.before x.behind x.leads.place s 5 x.net x.leads.came (not_there (mdf N) (mdf-tabled N) 11 x.leads.place s i k e x.leads.in_row of_kind_of) x.spelled;
    some = shown (mdf N) (mdf-tabled N) SpellsMission M-at.name_due 11 mdf_named 12 errand (house_mission errand) (mission-written errand good-errand) all-orders i h k;
    next_row = next_row (mdf N) (mdf-tabled N) 11 mdf_named mdf-led SpellsMission M-at.name_due mission-complete mission-sound i k;
    repeats = may_repeat (mdf N) (mdf-tabled N) 11 mdf_named mdf-led SpellsMission M-at.name_due mission-complete mission-sound i k;
    once = only-once (mdf N) (mdf-tabled N) 11 mdf_named mdf-led SpellsMission M-at.name_due mission-complete mission-sound i k;
  }

  pub mdf-cell_5 : (i : ℕ) → i < 12 → (k : M.Kind)
      → (cell mdf_table_of i (mission_kind_row k) ≡ 255 → NoSpelling (mdf N) (mdf_numbered N) SpellsMission M-at.name_due i k) × (NoSpelling (mdf N) (mdf_numbered N) SpellsMission M-at.name_due i k → cell mdf_table_of i (mission_kind_row k) ≡ 255)
  mdf-cell_5 i h k = let c = mdf-cell i h k in (c.five, five-exactly (mdf N) (mdf-tabled N) SpellsMission M-at.name_due 11 mdf_named i k c)
