-- A network, or a mission, without its date: it keeps the ranges, its names are names, and what is the same is the same without it. Assumes nothing.
use mathlib.Core.Path.{◌≡◌, refl, sym, ap, ◌∙◌}
use mathlib.Core.List.{List, [], ◌∷◌, ◌++◌, map}
use mathlib.Core.Option.{Option, none, some}
use Prim.Native.Nat.{ℕ, zero, suc}
use native.Mathlib.Omega.{arith}
use Rattle.line.specs.Content.{Field}
use Rattle.law.specs.Tables.{Lent, lane_size, zone_size, the_row_of, all_lanes, first_zone_point, first_point_of, exit_rows, holding, filled}
use Rattle.law.specs.Along.{along}
use Rattle.grammar.specs.Network.{Network}
use Rattle.grammar.specs.Mission.{Mission, GoodMission}
use Rattle.grammar.specs.HouseOrder.{GoodNetwork}
use Rattle.grammar.specs.Names.{perhaps_name, network_named, mission_named}
use Rattle.text.specs.Spelling.{bytes_of}
use Rattle.house_text.specs.House.{undated, mission_undated}
use Rattle.house_text.specs.Names.{NetworkNames, MissionNames}

pub undated-good : {N : Type 0} (n : Network N) → GoodNetwork n → GoodNetwork (undated n)
undated-good n g = record { some-segment = g.some-segment; count = g.count; segments = g.segments; zones = g.zones }

pub mission-undated-good : {N : Type 0} (m : Mission N) → GoodMission m → GoodMission (mission_undated m)
mission-undated-good m g = record { some_goals = g.some_goals; goals = g.goals; some_limits = g.some_limits; limits = g.limits }

pub undated-names : (n : Network Field) → NetworkNames n → NetworkNames (undated n)
undated-names n k = record { name = k.name; version = k.version; date = tt; segments = k.segments; zones = k.zones }

pub mission-undated-names : (m : Mission Field) → MissionNames m → MissionNames (mission_undated m)
mission-undated-names m k = record { name = k.name; rndf = k.rndf; version = k.version; date = tt }

-- ## Names by their bytes
pub undated-named : (n : Network Field) → network_named bytes_of (undated n) ≡ undated (network_named bytes_of n)
unfolding network_named
undated-named n = refl

pub undated-same : (n n' : Network Field) → network_named bytes_of n ≡ network_named bytes_of n' → network_named bytes_of (undated n) ≡ network_named bytes_of (undated n')
undated-same n n' e = undated-named n ∙ ap undated e ∙ sym (undated-named n')

pub mission-undated-named : (m : Mission Field) → mission_named bytes_of (mission_undated m) ≡ mission_undated (mission_named bytes_of m)
unfolding mission_named
mission-undated-named m = refl

pub mission-undated-same : (m m' : Mission Field) → mission_named bytes_of m ≡ mission_named bytes_of m' → mission_named bytes_of (mission_undated m) ≡ mission_named bytes_of (mission_undated m')
mission-undated-same m m' e = mission-undated-named m ∙ ap mission_undated e ∙ sym (mission-undated-named m')

-- what is the same as something without its date has none
is_none : {A B : Type 0} (f : A → B) (v : Option A) → perhaps_name f v ≡ none → v ≡ none
is_none f none e = refl
is_none f (some a) e = absurd (let z : ◌≡◌ {A = ℕ} 0 1 = cc in omega arith)

pub no-date : (n n' : Network Field) → network_named bytes_of n ≡ network_named bytes_of (undated n') → n.date ≡ none
unfolding network_named
no-date n n' e = is_none bytes_of n.date (ap (λ a. a.date) e)

pub no-mission-date : (m m' : Mission Field) → mission_named bytes_of m ≡ mission_named bytes_of (mission_undated m') → m.date ≡ none
unfolding mission_named
no-mission-date m m' e = is_none bytes_of m.date (ap (λ a. a.date) e)

-- ## Rows. An entry's row is found by cases, so that it is the same has to be said
first-point-undated : (n : Network Field) (x y : ℕ) → first_point_of (undated n) x y ≡ first_point_of n x y
first-point-undated n x zero = refl
first-point-undated n x (suc y) = refl

abbrev exits_by : Network Field → ((x y : ℕ) → ℕ) → List (List ℕ)
exits_by n first_of =
    along lane_size (λ first a. map (λ e. the_row_of first e.waypoint ∷ the_row_of (first_of e.entry.x e.entry.y) e.entry.z ∷ []) a.exits) 0 (all_lanes n)
    ++ along zone_size (λ first z. map (λ e. the_row_of first e.waypoint ∷ the_row_of (first_of e.entry.x e.entry.y) e.entry.z ∷ []) z.border.exits) (first_zone_point n) n.zones

pub undated-exits : (n : Network Field) → exit_rows (undated n) ≡ exit_rows n
undated-exits n = λ i. exits_by n (λ x y. first-point-undated n x y i)

pub undated-filled : (n : Network Field) (t : Lent) → filled (undated n) t ≡ filled n t
undated-filled n t = λ i. record { segments = (filled n t).segments; lanes = (filled n t).lanes; zones = (filled n t).zones; spots = (filled n t).spots; points = (filled n t).points; checkpoints = (filled n t).checkpoints; stops = (filled n t).stops; exits = holding 0 (undated-exits n i) t.exits }
