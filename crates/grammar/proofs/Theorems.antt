-- THE THEOREMS of the grammar, for the RNDF and for the MDF, from one development (Reading). N: what a name is. Assumes nothing.
use mathlib.Core.Path.{◌≡◌}
use mathlib.Core.List.{List, ◌∷◌, ◌++◌}
use mathlib.Core.Bool.{Bool, true}
use Prim.Native.Nat.{ℕ}
use Rattle.grammar.specs.Statements.{Statement}
use Rattle.grammar.specs.Editions.{march}
use Rattle.grammar.specs.Network.{Network, Under, under, SpellsNetworkBy, SpellsNetwork}
use Rattle.grammar.specs.Machine.{Accepts, at, run, step, next, refuse, Place}
use Rattle.grammar.specs.Places.{rndf_by, rndf, name_due}
use Rattle.grammar.specs.Mission.{Mission, GoodMission, SpellsMission}
use Rattle.grammar.specs.HouseOrder.{GoodNetwork, house_network, house_mission}
use Rattle.grammar.specs.MissionStatements as M
use Rattle.grammar.specs.MissionPlaces.{mdf}
use Rattle.grammar.specs.MissionPlaces as M-at
use Rattle.grammar.proofs.Written.{network-written, network-good, mission-written, mission-good}
use Rattle.grammar.proofs.Reading as R
use Rattle.grammar.proofs.MissionReading as Mission
use Rattle.grammar.proofs.NetworkReading as Network

module _ {N : Type 0} where
  -- ## RNDF, in each edition, with L8's rule and without
  module _ (by : Under) where
    -- complete: what spells a network is accepted
    pub network-complete-by : (n : Network N) (l : List (Statement N)) → SpellsNetworkBy by n l → Accepts (rndf_by N by) (at (rndf_by N by) name_due) l
    network-complete-by = R.complete (rndf_by N by) (SpellsNetworkBy by) name_due (Network.reads by N)

    -- sound: what is accepted spells a network
    pub network-sound-by : (l : List (Statement N)) → Accepts (rndf_by N by) (at (rndf_by N by) name_due) l → (n : Network N) × SpellsNetworkBy by n l
    network-sound-by = R.sound (rndf_by N by) (SpellsNetworkBy by) name_due (Network.reads by N)

    -- unique: equal statements come from one network
    pub network-unique-by : (n n' : Network N) (l l' : List (Statement N)) → SpellsNetworkBy by n l → SpellsNetworkBy by n' l' → l ≡ l' → n ≡ n'
    network-unique-by = R.unique (rndf_by N by) (SpellsNetworkBy by) name_due (Network.reads by N)

    -- viable prefix: what is not refused begins some spelling
    pub network-viable-by : (some-name : N) (l : List (Statement N)) (p : Place (rndf_by N by)) → run (rndf_by N by) (at (rndf_by N by) name_due) l ≡ next p
        → (r : List (Statement N)) × (n : Network N) × SpellsNetworkBy by n (l ++ r)
    network-viable-by a = R.viable (rndf_by N by) (SpellsNetworkBy by) name_due (Network.reads by N) (Network.Good N) (Network.cost N) (Network.goes_on by N a) tt

    -- refusal: no spelling begins with what came before and the refused statement
    pub network-refusal-by : (l r : List (Statement N)) (p : Place (rndf_by N by)) (s : Statement N) (c : ℕ) (n : Network N) → run (rndf_by N by) (at (rndf_by N by) name_due) l ≡ next p → step (rndf_by N by) p s ≡ refuse c
        → SpellsNetworkBy by n (l ++ (s ∷ r)) → ⊥
    network-refusal-by = R.refusal (rndf_by N by) (SpellsNetworkBy by) name_due (Network.reads by N)

  -- in the present edition, with it
  pub network-complete : (n : Network N) (l : List (Statement N)) → SpellsNetwork n l → Accepts (rndf N) (at (rndf N) name_due) l
  network-complete = network-complete-by (under march true)

  pub network-sound : (l : List (Statement N)) → Accepts (rndf N) (at (rndf N) name_due) l → (n : Network N) × SpellsNetwork n l
  network-sound = network-sound-by (under march true)

  pub network-unique : (n n' : Network N) (l l' : List (Statement N)) → SpellsNetwork n l → SpellsNetwork n' l' → l ≡ l' → n ≡ n'
  network-unique = network-unique-by (under march true)

  pub network-viable : (some-name : N) (l : List (Statement N)) (p : Place (rndf N)) → run (rndf N) (at (rndf N) name_due) l ≡ next p
      → (r : List (Statement N)) × (n : Network N) × SpellsNetwork n (l ++ r)
  network-viable = network-viable-by (under march true)

  pub network-refusal : (l r : List (Statement N)) (p : Place (rndf N)) (s : Statement N) (c : ℕ) (n : Network N) → run (rndf N) (at (rndf N) name_due) l ≡ next p → step (rndf N) p s ≡ refuse c
      → SpellsNetwork n (l ++ (s ∷ r)) → ⊥
  network-refusal = network-refusal-by (under march true)

  -- ## MDF
  -- complete: what spells a mission is accepted
  pub mission-complete : (n : Mission N) (l : List (M.Statement N)) → SpellsMission n l → Accepts (mdf N) (at (mdf N) M-at.name_due) l
  mission-complete = R.complete (mdf N) SpellsMission M-at.name_due (Mission.reads N)

  -- sound: what is accepted spells a mission
  pub mission-sound : (l : List (M.Statement N)) → Accepts (mdf N) (at (mdf N) M-at.name_due) l → (n : Mission N) × SpellsMission n l
  mission-sound = R.sound (mdf N) SpellsMission M-at.name_due (Mission.reads N)

  -- unique: equal statements come from one mission
  pub mission-unique : (n n' : Mission N) (l l' : List (M.Statement N)) → SpellsMission n l → SpellsMission n' l' → l ≡ l' → n ≡ n'
  mission-unique = R.unique (mdf N) SpellsMission M-at.name_due (Mission.reads N)

  -- viable prefix: what is not refused begins some spelling
  pub mission-viable : (some-name : N) (l : List (M.Statement N)) (p : Place (mdf N)) → run (mdf N) (at (mdf N) M-at.name_due) l ≡ next p
      → (r : List (M.Statement N)) × (n : Mission N) × SpellsMission n (l ++ r)
  mission-viable a = R.viable (mdf N) SpellsMission M-at.name_due (Mission.reads N) (Mission.Good N) (Mission.cost N) (Mission.goes_on N a) tt

  -- refusal: no spelling begins with what came before and the refused statement
  pub mission-refusal : (l r : List (M.Statement N)) (p : Place (mdf N)) (s : M.Statement N) (c : ℕ) (n : Mission N) → run (mdf N) (at (mdf N) M-at.name_due) l ≡ next p → step (mdf N) p s ≡ refuse c
      → SpellsMission n (l ++ (s ∷ r)) → ⊥
  mission-refusal = R.refusal (mdf N) SpellsMission M-at.name_due (Mission.reads N)

  -- ## House order: a network (mission) that keeps the ranges has one house list of statements, which spells it; what is spelled keeps the ranges
  pub network-house : (n : Network N) → GoodNetwork n → SpellsNetwork n (house_network n)
  network-house = network-written

  pub network-house-one : (n n' : Network N) → GoodNetwork n → GoodNetwork n' → house_network n ≡ house_network n' → n ≡ n'
  network-house-one n n' g g' e = network-unique n n' (house_network n) (house_network n') (network-written n g) (network-written n' g') e

  pub network_ranges : (n : Network N) (l : List (Statement N)) → SpellsNetwork n l → GoodNetwork n
  network_ranges = network-good

  pub mission-house : (n : Mission N) → GoodMission n → SpellsMission n (house_mission n)
  mission-house = mission-written

  pub mission-house-one : (n n' : Mission N) → GoodMission n → GoodMission n' → house_mission n ≡ house_mission n' → n ≡ n'
  mission-house-one n n' g g' e = mission-unique n n' (house_mission n) (house_mission n') (mission-written n g) (mission-written n' g') e

  pub mission_ranges : (n : Mission N) (l : List (M.Statement N)) → SpellsMission n l → GoodMission n
  mission_ranges = mission-good
