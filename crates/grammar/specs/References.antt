-- When a mission fits a network, for any kind of names (law/specs/Faults: for names with their bytes). Assumes nothing.
use Rattle.std.specs.Prelude.{◌≡◌, List, ◌++◌, map, ℕ}
use Rattle.terms.specs.Words.{Each, Among, Between}
use Rattle.grammar.specs.Network.{Exit, Network}
use Rattle.grammar.specs.Tables.{gather, all_lanes}
use Rattle.grammar.specs.Mission.{Mission}
pub use Rattle.law.specs.Faults.{Nth, first, later, Different, Declared, waypoint, border, all_numbers, Sound, parts}

module _ {N : Type 0} where
  -- in file order
  abbrev pub all_exits : Network N → List Exit
  all_exits n = gather (λ a. a.exits) (all_lanes n) ++ gather (λ z. z.border.exits) n.zones

  -- 01, refusals 14 to 18: "MDF's RNDF name is not this RNDF's"; "goal not a checkpoint of the RNDF"; "limit's id not in the RNDF"; "limit's id already given"; "some id has no limit". Names are compared as they are: to be asked of names that are bytes, not of places in two texts.
  pub record MissionFits (n : Network N) (m : Mission N) : Type 0 where
    pub name : m.rndf ≡ n.name
    pub goals : Each (λ g. Among g (all_numbers n)) m.goals
    pub known : Each (λ a. Between 1 (parts n) a.id) m.limits
    pub once : Different (map (λ a. a.id) m.limits)
    pub all : (i : ℕ) → Between 1 (parts n) i → Among i (map (λ a. a.id) m.limits)
