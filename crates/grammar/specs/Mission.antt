-- What an MDF says, and which statements say it. Document 01, "The order of an MDF". Assumes nothing.
use Rattle.std.specs.Prelude.{◌≡◌, List, [], ◌∷◌, ◌++◌, map, ℕ, ◌≤◌, ◌<◌, length}
use Rattle.std.proofs.Math.Option.{Option}
use Rattle.terms.specs.Words.{Each, perhaps, Between}
use Rattle.grammar.specs.Network.{largest}
use Rattle.grammar.specs.MissionStatements.{Limit, Statement, say, of_kind, Only, MDF_name_of, RNDF, format_version_of, creation_date_of, checkpoints, num_checkpoints, end_checkpoints, speed_limits, num_speed_limits, end_speed_limits, end_file_of, goal, limit}
pub use Rattle.law.specs.Network.{Mission, GoodLimit, GoodMission}

-- law/specs/Network.GoodLimit's last test
abbrev pub NotAbove : (minimum maximum : ℕ) → Type 0
NotAbove minimum maximum = 0 < maximum → minimum ≤ maximum

-- ## How a mission is spelled
module _ {N : Type 0} where
  -- 01: "options `format_version`, `creation_date`"
  pub record MissionOptions (a : Mission N) (os : List (Statement N)) : Type 0 where
    pub version : of_kind format_version_of os ≡ perhaps a.version
    pub date : of_kind creation_date_of os ≡ perhaps a.date
    pub no_other : Only (format_version_of ∷ creation_date_of ∷ []) os

  -- 01: "`MDF_name`; `RNDF` name; options ..; `checkpoints`; `num_checkpoints` > 0; so many numbers > 0; `end_checkpoints`; `speed_limits`; `num_speed_limits` > 0; so many lines ..; `end_speed_limits`; `end_file`"
  pub record SpellsMission (a : Mission N) (l : List (Statement N)) : Type 0 where
    pub options : List (Statement N)
    pub given : MissionOptions a options
    pub good : GoodMission a
    pub spelled : l ≡ say MDF_name_of a.name ∷ say RNDF a.rndf ∷ options
        ++ (say checkpoints tt ∷ say num_checkpoints (length a.goals) ∷ map (say goal) a.goals
        ++ (say end_checkpoints tt ∷ say speed_limits tt ∷ say num_speed_limits (length a.limits) ∷ map (say limit) a.limits
        ++ (say end_speed_limits tt ∷ say end_file_of tt ∷ [])))
