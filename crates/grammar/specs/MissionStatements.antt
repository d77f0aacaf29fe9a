-- The statements of an MDF: their kinds, by keyword, and what the fields say. Document 01, "The order of an MDF". Assumes nothing.
use Rattle.std.specs.Prelude.{List, ℕ}
use Rattle.grammar.specs.Language.{Lang, S, all_of}
use Rattle.grammar.specs.Language as Language
pub use Rattle.law.specs.Network.{Limit}

-- the keywords; `goal` and `limit` are lines that begin with a digit and have none
pub data Kind : Type 0 where
  MDF_name_of RNDF format_version_of creation_date_of : Kind
  checkpoints num_checkpoints end_checkpoints speed_limits num_speed_limits end_speed_limits end_file_of goal limit : Kind
  deriving Discrete as Kind-discrete

-- N: what a name is
module _ (N : Type 0) where
  abbrev pub Says : Kind → Type 0
  Says MDF_name_of = N
  Says RNDF = N
  Says format_version_of = N
  Says creation_date_of = N
  Says checkpoints = Unit {0}
  Says num_checkpoints = ℕ
  Says end_checkpoints = Unit {0}
  Says speed_limits = Unit {0}
  Says num_speed_limits = ℕ
  Says end_speed_limits = Unit {0}
  Says end_file_of = Unit {0}
  Says goal = ℕ
  Says limit = Limit

  abbrev pub orders : Lang
  orders = record { Kind = Kind; Pay = Says; disc = Kind-discrete }

  abbrev pub Statement : Type 0
  Statement = S orders

module _ {N : Type 0} where
  -- a keyword and what it says
  abbrev pub say : (k : Kind) → Says N k → Statement N
  say = Language.say (orders N)

  -- what the statements of one kind say, in their order
  abbrev pub of_kind : (k : Kind) → List (Statement N) → List (Says N k)
  of_kind = all_of (orders N)

  -- nothing but statements of these kinds
  abbrev pub Only : List Kind → List (Statement N) → Type 0
  Only = Language.Only (orders N)
