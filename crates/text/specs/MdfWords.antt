-- Executable: how the statements of an MDF are made out. Assumes nothing.
use Rattle.std.specs.Prelude.{List, [], ◌∷◌, ℕ}
use Rattle.std.proofs.Math.Option.{Option}
use Rattle.terms.specs.Ascii.{Bytes}
use Rattle.line.specs.Content.{Field}
use Rattle.word.specs.Keywords.{mdf_keywords}
use Rattle.word.specs.Number.{index_of}
use Rattle.grammar.specs.MissionStatements.{Kind, Says, orders, MDF_name_of, RNDF, format_version_of, creation_date_of, checkpoints, num_checkpoints, end_checkpoints, speed_limits, num_speed_limits, end_speed_limits, end_file_of, goal, limit}
use Rattle.grammar.specs.PlaceRows.{mission_kinds, mission_kind_row}
use Rattle.text.specs.KeywordRows.{of_row}
use Rattle.text.specs.Judge.{Sort, a_name, an_integer, Vals, Lexis}

abbrev pub word_at : ℕ → Option Bytes
word_at i = of_row 11 mdf_keywords [] i

abbrev pub kind_at_of : ℕ → Option Kind
kind_at_of i = of_row 11 mission_kinds limit i

abbrev pub mdf_sorts : Kind → List Sort
mdf_sorts MDF_name_of = a_name ∷ []
mdf_sorts RNDF = a_name ∷ []
mdf_sorts format_version_of = a_name ∷ []
mdf_sorts creation_date_of = a_name ∷ []
mdf_sorts checkpoints = []
mdf_sorts num_checkpoints = an_integer ∷ []
mdf_sorts end_checkpoints = []
mdf_sorts speed_limits = []
mdf_sorts num_speed_limits = an_integer ∷ []
mdf_sorts end_speed_limits = []
mdf_sorts end_file_of = []
mdf_sorts goal = an_integer ∷ []
mdf_sorts limit = an_integer ∷ an_integer ∷ an_integer ∷ []

abbrev pub mdf_make : (k : Kind) → Vals (mdf_sorts k) → Says Field k
mdf_make MDF_name_of v = v.0
mdf_make RNDF v = v.0
mdf_make format_version_of v = v.0
mdf_make creation_date_of v = v.0
mdf_make checkpoints v = tt
mdf_make num_checkpoints v = v.0
mdf_make end_checkpoints v = tt
mdf_make speed_limits v = tt
mdf_make num_speed_limits v = v.0
mdf_make end_speed_limits v = tt
mdf_make end_file_of v = tt
mdf_make goal v = v.0
mdf_make limit v = record { id = v.0; minimum = v.1.0; maximum = v.1.1.0 }

abbrev pub mdf_lexis : Lexis (orders Field)
mdf_lexis = record { keyword = λ k. word_at (mission_kind_row k); sorts = mdf_sorts; make = mdf_make; lookup = λ w. kind_at_of (index_of w mdf_keywords) }
