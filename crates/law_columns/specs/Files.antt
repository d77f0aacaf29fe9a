-- Executable: the column in an RNDF, and in an MDF. Assumes nothing.
use Rattle.std.specs.Prelude.{List, [], ◌∷◌, true, ℕ, pos}
use Rattle.terms.specs.Ascii.{Bytes}
use Rattle.line.specs.Content.{Field, at}
use Rattle.grammar.specs.Editions.{Edition, march}
use Rattle.grammar.specs.Network.{under}
use Rattle.grammar.specs.Statements.{double_yellow_of, part_id, point_id}
use Rattle.grammar.specs.Statements as Rndf
use Rattle.grammar.specs.MissionStatements as Mdf
use Rattle.grammar.specs.Machine.{Place}
use Rattle.grammar.specs.Places.{rndf_by, rndf, name_due}
use Rattle.grammar.specs.MissionPlaces.{mdf}
use Rattle.grammar.specs.MissionPlaces as Mdf-at
use Rattle.text.specs.Judge.{Sort, a_name, an_integer, a_pair, a_triple, a_coordinate, a_boundary, Val, Vals}
use Rattle.text.specs.RndfWords.{rndf_sorts_in, rndf_lexis_in, rndf_sorts, rndf_lexis}
use Rattle.text.specs.MdfWords.{mdf_sorts, mdf_lexis}
use Rattle.law_columns.specs.Finding.{column_of, column_in}

-- a value of each sort, with which a permitted line goes on where one does: in an RNDF 1, 1.1.1 and 0.000000; n: the integer
abbrev pub low_value : (n : ℕ) → (s : Sort) → Val s
low_value n a_name = at 0 []
low_value n an_integer = n
low_value n a_pair = part_id 1 1
low_value n a_triple = point_id 1 1 1
low_value n a_coordinate = pos 0
low_value n (a_boundary e) = double_yellow_of

abbrev pub low_values : (n : ℕ) → (ss : List Sort) → Vals ss
low_values n [] = tt
low_values n (s ∷ ss) = (low_value n s, low_values n ss)

abbrev pub rndf_low_in : (e : Edition) (k : Rndf.Kind) → Vals (rndf_sorts_in e k)
rndf_low_in e k = low_values 1 (rndf_sorts_in e k)

abbrev pub rndf_low : (k : Rndf.Kind) → Vals (rndf_sorts k)
rndf_low = rndf_low_in march

-- in an MDF 0: a limit's minimum, and its maximum, which is then no ceiling (L1)
abbrev pub mdf_low : (k : Mdf.Kind) → Vals (mdf_sorts k)
mdf_low k = low_values 0 (mdf_sorts k)

-- of a line at a place, with the refusal n
abbrev pub the_rndf_column_of : Place (rndf Field) → (n : ℕ) → Bytes → ℕ
the_rndf_column_of = column_of (rndf Field) rndf_lexis rndf_low

abbrev pub the_mdf_column_of : Place (mdf Field) → (n : ℕ) → Bytes → ℕ
the_mdf_column_of = column_of (mdf Field) mdf_lexis mdf_low

-- of line i of a text, with the refusal n
abbrev pub rndf_column_in_of : Edition → Bytes → (i n : ℕ) → ℕ
rndf_column_in_of e = column_in (rndf_by Field (under e true)) (rndf_lexis_in e) (rndf_low_in e) name_due

abbrev pub rndf_column_of : Bytes → (i n : ℕ) → ℕ
rndf_column_of = rndf_column_in_of march

abbrev pub mdf_column_of : Bytes → (i n : ℕ) → ℕ
mdf_column_of = column_in (mdf Field) mdf_lexis mdf_low Mdf-at.name_due
