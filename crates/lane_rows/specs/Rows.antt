-- 01: "Each lane fills the point table from its first row on, and touches no row before it." Said of the walk over an RNDF's lines, and of a perimeter and a spot too. Assumes nothing.
use Rattle.std.specs.Prelude.{◌≡◌, List, ◌∷◌, ℕ, ◌*◌, take, ℤ}
use Rattle.terms.specs.Ascii.{Bytes}
use Rattle.grammar.specs.Editions.{Edition}
use Rattle.statement.specs.declared.Statement.{Statement}
use Rattle.statement.specs.declared.Statement.TheVariants as st
use Rattle.place.specs.declared.Place.{Place}
use Rattle.progress.specs.After.{next_point_of}
use Rattle.judge.specs.Judging.{said, line}
use Rattle.edition_judge.specs.EditionLine.{judging_in}
use Rattle.rows.specs.Strides.{point_stride}
use Rattle.walk.specs.Standing.{place}
use Rattle.network.specs.Storing.{Memory}
use Rattle.network.specs.Reading.{put}
use Rattle.network.specs.Reaching.{reached, reaching}

-- the lines that open a part with points: "lane", "perimeter", "spot"
pub data OpensPart : Statement → Type 0 where
  a_lane : (m n : ℕ) → OpensPart (st.Lane m n)
  a_perimeter : (m n : ℕ) → OpensPart (st.Perimeter m n)
  a_spot : (m n : ℕ) → OpensPart (st.Spot m n)

-- the first row of a part that is opened: the one behind all points so far
abbrev pub first_row : Memory → ℕ
first_row before = next_point_of before.so_far

abbrev pub rows_before : ℕ → Memory → List ℤ
rows_before row m = take (row * point_stride) m.points

-- `before`: what a reader has at a place, before the line that opens a part
module _ (e : Edition) (p : Place) (before : Memory) (start i : ℕ) (opening : Bytes) where
  -- the part's points go from its first row on
  abbrev pub FromItsFirstRow : Statement → Type 0
  FromItsFirstRow s = ((put (place start i opening) s before).so_far.first ≡ first_row before) × ((put (place start i opening) s before).so_far.within ≡ 0)

  -- `after`: behind that line and any lines that follow it, to the part's end word, or further
  abbrev pub NoRowBefore : Type 0
  NoRowBefore = (inside : List Bytes) (r : Place) (after : Memory) (j : ℕ) → reaching e p before start i (opening ∷ inside) ≡ reached r after j → rows_before (first_row before) after ≡ rows_before (first_row before) before

  pub record FillsFrom (s : Statement) : Type 0 where
    pub opened : FromItsFirstRow s
    pub untouched : NoRowBefore

abbrev pub FillsFromItsFirstRow : Type 0
FillsFromItsFirstRow = (e : Edition) (p q : Place) (before : Memory) (start i : ℕ) (opening : Bytes) (s : Statement) → line (judging_in e) opening start p ≡ said s q → OpensPart s → FillsFrom e p before start i opening s
