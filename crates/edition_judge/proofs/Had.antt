-- What the older edition has: every statement but a boundary and a number of spots, whatever it says. Assumes nothing.
use mathlib.Core.Path.{◌≡◌, refl, sym, ap, ◌∙◌}
use mathlib.Core.List.{List, [], ◌∷◌}
use mathlib.Core.Bool.{Bool, true, false}
use Prim.Native.Nat.{ℕ, zero, suc}
use native.Mathlib.Omega.{arith}
use lib.Dec.{eqb}
use borrow.Author.Tests.{eqb-true, ne_eqb}
use types.Run.{OneOf, miss}
use denote.Enum.Declared.{tag_of}
use Rattle.terms.specs.Words.{pick}
use Rattle.grammar.specs.Editions.{Edition, december, has_boundary}
use Rattle.grammar.specs.Statements.{double_yellow_of, solid_yellow_of, solid_white_of, broken_white_of}
use Rattle.statement.specs.declared.Statement.{Statement}
use Rattle.statement.specs.declared.Statement.TheVariants as st
use Rattle.statement.specs.Meaning.{Stretch, boundary, meant}
use Rattle.statement.specs.contracts.Statement.{the_type}
use Rattle.editions.specs.Bars.{too_few, bars}
use Rattle.edition_judge.specs.EditionLine.{side_bars_of, spots_bar_of, bars_of}

-- ## The arm `_`
abbrev free_keys : List ℕ
free_keys = 0 ∷ 1 ∷ 2 ∷ 3 ∷ 4 ∷ 5 ∷ 6 ∷ 7 ∷ 8 ∷ 9 ∷ 10 ∷ 11 ∷ 14 ∷ 15 ∷ 16 ∷ 17 ∷ 18 ∷ 20 ∷ 21 ∷ 22 ∷ 23 ∷ 24 ∷ 25 ∷ 26 ∷ 27 ∷ 28 ∷ 29 ∷ []

pub free : (s : Statement) → OneOf free_keys (tag_of the_type s) → bars_of december s ≡ 0
unfolding bars_of
free (st.RndfName a l) h = refl
free (st.NumSegments n) h = refl
free (st.NumZones n) h = refl
free (st.FormatVersion a l) h = refl
free (st.CreationDate a l) h = refl
free (st.Segment n) h = refl
free (st.NumLanes n) h = refl
free (st.SegmentName a l) h = refl
free st.EndSegment h = refl
free (st.Lane m n) h = refl
free (st.NumWaypoints n) h = refl
free (st.LaneWidth n) h = refl
free (st.LeftBoundary b) h = absurd (miss free_keys 12 tt h)
free (st.RightBoundary b) h = absurd (miss free_keys 13 tt h)
free (st.Checkpoint i n) h = refl
free (st.Stop i) h = refl
free (st.Exit i e) h = refl
free st.EndLane h = refl
free (st.Zone n) h = refl
free (st.NumSpots n) h = absurd (miss free_keys 19 tt h)
free (st.ZoneName a l) h = refl
free st.EndZone h = refl
free (st.Perimeter m n) h = refl
free (st.NumPerimeterpoints n) h = refl
free st.EndPerimeter h = refl
free (st.Spot m n) h = refl
free (st.SpotWidth n) h = refl
free st.EndSpot h = refl
free st.EndFile h = refl
free (st.Point i a o) h = refl

-- ## The others
-- solid_yellow is the second boundary
pub side-so : (b : ℕ) → side_bars_of b ≡ pick (has_boundary december (boundary b)) 0 8
unfolding side_bars_of boundary
side-so b = go (eqb b 1) refl
  where
    others : (x y : Bool) → ◌≡◌ {A = ℕ} (pick x 8 0) (pick (has_boundary december (pick x solid_yellow_of (pick y solid_white_of broken_white_of))) 0 8)
    others true y = refl
    others false true = refl
    others false false = refl

    go : (x : Bool) → eqb b 1 ≡ x → ◌≡◌ {A = ℕ} (pick (eqb b 2) 8 0) (pick (has_boundary december (pick x double_yellow_of (pick (eqb b 2) solid_yellow_of (pick (eqb b 3) solid_white_of broken_white_of)))) 0 8)
    go true h = ap (λ (n : ℕ). pick (eqb n 2) 8 0) (eqb-true b 1 h)
    go false h = others (eqb b 2) (eqb b 3)

pub spots_so : (n : ℕ) → spots_bar_of n ≡ too_few n
unfolding spots_bar_of
spots_so zero = refl
spots_so (suc n) = rw (ne_eqb (suc n) 0 (λ q. omega arith)) refl
