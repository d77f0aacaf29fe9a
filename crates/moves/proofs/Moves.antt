-- The laws of specs/Moves that the proofs of the code cite. Assumes nothing.
use mathlib.Core.Path.{◌≡◌, refl, sym, ap, ◌∙◌}
use mathlib.Core.Bool.{true, false}
use Prim.Native.Nat.{ℕ, zero, suc, ◌+◌, ◌-◌, ◌≤◌, ◌<◌}
use native.Mathlib.Omega.{arith}
use mathlib.Core.List.{List}
use borrow.Author.Tests.{lt-ltb, le-ltb}
use Rattle.rows.specs.Strides.{exit_stride}
use Rattle.moves.specs.declared.Part.{Part}
use Rattle.moves.specs.Halving.{first_word}
use Rattle.moves.specs.Moves.{part, part_before, goes, leads_from}

-- ## The part in the row before
pub none_before : (part_at : ℕ → Part) (row : ℕ) → row ≡ 0 → part_before part_at row ≡ part 0 0
none_before part_at row e = ap (part_before part_at) e

pub one-before : (part_at : ℕ → Part) (row : ℕ) → (row ≡ 0 → ⊥) → part_before part_at row ≡ part_at (row - 1)
one-before part_at zero h = absurd (h refl)
one-before part_at (suc row) h = ap part_at (let e : row ≡ suc row - 1 = omega arith in e)

-- ## The loop over the exits of a part
module _ (exits : List ℕ) (behind a b : ℕ) where
  -- none is left, or the part's last is passed
  pub none_left : (row rows : ℕ) → rows ≤ row → leads_from exits behind a b row (rows - row) ≡ false
  unfolding leads_from
  none_left row rows h = ap (leads_from exits behind a b row) (let e : rows - row ≡ 0 = omega arith in e) ∙ nothing
    where
      nothing : leads_from exits behind a b row 0 ≡ false
      nothing = refl

  module _ (row rows : ℕ) (more : row < rows) where
    left_is : rows - row ≡ suc (rows - suc row)
    left_is = omega arith

    pub passed : behind ≤ first_word exits exit_stride row → leads_from exits behind a b row (rows - row) ≡ false
    unfolding leads_from
    passed h = rw (left_is, le-ltb (first_word exits exit_stride row) behind h)

    pub this-one : first_word exits exit_stride row < behind → goes exits row a b ≡ true → leads_from exits behind a b row (rows - row) ≡ true
    unfolding leads_from
    this-one h e = rw (left_is, lt-ltb (first_word exits exit_stride row) behind h, e)

    pub other-one : first_word exits exit_stride row < behind → goes exits row a b ≡ false → leads_from exits behind a b (row + 1) (rows - (row + 1)) ≡ leads_from exits behind a b row (rows - row)
    unfolding leads_from
    other-one h e = (let s : row + 1 ≡ suc row = omega arith in λ i. leads_from exits behind a b (s i) (rows - s i)) ∙ rw (left_is, lt-ltb (first_word exits exit_stride row) behind h, e)
