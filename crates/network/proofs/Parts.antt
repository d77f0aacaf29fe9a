-- A row stored in the part of a table that starts at a row is the row stored in the whole table. Assumes nothing.
use mathlib.Core.Path.{◌≡◌, refl, sym, ap, ap₂, ◌∙◌}
use mathlib.Core.List.{List, ◌++◌, append_assoc}
use mathlib.Core.Bool.{Bool, true, false}
use Prim.Native.Nat.{ℕ, ◌+◌, ◌*◌, ◌<◌, ◌≤◌}
use native.Mathlib.Omega.{arith}
use lib.ListN.{length, take, drop, take-append-drop, length-drop}
use lib.Seq.{drop-drop, take-add}
use lib.Dec.{leb, ltb}
use lib.IntN.{ℤ}
use borrow.Author.Tests.{leb-true, leb-false, ltb-true, ltb-false}
use Rattle.terms.specs.Words.{pick}
use Rattle.rows.specs.declared.PointRow.{PointRow}
use Rattle.rows.specs.Lay.{rows_of, put_row_of}
use Rattle.rows.specs.Columns.{point_words_of}
use Rattle.rows.specs.Strides.{point_stride}
use Rattle.rows.proofs.Lay.{row_fits, fits-row, put-inside, put-outside}
use Rattle.network.specs.Storing.{store_part}
use lib.Dec.{lit<}

module _ (t : List ℤ) (first within : ℕ) (words : List ℤ) where
  abbrev behind : List ℤ
  behind = drop (first * point_stride) t

  -- inside the part
  inside : first * point_stride ≤ length t → within < rows_of (length behind) point_stride → take (first * point_stride) t ++ put_row_of point_stride behind within words ≡ put_row_of point_stride t (first + within) words
  inside h i =
      let a = row_fits (length behind) point_stride within i in
      let b = length-drop (first * point_stride) t in
      let j : first + within < rows_of (length t) point_stride = fits-row (length t) point_stride (first + within) (lit< tt) (omega arith) in
      let k : (first + within) * point_stride ≡ first * point_stride + within * point_stride = omega arith in
      let m : first * point_stride + (within * point_stride + point_stride) ≡ (first + within) * point_stride + point_stride = omega arith in
      let front : take (first * point_stride) t ++ take (within * point_stride) behind ≡ take ((first + within) * point_stride) t = sym (take-add (first * point_stride) (within * point_stride) t) ∙ ap (λ (n : ℕ). take n t) (sym k) in
      let back : drop (within * point_stride + point_stride) behind ≡ drop ((first + within) * point_stride + point_stride) t = drop-drop (within * point_stride + point_stride) (first * point_stride) t ∙ ap (λ (n : ℕ). drop n t) m in
      ap (λ (l : List ℤ). take (first * point_stride) t ++ l) (put-inside point_stride behind within words i)
      ∙ sym (append_assoc (take (first * point_stride) t) (take (within * point_stride) behind ++ words) (drop (within * point_stride + point_stride) behind))
      ∙ ap (λ (l : List ℤ). l ++ drop (within * point_stride + point_stride) behind) (sym (append_assoc (take (first * point_stride) t) (take (within * point_stride) behind) words))
      ∙ ap₂ (λ (x y : List ℤ). (x ++ words) ++ y) front back
      ∙ sym (put-inside point_stride t (first + within) words j)

  -- no such row, in the part and in the whole
  outside : first * point_stride ≤ length t → rows_of (length behind) point_stride ≤ within → take (first * point_stride) t ++ put_row_of point_stride behind within words ≡ put_row_of point_stride t (first + within) words
  outside h i = go (ltb (first + within) (rows_of (length t) point_stride)) refl
    where
      go : (b : Bool) → ltb (first + within) (rows_of (length t) point_stride) ≡ b → take (first * point_stride) t ++ put_row_of point_stride behind within words ≡ put_row_of point_stride t (first + within) words
      go true e =
          let a = row_fits (length t) point_stride (first + within) (ltb-true (first + within) (rows_of (length t) point_stride) e) in
          let b = length-drop (first * point_stride) t in
          let j = fits-row (length behind) point_stride within (lit< tt) (omega arith) in
          absurd (omega arith)
      go false e =
          ap (λ (l : List ℤ). take (first * point_stride) t ++ l) (put-outside point_stride behind within words i)
          ∙ take-append-drop (first * point_stride) t
          ∙ sym (put-outside point_stride t (first + within) words (ltb-false (first + within) (rows_of (length t) point_stride) e))

  -- the part starts behind the table
  beyond : length t < first * point_stride → t ≡ put_row_of point_stride t (first + within) words
  beyond h = go (ltb (first + within) (rows_of (length t) point_stride)) refl
    where
      go : (b : Bool) → ltb (first + within) (rows_of (length t) point_stride) ≡ b → t ≡ put_row_of point_stride t (first + within) words
      go true e = let a = row_fits (length t) point_stride (first + within) (ltb-true (first + within) (rows_of (length t) point_stride) e) in absurd (omega arith)
      go false e = sym (put-outside point_stride t (first + within) words (ltb-false (first + within) (rows_of (length t) point_stride) e))

  part-or-not : pick (leb (first * point_stride) (length t)) (take (first * point_stride) t ++ put_row_of point_stride behind within words) t ≡ put_row_of point_stride t (first + within) words
  part-or-not = go (leb (first * point_stride) (length t)) refl
    where
      row : (b : Bool) → first * point_stride ≤ length t → ltb within (rows_of (length behind) point_stride) ≡ b → take (first * point_stride) t ++ put_row_of point_stride behind within words ≡ put_row_of point_stride t (first + within) words
      row true h e = inside h (ltb-true within (rows_of (length behind) point_stride) e)
      row false h e = outside h (ltb-false within (rows_of (length behind) point_stride) e)

      go : (b : Bool) → leb (first * point_stride) (length t) ≡ b → pick b (take (first * point_stride) t ++ put_row_of point_stride behind within words) t ≡ put_row_of point_stride t (first + within) words
      go true e = row (ltb within (rows_of (length behind) point_stride)) (leb-true (first * point_stride) (length t) e) refl
      go false e = beyond (leb-false (first * point_stride) (length t) e)

-- THE LAW, for every table, also where the part starts behind it: then nothing is stored in either
pub part-is : (t : List ℤ) (first within : ℕ) (a : PointRow) → store_part t first within a ≡ put_row_of point_stride t (first + within) (point_words_of a)
unfolding store_part
part-is t first within a = part-or-not t first within (point_words_of a)
