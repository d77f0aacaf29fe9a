-- Whole tables: rows stored one by one into a cleared slice are the table of these rows; a cleared table reads as nothing but zero. Assumes nothing.
pub use Rattle.std.proofs.lemmas.List.{drop-replicate, take-replicate}
use mathlib.Core.Path.{◌≡◌, refl, sym, ap, ◌∙◌}
use mathlib.Core.List.{List, [], ◌∷◌, ◌++◌, append_assoc}
use Prim.Native.Nat.{ℕ, zero, suc, ◌+◌, ◌-◌, ◌*◌, ◌<◌, ◌≤◌}
use native.Mathlib.Nat.{suc-mul, mul-le-mul_right}
use native.Mathlib.Omega.{arith}
use lib.ListN.{length, get_or, take, drop, replicate, length-append, length-drop, length-replicate}
use lib.Seq.{take_at, drop-drop, drop-append-add}
use Rattle.rows.specs.Lay.{rows_of, row_at, put_row_of}
use Rattle.rows.specs.Table.{flat, table_of, put_rows}
use Rattle.rows.proofs.Lay.{row_fits, fits-row, row_inside, put-inside, length-put}

-- every row of a cleared table is zero
pub row-cleared : {A : Type 0} (stride n row : ℕ) (nought : A) → row < rows_of n stride → row_at stride (replicate n nought) row ≡ replicate stride nought
row-cleared stride n row nought h =
    let f = row_fits n stride row h in
    let l = length-replicate n nought in
    let i : row < rows_of (length (replicate n nought)) stride = rw l h in
    row_inside stride (replicate n nought) row i ∙ ap (take stride) (drop-replicate (row * stride) n nought) ∙ take-replicate stride (n - row * stride) nought (omega arith)

module _ {R X : Type 0} (stride : ℕ) (words : R → List X) (some : 0 < stride) (long : (v : R) → length (words v) ≡ stride) where
  pub length-flat : (rs : List R) → length (flat words rs) ≡ length rs * stride
  unfolding flat
  length-flat [] = let e : 0 ≡ 0 * stride = omega arith in e
  length-flat (v ∷ rs) =
      let a = length-append (words v) (flat words rs) in
      let b = length-flat rs in
      let c = long v in
      let d = suc-mul (length rs) stride in
      omega arith

  -- a store behind a front of whole rows
  put-behind : (front old : List X) (at : ℕ) (v : R) → length front ≡ at * stride → stride ≤ length old → put_row_of stride (front ++ old) at (words v) ≡ (front ++ words v) ++ drop stride old
  put-behind front old at v e h =
      let a = length-append front old in
      let i : at < rows_of (length (front ++ old)) stride = fits-row (length (front ++ old)) stride at some (omega arith) in
      let k : at * stride + stride ≡ length front + stride = omega arith in
      put-inside stride (front ++ old) at (words v) i
      ∙ ap (λ (l : List X). (l ++ words v) ++ drop (at * stride + stride) (front ++ old)) (take_at front old (at * stride) e)
      ∙ ap (λ (l : List X). (front ++ words v) ++ l) (ap (λ (n : ℕ). drop n (front ++ old)) k ∙ drop-append-add front old stride)

  -- rows stored behind a front of whole rows: their words, and behind them what was there
  pub put-rows-behind : (front old : List X) (at : ℕ) (rs : List R) → length front ≡ at * stride → length rs * stride ≤ length old
      → put_rows stride words (front ++ old) at rs ≡ front ++ (flat words rs ++ drop (length rs * stride) old)
  unfolding flat put_rows
  put-rows-behind front old at [] e h = ap (λ (n : ℕ). front ++ drop n old) (let z : 0 ≡ 0 * stride = omega arith in z)
  put-rows-behind front old at (v ∷ rs) e h =
      let s = suc-mul (length rs) stride in
      let t = suc-mul at stride in
      let a = length-append front (words v) in
      let b = long v in
      let d = length-drop stride old in
      let k : stride + length rs * stride ≡ suc (length rs) * stride = omega arith in
      ap (λ (l : List X). put_rows stride words l (suc at) rs) (put-behind front old at v e (omega arith))
      ∙ put-rows-behind (front ++ words v) (drop stride old) (suc at) rs (omega arith) (omega arith)
      ∙ append_assoc front (words v) (flat words rs ++ drop (length rs * stride) (drop stride old))
      ∙ ap (λ (l : List X). front ++ l) (sym (append_assoc (words v) (flat words rs) (drop (length rs * stride) (drop stride old))))
      ∙ ap (λ (l : List X). front ++ ((words v ++ flat words rs) ++ l)) (drop-drop (length rs * stride) stride old ∙ ap (λ (n : ℕ). drop n old) k)

  -- A FILL OF A CLEARED TABLE that has room is the table of these rows
  pub put-rows-cleared : (nought : X) (n : ℕ) (rs : List R) → length rs * stride ≤ n → put_rows stride words (replicate n nought) 0 rs ≡ table_of nought words n rs
  unfolding table_of
  put-rows-cleared nought n rs h =
      let l = length-replicate n nought in
      let z : 0 ≡ 0 * stride = omega arith in
      let k : length rs * stride ≤ length (replicate n nought) = omega arith in
      put-rows-behind [] (replicate n nought) 0 rs z k
      ∙ ap (λ (t : List X). flat words rs ++ t) (drop-replicate (length rs * stride) n nought ∙ ap (λ (i : ℕ). replicate (n - i) nought) (sym (length-flat rs)))

  -- the words of row i, wherever the rows stand one behind the other
  words-at : (rs : List R) (rest : List X) (i : ℕ) (d : R) → i < length rs → take stride (drop (i * stride) (flat words rs ++ rest)) ≡ words (get_or rs i d)
  unfolding flat
  words-at [] rest i d h = absurd (omega arith)
  words-at (v ∷ rs) rest zero d h =
      let z : 0 * stride ≡ 0 = omega arith in
      ap (λ (n : ℕ). take stride (drop n ((words v ++ flat words rs) ++ rest))) z
      ∙ ap (take stride) (append_assoc (words v) (flat words rs) rest)
      ∙ take_at (words v) (flat words rs ++ rest) stride (long v)
  words-at (v ∷ rs) rest (suc i) d h =
      let s = suc-mul i stride in
      let l = long v in
      let k : suc i * stride ≡ length (words v) + i * stride = omega arith in
      ap (λ (n : ℕ). take stride (drop n ((words v ++ flat words rs) ++ rest))) k
      ∙ ap (λ (t : List X). take stride (drop (length (words v) + i * stride) t)) (append_assoc (words v) (flat words rs) rest)
      ∙ ap (take stride) (drop-append-add (words v) (flat words rs ++ rest) (i * stride))
      ∙ words-at rs rest i d (omega arith)

  -- a table of rows is as long as what was lent, and its row i is row i
  pub length-table : (nought : X) (n : ℕ) (rs : List R) → length rs * stride ≤ n → length (table_of nought words n rs) ≡ n
  unfolding table_of
  length-table nought n rs h =
      let a = length-append (flat words rs) (replicate (n - length (flat words rs)) nought) in
      let b = length-flat rs in
      let c = length-replicate (n - length (flat words rs)) nought in
      omega arith

  pub row-of-table : (nought : X) (n : ℕ) (rs : List R) (i : ℕ) (d : R) → length rs * stride ≤ n → i < length rs → row_at stride (table_of nought words n rs) i ≡ words (get_or rs i d)
  unfolding table_of
  row-of-table nought n rs i d h l =
      let t = length-table nought n rs h in
      let m = mul-le-mul_right stride l in
      let s = suc-mul i stride in
      row_inside stride (table_of nought words n rs) i (fits-row (length (table_of nought words n rs)) stride i some (omega arith))
      ∙ words-at rs (replicate (n - length (flat words rs)) nought) i d l

  -- a loop's step: some rows, then others
  pub put-rows_append : (t : List X) (at : ℕ) (xs ys : List R) → put_rows stride words t at (xs ++ ys) ≡ put_rows stride words (put_rows stride words t at xs) (at + length xs) ys
  unfolding put_rows
  put-rows_append t at [] ys = ap (λ (i : ℕ). put_rows stride words t i ys) (let e : at ≡ at + 0 = omega arith in e)
  put-rows_append t at (v ∷ xs) ys =
      put-rows_append (put_row_of stride t at (words v)) (suc at) xs ys
      ∙ ap (λ (i : ℕ). put_rows stride words (put_rows stride words (put_row_of stride t at (words v)) (suc at) xs) i ys) (let e : suc at + length xs ≡ at + suc (length xs) = omega arith in e)

  pub length-put-rows : (t : List X) (at : ℕ) (rs : List R) → length (put_rows stride words t at rs) ≡ length t
  unfolding put_rows
  length-put-rows t at [] = refl
  length-put-rows t at (v ∷ rs) = length-put-rows (put_row_of stride t at (words v)) (suc at) rs ∙ length-put stride t at (words v) (long v)
