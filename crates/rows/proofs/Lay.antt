-- Rows in a flat table, for any type of word and any stride: what is stored is what is read, and nothing else changes.
-- Each table's laws are these (proofs/Forms.antt). Assumes nothing.
use Rattle.std.proofs.lemmas.List.{drop-take}
use mathlib.Core.Path.{◌≡◌, refl, sym, ap, ◌∙◌}
use mathlib.Core.Logic.{◌≢◌}
use mathlib.Core.List.{List, [], ◌++◌, append_assoc}
use mathlib.Core.Bool.{Bool, true, false}
use Prim.Native.Nat.{ℕ, suc, ◌+◌, ◌-◌, ◌*◌, ◌<◌, ◌≤◌}
use native.Mathlib.Nat.{suc-mul, mul-le-mul_right, div-mul-le_self, le-div_iff_mul-le}
use native.Mathlib.Omega.{arith}
use lib.ListN.{length, get_or, take, drop, length-append, length-drop}
use lib.Seq.{length-take-le, take_at, drop_at, take-append-le, drop-append-add, drop-drop, get_or-take, get_or-drop, take-take}
use lib.Dec.{ltb}
use borrow.Author.Tests.{lt-ltb, le-ltb, ltb-true, ltb-false}
use Rattle.rows.specs.Lay.{rows_of, row_at, put_row_of}

-- a row is one of the table's exactly if it lies wholly inside
pub row_fits : (len stride row : ℕ) → row < rows_of len stride → row * stride + stride ≤ len
row_fits len stride row h =
    let a = mul-le-mul_right stride h in
    let b = div-mul-le_self len stride in
    let c = suc-mul row stride in
    omega arith

pub fits-row : (len stride row : ℕ) → 0 < stride → row * stride + stride ≤ len → row < rows_of len stride
fits-row len stride row p h =
    let c = suc-mul row stride in
    let g : suc row * stride ≤ len = omega arith in
    (le-div_iff_mul-le p).1 g

module _ {A : Type 0} (stride : ℕ) (t : List A) (row : ℕ) where
  -- what is read inside and outside
  pub row_inside : row < rows_of (length t) stride → row_at stride t row ≡ take stride (drop (row * stride) t)
  unfolding row_at
  row_inside h = rw (lt-ltb row (rows_of (length t) stride) h)

  pub row-outside : rows_of (length t) stride ≤ row → row_at stride t row ≡ []
  unfolding row_at
  row-outside h = rw (le-ltb row (rows_of (length t) stride) h)

  pub length-row : row < rows_of (length t) stride → length (row_at stride t row) ≡ stride
  length-row h =
      let f = row_fits (length t) stride row h in
      ap length (row_inside h) ∙ length-take-le stride (drop (row * stride) t) (simp length-drop (omega arith))

  -- word j of row i is word i * stride + j of the table
  pub word-of-row : (j : ℕ) (d : A) → row < rows_of (length t) stride → j < stride → get_or (row_at stride t row) j d ≡ get_or t (row * stride + j) d
  word-of-row j d h l = rw (row_inside h, get_or-take stride (drop (row * stride) t) j d l, get_or-drop (row * stride) t j d)

  -- what is stored inside and outside
  pub put-inside : (words : List A) → row < rows_of (length t) stride → put_row_of stride t row words ≡ take (row * stride) t ++ words ++ drop (row * stride + stride) t
  unfolding put_row_of
  put-inside words h = rw (lt-ltb row (rows_of (length t) stride) h)

  pub put-outside : (words : List A) → rows_of (length t) stride ≤ row → put_row_of stride t row words ≡ t
  unfolding put_row_of
  put-outside words h = rw (le-ltb row (rows_of (length t) stride) h)

  -- a fact about a row and a table, proved inside and outside
  either : (P : Type 0) → (row < rows_of (length t) stride → P) → (rows_of (length t) stride ≤ row → P) → P
  either P is not = go (ltb row (rows_of (length t) stride)) refl
    where
      go : (b : Bool) → ltb row (rows_of (length t) stride) ≡ b → P
      go true e = is (ltb-true row (rows_of (length t) stride) e)
      go false e = not (ltb-false row (rows_of (length t) stride) e)

-- the length is kept, whatever row is stored
pub length-put : {A : Type 0} (stride : ℕ) (t : List A) (row : ℕ) (words : List A) → length words ≡ stride → length (put_row_of stride t row words) ≡ length t
length-put stride t row words w = either stride t row (length (put_row_of stride t row words) ≡ length t)
    (λ h.
    let f = row_fits (length t) stride row h in
    let a = length-append (take (row * stride) t ++ words) (drop (row * stride + stride) t) in
    let b = length-append (take (row * stride) t) words in
    let d = length-drop (row * stride + stride) t in
    let e : row * stride ≤ length t = omega arith in
    let g = length-take-le (row * stride) t e in
    ap length (put-inside stride t row words h) ∙ omega arith)
    (λ h. ap length (put-outside stride t row words h))

module _ {A : Type 0} (stride : ℕ) (t : List A) (row : ℕ) (words : List A) (w : length words ≡ stride) where
  -- nothing before the row changes, and nothing behind it
  pub take_put : (n : ℕ) → n ≤ row * stride → take n (put_row_of stride t row words) ≡ take n t
  take_put n l = either stride t row (take n (put_row_of stride t row words) ≡ take n t)
      (λ h.
      let f = row_fits (length t) stride row h in
      let e : row * stride ≤ length t = omega arith in
      let g = length-take-le (row * stride) t e in
      ap (take n) (put-inside stride t row words h ∙ append_assoc (take (row * stride) t) words (drop (row * stride + stride) t))
      ∙ take-append-le n (take (row * stride) t) (words ++ drop (row * stride + stride) t) (omega arith)
      ∙ take-take n (row * stride) t l)
      (λ h. ap (take n) (put-outside stride t row words h))

  pub drop-put : (n : ℕ) → row * stride + stride ≤ n → drop n (put_row_of stride t row words) ≡ drop n t
  drop-put n l = either stride t row (drop n (put_row_of stride t row words) ≡ drop n t)
      (λ h.
      let f = row_fits (length t) stride row h in
      let e : row * stride ≤ length t = omega arith in
      let g = length-take-le (row * stride) t e in
      let b = length-append (take (row * stride) t) words in
      let k : n ≡ length (take (row * stride) t ++ words) + (n - (row * stride + stride)) = omega arith in
      let m : row * stride + stride + (n - (row * stride + stride)) ≡ n = omega arith in
      ap (drop n) (put-inside stride t row words h)
      ∙ ap (λ (i : ℕ). drop i ((take (row * stride) t ++ words) ++ drop (row * stride + stride) t)) k
      ∙ drop-append-add (take (row * stride) t ++ words) (drop (row * stride + stride) t) (n - (row * stride + stride))
      ∙ drop-drop (n - (row * stride + stride)) (row * stride + stride) t
      ∙ ap (λ (i : ℕ). drop i t) m)
      (λ h. ap (drop n) (put-outside stride t row words h))

  -- STORE, THEN READ: the row that was stored comes back
  pub put_same : row < rows_of (length t) stride → row_at stride (put_row_of stride t row words) row ≡ words
  put_same h =
      let f = row_fits (length t) stride row h in
      let e : row * stride ≤ length t = omega arith in
      let k = length-put stride t row words w in
      let i : row < rows_of (length (put_row_of stride t row words)) stride = rw k h in
      row_inside stride (put_row_of stride t row words) row i
      ∙ ap (λ (l : List A). take stride (drop (row * stride) l)) (put-inside stride t row words h ∙ append_assoc (take (row * stride) t) words (drop (row * stride + stride) t))
      ∙ ap (take stride) (drop_at (take (row * stride) t) (words ++ drop (row * stride + stride) t) (row * stride) (length-take-le (row * stride) t e))
      ∙ take_at words (drop (row * stride + stride) t) stride w

  -- and every other row stays
  pub put_other : (k : ℕ) → k ≢ row → row_at stride (put_row_of stride t row words) k ≡ row_at stride t k
  put_other k apart = either stride t k (row_at stride (put_row_of stride t row words) k ≡ row_at stride t k) inner
      (λ h. row-outside stride (put_row_of stride t row words) k (rw (length-put stride t row words w) h) ∙ sym (row-outside stride t k h))
    where
      inner : k < rows_of (length t) stride → row_at stride (put_row_of stride t row words) k ≡ row_at stride t k
      inner h = row_inside stride (put_row_of stride t row words) k (rw (length-put stride t row words w) h) ∙ same (ltb k row) refl ∙ sym (row_inside stride t k h)
        where
          same : (b : Bool) → ltb k row ≡ b → take stride (drop (k * stride) (put_row_of stride t row words)) ≡ take stride (drop (k * stride) t)
          same true e =
              let o = mul-le-mul_right stride (ltb-true k row e) in
              let s = suc-mul k stride in
              let n : k * stride + stride ≤ row * stride = omega arith in
              sym (drop-take (k * stride) stride (put_row_of stride t row words)) ∙ ap (drop (k * stride)) (take_put (k * stride + stride) n) ∙ drop-take (k * stride) stride t
          same false e =
              let g = ltb-false k row e in
              let r : row < k = omega (arith, apart) in
              let o = mul-le-mul_right stride r in
              let s = suc-mul row stride in
              ap (take stride) (drop-put (k * stride) (omega arith))
