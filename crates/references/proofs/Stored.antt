-- A row stored into a table of rows takes the place of the row that was there. For any form of row. Assumes nothing.
use mathlib.Core.Path.{◌≡◌, refl, sym, ap, ◌∙◌}
use mathlib.Core.List.{List, [], ◌∷◌, ◌++◌, append_assoc, append-nil}
use Prim.Native.Nat.{ℕ, suc, ◌+◌, ◌-◌, ◌*◌, ◌<◌}
use native.Mathlib.Omega.{arith}
use lib.ListN.{length, drop, replicate, length-append}
use lib.Seq.{drop_at}
use Rattle.rows.specs.Lay.{put_row_of}
use Rattle.rows.specs.Table.{flat, table_of, put_rows}
use Rattle.rows.proofs.Tables.{length-flat, put-rows-behind}

module _ {R X : Type 0} (stride : ℕ) (words : R → List X) (some : 0 < stride) (long : (v : R) → length (words v) ≡ stride) where
  flat_append : (a b : List R) → flat words (a ++ b) ≡ flat words a ++ flat words b
  unfolding flat
  flat_append [] b = refl
  flat_append (v ∷ a) b = ap (λ (l : List X). words v ++ l) (flat_append a b) ∙ sym (append_assoc (words v) (flat words a) (flat words b))

  module _ (front rest : List R) (v : R) where
    -- the words of a row between those before it and those behind
    laid : (z : List X) → flat words (front ++ (v ∷ rest)) ++ z ≡ flat words front ++ (words v ++ (flat words rest ++ z))
    unfolding flat
    laid z =
        ap (λ (l : List X). l ++ z) (flat_append front (v ∷ rest))
        ∙ append_assoc (flat words front) (words v ++ flat words rest) z
        ∙ ap (λ (l : List X). flat words front ++ l) (append_assoc (words v) (flat words rest) z)

    flat-length : length (flat words (front ++ (v ∷ rest))) ≡ (length front + suc (length rest)) * stride
    flat-length = length-flat stride words some long (front ++ (v ∷ rest)) ∙ ap (λ (k : ℕ). k * stride) (length-append front (v ∷ rest))

  -- one row stored behind whole rows
  put_one : (front : List R) (u v : R) (q : List X) → put_row_of stride (flat words front ++ (words u ++ q)) (length front) (words v) ≡ flat words front ++ (words v ++ q)
  unfolding flat put_rows
  put_one front u v q =
      let a = length-append (words u) q in
      let l = long u in
      let one : 1 * stride ≡ stride = omega arith in
      put-rows-behind stride words some long (flat words front) (words u ++ q) (length front) (v ∷ []) (length-flat stride words some long front) (omega arith)
      ∙ ap (λ (w : List X). flat words front ++ (w ++ drop (1 * stride) (words u ++ q))) (append-nil (words v))
      ∙ ap (λ (w : List X). flat words front ++ (words v ++ w)) (ap (λ (k : ℕ). drop k (words u ++ q)) one ∙ drop_at (words u) q stride l)

  pub put_in-table : (nought : X) (n : ℕ) (front : List R) (u v : R) (rest : List R) → put_row_of stride (table_of nought words n (front ++ (u ∷ rest))) (length front) (words v) ≡ table_of nought words n (front ++ (v ∷ rest))
  unfolding table_of
  put_in-table nought n front u v rest =
      let z = replicate (n - length (flat words (front ++ (u ∷ rest)))) nought in
      let same : length (flat words (front ++ (u ∷ rest))) ≡ length (flat words (front ++ (v ∷ rest))) = flat-length front rest u ∙ sym (flat-length front rest v) in
      ap (λ (t : List X). put_row_of stride t (length front) (words v)) (laid front rest u z)
      ∙ put_one front u v (flat words rest ++ z)
      ∙ sym (laid front rest v z)
      ∙ ap (λ (k : ℕ). flat words (front ++ (v ∷ rest)) ++ replicate (n - k) nought) same
