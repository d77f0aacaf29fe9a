-- Rows read one behind the other: of a list in two parts, at one place, told in another way, and of a filled table. Assumes nothing.
use mathlib.Core.Path.{◌≡◌, refl, sym, ap, subst, ◌∙◌}
use mathlib.Core.Logic.{inl, inr}
use mathlib.Core.List.{List, [], ◌∷◌, ◌++◌, map}
use Prim.Native.Nat.{ℕ, zero, suc, ◌+◌, ◌*◌, ◌≤◌, ◌<◌}
use native.Mathlib.Omega.{arith}
use lib.ListN.{length, get_or, length-map}
use Rattle.terms.specs.Words.{Each, Among}
use Rattle.rows.specs.Lay.{row_at}
use Rattle.rows.specs.Table.{table_of}
use Rattle.rows.proofs.Tables.{row-of-table}
use Rattle.rows.proofs.Forms.{Form, read-filled}
use Rattle.filled_rows.specs.From.{From}

module _ {R : Type 0} (read : ℕ → R) where
  -- the rows of the first part, and those behind them
  pub from_parts : (i : ℕ) (x y : List R) → From read i (x ++ y) → From read i x × From read (i + length x) y
  from_parts i [] y h = (tt, subst (λ (j : ℕ). From read j y) (let e : i ≡ i + 0 = omega arith in e) h)
  from_parts i (r ∷ x) y h =
      let k = from_parts (suc i) x y h.1 in
      ((h.0, k.0), subst (λ (j : ℕ). From read j y) (let e : suc i + length x ≡ i + suc (length x) = omega arith in e) k.1)

  -- the row at one place is one of them
  pub from-among : (i : ℕ) (l : List R) (k : ℕ) → From read i l → k < length l → Among (read (i + k)) l
  from-among i [] k h b = absurd (omega arith)
  from-among i (r ∷ l) zero h b = inl (ap read (let e : i + 0 ≡ i = omega arith in e) ∙ h.0)
  from-among i (r ∷ l) (suc k) h b = inr (subst (λ (j : ℕ). Among (read j) l) (let e : suc i + k ≡ i + suc k = omega arith in e) (from-among (suc i) l k h.1 (omega arith)))

  -- what is so of each is so of the row at one place
  pub from_each : (P : R → Type 0) (i : ℕ) (l : List R) (k : ℕ) → From read i l → Each P l → k < length l → P (read (i + k))
  from_each P i [] k h e b = absurd (omega arith)
  from_each P i (r ∷ l) zero h e b = subst P (sym (ap read (let f : i + 0 ≡ i = omega arith in f) ∙ h.0)) e.0
  from_each P i (r ∷ l) (suc k) h e b = subst (λ (j : ℕ). P (read j)) (let f : suc i + k ≡ i + suc k = omega arith in f) (from_each P (suc i) l k h.1 e.1 (omega arith))

  -- rows told in another way
  pub from_map : {S : Type 0} (g : R → S) (i : ℕ) (l : List R) → From read i l → From (λ j. g (read j)) i (map g l)
  from_map g i [] h = tt
  from_map g i (r ∷ l) h = (ap g h.0, from_map g (suc i) l h.1)

  -- place by place
  pub by_index : (i : ℕ) (l : List R) (d : R) → ((k : ℕ) → k < length l → read (i + k) ≡ get_or l k d) → From read i l
  by_index i [] d h = tt
  by_index i (r ∷ l) d h =
      let e : i ≡ i + 0 = omega arith in
      (ap read e ∙ h 0 (omega arith), by_index (suc i) l d (λ k b. let g : suc i + k ≡ i + suc k = omega arith in ap read g ∙ h (suc k) (omega arith)))

each_at : {R : Type 0} (P : R → Type 0) (l : List R) (k : ℕ) (d : R) → Each P l → k < length l → P (get_or l k d)
each_at P [] k d e b = absurd (omega arith)
each_at P (r ∷ l) zero d e b = e.0
each_at P (r ∷ l) (suc k) d e b = each_at P l k d e.1 (omega arith)

at_map : {R S : Type 0} (g : R → S) (l : List R) (k : ℕ) (d : R) (e : S) → k < length (map g l) → g (get_or l k d) ≡ get_or (map g l) k e
at_map g [] k d e h = absurd (omega arith)
at_map g (r ∷ l) zero d e h = refl
at_map g (r ∷ l) (suc k) d e h = at_map g l k d e (omega arith)

-- THE LAW: a filled table that has room reads as its rows
pub filled-from : {R X : Type 0} (f : Form R X) (n : ℕ) (rs : List R) (d : R) → length rs * f.stride ≤ n → Each f.Fits rs → From (λ i. f.back (row_at f.stride (table_of f.nought f.words n rs) i)) 0 rs
filled-from f n rs d h e = by_index (λ i. f.back (row_at f.stride (table_of f.nought f.words n rs) i)) 0 rs d
    (λ k l. let z : 0 + k ≡ k = omega arith in ap (λ (i : ℕ). f.back (row_at f.stride (table_of f.nought f.words n rs) i)) z ∙ read-filled f n rs k d h l (each_at f.Fits rs k d e l))

-- THE LAW: it reads as the words of its rows
pub words-from : {R : Type 0} (stride : ℕ) (words : R → List ℕ) → 0 < stride → ((r : R) → length (words r) ≡ stride) → (d : R) (n : ℕ) (rs : List R) → length rs * stride ≤ n → From (row_at stride (table_of 0 words n rs)) 0 (map words rs)
words-from stride words some long d n rs h = by_index (row_at stride (table_of 0 words n rs)) 0 (map words rs) []
    (λ k b.
    let m = length-map rs words in
    let z : 0 + k ≡ k = omega arith in
    ap (row_at stride (table_of 0 words n rs)) z ∙ row-of-table stride words some long 0 n rs k d h (omega arith) ∙ at_map words rs k d [] b)
