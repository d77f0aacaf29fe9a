-- Several rows asked at once: what it says of them together, and that the look-up goes over them. Assumes nothing.
use mathlib.Core.Path.{◌≡◌, refl, sym, ap, ◌∙◌}
use mathlib.Core.List.{List}
use mathlib.Core.Bool.{Bool, true, false, not, ◌&&◌, and-true, and_assoc}
use Prim.Native.Nat.{ℕ, zero, suc, ◌+◌, ◌*◌, ◌≤◌}
use native.Mathlib.Numerals.{add-one}
use native.Mathlib.Nat.{add-zero, zero-add, suc-add}
use native.Mathlib.Omega.{arith}
use lib.Dec.{eqb}
use lib.ListN.{length, get_or}
use borrow.Author.Tests.{eqb-false}
use Rattle.terms.proofs.Tests.{clash, both}
use Rattle.rows.specs.Lay.{rows_of}
use Rattle.rows.specs.Strides.{checkpoint_stride}
use Rattle.look_up.specs.LookUp.{NoneBefore}
use Rattle.look_up.specs.Others.{others}
use Rattle.look_up.proofs.Answers.{one_more}

module _ (t : List ℕ) (number : ℕ) where
  pub two-rows : (i : ℕ) → (not (eqb (get_or t (i * checkpoint_stride) 0) number) && not (eqb (get_or t (i * checkpoint_stride + checkpoint_stride) 0) number)) ≡ others t number i 2
  unfolding others
  two-rows i =
      let e : suc i * checkpoint_stride ≡ i * checkpoint_stride + checkpoint_stride = omega arith in
      rw e (ap (λ x. not (eqb (get_or t (i * checkpoint_stride) 0) number) && x) (sym (and-true (not (eqb (get_or t (i * checkpoint_stride + checkpoint_stride) 0) number)))))

  -- m rows from row i on, and n behind them
  pub rows-joined : (i m n : ℕ) → (others t number i m && others t number (i + m) n) ≡ others t number i (m + n)
  unfolding others
  rows-joined i zero n = rw (zero-add n, add-zero i)
  rows-joined i (suc m) n =
      let e : i + suc m ≡ suc i + m = omega arith in
      rw (suc-add m n, e) (and_assoc (not (eqb (get_or t (i * checkpoint_stride) 0) number)) (others t number (suc i) m) (others t number (suc i + m) n) ∙ ap (λ x. not (eqb (get_or t (i * checkpoint_stride) 0) number) && x) (rows-joined (suc i) m n))

  not_same : (a : ℕ) → not (eqb a number) ≡ true → a ≡ number → ⊥
  not_same a e = go (eqb a number) refl e
    where
      go : (x : Bool) → eqb a number ≡ x → not x ≡ true → a ≡ number → ⊥
      go true p q = clash (sym q)
      go false p q = eqb-false a number p

  -- none of them has the number
  pub rows-passed : (n i : ℕ) → i + n ≤ rows_of (length t) checkpoint_stride → others t number i n ≡ true → NoneBefore t i number → NoneBefore t (i + n) number
  unfolding others
  rows-passed zero i h e before = rw (add-zero i) before
  rows-passed (suc n) i h e before =
      let p = both (not (eqb (get_or t (i * checkpoint_stride) 0) number)) (others t number (suc i) n) e in
      let k : i + suc n ≡ suc i + n = omega arith in
      let next : NoneBefore t (suc i) number = rw add-one at (one_more t i number (omega arith) (not_same (get_or t (i * checkpoint_stride) 0) p.0) before) in
      rw k (rows-passed n (suc i) (omega arith) p.1 next)
