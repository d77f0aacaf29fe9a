-- Several bytes tested at once: what it says of them together, and that a scan passes over them. Assumes nothing.
use mathlib.Core.Path.{◌≡◌, refl, sym, ap, ◌∙◌}
use mathlib.Core.List.{[], ◌∷◌}
use mathlib.Core.Bool.{Bool, true, false, not, ◌&&◌, and_assoc}
use Prim.Native.Nat.{ℕ, zero, suc, ◌+◌, ◌-◌, ◌≤◌}
use native.Mathlib.Numerals.{add-one}
use native.Mathlib.Nat.{add-zero, zero-add, suc-add}
use native.Mathlib.Omega.{arith}
use lib.Dec.{eqb}
use lib.ListN.{length, get_or, take, drop}
use lib.Seq.{drop-cons, drop-drop, take-nil}
use Rattle.terms.specs.Ascii.{Bytes}
use Rattle.terms.proofs.Tests.{clash, both}
use Rattle.scan.specs.Allowed.{all}
use Rattle.scan.specs.Reach.{reach, fails, first, two, other, stops_by}
use Rattle.scan.specs.declared.Until.TheVariants.{Two}
use Rattle.scan.proofs.Reach.{reach-go}

module _ (t : ℕ → Bool) where
  -- the first m bytes, and n behind them
  pub joined : (m n : ℕ) (l : Bytes) → (all t (take m l) && all t (take n (drop m l))) ≡ all t (take (m + n) l)
  unfolding all
  joined zero n l = rw (zero-add n)
  joined (suc m) n [] = rw (suc-add m n, take-nil {A = ℕ} n)
  joined (suc m) n (b ∷ l) = rw (suc-add m n) (and_assoc (t b) (all t (take m l)) (all t (take n (drop m l))) ∙ ap (λ x. t b && x) (joined m n l))

  -- m bytes from i on, and n behind them
  pub all-joined : (s : Bytes) (i m n : ℕ) → (all t (take m (drop i s)) && all t (take n (drop (i + m) s))) ≡ all t (take (m + n) (drop i s))
  all-joined s i m n = ap (λ (l : Bytes). all t (take m (drop i s)) && all t (take n l)) (sym (drop-drop m i s)) ∙ joined m n (drop i s)

  -- a scan that stops at no byte that passes goes over bytes that all pass
  pub reach-over : (test : Bytes → Bool) → ((b : ℕ) (l : Bytes) → t b ≡ true → test (b ∷ l) ≡ false) → (s : Bytes) (n i : ℕ) → i + n ≤ length s → all t (take n (drop i s)) ≡ true → reach test s (i + n) ≡ reach test s i
  unfolding all
  reach-over test f s zero i h e = rw (add-zero i)
  reach-over test f s (suc n) i h e =
      let q : (t (get_or s i 0) && all t (take n (drop (suc i) s))) ≡ true = rw (drop-cons s i 0 (omega arith)) at e in
      let p = both (t (get_or s i 0)) (all t (take n (drop (suc i) s))) q in
      let z : test (drop i s) ≡ false = rw (drop-cons s i 0 (omega arith)) (f (get_or s i 0) (drop (suc i) s) p.0) in
      let k : i + suc n ≡ i + 1 + n = omega arith in
      let g : all t (take n (drop (i + 1) s)) ≡ true = rw add-one p.1 in
      rw k (reach-over test f s n (i + 1) (omega arith) g ∙ reach-go test s i (omega arith) z)

  -- and from any place among them
  pub reach-rest : (test : Bytes → Bool) → ((b : ℕ) (l : Bytes) → t b ≡ true → test (b ∷ l) ≡ false) → (s : Bytes) (n k i : ℕ) → k ≤ i → i ≤ k + n → k + n ≤ length s → all t (take n (drop k s)) ≡ true → reach test s (k + n) ≡ reach test s i
  reach-rest test f s n k i h l a e =
      let j = all-joined s k (i - k) (k + n - i) in
      let b : k + (i - k) ≡ i = omega arith in
      let m : i - k + (k + n - i) ≡ n = omega arith in
      let q = rw (b, m) at j in
      let p = both (all t (take (i - k) (drop k s))) (all t (take (k + n - i) (drop i s))) (q ∙ e) in
      let d : i + (k + n - i) ≡ k + n = omega arith in
      ap (reach test s) (sym d) ∙ reach-over test f s (k + n - i) i (omega arith) p.1

  -- as one for a byte that fails
  pub fails-none : (b : ℕ) (l : Bytes) → t b ≡ true → fails t (b ∷ l) ≡ false
  unfolding fails
  fails-none b l e = rw e

-- and one for x and y goes over bytes of which none is x
pub two_none : (x y b : ℕ) (l : Bytes) → other x b ≡ true → stops_by (Two x y) (b ∷ l) ≡ false
unfolding stops_by two
two_none x y b l e = go (eqb b x) e
  where
    go : (z : Bool) → not z ≡ true → (z && first y l) ≡ false
    go true e = clash (sym e)
    go false e = refl
