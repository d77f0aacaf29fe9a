-- What the loops of src/ go by: a scan for a byte that fails, place by place and eight bytes at a time. Assumes nothing.
use mathlib.Core.Path.{◌≡◌, refl, sym, ap, ◌∙◌}
use mathlib.Core.Bool.{Bool, true, false, not, not-not, ◌&&◌, and-true, and-false}
use mathlib.Core.List.{[], ◌∷◌}
use Prim.Native.Nat.{ℕ, suc, ◌+◌, ◌-◌, ◌≤◌, ◌<◌, max}
use native.Mathlib.Numerals.{add-one}
use native.Mathlib.Omega.{arith}
use lib.ListN.{length, get_or, take, drop, drop_of_length-le}
use lib.Seq.{drop-cons}
use lib.Dec.{leb, eqb}
use borrow.Author.Tests.{leb-true, leb-false}
use Rattle.terms.specs.Ascii.{Bytes}
use Rattle.scan.specs.Allowed.{separates, all}
use Rattle.scan.specs.Reach.{reach, fails, first, two, begins, other, stops_by}
use Rattle.scan.specs.declared.Until.{Until}
use Rattle.scan.specs.declared.Until.TheVariants.{Byte, Separator}
use Rattle.scan.proofs.Reach.{reach-stop, reach-go, reach-end, not-passing}
use Rattle.scan.proofs.Eights.{joined, reach-rest}

module _ (t : ℕ → Bool) (s : Bytes) (i : ℕ) where
  pub fails_stop : i < length s → t (get_or s i 0) ≡ false → reach (fails t) s i ≡ i
  fails_stop h e = reach-stop (fails t) s i (not-passing (fails t) t (λ l. refl) s i h ∙ ap not e)

  pub fails_go : i < length s → t (get_or s i 0) ≡ true → reach (fails t) s (i + 1) ≡ reach (fails t) s i
  fails_go h e = reach-go (fails t) s i h (not-passing (fails t) t (λ l. refl) s i h ∙ ap not e)

-- a loop from `from` on that came to its end at i: `from` itself, where that lies behind the end
pub came_to_end : (test : Bytes → Bool) (s : Bytes) (from i : ℕ) → length s ≤ i → (from ≤ length s → i ≤ length s) → reach test s i ≡ reach test s from → max from (length s) ≡ reach test s from
came_to_end test s from i l h e = go (leb from (length s)) refl
  where
    go : (x : Bool) → leb from (length s) ≡ x → max from (length s) ≡ reach test s from
    go true q =
        let b : from ≤ length s = leb-true from (length s) q in
        let k : i ≡ length s = (let w = h b in omega arith) in
        let m : max from (length s) ≡ i = (let w = h b in omega arith) in
        m ∙ sym (reach-end test s i l) ∙ e
    go false q =
        let b : length s < from = leb-false from (length s) q in
        let m : max from (length s) ≡ from = omega arith in
        m ∙ sym (reach-end test s from (omega arith))

-- ## Every byte
-- of the first n bytes, and the one behind them
pub all_more : (t : ℕ → Bool) (l : Bytes) (n : ℕ) → n < length l → (all t (take n l) && t (get_or l n 0)) ≡ all t (take (n + 1) l)
unfolding all
all_more t l n h = ap (λ x. all t (take n l) && x) (sym one) ∙ joined t n 1 l
  where
    one : all t (take 1 (drop n l)) ≡ t (get_or l n 0)
    one = rw (drop-cons l n 0 h) (and-true (t (get_or l n 0)))

-- the bytes from i to j pass: a scan that stops at none of them comes from any of them to j
pub gone_over : (t : ℕ → Bool) (test : Bytes → Bool) → ((b : ℕ) (l : Bytes) → t b ≡ true → test (b ∷ l) ≡ false) → (s : Bytes) (i j k : ℕ) → i ≤ k → k ≤ j → j ≤ length s → all t (take (j - i) (drop i s)) ≡ true → reach test s j ≡ reach test s k
gone_over t test f s i j k a b h e =
    let n : i + (j - i) ≡ j = omega arith in
    ap (reach test s) (sym n) ∙ reach-rest t test f s (j - i) i k a (omega arith) (omega arith) e

-- ## Two bytes
module _ (a b : ℕ) (s : Bytes) (i : ℕ) where
  pub two_within : i + 1 < length s → (eqb (get_or s i 0) a && eqb (get_or s (i + 1) 0) b) ≡ two a b (drop i s)
  unfolding two first
  two_within h = rw (drop-cons s i 0 (omega arith), drop-cons s (suc i) 0 (omega arith), add-one)

  pub two_at_end : i < length s → length s ≤ i + 1 → false ≡ two a b (drop i s)
  unfolding two first
  two_at_end h l = rw (drop-cons s i 0 h, drop_of_length-le s {i = suc i} (omega arith)) (sym (and-false (eqb (get_or s i 0) a)))

-- ## What a scan stops at, as a byte that fails a test
pub stops_so : (k : Until) (t : ℕ → Bool) → ((l : Bytes) → stops_by k l ≡ fails t l) → (s : Bytes) (i : ℕ) → reach (fails t) s i ≡ reach (stops_by k) s i
stops_so k t h s i = sym (λ j. reach (λ l. h l j) s i)

pub stops_at_byte : (x : ℕ) (l : Bytes) → stops_by (Byte x) l ≡ fails (other x) l
unfolding stops_by fails first
stops_at_byte x [] = refl
stops_at_byte x (b ∷ l) = sym (not-not (eqb b x))

pub stops_at_separator : (l : Bytes) → stops_by Separator l ≡ fails (λ b. not (separates b)) l
unfolding stops_by fails begins
stops_at_separator [] = refl
stops_at_separator (b ∷ l) = sym (not-not (separates b))
