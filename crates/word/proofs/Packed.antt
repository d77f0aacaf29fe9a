-- Letters as numbers: how the numbers of parts join, and that bytes of the same number are the same. Assumes nothing.
use mathlib.Core.Path.{◌≡◌, refl, sym, ap, ◌∙◌}
use mathlib.Core.List.{[], ◌∷◌, ◌++◌}
use mathlib.Core.Bool.{Bool, true, false, ◌&&◌}
use Prim.Native.Nat.{ℕ, zero, suc, ◌+◌, ◌*◌, ◌-◌, ◌≤◌, ◌<◌}
use native.Mathlib.Omega.{arith}
use native.Mathlib.Numerals.{add-one}
use borrow.Author.Tests.{ltb-true, eqb-true, eq-eqb}
use lib.Dec.{eqb, ltb, lit<}
use lib.ListN.{length, get_or, take, drop, length-take, length-drop, take-append-drop, drop_of_length-le}
use lib.Seq.{drop-cons, drop-drop, get_or-drop, take_all}
use Rattle.terms.specs.Ascii.{Bytes}
use Rattle.terms.proofs.Tests.{clash, both}
use Rattle.scan.specs.Allowed.{all}
use Rattle.scan.specs.Reach.{same_bytes_of}
use Rattle.scan.proofs.Equal.{same-equal, equal-same}
use Rattle.word.specs.Packed.{packed}
use Rattle.word.specs.Table.{known, same_known_of}

-- ## Joining
pub packed-one : (s : Bytes) (i : ℕ) → i < length s → get_or s i 0 + 256 * packed (drop (suc i) s) ≡ packed (drop i s)
unfolding packed
packed-one s i h = rw (drop-cons s i 0 h)

pub packed-two : (s : Bytes) (i : ℕ) → i + 2 ≤ length s → get_or s i 0 + 256 * get_or s (i + 1) 0 ≡ packed (take 2 (drop i s))
unfolding packed
packed-two s i h = rw (drop-cons s i 0 (omega arith), add-one, drop-cons s (suc i) 0 (omega arith)) (omega arith)

join-two : (l : Bytes) → 2 ≤ length l → packed (take 2 l) + 65536 * packed (take 2 (drop 2 l)) ≡ packed (take 4 l)
unfolding packed
join-two [] h = absurd (omega arith)
join-two (x ∷ []) h = absurd (omega arith)
join-two (x ∷ y ∷ l) h = omega arith

join_four : (l : Bytes) → 4 ≤ length l → packed (take 4 l) + 4294967296 * packed (take 4 (drop 4 l)) ≡ packed (take 8 l)
unfolding packed
join_four [] h = absurd (omega arith)
join_four (x ∷ []) h = absurd (omega arith)
join_four (x ∷ y ∷ []) h = absurd (omega arith)
join_four (x ∷ y ∷ z ∷ []) h = absurd (omega arith)
join_four (x ∷ y ∷ z ∷ w ∷ l) h = omega arith

pub packed_four : (s : Bytes) (i : ℕ) → i + 4 ≤ length s → packed (take 2 (drop i s)) + 65536 * packed (take 2 (drop (i + 2) s)) ≡ packed (take 4 (drop i s))
packed_four s i h = rw (sym (drop-drop 2 i s)) (join-two (drop i s) (omega (arith, length-drop i s)))

pub packed-eight : (s : Bytes) (i : ℕ) → i + 8 ≤ length s → packed (take 4 (drop i s)) + 4294967296 * packed (take 4 (drop (i + 4) s)) ≡ packed (take 8 (drop i s))
packed-eight s i h = rw (sym (drop-drop 4 i s)) (join_four (drop i s) (omega (arith, length-drop i s)))

pub packed_none : (s : Bytes) (i : ℕ) → length s ≤ i → packed (drop i s) ≡ 0
unfolding packed
packed_none s i h = rw (drop_of_length-le s {i = i} h)

pub packed-last : (s : Bytes) (i : ℕ) → i < length s → length s < i + 2 → get_or s i 0 ≡ packed (drop i s)
packed-last s i h l = let e = packed-one s i h in let n = packed_none s (suc i) (omega arith) in omega arith

last-two : (l : Bytes) → 2 ≤ length l → packed (take 2 l) + 65536 * packed (drop 2 l) ≡ packed l
unfolding packed
last-two [] h = absurd (omega arith)
last-two (x ∷ []) h = absurd (omega arith)
last-two (x ∷ y ∷ l) h = omega arith

last_four : (l : Bytes) → 4 ≤ length l → packed (take 4 l) + 4294967296 * packed (drop 4 l) ≡ packed l
unfolding packed
last_four [] h = absurd (omega arith)
last_four (x ∷ []) h = absurd (omega arith)
last_four (x ∷ y ∷ []) h = absurd (omega arith)
last_four (x ∷ y ∷ z ∷ []) h = absurd (omega arith)
last_four (x ∷ y ∷ z ∷ w ∷ l) h = omega arith

pub packed-last-two : (s : Bytes) (i : ℕ) → i + 2 ≤ length s → packed (take 2 (drop i s)) + 65536 * packed (drop (i + 2) s) ≡ packed (drop i s)
packed-last-two s i h = rw (sym (drop-drop 2 i s)) (last-two (drop i s) (omega (arith, length-drop i s)))

pub packed-last_four : (s : Bytes) (i : ℕ) → i + 4 ≤ length s → packed (take 4 (drop i s)) + 4294967296 * packed (drop (i + 4) s) ≡ packed (drop i s)
packed-last_four s i h = rw (sym (drop-drop 4 i s)) (last_four (drop i s) (omega (arith, length-drop i s)))

-- ## Bytes of the same number
-- every one is below 256
abbrev pub Small : Bytes → Type 0
Small l = (i : ℕ) → get_or l i 0 < 256

pub small-take : (n : ℕ) (l : Bytes) → Small l → Small (take n l)
small-take zero l h i = lit< tt
small-take (suc n) [] h i = lit< tt
small-take (suc n) (b ∷ l) h zero = h 0
small-take (suc n) (b ∷ l) h (suc i) = small-take n l (λ i. h (suc i)) i

pub small_drop : (n : ℕ) (l : Bytes) → Small l → Small (drop n l)
small_drop n l h i = rw (get_or-drop n l i 0) (h (n + i))

pub small_all : (l : Bytes) → all (λ b. ltb b 256) l ≡ true → Small l
unfolding all
small_all [] e i = lit< tt
small_all (b ∷ l) e zero = ltb-true b 256 (both (ltb b 256) (all (λ b. ltb b 256) l) e).0
small_all (b ∷ l) e (suc i) = small_all l (both (ltb b 256) (all (λ b. ltb b 256) l) e).1 i

-- letters of the same number are the same
pub same-packed : (a b : Bytes) → Small a → Small b → length a ≡ length b → packed a ≡ packed b → a ≡ b
unfolding packed
same-packed [] [] p q n e = refl
same-packed [] (y ∷ b) p q n e = absurd (omega arith)
same-packed (x ∷ a) [] p q n e = absurd (omega arith)
same-packed (x ∷ a) (y ∷ b) p q n e =
    let x0 : x < 256 = p 0 in
    let y0 : y < 256 = q 0 in
    let f : x ≡ y = omega arith in
    let r : packed a ≡ packed b = omega arith in
    let t = same-packed a b (λ i. p (suc i)) (λ i. q (suc i)) (omega arith) r in
    ap (λ (z : ℕ). z ∷ a) f ∙ ap (◌∷◌ y) t

-- eight letters, and those behind them
next-eight : (a b : Bytes) → Small a → Small b → length a ≡ length b → packed (take 8 a) ≡ packed (take 8 b) → drop 8 a ≡ drop 8 b → a ≡ b
next-eight a b p q n e r =
    let l : length (take 8 a) ≡ length (take 8 b) = length-take 8 a ∙ rw n (sym (length-take 8 b)) in
    let t = same-packed (take 8 a) (take 8 b) (small-take 8 a p) (small-take 8 b q) l e in
    sym (take-append-drop 8 a) ∙ ap (λ (x : Bytes). x ++ drop 8 a) t ∙ ap (λ (x : Bytes). take 8 b ++ x) r ∙ take-append-drop 8 b

module _ (s w : Bytes) (p : Small s) (q : Small w) (h : length s ≤ 20) where
  equal : same_known_of s (known w) ≡ true → s ≡ w
  unfolding same_known_of
  equal e =
      let a = both (eqb (length s) (length w)) _ e in
      let b = both (eqb (packed (take 8 s)) (packed (take 8 w))) _ a.1 in
      let d = both (eqb (packed (take 8 (drop 8 s))) (packed (take 8 (drop 8 w)))) _ b.1 in
      let n : length s ≡ length w = eqb-true _ _ a.0 in
      let n8 : length (drop 8 s) ≡ length (drop 8 w) = length-drop 8 s ∙ rw n (sym (length-drop 8 w)) in
      let n16 : length (drop 16 s) ≡ length (drop 16 w) = length-drop 16 s ∙ rw n (sym (length-drop 16 w)) in
      let ts : take 8 (drop 16 s) ≡ drop 16 s = take_all 8 (drop 16 s) (omega (arith, length-drop 16 s)) in
      let tw : take 8 (drop 16 w) ≡ drop 16 w = take_all 8 (drop 16 w) (omega (arith, length-drop 16 w)) in
      let third : drop 16 s ≡ drop 16 w = same-packed (drop 16 s) (drop 16 w) (small_drop 16 s p) (small_drop 16 w q) n16 (ap packed (sym ts) ∙ eqb-true _ _ d.1 ∙ ap packed tw) in
      let second : drop 8 s ≡ drop 8 w = next-eight (drop 8 s) (drop 8 w) (small_drop 8 s p) (small_drop 8 w q) n8 (eqb-true _ _ d.0) (drop-drop 8 8 s ∙ third ∙ sym (drop-drop 8 8 w)) in
      next-eight s w p q n (eqb-true _ _ b.0) second

  same_self : s ≡ w → same_known_of s (known w) ≡ true
  unfolding same_known_of
  same_self e = rw (e, eq-eqb (length w) (length w) refl, eq-eqb (packed (take 8 w)) (packed (take 8 w)) refl, eq-eqb (packed (take 8 (drop 8 w))) (packed (take 8 (drop 8 w))) refl, eq-eqb (packed (take 8 (drop 16 w))) (packed (take 8 (drop 16 w))) refl)

  -- size and letters decide
  pub same_known : same_known_of s (known w) ≡ same_bytes_of s w
  same_known = go (same_known_of s (known w)) refl (same_bytes_of s w) refl
    where
      go : (x : Bool) → same_known_of s (known w) ≡ x → (y : Bool) → same_bytes_of s w ≡ y → x ≡ y
      go true e true f = refl
      go true e false f = clash (sym (equal-same s w (equal e)) ∙ f)
      go false e true f = clash (sym (same_self (same-equal s w f)) ∙ e)
      go false e false f = refl
