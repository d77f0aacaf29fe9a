-- The laws of fields and of the loops that store rows, said once for all tables. Assumes nothing.
use mathlib.Core.Path.{◌≡◌, refl, sym, ap, ◌∙◌}
use mathlib.Core.Bool.{Bool, true, false}
use mathlib.Core.List.{List, [], ◌∷◌}
use Prim.Native.Nat.{ℕ, zero, suc, ◌+◌, ◌-◌, ◌≤◌, ◌<◌}
use native.Mathlib.Omega.{arith}
use native.Mathlib.Numerals.{add-one}
use borrow.Author.Tests.{le-leb, lt-leb, lt-ltb, le-ltb, ltb-true, ltb-false, eq-eqb, ne_eqb}
use lib.Dec.{ltb, eqb}
use lib.ListN.{length, drop, get_or}
use lib.IntN.{ℤ, pos, negsuc, ◌-ℤ◌}
use mir.Syntax.{w32}
use mir.Val.{SFits, to_z, of_z}
use mir.Facts.{to_z-of_z}
use Rattle.terms.specs.Ascii.{Bytes}
use Rattle.terms.specs.Words.{pick}
use Rattle.rows.specs.Lay.{put_row_of}
use Rattle.rows.specs.Read.{the_stretch_of}
use Rattle.rows.specs.Table.{put_rows}
use Rattle.packed_rows.specs.Points.{four_at_of}
use Rattle.packed_rows.specs.Walk.{walked}
use Rattle.unpacked_rows.specs.Front.{version_here, framed_here}
use Rattle.unpacked_rows.specs.Told.{signed, name_told, behind}
use Rattle.unpacked_rows.specs.Stored.{rows_from}

-- ## Fields
pub some-name : (place size : ℕ) → (size ≡ 0 → ⊥) → the_stretch_of place size ≡ name_told place size
some-name place zero h = absurd (h refl)
some-name place (suc k) h = refl

pub stays : (long at size : ℕ) → long < at + size → at ≡ behind long at size
unfolding behind
stays long at size h = sym (ap (λ (t : Bool). pick t (at + size) at) (lt-leb (at + size) long h))

pub steps : (long at size : ℕ) → at + size ≤ long → at + size ≡ behind long at size
unfolding behind
steps long at size h = sym (ap (λ (t : Bool). pick t (at + size) at) (le-leb (at + size) long h))

-- ## A coordinate
pub above : (w : ℕ) → w < 2147483648 → pos w ≡ signed w
above w h = sym (ap (λ (t : Bool). pick t (pos w) (negsuc (4294967295 - w))) (lt-ltb w 2147483648 h))

pub below : (w : ℕ) → 2147483648 ≤ w → negsuc (4294967295 - w) ≡ signed w
below w h = sym (ap (λ (t : Bool). pick t (pos w) (negsuc (4294967295 - w))) (le-ltb w 2147483648 h))

-- a number as a signed one, and how code makes one below 0
pub to-small : (m : ℕ) → m < 2147483648 → to_z w32 m ≡ pos m
to-small m h = rw (lt-ltb m 2147483648 h)

minus_one : (m : ℕ) → negsuc 0 -ℤ pos m ≡ negsuc m
minus_one zero = refl
minus_one (suc m) = ap negsuc (let e : suc (0 + m) ≡ suc m = omega arith in e)

minus_is : (m : ℕ) → m < 2147483648 → negsuc 0 -ℤ to_z w32 m ≡ negsuc m
minus_is m h = rw (to-small m h) (minus_one m)

pub minus-fits : (m : ℕ) → m < 2147483648 → SFits w32 (negsuc 0 -ℤ to_z w32 m)
minus-fits m h = rw (minus_is m h) (record { sfits = h })

pub minus-back : (m : ℕ) → m < 2147483648 → to_z w32 (of_z w32 (negsuc 0 -ℤ to_z w32 m)) ≡ negsuc m
minus-back m h = to_z-of_z (minus-fits m h) ∙ minus_is m h

-- held in a row, it is the same
held : (w : ℕ) → to_z w32 (of_z w32 (signed w)) ≡ signed w
held w = go (ltb w 2147483648) refl
  where
    go : (x : Bool) → ltb w 2147483648 ≡ x → to_z w32 (of_z w32 (pick x (pos w) (negsuc (4294967295 - w)))) ≡ pick x (pos w) (negsuc (4294967295 - w))
    go true e = to_z-of_z {w = w32} (record { sfits = ltb-true w 2147483648 e })
    go false e = let h = ltb-false w 2147483648 e in to_z-of_z {w = w32} (record { sfits = omega arith })

pub held_as : {z : ℤ} {v w : ℕ} → z ≡ signed v → v ≡ w → to_z w32 (of_z w32 z) ≡ signed w
held_as {z} {v} {w} e d = ap (λ (y : ℤ). to_z w32 (of_z w32 y)) (e ∙ ap signed d) ∙ held w

-- ## Rows stored one by one
module _ {R X : Type 0} (stride : ℕ) (words : R → List X) (tell : Bytes → ℕ → R) (next : Bytes → ℕ → ℕ) (b : Bytes) where
  -- before the first
  pub stored-all : (t : List X) (from count : ℕ) → put_rows stride words t 0 (rows_from tell next (count - 0) b from) ≡ put_rows stride words t 0 (rows_from tell next count b from)
  stored-all t from count = ap (λ (k : ℕ). put_rows stride words t 0 (rows_from tell next k b from)) (let e : count - 0 ≡ count = omega arith in e)

  one_more : (t : List X) (at k m : ℕ) → put_rows stride words (put_row_of stride t k (words (tell b at))) (suc k) (rows_from tell next m b (next b at)) ≡ put_rows stride words t k (rows_from tell next (suc m) b at)
  unfolding put_rows rows_from
  one_more t at k m = refl

  -- one more
  pub stored-again : (t u : List X) (at to k count : ℕ) → k < count → u ≡ put_row_of stride t k (words (tell b at)) → to ≡ next b at
      → put_rows stride words u (k + 1) (rows_from tell next (count - (k + 1)) b to) ≡ put_rows stride words t k (rows_from tell next (count - k) b at)
  stored-again t u at to k count h e d =
      let m : suc (count - (k + 1)) ≡ count - k = omega arith in
      (λ i. put_rows stride words (e i) (add-one k i) (rows_from tell next (count - (k + 1)) b (d i))) ∙ one_more t at k (count - (k + 1)) ∙ ap (λ (j : ℕ). put_rows stride words t k (rows_from tell next j b at)) m

  nothing_left : (t : List X) (at k : ℕ) → put_rows stride words t k (rows_from tell next 0 b at) ≡ t
  unfolding put_rows rows_from
  nothing_left t at k = refl

  -- behind the last
  pub stored-done : (t : List X) (at k count : ℕ) → count ≤ k → put_rows stride words t k (rows_from tell next (count - k) b at) ≡ t
  stored-done t at k count h = ap (λ (j : ℕ). put_rows stride words t k (rows_from tell next j b at)) (let e : count - k ≡ 0 = omega arith in e) ∙ nothing_left t at k

-- ## The front
pub no_bytes : (b : Bytes) → length b ≡ 0 → false ≡ version_here b
unfolding version_here
no_bytes [] h = refl
no_bytes (a ∷ l) h = absurd (omega arith)

pub first_byte : (b : Bytes) → (length b ≡ 0 → ⊥) → eqb (get_or b 0 0) 2 ≡ version_here b
unfolding version_here
first_byte [] h = absurd (h refl)
first_byte (a ∷ l) h = refl

module _ (b : Bytes) where
  pub too_short : length b < 5 → false ≡ framed_here b
  unfolding framed_here
  too_short h = sym (ap (λ (t : Bool). pick t (pick (eqb (four_at_of b 1) (length b - 5)) (walked (drop 5 b)) false) false) (lt-leb 5 (length b) h))

  pub length-wrong : 5 ≤ length b → (four_at_of b 1 ≡ length b - 5 → ⊥) → false ≡ framed_here b
  unfolding framed_here
  length-wrong h e = sym ((λ i. pick (le-leb 5 (length b) h i) (pick (ne_eqb (four_at_of b 1) (length b - 5) e i) (walked (drop 5 b)) false) false))

  pub length-right : 5 ≤ length b → four_at_of b 1 ≡ length b - 5 → walked (drop 5 b) ≡ framed_here b
  unfolding framed_here
  length-right h e = sym ((λ i. pick (le-leb 5 (length b) h i) (pick (eq-eqb (four_at_of b 1) (length b - 5) e i) (walked (drop 5 b)) false) false))
