-- The laws of records of lanes. Assumes nothing.
use mathlib.Core.Path.{◌≡◌, refl, sym, ap, ◌∙◌}
use mathlib.Core.Bool.{Bool, true, false}
use Prim.Native.Nat.{ℕ, suc, ◌+◌, ◌-◌, ◌/◌, ◌%◌, ◌≤◌, ◌<◌}
use native.Mathlib.Omega.{arith}
use borrow.Author.Tests.{le-leb, lt-leb, eq-eqb, ne_eqb}
use lib.ListN.{length, drop}
use lib.Dec.{leb, eqb}
use Rattle.terms.specs.Ascii.{Bytes}
use Rattle.terms.specs.Words.{pick}
use Rattle.terms.proofs.Tests.{clash}
use Rattle.packed_rows.specs.Fixed.{record_here}
use Rattle.packed_rows.specs.Points.{four_at_of}
use Rattle.packed_rows.specs.Lanes.{width_right, lane_right, the_lane_at_of, lanes_right}
use Rattle.packed_rows.proofs.Laws.{one_done}
use Rattle.packed_rows.proofs.FixedLaws.{here-inside}

pub width-given : (w : ℕ) → w ≤ 32768 → true ≡ width_right w
unfolding width_right
width-given w h = sym (ap (λ (t : Bool). pick t true (eqb w 65535)) (le-leb w 32768 h))

pub width-none : (w : ℕ) → 32768 < w → eqb w 65535 ≡ width_right w
unfolding width_right
width-none w h = sym (ap (λ (t : Bool). pick t true (eqb w 65535)) (lt-leb w 32768 h))

-- ## One lane's numbers
module _ (sum begin counts sides : ℕ) where
  abbrev last : Bool
  last = leb (sides % 256) 4

  abbrev chain : (a b c d e : Bool) → Bool
  chain a b c d e = pick a (pick b (pick c (pick d (pick e last false) false) false) false) false

  is-chain : lane_right sum begin counts sides ≡ chain (eqb begin sum) (leb 1 (counts / 65536)) (leb (counts / 65536) 32768) (width_right (counts % 65536)) (leb (sides / 256 % 256) 4)
  unfolding lane_right
  is-chain = refl

  -- each test in turn
  pub not_begin : (begin ≡ sum → ⊥) → false ≡ lane_right sum begin counts sides
  not_begin h = sym (is-chain ∙ ap (λ (t : Bool). chain t (leb 1 (counts / 65536)) (leb (counts / 65536) 32768) (width_right (counts % 65536)) (leb (sides / 256 % 256) 4)) (ne_eqb begin sum h))

  module _ (e1 : begin ≡ sum) where
    at-two : lane_right sum begin counts sides ≡ chain true (leb 1 (counts / 65536)) (leb (counts / 65536) 32768) (width_right (counts % 65536)) (leb (sides / 256 % 256) 4)
    at-two = is-chain ∙ ap (λ (t : Bool). chain t (leb 1 (counts / 65536)) (leb (counts / 65536) 32768) (width_right (counts % 65536)) (leb (sides / 256 % 256) 4)) (eq-eqb begin sum e1)

    pub no-points : counts / 65536 < 1 → false ≡ lane_right sum begin counts sides
    no-points h = sym (at-two ∙ ap (λ (t : Bool). chain true t (leb (counts / 65536) 32768) (width_right (counts % 65536)) (leb (sides / 256 % 256) 4)) (lt-leb 1 (counts / 65536) h))

    module _ (e2 : 1 ≤ counts / 65536) where
      at-three : lane_right sum begin counts sides ≡ chain true true (leb (counts / 65536) 32768) (width_right (counts % 65536)) (leb (sides / 256 % 256) 4)
      at-three = at-two ∙ ap (λ (t : Bool). chain true t (leb (counts / 65536) 32768) (width_right (counts % 65536)) (leb (sides / 256 % 256) 4)) (le-leb 1 (counts / 65536) e2)

      pub many-points : 32768 < counts / 65536 → false ≡ lane_right sum begin counts sides
      many-points h = sym (at-three ∙ ap (λ (t : Bool). chain true true t (width_right (counts % 65536)) (leb (sides / 256 % 256) 4)) (lt-leb (counts / 65536) 32768 h))

      module _ (e3 : counts / 65536 ≤ 32768) where
        at_four : lane_right sum begin counts sides ≡ chain true true true (width_right (counts % 65536)) (leb (sides / 256 % 256) 4)
        at_four = at-three ∙ ap (λ (t : Bool). chain true true t (width_right (counts % 65536)) (leb (sides / 256 % 256) 4)) (le-leb (counts / 65536) 32768 e3)

        pub bad-width : width_right (counts % 65536) ≡ false → false ≡ lane_right sum begin counts sides
        bad-width h = sym (at_four ∙ ap (λ (t : Bool). chain true true true t (leb (sides / 256 % 256) 4)) h)

        module _ (e4 : width_right (counts % 65536) ≡ true) where
          at_five : lane_right sum begin counts sides ≡ chain true true true true (leb (sides / 256 % 256) 4)
          at_five = at_four ∙ ap (λ (t : Bool). chain true true true t (leb (sides / 256 % 256) 4)) e4

          pub bad-left : 4 < sides / 256 % 256 → false ≡ lane_right sum begin counts sides
          bad-left h = sym (at_five ∙ ap (chain true true true true) (lt-leb (sides / 256 % 256) 4 h))

          pub right_side : sides / 256 % 256 ≤ 4 → leb (sides % 256) 4 ≡ lane_right sum begin counts sides
          right_side h = sym (at_five ∙ ap (chain true true true true) (le-leb (sides / 256 % 256) 4 h))

-- ## One record
module _ (b : Bytes) (at sum : ℕ) where
  abbrev fits : Bool
  fits = lane_right sum (four_at_of b (at + 2)) (four_at_of b (at + 6)) (four_at_of b (at + 8))

  pub the_no_lane_of : record_here 10 (drop at b) ≡ false → false ≡ the_lane_at_of b at sum
  unfolding the_lane_at_of
  the_no_lane_of e = sym (ap (λ (t : Bool). pick t fits false) e)

  pub lane-there : record_here 10 (drop at b) ≡ true → fits ≡ the_lane_at_of b at sum
  unfolding the_lane_at_of
  lane-there e = sym (ap (λ (t : Bool). pick t fits false) e)

  pub lane_inside : the_lane_at_of b at sum ≡ true → at + 12 ≤ length b
  unfolding the_lane_at_of
  lane_inside e = go (record_here 10 (drop at b)) refl e
    where
      go : (x : Bool) → record_here 10 (drop at b) ≡ x → pick x fits false ≡ true → at + 12 ≤ length b
      go true d h = let k = here-inside b at 10 d in omega arith
      go false d h = clash (sym h)

-- ## So many
more-lanes : (k : ℕ) (b : Bytes) (at sum : ℕ) → lanes_right (suc k) b at sum ≡ pick (the_lane_at_of b at sum) (lanes_right k b (at + 12) (sum + four_at_of b (at + 6) / 65536)) false
unfolding lanes_right
more-lanes k b at sum = refl

module _ (b : Bytes) (at sum n k : ℕ) (h : k < n) where
  abbrev rest-of : ℕ → Bool
  rest-of s = lanes_right (n - (k + 1)) b (at + 12) s

  next-lane : lanes_right (n - k) b at sum ≡ pick (the_lane_at_of b at sum) (rest-of (sum + four_at_of b (at + 6) / 65536)) false
  next-lane = one_done (λ (j : ℕ). lanes_right j b at sum) n k h ∙ more-lanes (n - (k + 1)) b at sum

  -- counts: what was read there
  pub again-lane : (counts : ℕ) → the_lane_at_of b at sum ≡ true → counts ≡ four_at_of b (at + 6) → rest-of (sum + counts / 65536) ≡ lanes_right (n - k) b at sum
  again-lane counts e q = ap (λ (c : ℕ). rest-of (sum + c / 65536)) q ∙ sym (next-lane ∙ ap (λ (t : Bool). pick t (rest-of (sum + four_at_of b (at + 6) / 65536)) false) e)

  pub stopped-lane : the_lane_at_of b at sum ≡ false → false ≡ lanes_right (n - k) b at sum
  stopped-lane e = sym (next-lane ∙ ap (λ (t : Bool). pick t (rest-of (sum + four_at_of b (at + 6) / 65536)) false) e)

pub ended-lanes : (b : Bytes) (at sum n k : ℕ) → n ≤ k → true ≡ lanes_right (n - k) b at sum
unfolding lanes_right
ended-lanes b at sum n k h = let e : n - k ≡ 0 = omega arith in sym (ap (λ (j : ℕ). lanes_right j b at sum) e)
