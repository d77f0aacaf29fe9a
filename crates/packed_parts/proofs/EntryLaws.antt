-- The laws of entries and of records of exits. Assumes nothing.
use mathlib.Core.Path.{◌≡◌, refl, sym, ap, ◌∙◌}
use mathlib.Core.Bool.{Bool, true, false}
use Prim.Native.Nat.{ℕ, zero, suc, ◌+◌, ◌-◌, ◌≤◌, ◌<◌}
use native.Mathlib.Omega.{arith}
use borrow.Author.Tests.{le-leb, lt-leb, lt-ltb, le-ltb}
use lib.ListN.{length, drop}
use lib.Dec.{leb, ltb}
use Rattle.terms.specs.Ascii.{Bytes}
use Rattle.terms.specs.Words.{pick}
use Rattle.terms.proofs.Tests.{clash}
use Rattle.packed_rows.specs.Fixed.{record_here}
use Rattle.packed_rows.specs.Points.{four_at_of}
use Rattle.packed_rows.proofs.Laws.{one_done}
use Rattle.packed_rows.proofs.FixedLaws.{here-inside}
use Rattle.packed_parts.specs.Entries.{middle, halve, behind_last, entry_right, exit_right, exits_right}

-- ## Halving
module _ (key : ℕ → ℕ) (q : ℕ) where
  -- what is left to halve, in the steps that are left, says the whole
  pub record Halving (n low high : ℕ) : Type 0 where
    pub steps : ℕ
    pub enough : high ≤ low + steps
    pub order : low ≤ high
    pub most : high ≤ n
    pub same : halve key q steps low high ≡ halve key q n 0 n

  pub halving-begins : (n : ℕ) → Halving n 0 n
  halving-begins n = record { steps = n; enough = omega arith; order = omega arith; most = omega arith; same = refl }

  more-halves : (k low high : ℕ) → halve key q (suc k) low high ≡ pick (ltb low high) (pick (leb (key (middle low high)) q) (halve key q k (middle low high + 1) high) (halve key q k low (middle low high))) low
  unfolding halve
  more-halves k low high = refl

  no-halves : (low high : ℕ) → halve key q 0 low high ≡ low
  unfolding halve
  no-halves low high = refl

  halved : (k low high : ℕ) → low < high → (x : Bool) → leb (key (middle low high)) q ≡ x → halve key q (suc k) low high ≡ pick x (halve key q k (middle low high + 1) high) (halve key q k low (middle low high))
  halved k low high h x e =
      more-halves k low high ∙ ap (λ (t : Bool). pick t (pick (leb (key (middle low high)) q) (halve key q k (middle low high + 1) high) (halve key q k low (middle low high))) low) (lt-ltb low high h)
      ∙ ap (λ (t : Bool). pick t (halve key q k (middle low high + 1) high) (halve key q k low (middle low high))) e

  pub upper_half : {n low high : ℕ} → Halving n low high → low < high → (m : ℕ) → m ≡ key (middle low high) → m ≤ q → Halving n (middle low high + 1) high
  upper_half {n} {low} {high} x h m e l = go x.steps x.enough x.same
    where
      go : (k : ℕ) → high ≤ low + k → halve key q k low high ≡ halve key q n 0 n → Halving n (middle low high + 1) high
      go zero g s = absurd (omega arith)
      go (suc k) g s =
          let t = x.most in
          record { steps = k; enough = omega arith; order = omega arith; most = t; same = sym (halved k low high h true (ap (λ (y : ℕ). leb y q) (sym e) ∙ le-leb m q l)) ∙ s }

  pub lower_half : {n low high : ℕ} → Halving n low high → low < high → (m : ℕ) → m ≡ key (middle low high) → q < m → Halving n low (middle low high)
  lower_half {n} {low} {high} x h m e l = go x.steps x.enough x.same
    where
      go : (k : ℕ) → high ≤ low + k → halve key q k low high ≡ halve key q n 0 n → Halving n low (middle low high)
      go zero g s = absurd (omega arith)
      go (suc k) g s =
          let t = x.most in
          record { steps = k; enough = omega arith; order = omega arith; most = omega arith; same = sym (halved k low high h false (ap (λ (y : ℕ). leb y q) (sym e) ∙ lt-leb m q l)) ∙ s }

  pub halving-ends : {n low high : ℕ} → Halving n low high → high ≤ low → low ≡ halve key q n 0 n
  halving-ends {n} {low} {high} x h = go x.steps ∙ x.same
    where
      go : (k : ℕ) → low ≡ halve key q k low high
      go zero = sym (no-halves low high)
      go (suc k) = sym (more-halves k low high ∙ ap (λ (t : Bool). pick t (pick (leb (key (middle low high)) q) (halve key q k (middle low high + 1) high) (halve key q k low (middle low high))) low) (le-ltb low high h))

-- ## One entry
module _ (key : ℕ → ℕ) (n points end q : ℕ) where
  abbrev last-spot : Bool
  last-spot = behind_last key q (halve key q n 0 n)

  entry-is : entry_right key n points end q ≡ pick (ltb q end) true (pick (leb points q) false last-spot)
  unfolding entry_right
  entry-is = refl

  pub lane_entry : q < end → true ≡ entry_right key n points end q
  lane_entry h = sym (entry-is ∙ ap (λ (t : Bool). pick t true (pick (leb points q) false last-spot)) (lt-ltb q end h))

  module _ (h : end ≤ q) where
    behind-lanes : entry_right key n points end q ≡ pick (leb points q) false last-spot
    behind-lanes = entry-is ∙ ap (λ (t : Bool). pick t true (pick (leb points q) false last-spot)) (le-ltb q end h)

    pub no-point : points ≤ q → false ≡ entry_right key n points end q
    no-point l = sym (behind-lanes ∙ ap (λ (t : Bool). pick t false last-spot) (le-leb points q l))

    module _ (l : q < points) (to : ℕ) (e : to ≡ halve key q n 0 n) where
      by-spot : entry_right key n points end q ≡ behind_last key q to
      by-spot = behind-lanes ∙ ap (λ (t : Bool). pick t false last-spot) (lt-leb points q l) ∙ ap (behind_last key q) (sym e)

      pub before-spots : to ≡ 0 → true ≡ entry_right key n points end q
      before-spots z = sym (by-spot ∙ ap (behind_last key q) z)

      pub behind-spot : (to ≡ 0 → ⊥) → (m : ℕ) → m ≡ key (to - 1) → leb (m + 2) q ≡ entry_right key n points end q
      behind-spot z m d = go to z (ap (λ (y : ℕ). leb (y + 2) q) d) ∙ sym by-spot
        where
          go : (t : ℕ) → (t ≡ 0 → ⊥) → leb (m + 2) q ≡ leb (key (t - 1) + 2) q → leb (m + 2) q ≡ behind_last key q t
          go zero z w = absurd (z refl)
          go (suc i) z w = let f : suc i - 1 ≡ i = omega arith in w ∙ ap (λ (j : ℕ). leb (key j + 2) q) f

-- ## Records
module _ (b : Bytes) (at : ℕ) (key : ℕ → ℕ) (n points end : ℕ) where
  pub no_record : record_here 8 (drop at b) ≡ false → false ≡ exit_right b at key n points end
  unfolding exit_right
  no_record e = sym (ap (λ (t : Bool). pick t (entry_right key n points end (four_at_of b (at + 6))) false) e)

  pub is-entry : record_here 8 (drop at b) ≡ true → entry_right key n points end (four_at_of b (at + 6)) ≡ exit_right b at key n points end
  unfolding exit_right
  is-entry e = sym (ap (λ (t : Bool). pick t (entry_right key n points end (four_at_of b (at + 6))) false) e)

  pub exit-inside : exit_right b at key n points end ≡ true → at + 10 ≤ length b
  unfolding exit_right
  exit-inside e = go (record_here 8 (drop at b)) refl e
    where
      go : (x : Bool) → record_here 8 (drop at b) ≡ x → pick x (entry_right key n points end (four_at_of b (at + 6))) false ≡ true → at + 10 ≤ length b
      go true d h = let k = here-inside b at 8 d in omega arith
      go false d h = clash (sym h)

module _ (b : Bytes) (key : ℕ → ℕ) (n points end : ℕ) where
  more-exits : (k at : ℕ) → exits_right (suc k) b at key n points end ≡ pick (exit_right b at key n points end) (exits_right k b (at + 10) key n points end) false
  unfolding exits_right
  more-exits k at = refl

  -- k of m are done
  module _ (m k at : ℕ) where
    next-exit : k < m → exits_right (m - k) b at key n points end ≡ pick (exit_right b at key n points end) (exits_right (m - (k + 1)) b (at + 10) key n points end) false
    next-exit h = one_done (λ (j : ℕ). exits_right j b at key n points end) m k h ∙ more-exits (m - (k + 1)) at

    pub again-exit : k < m → exit_right b at key n points end ≡ true → exits_right (m - (k + 1)) b (at + 10) key n points end ≡ exits_right (m - k) b at key n points end
    again-exit h e = sym (next-exit h ∙ ap (λ (t : Bool). pick t (exits_right (m - (k + 1)) b (at + 10) key n points end) false) e)

    pub stopped-exit : k < m → exit_right b at key n points end ≡ false → false ≡ exits_right (m - k) b at key n points end
    stopped-exit h e = sym (next-exit h ∙ ap (λ (t : Bool). pick t (exits_right (m - (k + 1)) b (at + 10) key n points end) false) e)

    pub ended-exits : m ≤ k → true ≡ exits_right (m - k) b at key n points end
    unfolding exits_right
    ended-exits h = let e : m - k ≡ 0 = omega arith in sym (ap (λ (j : ℕ). exits_right j b at key n points end) e)
