-- The laws of the walk over parts. Assumes nothing.
use mathlib.Core.Path.{◌≡◌, refl, sym, ap, ◌∙◌}
use mathlib.Core.Bool.{Bool, true, false, ◌&&◌}
use Prim.Native.Nat.{ℕ, zero, suc, ◌+◌, ◌-◌, ◌*◌, ◌/◌, ◌≤◌, ◌<◌, max}
use native.Mathlib.Nat.{mul-le-mul}
use native.Mathlib.Omega.{arith}
use borrow.Author.Tests.{le-leb, lt-leb, leb-false, le-ltb, lt-ltb, eq-eqb, ne_eqb}
use lib.Dec.{leb, ltb, eqb}
use Rattle.std.specs.List.{list_all, range_with_len}
use Rattle.terms.specs.Ascii.{Bytes}
use Rattle.terms.specs.Words.{pick}
use Rattle.terms.proofs.Tests.{clash}
use Rattle.packed_rows.specs.Points.{four_at_of}
use Rattle.packed_rows.proofs.Laws.{one_done}
use Rattle.packed_parts.specs.declared.Table.{Table}
use Rattle.packed_parts.specs.Parts.{cell_at, own_point, next_row, first-at, points_at, spots_at, zone_next, lanes_take, last_end, all-below, zone_exits, all_marked, zone_checkpoints, parts_right}

-- ## A field's place fits
pub product-fits : (step row : ℕ) → step < 65536 → row < 4294967296 → step * row ≤ 281470681677825
product-fits step row h l = let a : step ≤ 65535 = omega arith in let b : row ≤ 4294967295 = omega arith in mul-le-mul a b

-- ## A point of a part
pub point-before : (p size q : ℕ) → q < p → false ≡ own_point p size q
unfolding own_point
point-before p size q h = sym (ap (λ (t : Bool). pick t (ltb q (p + size)) false) (lt-leb p q h))

pub point-behind : (p size q : ℕ) → p ≤ q → ltb q (p + size) ≡ own_point p size q
unfolding own_point
point-behind p size q h = sym (ap (λ (t : Bool). pick t (ltb q (p + size)) false) (le-leb p q h))

-- ## The rows next in turn
module _ (key : ℕ → ℕ) (p size : ℕ) where
  more_rows : (k i : ℕ) → next_row key p size (suc k) i ≡ pick (own_point p size (key i)) (next_row key p size k (i + 1)) i
  unfolding next_row
  more_rows k i = refl

  no_rows : (i : ℕ) → next_row key p size 0 i ≡ i
  unfolding next_row
  no_rows i = refl

  one_of : (n i : ℕ) → i < n → next_row key p size (n - i) i ≡ pick (own_point p size (key i)) (next_row key p size (n - (i + 1)) (i + 1)) i
  one_of n i h = let e : n - i ≡ suc (n - (i + 1)) = omega arith in ap (λ (k : ℕ). next_row key p size k i) e ∙ more_rows (n - (i + 1)) i

  pub again-row : (n i : ℕ) → i < n → own_point p size (key i) ≡ true → next_row key p size (n - (i + 1)) (i + 1) ≡ next_row key p size (n - i) i
  again-row n i h e = sym (one_of n i h ∙ ap (λ (t : Bool). pick t (next_row key p size (n - (i + 1)) (i + 1)) i) e)

  pub stopped-row : (n i : ℕ) → i < n → own_point p size (key i) ≡ false → i ≡ next_row key p size (n - i) i
  stopped-row n i h e = sym (one_of n i h ∙ ap (λ (t : Bool). pick t (next_row key p size (n - (i + 1)) (i + 1)) i) e)

  pub ended-rows : (n i : ℕ) → n ≤ i → i ≡ next_row key p size (n - i) i
  ended-rows n i h = let e : n - i ≡ 0 = omega arith in sym (ap (λ (k : ℕ). next_row key p size k i) e ∙ no_rows i)

  -- it is one of those left, or the row behind them
  pub row_inside : (k i : ℕ) → (i ≤ next_row key p size k i) × (next_row key p size k i ≤ i + k)
  row_inside zero i = let e = no_rows i in (omega arith, omega arith)
  row_inside (suc k) i = go (own_point p size (key i)) refl (row_inside k (i + 1))
    where
      go : (x : Bool) → own_point p size (key i) ≡ x → (i + 1 ≤ next_row key p size k (i + 1)) × (next_row key p size k (i + 1) ≤ i + 1 + k) → (i ≤ next_row key p size (suc k) i) × (next_row key p size (suc k) i ≤ i + suc k)
      go true e h =
          let d : next_row key p size (suc k) i ≡ next_row key p size k (i + 1) = more_rows k i ∙ ap (λ (t : Bool). pick t (next_row key p size k (i + 1)) i) e in
          let l = h.0 in let m = h.1 in
          (omega arith, omega arith)
      go false e h =
          let d : next_row key p size (suc k) i ≡ i = more_rows k i ∙ ap (λ (t : Bool). pick t (next_row key p size k (i + 1)) i) e in
          (omega arith, omega arith)

-- ## Lanes
module _ (key : ℕ → ℕ) (n : ℕ) (b : Bytes) where
  more-lanes : (k at i : ℕ) → lanes_take key n (suc k) b at i ≡ lanes_take key n k b (at + 12) (next_row key (first-at b at) (points_at b at) (n - i) i)
  unfolding lanes_take
  more-lanes k at i = refl

  -- lane k of m from this place on. c: what was read of its points
  pub again-lane : (m k from i p c j : ℕ) → k < m → p ≡ cell_at b from 12 2 k → c ≡ cell_at b from 12 6 k → j ≡ next_row key p (c / 65536) (n - i) i → lanes_take key n (m - (k + 1)) b (from + 12 * (k + 1)) j ≡ lanes_take key n (m - k) b (from + 12 * k) i
  again-lane m k from i p c j h e s r =
      let d : from + 12 * (k + 1) ≡ from + 12 * k + 12 = omega arith in
      (λ x. lanes_take key n (m - (k + 1)) b (d x) (r x))
      ∙ (λ x. lanes_take key n (m - (k + 1)) b (from + 12 * k + 12) (next_row key (e x) (s x / 65536) (n - i) i))
      ∙ sym (one_done (λ (l : ℕ). lanes_take key n l b (from + 12 * k) i) m k h ∙ more-lanes (m - (k + 1)) (from + 12 * k) i)

  pub ended-lanes : (m k at i : ℕ) → m ≤ k → i ≡ lanes_take key n (m - k) b at i
  unfolding lanes_take
  ended-lanes m k at i h = let e : m - k ≡ 0 = omega arith in sym (ap (λ (l : ℕ). lanes_take key n l b at i) e)

pub last-lane : (b : Bytes) (from count p c : ℕ) → 0 < count → p ≡ cell_at b from 12 2 (count - 1) → c ≡ cell_at b from 12 6 (count - 1) → p + c / 65536 ≡ last_end b from count
last-lane b from zero p c h e d = absurd (omega arith)
last-lane b from (suc k) p c h e d = let q : suc k - 1 ≡ k = omega arith in (λ x. e x + d x / 65536) ∙ (λ x. cell_at b from 12 2 (q x) + cell_at b from 12 6 (q x) / 65536)

pub no-lanes : (b : Bytes) (from count : ℕ) → count ≡ 0 → 0 ≡ last_end b from count
no-lanes b from zero h = refl
no-lanes b from (suc k) h = absurd (omega arith)

-- ## Exits of zones
module _ (key : ℕ → ℕ) (end : ℕ) where
  more-below : (k i : ℕ) → all-below key end (suc k) i ≡ pick (ltb (key i) end) (all-below key end k (i + 1)) false
  unfolding all-below
  more-below k i = refl

  none_below : (i : ℕ) → true ≡ all-below key end 0 i
  unfolding all-below
  none_below i = refl

  and-pick : (x y : Bool) → (x && y) ≡ pick x y false
  and-pick true y = refl
  and-pick false y = refl

  pub each-below : (k i : ℕ) → list_all (λ j. ltb (key j) end) (range_with_len i k) ≡ all-below key end k i
  each-below zero i = none_below i
  each-below (suc k) i = ap (λ (t : Bool). ltb (key i) end && t) (each-below k (i + 1)) ∙ and-pick (ltb (key i) end) (all-below key end k (i + 1)) ∙ sym (more-below k i)

module _ (point entry : ℕ → ℕ) (n end : ℕ) (b : Bytes) where
  abbrev row-behind : ℕ → ℕ → ℕ
  row-behind at i = next_row point (first-at b at) (points_at b at) (n - i) i

  more-exits : (k at i : ℕ) → zone_exits point entry n end (suc k) b at i ≡ pick (all-below entry end (row-behind at i - i) i) (zone_exits point entry n end k b (zone_next b at) (row-behind at i)) false
  unfolding zone_exits
  more-exits k at i = refl

  -- k of m are done. p, c: what was read of the zone's points
  module _ (m k at i p c j : ℕ) (h : k < m) (e : p ≡ four_at_of b (at + 2)) (s : c ≡ four_at_of b (at + 6)) (r : j ≡ next_row point p (c / 65536) (n - i) i) where
    abbrev exits-behind : ℕ → Bool
    exits-behind place = zone_exits point entry n end (m - (k + 1)) b place j

    next-exits : zone_exits point entry n end (m - k) b at i ≡ pick (all-below entry end (j - i) i) (exits-behind (zone_next b at)) false
    next-exits =
        let d : j ≡ row-behind at i = r ∙ (λ x. next_row point (e x) (s x / 65536) (n - i) i) in
        one_done (λ (l : ℕ). zone_exits point entry n end l b at i) m k h ∙ more-exits (m - (k + 1)) at i
        ∙ ap (λ (y : ℕ). pick (all-below entry end (y - i) i) (zone_exits point entry n end (m - (k + 1)) b (zone_next b at) y) false) (sym d)

    pub again-exits : (long : ℕ) → long ≡ four_at_of b at → all-below entry end (j - i) i ≡ true → exits-behind (at + 2 + long / 65536) ≡ zone_exits point entry n end (m - k) b at i
    again-exits long f t = ap (λ (l : ℕ). exits-behind (at + 2 + l / 65536)) f ∙ sym (next-exits ∙ ap (λ (x : Bool). pick x (exits-behind (zone_next b at)) false) t)

    pub stopped-exits : all-below entry end (j - i) i ≡ false → false ≡ zone_exits point entry n end (m - k) b at i
    stopped-exits t = sym (next-exits ∙ ap (λ (x : Bool). pick x (exits-behind (zone_next b at)) false) t)

  pub ended-exits : (m k at i : ℕ) → m ≤ k → leb n i ≡ zone_exits point entry n end (m - k) b at i
  unfolding zone_exits
  ended-exits m k at i h = let e : m - k ≡ 0 = omega arith in sym (ap (λ (l : ℕ). zone_exits point entry n end l b at i) e)

-- ## Checkpoints of spots
module _ (key : ℕ → ℕ) (n : ℕ) where
  more-marked : (q k i : ℕ) → all_marked key n q (suc k) i ≡ pick (leb n i) false (pick (eqb (key i) (q + 1)) (all_marked key n (q + 2) k (i + 1)) false)
  unfolding all_marked
  more-marked q k i = refl

  one-marked : (q k i : ℕ) → i < n → all_marked key n q (suc k) i ≡ pick (eqb (key i) (q + 1)) (all_marked key n (q + 2) k (i + 1)) false
  one-marked q k i h = more-marked q k i ∙ ap (λ (t : Bool). pick t false (pick (eqb (key i) (q + 1)) (all_marked key n (q + 2) k (i + 1)) false)) (lt-leb n i h)

  -- spot k of m, the first at q; row is the first of their rows. c: what its row says
  module _ (q m k row c : ℕ) where
    marked-from : k < m → all_marked key n (q + 2 * k) (m - k) (row + k) ≡ all_marked key n (q + 2 * k) (suc (m - (k + 1))) (row + k)
    marked-from h = one_done (λ (l : ℕ). all_marked key n (q + 2 * k) l (row + k)) m k h

    pub again-marked : k < m → row + k < n → c ≡ key (row + k) → c ≡ q + 2 * k + 1 → all_marked key n (q + 2 * (k + 1)) (m - (k + 1)) (row + (k + 1)) ≡ all_marked key n (q + 2 * k) (m - k) (row + k)
    again-marked h l e s =
        let d : q + 2 * (k + 1) ≡ q + 2 * k + 2 = omega arith in
        let f : row + (k + 1) ≡ row + k + 1 = omega arith in
        (λ i. all_marked key n (d i) (m - (k + 1)) (f i))
        ∙ sym (marked-from h ∙ one-marked (q + 2 * k) (m - (k + 1)) (row + k) l ∙ ap (λ (t : Bool). pick t (all_marked key n (q + 2 * k + 2) (m - (k + 1)) (row + k + 1)) false) (eq-eqb (key (row + k)) (q + 2 * k + 1) (sym e ∙ s)))

    pub none_left : k < m → n ≤ row + k → false ≡ all_marked key n (q + 2 * k) (m - k) (row + k)
    none_left h l = sym (marked-from h ∙ more-marked (q + 2 * k) (m - (k + 1)) (row + k) ∙ ap (λ (t : Bool). pick t false (pick (eqb (key (row + k)) (q + 2 * k + 1)) (all_marked key n (q + 2 * k + 2) (m - (k + 1)) (row + k + 1)) false)) (le-leb n (row + k) l))

    pub stopped-marked : k < m → row + k < n → c ≡ key (row + k) → (c ≡ q + 2 * k + 1 → ⊥) → false ≡ all_marked key n (q + 2 * k) (m - k) (row + k)
    stopped-marked h l e s = sym (marked-from h ∙ one-marked (q + 2 * k) (m - (k + 1)) (row + k) l ∙ ap (λ (t : Bool). pick t (all_marked key n (q + 2 * k + 2) (m - (k + 1)) (row + k + 1)) false) (ne_eqb (key (row + k)) (q + 2 * k + 1) (λ d. s (e ∙ d))))

    pub ended-marked : m ≤ k → true ≡ all_marked key n (q + 2 * k) (m - k) (row + k)
    unfolding all_marked
    ended-marked h = let e : m - k ≡ 0 = omega arith in sym (ap (λ (l : ℕ). all_marked key n (q + 2 * k) l (row + k)) e)

  -- that many rows are there
  pub marked-inside : (q k i : ℕ) → i ≤ n → all_marked key n q k i ≡ true → i + k ≤ n
  marked-inside q zero i l h = omega arith
  marked-inside q (suc k) i l h = go (leb n i) refl (eqb (key i) (q + 1)) refl (sym (more-marked q k i) ∙ h) (λ m. marked-inside (q + 2) k (i + 1) m)
    where
      go : (x : Bool) → leb n i ≡ x → (y : Bool) → eqb (key i) (q + 1) ≡ y → pick x false (pick y (all_marked key n (q + 2) k (i + 1)) false) ≡ true → (i + 1 ≤ n → all_marked key n (q + 2) k (i + 1) ≡ true → i + 1 + k ≤ n) → i + suc k ≤ n
      go true e y d h more = clash (sym h)
      go false e true d h more = let u = leb-false n i e in let m = more (omega arith) h in omega arith
      go false e false d h more = clash (sym h)

  -- the row behind them fits where the count does
  pub marked-fits : (q k i : ℕ) → all_marked key n q k i ≡ true → i + k ≤ max i n
  marked-fits q zero i h = omega arith
  marked-fits q (suc k) i h = go (leb n i) refl (sym (more-marked q k i) ∙ h)
    where
      go : (x : Bool) → leb n i ≡ x → pick x false (pick (eqb (key i) (q + 1)) (all_marked key n (q + 2) k (i + 1)) false) ≡ true → i + suc k ≤ max i n
      go true e t = clash (sym t)
      go false e t = let u = leb-false n i e in let w = marked-inside q (suc k) i (omega arith) h in omega arith

module _ (key : ℕ → ℕ) (n : ℕ) (b : Bytes) where
  abbrev here-marked : ℕ → ℕ → Bool
  here-marked at i = all_marked key n (first-at b at + points_at b at) (spots_at b at) i

  more-checkpoints : (k at i : ℕ) → zone_checkpoints key n (suc k) b at i ≡ pick (here-marked at i) (zone_checkpoints key n k b (zone_next b at) (i + spots_at b at)) false
  unfolding zone_checkpoints
  more-checkpoints k at i = refl

  -- k of m are done. p, c, d: what was read of the zone's points and spots
  module _ (m k at i p c d : ℕ) (h : k < m) (e : p ≡ four_at_of b (at + 2)) (s : c ≡ four_at_of b (at + 6)) (r : d ≡ four_at_of b (at + 12)) where
    abbrev checkpoints-behind : ℕ → Bool
    checkpoints-behind place = zone_checkpoints key n (m - (k + 1)) b place (i + d / 65536)

    next-checkpoints : zone_checkpoints key n (m - k) b at i ≡ pick (all_marked key n (p + c / 65536) (d / 65536) i) (checkpoints-behind (zone_next b at)) false
    next-checkpoints =
        one_done (λ (l : ℕ). zone_checkpoints key n l b at i) m k h ∙ more-checkpoints (m - (k + 1)) at i
        ∙ sym (λ x. pick (all_marked key n (e x + s x / 65536) (r x / 65536) i) (zone_checkpoints key n (m - (k + 1)) b (zone_next b at) (i + r x / 65536)) false)

    pub again-checkpoints : (long : ℕ) → long ≡ four_at_of b at → all_marked key n (p + c / 65536) (d / 65536) i ≡ true → checkpoints-behind (at + 2 + long / 65536) ≡ zone_checkpoints key n (m - k) b at i
    again-checkpoints long f t = ap (λ (l : ℕ). checkpoints-behind (at + 2 + l / 65536)) f ∙ sym (next-checkpoints ∙ ap (λ (x : Bool). pick x (checkpoints-behind (zone_next b at)) false) t)

    pub stopped-checkpoints : all_marked key n (p + c / 65536) (d / 65536) i ≡ false → false ≡ zone_checkpoints key n (m - k) b at i
    stopped-checkpoints t = sym (next-checkpoints ∙ ap (λ (x : Bool). pick x (checkpoints-behind (zone_next b at)) false) t)

  pub ended-checkpoints : (m k at i : ℕ) → m ≤ k → leb n i ≡ zone_checkpoints key n (m - k) b at i
  unfolding zone_checkpoints
  ended-checkpoints m k at i h = let e : m - k ≡ 0 = omega arith in sym (ap (λ (l : ℕ). zone_checkpoints key n l b at i) e)

-- ## All parts
module _ (b : Bytes) (lanes zones checkpoints stops exits : Table) (end : ℕ) where
  abbrev stop-end : ℕ
  stop-end = lanes_take (cell_at b stops.from 6 2) stops.count lanes.count b lanes.from 0

  abbrev checkpoint-end : ℕ
  checkpoint-end = lanes_take (cell_at b checkpoints.from 8 4) checkpoints.count lanes.count b lanes.from 0

  abbrev exit-end : ℕ
  exit-end = lanes_take (cell_at b exits.from 10 2) exits.count lanes.count b lanes.from 0

  abbrev checkpoints-fit : ℕ → Bool
  checkpoints-fit i = zone_checkpoints (cell_at b checkpoints.from 8 4) checkpoints.count zones.count b zones.from i

  abbrev exits-fit : ℕ → Bool
  exits-fit i = zone_exits (cell_at b exits.from 10 2) (cell_at b exits.from 10 6) exits.count end zones.count b zones.from i

  parts_are : parts_right b lanes zones checkpoints stops exits end ≡ pick (ltb stop-end stops.count) false (pick (checkpoints-fit checkpoint-end) (exits-fit exit-end) false)
  unfolding parts_right
  parts_are = refl

  pub stops-left : stop-end < stops.count → false ≡ parts_right b lanes zones checkpoints stops exits end
  stops-left h = sym (parts_are ∙ ap (λ (t : Bool). pick t false (pick (checkpoints-fit checkpoint-end) (exits-fit exit-end) false)) (lt-ltb stop-end stops.count h))

  module _ (h : stops.count ≤ stop-end) (c : ℕ) (e : c ≡ checkpoint-end) where
    to-zones : parts_right b lanes zones checkpoints stops exits end ≡ pick (checkpoints-fit c) (exits-fit exit-end) false
    to-zones = parts_are ∙ ap (λ (t : Bool). pick t false (pick (checkpoints-fit checkpoint-end) (exits-fit exit-end) false)) (le-ltb stop-end stops.count h) ∙ ap (λ (i : ℕ). pick (checkpoints-fit i) (exits-fit exit-end) false) (sym e)

    pub checkpoints-wrong : checkpoints-fit c ≡ false → false ≡ parts_right b lanes zones checkpoints stops exits end
    checkpoints-wrong t = sym (to-zones ∙ ap (λ (x : Bool). pick x (exits-fit exit-end) false) t)

    pub exits-last : checkpoints-fit c ≡ true → (i : ℕ) → i ≡ exit-end → exits-fit i ≡ parts_right b lanes zones checkpoints stops exits end
    exits-last t i d = ap exits-fit d ∙ sym (to-zones ∙ ap (λ (x : Bool). pick x (exits-fit exit-end) false) t)
