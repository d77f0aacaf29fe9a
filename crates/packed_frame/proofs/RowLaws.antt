-- The laws of the records of segments, zones and spots. Assumes nothing.
use mathlib.Core.Path.{◌≡◌, refl, sym, ap, ◌∙◌}
use mathlib.Core.Bool.{Bool, true, false, ◌&&◌}
use Prim.Native.Nat.{ℕ, zero, suc, ◌+◌, ◌*◌, ◌≤◌, max}
use native.Mathlib.Omega.{arith}
use borrow.Author.Tests.{eqb-true, eqb-false, eq-eqb, ne_eqb}
use lib.ListN.{length, drop}
use lib.Dec.{eqb, leb}
use Rattle.terms.specs.Ascii.{Bytes}
use Rattle.terms.specs.Words.{pick}
use Rattle.terms.proofs.Tests.{clash}
use Rattle.packed_rows.specs.Fixed.{record_here}
use Rattle.packed_rows.specs.Points.{four_at_of}
use Rattle.packed_rows.proofs.FixedLaws.{here-inside}
use Rattle.packed_frame.specs.Names.{two_at, named_end}
use Rattle.packed_frame.specs.Named.{run_fits}
use Rattle.packed_frame.specs.Segments.{segment_end_of}
use Rattle.packed_frame.specs.Zones.{spots_fit_of, zone_end_of}
use Rattle.packed_frame.specs.Spots.{spot_right, spot-at, spot_here, spot_next, spots_right, zone_spots}
use Rattle.packed_frame.proofs.WalkLaws.{every_more}
use Rattle.packed_frame.proofs.NameLaws.{named-inside}

pick_zero : (x : Bool) → ◌≡◌ {A = ℕ} (pick x 0 0) 0
pick_zero true = refl
pick_zero false = refl

-- a place is told only where the test is passed
passed : (x : Bool) (n : ℕ) → (pick x n 0 ≡ 0 → ⊥) → (x ≡ true) × (n ≡ 0 → ⊥)
passed true n h = (refl, h)
passed false n h = absurd (h refl)

pub run_begin : (sum begin size : ℕ) → run_fits sum begin size ≡ true → begin ≡ sum
run_begin sum begin size e = go (eqb begin sum) refl e
  where
    go : (x : Bool) → eqb begin sum ≡ x → (x && (leb 1 size && leb size 32768)) ≡ true → begin ≡ sum
    go true d h = eqb-true begin sum d
    go false d h = clash (sym h)

-- ## Segments
module _ (b : Bytes) (at sum : ℕ) where
  abbrev segment-passes : Bool
  segment-passes = run_fits sum (four_at_of b (at + 2)) (two_at b (at + 6))

  pub segment-is : (x : Bool) → x ≡ segment-passes → (e : ℕ) → e ≡ named_end 6 b at → pick x e 0 ≡ segment_end_of b at sum
  unfolding segment_end_of
  segment-is x p e q = λ i. pick (p i) (q i) 0

  pub segment-none : (e : ℕ) → e ≡ named_end 6 b at → e ≡ 0 → 0 ≡ segment_end_of b at sum
  segment-none e q z = sym (ap (λ (n : ℕ). pick segment-passes n 0) z ∙ pick_zero segment-passes) ∙ segment-is segment-passes refl e q

  pub segment_told_of : (segment_end_of b at sum ≡ 0 → ⊥) → (segment-passes ≡ true) × (named_end 6 b at ≡ 0 → ⊥)
  unfolding segment_end_of
  segment_told_of h = passed segment-passes (named_end 6 b at) h

  pub segment-inside : (segment_end_of b at sum ≡ 0 → ⊥) → at + 10 ≤ length b
  segment-inside h = let k = named-inside 6 b at (segment_told_of h).1 in omega arith

-- ## Zones
module _ (b : Bytes) (at point spot : ℕ) where
  abbrev zone-passes : Bool
  zone-passes = run_fits point (four_at_of b (at + 2)) (two_at b (at + 6))

  abbrev spots-pass : Bool
  spots-pass = spots_fit_of spot (four_at_of b (at + 8)) (two_at b (at + 12))

  pub zone-is : (x : Bool) → x ≡ zone-passes → (y : Bool) → y ≡ spots-pass → (e : ℕ) → e ≡ named_end 12 b at → pick x (pick y e 0) 0 ≡ zone_end_of b at (point, spot)
  unfolding zone_end_of
  zone-is x p y r e q = λ i. pick (p i) (pick (r i) (q i) 0) 0

  pub zone-none : (e : ℕ) → e ≡ named_end 12 b at → e ≡ 0 → 0 ≡ zone_end_of b at (point, spot)
  zone-none e q z = sym (ap (λ (n : ℕ). pick zone-passes (pick spots-pass n 0) 0) z ∙ ap (λ (n : ℕ). pick zone-passes n 0) (pick_zero spots-pass) ∙ pick_zero zone-passes) ∙ zone-is zone-passes refl spots-pass refl e q

  pub zone_told_of : (zone_end_of b at (point, spot) ≡ 0 → ⊥) → (zone-passes ≡ true) × ((spots-pass ≡ true) × (named_end 12 b at ≡ 0 → ⊥))
  unfolding zone_end_of
  zone_told_of h = let p = passed zone-passes (pick spots-pass (named_end 12 b at) 0) h in (p.0, passed spots-pass (named_end 12 b at) p.1)

  pub zone-inside : (zone_end_of b at (point, spot) ≡ 0 → ⊥) → at + 16 ≤ length b
  zone-inside h = let k = named-inside 12 b at (zone_told_of h).1.1 in omega arith

-- ## Spots
module _ (b : Bytes) (at point : ℕ) where
  abbrev spot-passes : Bool
  spot-passes = spot_right point (four_at_of b (at + 2)) (two_at b (at + 6))

  pub the_no_spot_of : record_here 6 (drop at b) ≡ false → false ≡ spot-at b at point
  unfolding spot-at
  the_no_spot_of e = sym (ap (λ (t : Bool). pick t spot-passes false) e)

  pub spot-there : record_here 6 (drop at b) ≡ true → spot-passes ≡ spot-at b at point
  unfolding spot-at
  spot-there e = sym (ap (λ (t : Bool). pick t spot-passes false) e)

  pub spot_told_of : spot-at b at point ≡ true → (record_here 6 (drop at b) ≡ true) × (spot-passes ≡ true)
  unfolding spot-at
  spot_told_of e = go (record_here 6 (drop at b)) refl e
    where
      go : (x : Bool) → record_here 6 (drop at b) ≡ x → pick x spot-passes false ≡ true → (record_here 6 (drop at b) ≡ true) × (spot-passes ≡ true)
      go true d h = (d, h)
      go false d h = clash (sym h)

  pub spot-inside : spot-at b at point ≡ true → at + 8 ≤ length b
  spot-inside e = let k = here-inside b at 6 (spot_told_of e).0 in omega arith

-- however far from the start
pub spots_inside : (k : ℕ) (b : Bytes) (at point : ℕ) → spots_right k b at point ≡ true → at + 8 * k ≤ max at (length b)
spots_inside zero b at point e = omega arith
spots_inside (suc k) b at point e = go (spot-at b at point) refl (sym (every_more spot_here spot_next k b (at, point)) ∙ e) (λ d. spots_inside k b (at + 8) (point + 2) d)
  where
    go : (x : Bool) → spot-at b at point ≡ x → pick x (spots_right k b (at + 8) (point + 2)) false ≡ true → (spots_right k b (at + 8) (point + 2) ≡ true → at + 8 + 8 * k ≤ max (at + 8) (length b)) → at + 8 * suc k ≤ max at (length b)
    go false d h more = clash (sym h)
    go true d h more = let i = spot-inside b at point d in let m = more h in omega arith

module _ (b : Bytes) (zone at : ℕ) where
  abbrev spots-of-zone : Bool
  spots-of-zone = spots_right (two_at b (zone + 12)) b at (four_at_of b (zone + 2) + two_at b (zone + 6))

  pub the_no_zone_of : (e : ℕ) → e ≡ named_end 12 b zone → e ≡ 0 → false ≡ zone_spots b zone at
  unfolding zone_spots
  the_no_zone_of e q z = sym (ap (λ (t : Bool). pick t false spots-of-zone) (eq-eqb (named_end 12 b zone) 0 (sym q ∙ z)))

  pub zone-there : (e : ℕ) → e ≡ named_end 12 b zone → (e ≡ 0 → ⊥) → spots-of-zone ≡ zone_spots b zone at
  unfolding zone_spots
  zone-there e q z = sym (ap (λ (t : Bool). pick t false spots-of-zone) (ne_eqb (named_end 12 b zone) 0 (λ d. z (q ∙ d))))

  pub zone-spots-told : zone_spots b zone at ≡ true → (named_end 12 b zone ≡ 0 → ⊥) × (spots-of-zone ≡ true)
  unfolding zone_spots
  zone-spots-told e = go (eqb (named_end 12 b zone) 0) refl e
    where
      go : (x : Bool) → eqb (named_end 12 b zone) 0 ≡ x → pick x false spots-of-zone ≡ true → (named_end 12 b zone ≡ 0 → ⊥) × (spots-of-zone ≡ true)
      go true d h = clash (sym h)
      go false d h = (eqb-false (named_end 12 b zone) 0 d, h)

  pub zone-spots-inside : zone_spots b zone at ≡ true → zone + 16 ≤ length b
  zone-spots-inside e = let k = named-inside 12 b zone (zone-spots-told e).0 in omega arith

  pub spots-behind : zone_spots b zone at ≡ true → at + 8 * two_at b (zone + 12) ≤ max at (length b)
  spots-behind e = spots_inside (two_at b (zone + 12)) b at (four_at_of b (zone + 2) + two_at b (zone + 6)) (zone-spots-told e).1
