-- The pass over zones (packed_frame::zones_at): it says that every record has its length, points and spots are in range, each first point and first spot is the sum so far, and names are names. Assumes nothing.
use Rattle.std.specs.Prelude.{Some}
use Rattle.std.proofs.lemmas.Option.{same_Some}
use mathlib.Core.Path.{◌≡◌, refl, sym, ap, subst, ◌∙◌}
use mathlib.Core.List.{List, [], ◌∷◌, map}
use mathlib.Core.Option.{Option, none, some}
use mathlib.Core.Bool.{Bool, true, false, not, ◌&&◌, ◌||◌}
use Prim.Native.Nat.{ℕ, zero, suc, ◌+◌, ◌≤◌}
use native.Mathlib.Omega.{arith}
use lib.Dec.{leb, eqb}
use lib.ListN.{take, drop}
use borrow.Author.Tests.{leb-true, le-leb, eqb-true, eq-eqb, ne_eqb}
use Rattle.terms.specs.Ascii.{Bytes}
use Rattle.terms.specs.Words.{Each}
use Rattle.terms.proofs.Tests.{clash}
use Rattle.line.specs.Content.{Field}
use Rattle.law.specs.Tables.{first_spot_of, total}
use Rattle.grammar.specs.Network.{largest}
use Rattle.grammar.specs.Tables.{ZoneRow}
use Rattle.unpackings.proofs.Cutting.{of_size}
use Rattle.unpackings.proofs.Rows.{zone-back}
use Rattle.row_network.specs.Consistent.{ZoneRowRight, Running, zone_span, FirstSpots}
use Rattle.packed_rows.specs.Points.{four_at_of}
use Rattle.packed_tables.proofs.Numbers.{value}
use Rattle.packed_tables.proofs.Reading.{named-at, read}
use Rattle.packed_tables.proofs.Records.{here, all_here, after, place_after, records-read, both_true, true-both}
use Rattle.packed_tables.proofs.Whole.{zone-kinds}
use Rattle.packed_frame.specs.Names.{two_at, named_end}
use Rattle.packed_frame.specs.Zones.{spot_fits_of, spots_fit_of, zone_end_of, zone_next, zones, zones_told}
use Rattle.packed_frame.proofs.RowLaws.{zone_told_of, zone-is}
use Rattle.frame_tables.proofs.Fields.{AreNames, fifth-field, first-number, second-number, third-number, fourth-number, Fits, fits-so, so-fits, here-named, FoundNamed, found-so, found_all}
use Rattle.frame_tables.proofs.Passes.{InRow, behind-rows, OneRow, pass-so, pass_all}

-- ## Where a zone's spots begin
spot-so : (spot begin spots : ℕ) → spot_fits_of spot begin spots ≡ true → begin ≡ first_spot_of spot spots
spot-so spot begin zero e = go (eqb begin 0) refl (subst (λ (x : Bool). ((x && eqb begin 0) || (not x && eqb begin spot)) ≡ true) (eq-eqb 0 0 refl) e)
  where
    go : (x : Bool) → eqb begin 0 ≡ x → (x || false) ≡ true → begin ≡ 0
    go true d h = eqb-true begin 0 d
    go false d h = clash (sym h)
spot-so spot begin (suc k) e = eqb-true begin spot (subst (λ (x : Bool). ((x && eqb begin 0) || (not x && eqb begin spot)) ≡ true) (ne_eqb (suc k) 0 (λ z. omega arith)) e)

so-spot : (spot begin spots : ℕ) → begin ≡ first_spot_of spot spots → spot_fits_of spot begin spots ≡ true
so-spot spot begin zero e = ap (λ (x : Bool). (x && eqb begin 0) || (not x && eqb begin spot)) (eq-eqb 0 0 refl) ∙ ap (λ (x : Bool). x || false) (eq-eqb begin 0 e)
so-spot spot begin (suc k) e = ap (λ (x : Bool). (x && eqb begin 0) || (not x && eqb begin spot)) (ne_eqb (suc k) 0 (λ z. omega arith)) ∙ eq-eqb begin spot e

record SpotsFit (spot begin spots : ℕ) : Type 0 where
  range : spots ≤ largest
  begin_so : begin ≡ first_spot_of spot spots

spots_so : (spot begin spots : ℕ) → spots_fit_of spot begin spots ≡ true → SpotsFit spot begin spots
spots_so spot begin spots e = let t = both_true (leb spots 32768) (spot_fits_of spot begin spots) e in record { range = leb-true spots 32768 t.0; begin_so = spot-so spot begin spots t.1 }

so-spots : (spot begin spots : ℕ) → SpotsFit spot begin spots → spots_fit_of spot begin spots ≡ true
so-spots spot begin spots f = true-both (leb spots 32768) (spot_fits_of spot begin spots) (le-leb spots 32768 f.range) (so-spot spot begin spots f.begin_so)

-- ## One zone. s: the points and the spots so far
record ZoneRight (s : ℕ × ℕ) (r : ZoneRow Field) : Type 0 where
  fits : Fits s.0 r.first_point_of r.points
  spots : SpotsFit s.1 r.first_spot_of r.spots
  names : AreNames r.name

abbrev zone_behind : ℕ × ℕ → ZoneRow Field → ℕ × ℕ
zone_behind s r = (s.0 + zone_span r, s.1 + r.spots)

module _ (b : Bytes) (at : ℕ) where
  abbrev NameOf : ℕ → Bytes → Type 0
  NameOf place l = AreNames (named-at place (value (take 2 l)) (drop 2 l))

  -- the numbers as slots are read
  abbrev n₁ : ℕ
  n₁ = value (take 4 (drop 2 (drop at b)))

  abbrev n₂ : ℕ
  n₂ = value (take 2 (drop 4 (drop 2 (drop at b))))

  abbrev n₃ : ℕ
  n₃ = value (take 4 (drop 2 (drop 4 (drop 2 (drop at b)))))

  abbrev n₄ : ℕ
  n₄ = value (take 2 (drop 4 (drop 2 (drop 4 (drop 2 (drop at b))))))

  module _ (s : ℕ × ℕ) where
    abbrev Row : ℕ → Type 0
    Row place = OneRow zone-kinds zone-back zone_end_of zone_next ZoneRight zone_behind place b at s

    -- the row, from what code found
    the_zone_row_of : (place : ℕ) → FoundNamed (of_size 4 ∷ of_size 2 ∷ of_size 4 ∷ of_size 2 ∷ []) tt b at → zone_end_of b at s ≡ named_end 12 b at → Fits s.0 n₁ n₂ → SpotsFit s.1 n₃ n₄ → Row place
    unfolding read
    the_zone_row_of place f e g h =
        let i = f.inside in
        let p = second-number b at (omega arith) in
        let q = fourth-number b at (omega arith) in
        record {
          here_so = f.here_so;
          end-so = e ∙ f.end;
          right = record { fits = g; spots = h; names = subst (NameOf (place + 2 + 4 + 2 + 4 + 2)) (sym (fifth-field b at)) (f.is_name (place + 2 + 4 + 2 + 4 + 2)) };
          next-so = λ i. (s.0 + (p i + (q i + q i)), s.1 + q i);
        }

    zone-so : (place : ℕ) → (zone_end_of b at s ≡ 0 → ⊥) → Row place
    zone-so place h =
        let t = zone_told_of b at s.0 s.1 h in
        let f = found-so (of_size 4 ∷ of_size 2 ∷ of_size 4 ∷ of_size 2 ∷ []) tt b at t.1.1 in
        let i = f.inside in
        let g = fits-so s.0 (four_at_of b (at + 2)) (two_at b (at + 6)) t.0 in
        let o = spots_so s.1 (four_at_of b (at + 8)) (two_at b (at + 12)) t.1.0 in
        the_zone_row_of place f (sym (zone-is b at s.0 s.1 true (sym t.0) true (sym t.1.0) (named_end 12 b at) refl))
        (subst (λ (n : ℕ). Fits s.0 n n₂) (first-number b at (omega arith)) (subst (Fits s.0 (four_at_of b (at + 2))) (second-number b at (omega arith)) g))
        (subst (λ (n : ℕ). SpotsFit s.1 n n₄) (third-number b at (omega arith)) (subst (SpotsFit s.1 (four_at_of b (at + 8))) (fourth-number b at (omega arith)) o))

    zone-all : (place : ℕ) → here zone-kinds (drop at b) ≡ true → ZoneRight s (zone-back (read (place + 2) zone-kinds (drop 2 (drop at b)))) → Row place
    unfolding read
    zone-all place h r =
        let w = (here-named (of_size 4 ∷ of_size 2 ∷ of_size 4 ∷ of_size 2 ∷ []) tt b at h).whole in
        let n = found_all (of_size 4 ∷ of_size 2 ∷ of_size 4 ∷ of_size 2 ∷ []) tt b at (place + 2 + 4 + 2 + 4 + 2) h (subst (NameOf (place + 2 + 4 + 2 + 4 + 2)) (fifth-field b at) r.names) in
        let f = found-so (of_size 4 ∷ of_size 2 ∷ of_size 4 ∷ of_size 2 ∷ []) tt b at (λ z. omega arith) in
        let g = so-fits s.0 (four_at_of b (at + 2)) (two_at b (at + 6)) (subst (λ (n : ℕ). Fits s.0 n (two_at b (at + 6))) (sym (first-number b at (omega arith))) (subst (Fits s.0 n₁) (sym (second-number b at (omega arith))) r.fits)) in
        let o = so-spots s.1 (four_at_of b (at + 8)) (two_at b (at + 12)) (subst (λ (n : ℕ). SpotsFit s.1 n (two_at b (at + 12))) (sym (third-number b at (omega arith))) (subst (SpotsFit s.1 n₃) (sym (fourth-number b at (omega arith))) r.spots)) in
        the_zone_row_of place f (sym (zone-is b at s.0 s.1 true (sym g) true (sym o) (named_end 12 b at) refl)) r.fits r.spots

-- ## The rows
record RowsSo (p q : ℕ) (l : List (ZoneRow Field)) : Type 0 where
  each : Each ZoneRowRight l
  running : Running (λ r. r.first_point_of) zone_span p l
  first_spots : FirstSpots q l
  names : Each (λ r. AreNames r.name) l

rows-so : (p q : ℕ) (l : List (ZoneRow Field)) → InRow ZoneRight zone_behind (p, q) l → RowsSo p q l
rows-so p q [] h = record { each = tt; running = tt; first_spots = tt; names = tt }
rows-so p q (r ∷ l) h =
    let m = rows-so (p + zone_span r) (q + r.spots) l h.1 in
    record {
      each = (record { count = h.0.fits.range; spots = h.0.spots.range }, m.each);
      running = (h.0.fits.begin_so, m.running);
      first_spots = (h.0.spots.begin_so, m.first_spots);
      names = (h.0.names, m.names);
    }

so-rows : (p q : ℕ) (l : List (ZoneRow Field)) → RowsSo p q l → InRow ZoneRight zone_behind (p, q) l
so-rows p q [] h = tt
so-rows p q (r ∷ l) h = (
  record { fits = record { begin_so = h.running.0; range = h.each.0.count }; spots = record { range = h.each.0.spots; begin_so = h.first_spots.0 }; names = h.names.0 },
  so-rows (p + zone_span r) (q + r.spots) l (record { each = h.each.1; running = h.running.1; first_spots = h.first_spots.1; names = h.names.1 }),
)

added : (a b c : ℕ) → (a + b) + c ≡ a + (b + c)
added a b c = omega arith

nothing-added : (a : ℕ) → a ≡ a + 0
nothing-added a = omega arith

rows-total : (p q : ℕ) (l : List (ZoneRow Field)) → behind-rows zone_behind (p, q) l ≡ (p + total zone_span l, q + total (λ r. r.spots) l)
rows-total p q [] = λ i. (nothing-added p i, nothing-added q i)
rows-total p q (r ∷ l) = rows-total (p + zone_span r) (q + r.spots) l ∙ (λ i. (added p (zone_span r) (total zone_span l) i, added q r.spots (total (λ r. r.spots) l) i))

-- ## The pass
-- what the rows of so many records are. place: where the first is said to stand
abbrev pub zone_rows : (place k : ℕ) → Bytes → List (ZoneRow Field)
zone_rows place k x = map zone-back (records-read place k zone-kinds x)

-- point: the first point that they have; end: the place behind them; points: the points before what follows them; spots: how many spots they have
pub record ZonesSo (place k : ℕ) (b : Bytes) (at point end points spots : ℕ) : Type 0 where
  pub all_so : all_here k zone-kinds (drop at b) ≡ true
  pub each : Each ZoneRowRight (zone_rows place k (drop at b))
  pub running : Running (λ r. r.first_point_of) zone_span point (zone_rows place k (drop at b))
  pub first_spots : FirstSpots 0 (zone_rows place k (drop at b))
  pub names : Each (λ r. AreNames r.name) (zone_rows place k (drop at b))
  pub place_so : end ≡ place_after at k zone-kinds (drop at b)
  pub left_so : drop end b ≡ after k zone-kinds (drop at b)
  pub points_so : points ≡ point + total zone_span (zone_rows place k (drop at b))
  pub spots_so : spots ≡ total (λ r. r.spots) (zone_rows place k (drop at b))

from_told : (o : Option (ℕ × (ℕ × ℕ))) (end points spots : ℕ) → zones_told o ≡ Some (end, points, spots) → o ≡ some (end, (points, spots))
from_told none end points spots e = absurd (let z : ◌≡◌ {A = ℕ} 0 1 = cc in omega arith)
from_told (some x) end points spots e = let q = same_Some (x.0, x.1.0, x.1.1) (end, points, spots) e in λ i. some ((q i).0, ((q i).1, (q i).2))

-- THE LAW: what passes is so
pub zones-so : (place k : ℕ) (b : Bytes) (at point end points spots : ℕ) → zones_told (zones k b at (point, 0)) ≡ Some (end, points, spots) → ZonesSo place k b at point end points spots
zones-so place k b at point end points spots h =
    let l = zone_rows place k (drop at b) in
    let p = pass-so zone-kinds zone-back zone_end_of zone_next ZoneRight zone_behind (λ place b at s. zone-so b at s place) place k b at (point, 0) (end, (points, spots)) (from_told (zones k b at (point, 0)) end points spots h) in
    let r = rows-so point 0 l p.right in
    let t : 0 + total (λ r. r.spots) l ≡ total (λ r. r.spots) l = omega arith in
    let n = p.known ∙ rows-total point 0 l in
    record { all_so = p.all_so; each = r.each; running = r.running; first_spots = r.first_spots; names = r.names; place_so = p.place_so; left_so = p.left_so; points_so = ap (λ (x : ℕ × ℕ). x.0) n; spots_so = ap (λ (x : ℕ × ℕ). x.1) n ∙ t }

-- and all that is so passes
pub zones-all : (place k : ℕ) (b : Bytes) (at point : ℕ) → all_here k zone-kinds (drop at b) ≡ true → Each ZoneRowRight (zone_rows place k (drop at b)) → Running (λ r. r.first_point_of) zone_span point (zone_rows place k (drop at b)) → FirstSpots 0 (zone_rows place k (drop at b)) → Each (λ r. AreNames r.name) (zone_rows place k (drop at b))
    → zones_told (zones k b at (point, 0)) ≡ Some (place_after at k zone-kinds (drop at b), point + total zone_span (zone_rows place k (drop at b)), total (λ r. r.spots) (zone_rows place k (drop at b)))
zones-all place k b at point h e r f n =
    let l = zone_rows place k (drop at b) in
    let p = pass_all zone-kinds zone-back zone_end_of zone_next ZoneRight zone_behind (λ place b at s. zone-all b at s place) place k b at (point, 0) h (so-rows point 0 l (record { each = e; running = r; first_spots = f; names = n })) in
    let t : 0 + total (λ r. r.spots) l ≡ total (λ r. r.spots) l = omega arith in
    let x = rows-total point 0 l in
    ap zones_told p ∙ (λ i. Some (place_after at k zone-kinds (drop at b), (x i).0, ((ap (λ (y : ℕ × ℕ). y.1) x ∙ t) i)))
