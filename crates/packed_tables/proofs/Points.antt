-- The pass over points (packed_rows::are_points): it says that every record has its length and every point is one of the earth's. Assumes nothing.
use mathlib.Core.Path.{◌≡◌, refl, sym, ap, ap₂, subst, ◌∙◌}
use mathlib.Core.List.{List, [], ◌∷◌, map}
use mathlib.Core.Bool.{Bool, true, false, ◌&&◌}
use Prim.Native.Nat.{ℕ, zero, suc, ◌+◌, ◌-◌, ◌*◌, ◌≤◌, ◌<◌}
use native.Mathlib.Omega.{arith}
use lib.Dec.{leb, ltb}
use lib.ListN.{length, take, drop, get_or}
use lib.Seq.{drop-drop}
use lib.IntN.{pos, negsuc, nat_abs}
use borrow.Author.Tests.{leb-true, leb-false, le-leb, lt-leb, ltb-true, ltb-false, lt-ltb}
use Rattle.terms.specs.Ascii.{Bytes}
use Rattle.terms.specs.Words.{Each, pick}
use Rattle.terms.proofs.Tests.{clash}
use Rattle.grammar.specs.Network.{OnEarth}
use Rattle.unpackings.proofs.Rows.{point-back}
use Rattle.packed_rows.specs.Walk.{two}
use Rattle.packed_rows.specs.Fixed.{record_here}
use Rattle.packed_rows.specs.Points.{four_at_of, degree, point_right, points_right}
use Rattle.packed_rows.proofs.Laws.{two-on}
use Rattle.packed_rows.proofs.FixedLaws.{here-inside}
use Rattle.packed_tables.proofs.Numbers.{value, value-from, signed}
use Rattle.packed_tables.proofs.Reading.{read}
use Rattle.packed_tables.proofs.Records.{sizes, here, all_here, records-read, true-both, both_true}
use Rattle.packed_tables.proofs.Whole.{point-kinds}
use Rattle.packed_tables.proofs.Fixed.{here_so}

-- ## A number of four bytes
four-on : (b : Bytes) (at : ℕ) → at + 4 ≤ length b → drop at b ≡ get_or b at 0 ∷ get_or b (at + 1) 0 ∷ get_or b (at + 2) 0 ∷ get_or b (at + 3) 0 ∷ drop (at + 4) b
four-on b at h =
    let e : at + 2 + 1 ≡ at + 3 = omega arith in
    let d : at + 2 + 2 ≡ at + 4 = omega arith in
    two-on b at (omega arith) ∙ ap (λ (l : Bytes). get_or b at 0 ∷ get_or b (at + 1) 0 ∷ l) (two-on b (at + 2) (omega arith) ∙ (λ i. get_or b (at + 2) 0 ∷ get_or b (e i) 0 ∷ drop (d i) b))

value_four : (w x y z : ℕ) (l : Bytes) → value (take 4 (w ∷ x ∷ y ∷ z ∷ l)) ≡ two w x * 65536 + two y z
unfolding value-from
value_four w x y z l = omega arith

pub four-value : (b : Bytes) (at : ℕ) → at + 4 ≤ length b → four_at_of b at ≡ value (take 4 (drop at b))
unfolding four_at_of
four-value b at h =
    ap (λ (t : Bool). pick t (two (get_or b at 0) (get_or b (at + 1) 0) * 65536 + two (get_or b (at + 2) 0) (get_or b (at + 3) 0)) 0) (le-leb (at + 4) (length b) h)
    ∙ sym (ap (λ (l : Bytes). value (take 4 l)) (four-on b at h) ∙ value_four (get_or b at 0) (get_or b (at + 1) 0) (get_or b (at + 2) 0) (get_or b (at + 3) 0) (drop (at + 4) b))

-- ## A coordinate in its range
degree-right : (most v : ℕ) → most ≤ 180000000 → degree most v ≡ true → nat_abs (signed v) ≤ most
unfolding degree
degree-right most v m e = go (leb v most) refl (ltb v 2147483648) refl e
  where
    go : (x : Bool) → leb v most ≡ x → (y : Bool) → ltb v 2147483648 ≡ y → pick x true (ltb (4294967295 - v) most) ≡ true → nat_abs (pick y (pos v) (negsuc (4294967295 - v))) ≤ most
    go true p true q h = leb-true v most p
    go true p false q h = let a = leb-true v most p in let b = ltb-false v 2147483648 q in absurd (omega arith)
    go false p true q h = let a = ltb-true v 2147483648 q in let b = ltb-true (4294967295 - v) most h in absurd (omega arith)
    go false p false q h = let b = ltb-true (4294967295 - v) most h in omega arith

degree-all : (most v : ℕ) → nat_abs (signed v) ≤ most → degree most v ≡ true
unfolding degree
degree-all most v = go (leb v most) refl (ltb v 2147483648) refl
  where
    go : (x : Bool) → leb v most ≡ x → (y : Bool) → ltb v 2147483648 ≡ y → nat_abs (pick y (pos v) (negsuc (4294967295 - v))) ≤ most → pick x true (ltb (4294967295 - v) most) ≡ true
    go true p y q h = refl
    go false p true q h = let a = leb-false v most p in absurd (omega arith)
    go false p false q h = lt-ltb (4294967295 - v) most (omega arith)

-- ## A point
record Right (b : Bytes) (at : ℕ) : Type 0 where
  framed : record_here 8 (drop at b) ≡ true
  north : degree 90000000 (four_at_of b (at + 2)) ≡ true
  east : degree 180000000 (four_at_of b (at + 6)) ≡ true

right_so : (b : Bytes) (at : ℕ) → point_right b at ≡ true → Right b at
unfolding point_right
right_so b at e = go (record_here 8 (drop at b)) refl (degree 90000000 (four_at_of b (at + 2))) refl e
  where
    go : (x : Bool) → record_here 8 (drop at b) ≡ x → (y : Bool) → degree 90000000 (four_at_of b (at + 2)) ≡ y → pick x (pick y (degree 180000000 (four_at_of b (at + 6))) false) false ≡ true → Right b at
    go true p true q h = record { framed = p; north = q; east = h }
    go true p false q h = clash (sym h)
    go false p y q h = clash (sym h)

so_right : (b : Bytes) (at : ℕ) → Right b at → point_right b at ≡ true
unfolding point_right
so_right b at r = ap₂ (λ (x y : Bool). pick x (pick y (degree 180000000 (four_at_of b (at + 6))) false) false) r.framed r.north ∙ r.east

-- the point of a record that stands there
abbrev lat : Bytes → ℕ → ℕ
lat b at = value (take 4 (drop 2 (drop at b)))

abbrev lon : Bytes → ℕ → ℕ
lon b at = value (take 4 (drop 4 (drop 2 (drop at b))))

lat-is : (b : Bytes) (at : ℕ) → at + 2 + 8 ≤ length b → four_at_of b (at + 2) ≡ lat b at
lat-is b at h = four-value b (at + 2) (omega arith) ∙ ap (λ (l : Bytes). value (take 4 l)) (sym (drop-drop 2 at b))

lon-is : (b : Bytes) (at : ℕ) → at + 2 + 8 ≤ length b → four_at_of b (at + 6) ≡ lon b at
lon-is b at h =
    let e : at + 6 ≡ (at + 2) + 4 = omega arith in
    four-value b (at + 6) (omega arith) ∙ ap (λ (k : ℕ). value (take 4 (drop k b))) e ∙ ap (λ (l : Bytes). value (take 4 l)) (sym (drop-drop 4 (at + 2) b) ∙ ap (drop 4) (sym (drop-drop 2 at b)))

-- ## All of them
more-points : (k : ℕ) (b : Bytes) (at : ℕ) → points_right (suc k) b at ≡ pick (point_right b at) (points_right k b (at + 10)) false
unfolding points_right
more-points k b at = refl

none-points : (b : Bytes) (at : ℕ) → points_right 0 b at ≡ true
unfolding points_right
none-points b at = refl

-- THE LAW
pub points_so : (place k : ℕ) (b : Bytes) (at : ℕ) → points_right k b at ≡ true → (all_here k point-kinds (drop at b) ≡ true) × Each OnEarth (map point-back (records-read place k point-kinds (drop at b)))
unfolding all_here records-read read sizes
points_so place zero b at e = (refl, tt)
points_so place (suc k) b at e = go (point_right b at) refl (sym (more-points k b at) ∙ e) (λ h. points_so (place + 10) k b (at + 10) h)
  where
    go : (x : Bool) → point_right b at ≡ x → pick x (points_right k b (at + 10)) false ≡ true
        → (points_right k b (at + 10) ≡ true → (all_here k point-kinds (drop (at + 10) b) ≡ true) × Each OnEarth (map point-back (records-read (place + 10) k point-kinds (drop (at + 10) b))))
        → (all_here (suc k) point-kinds (drop at b) ≡ true) × Each OnEarth (map point-back (records-read place (suc k) point-kinds (drop at b)))
    go false p h more = clash (sym h)
    go true p h more =
        let r = right_so b at p in
        let i = here-inside b at 8 r.framed in
        let m = more h in
        let d = sym (drop-drop 10 at b) in (
          true-both (here point-kinds (drop at b)) (all_here k point-kinds (drop 10 (drop at b))) (here_so point-kinds (drop at b) tt ∙ r.framed) (ap (all_here k point-kinds) (sym d) ∙ m.0),
          (
            record { latitude = degree-right 90000000 (lat b at) (omega arith) (ap (degree 90000000) (sym (lat-is b at i)) ∙ r.north); longitude = degree-right 180000000 (lon b at) (omega arith) (ap (degree 180000000) (sym (lon-is b at i)) ∙ r.east) },
            subst (λ (l : Bytes). Each OnEarth (map point-back (records-read (place + 10) k point-kinds l))) d m.1,
          ),
        )

pub points-all : (place k : ℕ) (b : Bytes) (at : ℕ) → all_here k point-kinds (drop at b) ≡ true → Each OnEarth (map point-back (records-read place k point-kinds (drop at b))) → points_right k b at ≡ true
unfolding all_here records-read read sizes
points-all place zero b at e o = none-points b at
points-all place (suc k) b at e o =
    let u = both_true (here point-kinds (drop at b)) (all_here k point-kinds (drop 10 (drop at b))) e in
    let framed : record_here 8 (drop at b) ≡ true = sym (here_so point-kinds (drop at b) tt) ∙ u.0 in
    let i = here-inside b at 8 framed in
    let d = drop-drop 10 at b in
    let here-right : point_right b at ≡ true = so_right b at (record { framed = framed; north = ap (degree 90000000) (lat-is b at i) ∙ degree-all 90000000 (lat b at) o.0.latitude; east = ap (degree 180000000) (lon-is b at i) ∙ degree-all 180000000 (lon b at) o.0.longitude }) in
    more-points k b at ∙ ap (λ (x : Bool). pick x (points_right k b (at + 10)) false) here-right
    ∙ points-all (place + 10) k b (at + 10) (ap (all_here k point-kinds) (sym d) ∙ u.1) (subst (λ (l : Bytes). Each OnEarth (map point-back (records-read (place + 10) k point-kinds l))) d o.1)
