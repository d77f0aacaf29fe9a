-- The pass over spots (packed_frame::are_spots): it says that every record has its length, widths are in range, and each spot's first point is where its zone has it. Assumes nothing.
use mathlib.Core.Path.{◌≡◌, refl, sym, ap, ap₂, subst, ◌∙◌}
use mathlib.Core.List.{List, [], ◌∷◌, ◌++◌, map, map-append}
use mathlib.Core.Bool.{Bool, true, false, ◌&&◌, ◌||◌}
use mathlib.Core.Logic.{◌⊎◌, inl, inr}
use Prim.Native.Nat.{ℕ, zero, suc, ◌+◌, ◌*◌}
use native.Mathlib.Omega.{arith}
use lib.Dec.{leb, eqb}
use lib.ListN.{length, take, drop, length-map}
use lib.Seq.{drop-drop, take_at, drop_at}
use borrow.Author.Tests.{leb-true, le-leb, eqb-true, eq-eqb}
use Rattle.terms.specs.Ascii.{Bytes}
use Rattle.terms.specs.Words.{Each, Between, pick}
use Rattle.terms.proofs.Tests.{clash}
use Rattle.terms.proofs.Lists.{each_append}
use Rattle.line.specs.Content.{Field}
use Rattle.law.specs.Tables.{total}
use Rattle.grammar.specs.Network.{largest}
use Rattle.grammar.specs.Tables.{ZoneRow, SpotRow}
use Rattle.grammar.proofs.Rows.{each-front, each-behind}
use Rattle.unpackings.proofs.Cutting.{of_size}
use Rattle.unpackings.proofs.Rows.{zone-back, spot_back}
use Rattle.row_network.specs.Consistent.{SpotRowRight, Running, zone_span, SpotsRunning}
use Rattle.packed_rows.specs.Fixed.{record_here}
use Rattle.packed_rows.specs.Points.{four_at_of}
use Rattle.packed_rows.proofs.FixedLaws.{here-inside}
use Rattle.packed_tables.proofs.Numbers.{value}
use Rattle.packed_tables.proofs.Reading.{named-at, read}
use Rattle.packed_tables.proofs.Records.{sizes, here, whole-size, all_here, after, place_after, records-read, both_true, true-both}
use Rattle.packed_tables.proofs.Whole.{zone-kinds, spot-kinds, length-records}
use Rattle.packed_tables.proofs.Fixed.{here_so}
use Rattle.packed_frame.specs.Names.{two_at, named_end}
use Rattle.packed_frame.specs.Spots.{spot_right, spot-at, spot_here, spot_next, spots_right, zone_here, zone_behind, all_spots}
use Rattle.packed_frame.proofs.WalkLaws.{every_more, every-ended}
use Rattle.packed_frame.proofs.RowLaws.{spot_told_of, spot-there, zone-there}
use Rattle.frame_tables.proofs.Fields.{AreNames, fifth-field, first-number, second-number, fourth-number, here-named, found_all}
use Rattle.frame_tables.proofs.Passes.{all-here-both, records-both, place-fixed, after-fixed}
use Rattle.frame_tables.proofs.Zones.{zone_rows}

-- ## One spot
record SpotFits (point begin width : ℕ) : Type 0 where
  begin_so : begin ≡ point
  range : (width ≡ 65535) ⊎ Between 1 largest width

either : (width : ℕ) (x : Bool) → (leb 1 width && leb width 32768) ≡ x → (x || eqb width 65535) ≡ true → (width ≡ 65535) ⊎ Between 1 largest width
either width true d h = let u = both_true (leb 1 width) (leb width 32768) d in inr (record { low = leb-true 1 width u.0; high = leb-true width 32768 u.1 })
either width false d h = inl (eqb-true width 65535 h)

any_true : (x : Bool) → (x || true) ≡ true
any_true true = refl
any_true false = refl

or-either : (width : ℕ) → ((width ≡ 65535) ⊎ Between 1 largest width) → ((leb 1 width && leb width 32768) || eqb width 65535) ≡ true
or-either width (inl e) = ap (λ (x : Bool). (leb 1 width && leb width 32768) || x) (eq-eqb width 65535 e) ∙ any_true (leb 1 width && leb width 32768)
or-either width (inr r) = ap (λ (x : Bool). x || eqb width 65535) (true-both (leb 1 width) (leb width 32768) (le-leb 1 width r.low) (le-leb width 32768 r.high))

fits-so : (point begin width : ℕ) → spot_right point begin width ≡ true → SpotFits point begin width
fits-so point begin width e =
    let t = both_true (eqb begin point) ((leb 1 width && leb width 32768) || eqb width 65535) e in
    record { begin_so = eqb-true begin point t.0; range = either width (leb 1 width && leb width 32768) refl t.1 }

so-fits : (point begin width : ℕ) → SpotFits point begin width → spot_right point begin width ≡ true
so-fits point begin width f = true-both (eqb begin point) ((leb 1 width && leb width 32768) || eqb width 65535) (eq-eqb begin point f.begin_so) (or-either width f.range)

module _ (b : Bytes) (at point : ℕ) where
  -- the numbers as slots are read
  abbrev n₁ : ℕ
  n₁ = value (take 4 (drop 2 (drop at b)))

  abbrev n₂ : ℕ
  n₂ = value (take 2 (drop 4 (drop 2 (drop at b))))

  spot-so : spot-at b at point ≡ true → (here spot-kinds (drop at b) ≡ true) × SpotFits point n₁ n₂
  spot-so e =
      let t = spot_told_of b at point e in
      let i = here-inside b at 6 t.0 in
      let f = fits-so point (four_at_of b (at + 2)) (two_at b (at + 6)) t.1 in
      (here_so spot-kinds (drop at b) tt ∙ t.0, subst (λ (n : ℕ). SpotFits point n n₂) (first-number b at (omega arith)) (subst (SpotFits point (four_at_of b (at + 2))) (second-number b at (omega arith)) f))

  so-spot : here spot-kinds (drop at b) ≡ true → SpotFits point n₁ n₂ → spot-at b at point ≡ true
  so-spot h f =
      let r : record_here 6 (drop at b) ≡ true = sym (here_so spot-kinds (drop at b) tt) ∙ h in
      let i = here-inside b at 6 r in
      sym (spot-there b at point r) ∙ so-fits point (four_at_of b (at + 2)) (two_at b (at + 6)) (subst (λ (n : ℕ). SpotFits point n (two_at b (at + 6))) (sym (first-number b at (omega arith))) (subst (SpotFits point n₁) (sym (second-number b at (omega arith))) f))

-- ## So many spots
abbrev pub spot_rows : (place k : ℕ) → Bytes → List SpotRow
spot_rows place k x = map spot_back (records-read place k spot-kinds x)

abbrev Behind : ℕ → List SpotRow → Type 0
Behind point l = Running (λ (r : SpotRow). r.first_point_of) (λ r. 2) point l

record OneZone (place k : ℕ) (b : Bytes) (at point : ℕ) : Type 0 where
  all_so : all_here k spot-kinds (drop at b) ≡ true
  each : Each SpotRowRight (spot_rows place k (drop at b))
  running : Behind point (spot_rows place k (drop at b))

one-so : (place k : ℕ) (b : Bytes) (at point : ℕ) → spots_right k b at point ≡ true → OneZone place k b at point
unfolding all_here records-read read sizes
one-so place zero b at point e = record { all_so = refl; each = tt; running = tt }
one-so place (suc k) b at point e = go (spot-at b at point) refl (sym (every_more spot_here spot_next k b (at, point)) ∙ e) (λ h. one-so (place + 8) k b (at + 8) (point + 2) h)
  where
    go : (x : Bool) → spot-at b at point ≡ x → pick x (spots_right k b (at + 8) (point + 2)) false ≡ true → (spots_right k b (at + 8) (point + 2) ≡ true → OneZone (place + 8) k b (at + 8) (point + 2)) → OneZone place (suc k) b at point
    go false p h more = clash (sym h)
    go true p h more =
        let s = spot-so b at point p in
        let m = more h in
        let d = sym (drop-drop 8 at b) in
        record {
          all_so = true-both (here spot-kinds (drop at b)) (all_here k spot-kinds (drop 8 (drop at b))) s.0 (ap (all_here k spot-kinds) (sym d) ∙ m.all_so);
          each = (s.1.range, subst (λ (l : Bytes). Each SpotRowRight (spot_rows (place + 8) k l)) d m.each);
          running = (s.1.begin_so, subst (λ (l : Bytes). Behind (point + 2) (spot_rows (place + 8) k l)) d m.running);
        }

one-all : (place k : ℕ) (b : Bytes) (at point : ℕ) → OneZone place k b at point → spots_right k b at point ≡ true
unfolding all_here records-read read sizes
one-all place zero b at point z = sym (every-ended spot_here spot_next b (at, point) 0 (omega arith))
one-all place (suc k) b at point z =
    let u = both_true (here spot-kinds (drop at b)) (all_here k spot-kinds (drop 8 (drop at b))) z.all_so in
    let s = so-spot b at point u.0 (record { begin_so = z.running.0; range = z.each.0 }) in
    let d = drop-drop 8 at b in
    every_more spot_here spot_next k b (at, point) ∙ ap (λ (x : Bool). pick x (spots_right k b (at + 8) (point + 2)) false) s
    ∙ one-all (place + 8) k b (at + 8) (point + 2) (record {
      all_so = ap (all_here k spot-kinds) (sym d) ∙ u.1;
      each = subst (λ (l : Bytes). Each SpotRowRight (spot_rows (place + 8) k l)) d z.each.1;
      running = subst (λ (l : Bytes). Behind (point + 2) (spot_rows (place + 8) k l)) d z.running.1;
    })

-- what is behind them, and where
pub spots-after : (k : ℕ) (b : Bytes) (at : ℕ) → after k spot-kinds (drop at b) ≡ drop (at + 8 * k) b
spots-after k b at = after-fixed spot-kinds tt k b at

pub spots-place : (place k : ℕ) (x : Bytes) → place_after place k spot-kinds x ≡ place + 8 * k
spots-place place k x = place-fixed spot-kinds tt place k x

-- ## The spots of zones
-- zs: the zones; p: the first point that they have
pub record SpotsSo (place : ℕ) (b : Bytes) (at p : ℕ) (zs : List (ZoneRow Field)) : Type 0 where
  pub all_so : all_here (total (λ r. r.spots) zs) spot-kinds (drop at b) ≡ true
  pub each : Each SpotRowRight (spot_rows place (total (λ r. r.spots) zs) (drop at b))
  pub running : SpotsRunning p zs (spot_rows place (total (λ r. r.spots) zs) (drop at b))

module _ (place : ℕ) (b : Bytes) (at n k : ℕ) where
  abbrev front : List SpotRow
  front = spot_rows place n (drop at b)

  abbrev rest : List SpotRow
  rest = spot_rows (place + 8 * n) k (drop (at + 8 * n) b)

  both-rows : spot_rows place (n + k) (drop at b) ≡ front ++ rest
  both-rows =
      ap (map spot_back) (records-both place n k spot-kinds (drop at b)) ∙ map-append spot_back (records-read place n spot-kinds (drop at b)) (records-read (place_after place n spot-kinds (drop at b)) k spot-kinds (after n spot-kinds (drop at b)))
      ∙ ap₂ (λ (j : ℕ) (l : Bytes). front ++ spot_rows j k l) (spots-place place n (drop at b)) (spots-after n b at)

  front_long : length front ≡ n
  front_long = length-map (records-read place n spot-kinds (drop at b)) spot_back ∙ length-records place n spot-kinds (drop at b)

  front-so : take n (spot_rows place (n + k) (drop at b)) ≡ front
  front-so = ap (take n) both-rows ∙ take_at front rest n front_long

  rest-so : drop n (spot_rows place (n + k) (drop at b)) ≡ rest
  rest-so = ap (drop n) both-rows ∙ drop_at front rest n front_long

  both-here : all_here (n + k) spot-kinds (drop at b) ≡ (all_here n spot-kinds (drop at b) && all_here k spot-kinds (drop (at + 8 * n) b))
  both-here = all-here-both n k spot-kinds (drop at b) ∙ ap (λ (l : Bytes). all_here n spot-kinds (drop at b) && all_here k spot-kinds l) (spots-after n b at)

joined : (place : ℕ) (b : Bytes) (at p : ℕ) (z : ZoneRow Field) (zs : List (ZoneRow Field)) → OneZone place z.spots b at (p + z.points) → SpotsSo (place + 8 * z.spots) b (at + 8 * z.spots) (p + zone_span z) zs → SpotsSo place b at p (z ∷ zs)
joined place b at p z zs one more =
    let n = z.spots in
    let k = total (λ (r : ZoneRow Field). r.spots) zs in
    let x = front place b at n k in
    let y = rest place b at n k in
    record {
      all_so = both-here place b at n k ∙ true-both (all_here n spot-kinds (drop at b)) (all_here k spot-kinds (drop (at + 8 * n) b)) one.all_so more.all_so;
      each = subst (Each SpotRowRight) (sym (both-rows place b at n k)) (each_append SpotRowRight x y one.each more.each);
      running = (subst (Behind (p + z.points)) (sym (front-so place b at n k)) one.running, subst (SpotsRunning (p + zone_span z) zs) (sym (rest-so place b at n k)) more.running);
    }

cut-one : (place : ℕ) (b : Bytes) (at p : ℕ) (z : ZoneRow Field) (zs : List (ZoneRow Field)) → SpotsSo place b at p (z ∷ zs) → OneZone place z.spots b at (p + z.points) × SpotsSo (place + 8 * z.spots) b (at + 8 * z.spots) (p + zone_span z) zs
cut-one place b at p z zs s =
    let n = z.spots in
    let k = total (λ (r : ZoneRow Field). r.spots) zs in
    let x = front place b at n k in
    let y = rest place b at n k in
    let u = both_true (all_here n spot-kinds (drop at b)) (all_here k spot-kinds (drop (at + 8 * n) b)) (sym (both-here place b at n k) ∙ s.all_so) in
    let e = subst (Each SpotRowRight) (both-rows place b at n k) s.each in (
      record { all_so = u.0; each = each-front SpotRowRight x y e; running = subst (Behind (p + z.points)) (front-so place b at n k) s.running.0 },
      record { all_so = u.1; each = each-behind SpotRowRight x y e; running = subst (SpotsRunning (p + zone_span z) zs) (rest-so place b at n k) s.running.1 },
    )

-- the zone that stands at a place, and where the next one stands
module _ (from : ℕ) (b : Bytes) (zone at p : ℕ) where
  abbrev first-zone : ZoneRow Field
  first-zone = zone-back (read (from + 2) zone-kinds (drop 2 (drop zone b)))

  abbrev size : ℕ
  size = whole-size zone-kinds (drop zone b)

  abbrev NameOf : ℕ → Bytes → Type 0
  NameOf place l = AreNames (named-at place (value (take 2 l)) (drop 2 l))

  more-spots : (c : ℕ) → here zone-kinds (drop zone b) ≡ true → AreNames first-zone.name → first-zone.first_point_of ≡ p
      → all_spots (suc c) b zone at ≡ pick (spots_right first-zone.spots b at (p + first-zone.points)) (all_spots c b (zone + size) (at + 8 * first-zone.spots)) false
  unfolding read
  more-spots c h a q =
      let w = (here-named (of_size 4 ∷ of_size 2 ∷ of_size 4 ∷ of_size 2 ∷ []) tt b zone h).whole in
      let e = found_all (of_size 4 ∷ of_size 2 ∷ of_size 4 ∷ of_size 2 ∷ []) tt b zone (from + 2 + 4 + 2 + 4 + 2) h (subst (NameOf (from + 2 + 4 + 2 + 4 + 2)) (fifth-field b zone) a) in
      let n₁ = first-number b zone (omega arith) ∙ q in
      let n₂ = second-number b zone (omega arith) in
      let n₄ = fourth-number b zone (omega arith) in
      every_more zone_here zone_behind c b (zone, at)
      ∙ ap₂ (λ (x y : Bool). pick x y false) (sym (zone-there b zone at (named_end 12 b zone) refl (λ z. omega arith)) ∙ (λ i. spots_right (n₄ i) b at (n₁ i + n₂ i))) (λ i. all_spots c b (e i) (at + 8 * n₄ i))

-- THE LAW: what passes is so. from: where the first zone is said to stand; place: where the first spot is said to stand
pub spots_so : (from place c : ℕ) (b : Bytes) (zone at p : ℕ) → all_here c zone-kinds (drop zone b) ≡ true → Each (λ r. AreNames r.name) (zone_rows from c (drop zone b)) → Running (λ r. r.first_point_of) zone_span p (zone_rows from c (drop zone b))
    → all_spots c b zone at ≡ true → SpotsSo place b at p (zone_rows from c (drop zone b))
unfolding all_here records-read
spots_so from place zero b zone at p h a r e = record { all_so = refl; each = tt; running = tt }
spots_so from place (suc c) b zone at p h a r e =
    let w = whole-size zone-kinds (drop zone b) in
    let z = zone-back (read (from + 2) zone-kinds (drop 2 (drop zone b))) in
    let u = both_true (here zone-kinds (drop zone b)) (all_here c zone-kinds (drop w (drop zone b))) h in
    let d = drop-drop w zone b in
    go (spots_right z.spots b at (p + z.points)) refl (sym (more-spots from b zone at p c u.0 a.0 r.0) ∙ e)
    (λ x. spots_so (from + w) (place + 8 * z.spots) c b (zone + w) (at + 8 * z.spots) (p + zone_span z) (ap (all_here c zone-kinds) (sym d) ∙ u.1) (subst (λ (l : Bytes). Each (λ r. AreNames r.name) (zone_rows (from + w) c l)) d a.1) (subst (λ (l : Bytes). Running (λ r. r.first_point_of) zone_span (p + zone_span z) (zone_rows (from + w) c l)) d r.1) x)
  where
    go : (x : Bool)
        → spots_right (zone-back (read (from + 2) zone-kinds (drop 2 (drop zone b)))).spots b at (p + (zone-back (read (from + 2) zone-kinds (drop 2 (drop zone b)))).points) ≡ x
        → pick x (all_spots c b (zone + whole-size zone-kinds (drop zone b)) (at + 8 * (zone-back (read (from + 2) zone-kinds (drop 2 (drop zone b)))).spots)) false ≡ true
        → (all_spots c b (zone + whole-size zone-kinds (drop zone b)) (at + 8 * (zone-back (read (from + 2) zone-kinds (drop 2 (drop zone b)))).spots) ≡ true → SpotsSo (place + 8 * (zone-back (read (from + 2) zone-kinds (drop 2 (drop zone b)))).spots) b (at + 8 * (zone-back (read (from + 2) zone-kinds (drop 2 (drop zone b)))).spots) (p + zone_span (zone-back (read (from + 2) zone-kinds (drop 2 (drop zone b))))) (zone_rows (from + whole-size zone-kinds (drop zone b)) c (drop (zone + whole-size zone-kinds (drop zone b)) b)))
        → SpotsSo place b at p (zone_rows from (suc c) (drop zone b))
    go false q y more = clash (sym y)
    go true q y more =
        let w = whole-size zone-kinds (drop zone b) in
        let z = zone-back (read (from + 2) zone-kinds (drop 2 (drop zone b))) in
        let d = drop-drop w zone b in
        joined place b at p z (zone_rows (from + w) c (drop w (drop zone b))) (one-so place z.spots b at (p + z.points) q) (subst (λ (l : Bytes). SpotsSo (place + 8 * z.spots) b (at + 8 * z.spots) (p + zone_span z) (zone_rows (from + w) c l)) (sym d) (more y))

-- and all that is so passes
pub spots-all : (from place c : ℕ) (b : Bytes) (zone at p : ℕ) → all_here c zone-kinds (drop zone b) ≡ true → Each (λ r. AreNames r.name) (zone_rows from c (drop zone b)) → Running (λ r. r.first_point_of) zone_span p (zone_rows from c (drop zone b))
    → SpotsSo place b at p (zone_rows from c (drop zone b)) → all_spots c b zone at ≡ true
unfolding all_here records-read
spots-all from place zero b zone at p h a r s = sym (every-ended zone_here zone_behind b (zone, at) 0 (omega arith))
spots-all from place (suc c) b zone at p h a r s =
    let w = whole-size zone-kinds (drop zone b) in
    let z = zone-back (read (from + 2) zone-kinds (drop 2 (drop zone b))) in
    let u = both_true (here zone-kinds (drop zone b)) (all_here c zone-kinds (drop w (drop zone b))) h in
    let d = drop-drop w zone b in
    let t = cut-one place b at p z (zone_rows (from + w) c (drop w (drop zone b))) s in
    more-spots from b zone at p c u.0 a.0 r.0 ∙ ap (λ (x : Bool). pick x (all_spots c b (zone + w) (at + 8 * z.spots)) false) (one-all place z.spots b at (p + z.points) t.0)
    ∙ spots-all (from + w) (place + 8 * z.spots) c b (zone + w) (at + 8 * z.spots) (p + zone_span z) (ap (all_here c zone-kinds) (sym d) ∙ u.1) (subst (λ (l : Bytes). Each (λ r. AreNames r.name) (zone_rows (from + w) c l)) d a.1) (subst (λ (l : Bytes). Running (λ r. r.first_point_of) zone_span (p + zone_span z) (zone_rows (from + w) c l)) d r.1)
    (subst (λ (l : Bytes). SpotsSo (place + 8 * z.spots) b (at + 8 * z.spots) (p + zone_span z) (zone_rows (from + w) c l)) d t.1)
