-- The pass over lanes (packed_rows::are_lanes): every record has its length, every lane is right, and each begins where the one before it ended. The first zone point is behind the last of them. Assumes nothing.
use mathlib.Core.Path.{◌≡◌, refl, sym, ap, subst, ◌∙◌}
use mathlib.Core.List.{List, ◌∷◌, map}
use mathlib.Core.Bool.{Bool, true, false, ◌&&◌}
use mathlib.Core.Logic.{◌⊎◌, inl, inr}
use Prim.Native.Nat.{ℕ, zero, suc, ◌+◌, ◌*◌, ◌/◌, ◌%◌, ◌≤◌}
use native.Mathlib.Omega.{arith}
use lib.Dec.{leb, eqb}
use lib.ListN.{drop}
use borrow.Author.Tests.{leb-true, le-leb, eqb-true, eq-eqb}
use Rattle.terms.specs.Ascii.{Bytes}
use Rattle.terms.specs.Words.{Each, pick}
use Rattle.terms.proofs.Tests.{clash}
use Rattle.law.specs.Tables.{total}
use Rattle.grammar.specs.Network.{largest}
use Rattle.grammar.specs.Tables.{LaneRow}
use Rattle.row_network.specs.Consistent.{LaneRowRight, Running}
use Rattle.unpackings.proofs.Rows.{lane-back}
use Rattle.packed_rows.specs.Fixed.{record_here}
use Rattle.packed_rows.specs.Points.{four_at_of}
use Rattle.packed_rows.specs.Lanes.{width_right, lane_right, the_lane_at_of, lanes_right}
use Rattle.packed_rows.proofs.FixedLaws.{here-inside}
use Rattle.packed_parts.specs.Parts.{first-at, points_at, last_end}
use Rattle.packed_tables.proofs.Reading.{read}
use Rattle.packed_tables.proofs.Records.{Small, sizes, all_here, records-read, both_true, true-both}
use Rattle.packed_tables.proofs.Whole.{lane-kinds}
use Rattle.packed_tables.proofs.Fixed.{here_so}
use Rattle.part_tables.proofs.Listed.{rows-cons, rows-here}
use Rattle.part_tables.proofs.Fields.{lane_told_of, lane-is}

-- both of two tests, the second only where the first holds
pub both-picked : (x y : Bool) → pick x y false ≡ true → (x ≡ true) × (y ≡ true)
both-picked true y h = (refl, h)
both-picked false y h = clash (sym h)

pub picked_both : (x y : Bool) → x ≡ true → y ≡ true → pick x y false ≡ true
picked_both true y e h = h
picked_both false y e h = clash (sym e)

-- ## One lane
width-so : (w : ℕ) → width_right w ≡ true → (w ≡ 65535) ⊎ (w ≤ largest)
unfolding width_right
width-so w e = go (leb w 32768) refl e
  where
    go : (x : Bool) → leb w 32768 ≡ x → pick x true (eqb w 65535) ≡ true → (w ≡ 65535) ⊎ (w ≤ largest)
    go true p h = inr (leb-true w 32768 p)
    go false p h = inl (eqb-true w 65535 h)

width-all : (w : ℕ) → (w ≡ 65535) ⊎ (w ≤ largest) → width_right w ≡ true
unfolding width_right
width-all w (inr h) = ap (λ (t : Bool). pick t true (eqb w 65535)) (le-leb w 32768 h)
width-all w (inl e) = go (leb w 32768)
  where
    go : (x : Bool) → pick x true (eqb w 65535) ≡ true
    go true = refl
    go false = eq-eqb w 65535 e

lane-so : (b : Bytes) (at p : ℕ) → lane_right p (first-at b at) (four_at_of b (at + 6)) (four_at_of b (at + 8)) ≡ true → (first-at b at ≡ p) × LaneRowRight (lane_told_of b at)
unfolding lane_right
lane-so b at p e =
    let counts = four_at_of b (at + 6) in
    let sides = four_at_of b (at + 8) in
    let t1 = both-picked (eqb (first-at b at) p) _ e in
    let t2 = both-picked (leb 1 (counts / 65536)) _ t1.1 in
    let t3 = both-picked (leb (counts / 65536) 32768) _ t2.1 in
    let t4 = both-picked (width_right (counts % 65536)) _ t3.1 in
    let t5 = both-picked (leb (sides / 256 % 256) 4) _ t4.1 in (
      eqb-true (first-at b at) p t1.0,
      record { count = record { low = leb-true 1 (counts / 65536) t2.0; high = leb-true (counts / 65536) 32768 t3.0 }; width = width-so (counts % 65536) t4.0; left = leb-true (sides / 256 % 256) 4 t5.0; right = leb-true (sides % 256) 4 t5.1 },
    )

lane-all : (b : Bytes) (at p : ℕ) → first-at b at ≡ p → LaneRowRight (lane_told_of b at) → lane_right p (first-at b at) (four_at_of b (at + 6)) (four_at_of b (at + 8)) ≡ true
unfolding lane_right
lane-all b at p e r =
    let counts = four_at_of b (at + 6) in
    let sides = four_at_of b (at + 8) in
    picked_both (eqb (first-at b at) p) _ (eq-eqb (first-at b at) p e)
    (picked_both (leb 1 (counts / 65536)) _ (le-leb 1 (counts / 65536) r.count.low)
    (picked_both (leb (counts / 65536) 32768) _ (le-leb (counts / 65536) 32768 r.count.high)
    (picked_both (width_right (counts % 65536)) _ (width-all (counts % 65536) r.width)
    (picked_both (leb (sides / 256 % 256) 4) _ (le-leb (sides / 256 % 256) 4 r.left) (le-leb (sides % 256) 4 r.right)))))

at-so : (b : Bytes) (at p : ℕ) → the_lane_at_of b at p ≡ true → (record_here 10 (drop at b) ≡ true) × ((first-at b at ≡ p) × LaneRowRight (lane_told_of b at))
unfolding the_lane_at_of
at-so b at p e = let t = both-picked (record_here 10 (drop at b)) _ e in (t.0, lane-so b at p t.1)

at_all : (b : Bytes) (at p : ℕ) → record_here 10 (drop at b) ≡ true → first-at b at ≡ p → LaneRowRight (lane_told_of b at) → the_lane_at_of b at p ≡ true
unfolding the_lane_at_of
at_all b at p f e r = picked_both (record_here 10 (drop at b)) _ f (lane-all b at p e r)

-- ## All of them
pub record LanesRight (p : ℕ) (rows : List LaneRow) : Type 0 where
  pub each : Each LaneRowRight rows
  pub running : Running (λ r. r.first_point_of) (λ r. r.points) p rows

abbrev pub lane-rows-told : ℕ → ℕ → Bytes → List LaneRow
lane-rows-told place k b = map lane-back (records-read place k lane-kinds b)

more-lanes : (k : ℕ) (b : Bytes) (at p : ℕ) → lanes_right (suc k) b at p ≡ pick (the_lane_at_of b at p) (lanes_right k b (at + 12) (p + points_at b at)) false
unfolding lanes_right
more-lanes k b at p = refl

no-lanes : (b : Bytes) (at p : ℕ) → lanes_right 0 b at p ≡ true
unfolding lanes_right
no-lanes b at p = refl

-- a table of lanes: the first of them, and those behind it
pub lanes-cons : (place k : ℕ) (b : Bytes) (at : ℕ) → lane-rows-told place (suc k) (drop at b) ≡ lane-back (read (place + 2) lane-kinds (drop 2 (drop at b))) ∷ lane-rows-told (place + 12) k (drop (at + 12) b)
unfolding sizes
lanes-cons place k b at = rows-cons lane-kinds lane-back 12 (λ b. refl) b place k at

pub lanes_here : (k : ℕ) (b : Bytes) (at : ℕ) → all_here (suc k) lane-kinds (drop at b) ≡ (record_here 10 (drop at b) && all_here k lane-kinds (drop (at + 12) b))
unfolding sizes
lanes_here k b at = rows-here lane-kinds lane-back 12 (λ b. refl) b k at ∙ ap (λ (t : Bool). t && all_here k lane-kinds (drop (at + 12) b)) (here_so lane-kinds (drop at b) tt)

none_here : (b : Bytes) → all_here 0 lane-kinds b ≡ true
unfolding all_here
none_here b = refl

none_told : (place p : ℕ) (b : Bytes) → LanesRight p (lane-rows-told place 0 b)
unfolding records-read
none_told place p b = record { each = tt; running = tt }

no-total : (place : ℕ) (b : Bytes) → total (λ (r : LaneRow). r.points) (lane-rows-told place 0 b) ≡ 0
unfolding records-read
no-total place b = refl

module _ (b : Bytes) (s : Small b) where
  -- THE LAW
  pub lanes_so : (place k at p : ℕ) → lanes_right k b at p ≡ true → (all_here k lane-kinds (drop at b) ≡ true) × LanesRight p (lane-rows-told place k (drop at b))
  lanes_so place zero at p e = (none_here (drop at b), none_told place p (drop at b))
  lanes_so place (suc k) at p e =
      let t = both-picked (the_lane_at_of b at p) (lanes_right k b (at + 12) (p + points_at b at)) (sym (more-lanes k b at p) ∙ e) in
      let o = at-so b at p t.0 in
      let m = lanes_so (place + 12) k (at + 12) (p + points_at b at) t.1 in
      let i = here-inside b at 10 o.0 in
      let is = lane-is b s (place + 2) at (omega arith) in
      let whole : LanesRight p (lane_told_of b at ∷ lane-rows-told (place + 12) k (drop (at + 12) b)) = record { each = (o.1.1, m.1.each); running = (o.1.0, m.1.running) } in (
        lanes_here k b at ∙ true-both (record_here 10 (drop at b)) (all_here k lane-kinds (drop (at + 12) b)) o.0 m.0,
        subst (LanesRight p) (ap (λ (r : LaneRow). r ∷ lane-rows-told (place + 12) k (drop (at + 12) b)) (sym is) ∙ sym (lanes-cons place k b at)) whole,
      )

  pub lanes_all : (place k at p : ℕ) → all_here k lane-kinds (drop at b) ≡ true → LanesRight p (lane-rows-told place k (drop at b)) → lanes_right k b at p ≡ true
  lanes_all place zero at p e o = no-lanes b at p
  lanes_all place (suc k) at p e o =
      let u = both_true (record_here 10 (drop at b)) (all_here k lane-kinds (drop (at + 12) b)) (sym (lanes_here k b at) ∙ e) in
      let i = here-inside b at 10 u.0 in
      let is = lane-is b s (place + 2) at (omega arith) in
      let whole = subst (LanesRight p) (lanes-cons place k b at ∙ ap (λ (r : LaneRow). r ∷ lane-rows-told (place + 12) k (drop (at + 12) b)) is) o in
      more-lanes k b at p ∙ picked_both (the_lane_at_of b at p) (lanes_right k b (at + 12) (p + points_at b at)) (at_all b at p u.0 whole.running.0 whole.each.0)
      (lanes_all (place + 12) k (at + 12) (p + points_at b at) u.1 (record { each = whole.each.1; running = whole.running.1 }))

  -- ## The first zone point
  -- behind the last of them
  last_of : (place k at p : ℕ) → all_here (suc k) lane-kinds (drop at b) ≡ true → Running (λ (r : LaneRow). r.first_point_of) (λ r. r.points) p (lane-rows-told place (suc k) (drop at b)) → p + total (λ (r : LaneRow). r.points) (lane-rows-told place (suc k) (drop at b)) ≡ last_end b at (suc k)
  last_of place zero at p e o =
      let u = both_true (record_here 10 (drop at b)) (all_here 0 lane-kinds (drop (at + 12) b)) (sym (lanes_here 0 b at) ∙ e) in
      let i = here-inside b at 10 u.0 in
      let is = lane-is b s (place + 2) at (omega arith) in
      let list = lanes-cons place 0 b at ∙ ap (λ (r : LaneRow). r ∷ lane-rows-told (place + 12) 0 (drop (at + 12) b)) is in
      let begin : first-at b at ≡ p = (subst (Running (λ (r : LaneRow). r.first_point_of) (λ r. r.points) p) list o).0 in
      let none = no-total (place + 12) (drop (at + 12) b) in
      let sum : total (λ (r : LaneRow). r.points) (lane-rows-told place 1 (drop at b)) ≡ points_at b at + total (λ (r : LaneRow). r.points) (lane-rows-told (place + 12) 0 (drop (at + 12) b)) = ap (total (λ (r : LaneRow). r.points)) list in
      let z1 : at + 2 ≡ at + 12 * 0 + 2 = omega arith in
      let z2 : at + 6 ≡ at + 12 * 0 + 6 = omega arith in
      let q : p + total (λ (r : LaneRow). r.points) (lane-rows-told place 1 (drop at b)) ≡ first-at b at + points_at b at = omega arith in
      q ∙ (λ x. four_at_of b (z1 x) + four_at_of b (z2 x) / 65536)
  last_of place (suc k) at p e o =
      let u = both_true (record_here 10 (drop at b)) (all_here (suc k) lane-kinds (drop (at + 12) b)) (sym (lanes_here (suc k) b at) ∙ e) in
      let i = here-inside b at 10 u.0 in
      let is = lane-is b s (place + 2) at (omega arith) in
      let list = lanes-cons place (suc k) b at ∙ ap (λ (r : LaneRow). r ∷ lane-rows-told (place + 12) (suc k) (drop (at + 12) b)) is in
      let run = subst (Running (λ (r : LaneRow). r.first_point_of) (λ r. r.points) p) list o in
      let more = last_of (place + 12) k (at + 12) (p + points_at b at) u.1 run.1 in
      let sum : total (λ (r : LaneRow). r.points) (lane-rows-told place (suc (suc k)) (drop at b)) ≡ points_at b at + total (λ (r : LaneRow). r.points) (lane-rows-told (place + 12) (suc k) (drop (at + 12) b)) = ap (total (λ (r : LaneRow). r.points)) list in
      let z1 : at + 12 + 12 * k + 2 ≡ at + 12 * suc k + 2 = omega arith in
      let z2 : at + 12 + 12 * k + 6 ≡ at + 12 * suc k + 6 = omega arith in
      let q : p + total (λ (r : LaneRow). r.points) (lane-rows-told place (suc (suc k)) (drop at b)) ≡ (p + points_at b at) + total (λ (r : LaneRow). r.points) (lane-rows-told (place + 12) (suc k) (drop (at + 12) b)) = omega arith in
      q ∙ more ∙ (λ x. four_at_of b (z1 x) + four_at_of b (z2 x) / 65536)

  -- THE LAW of packed_parts::lanes_end
  pub end-so : (place k at : ℕ) → all_here k lane-kinds (drop at b) ≡ true → Running (λ (r : LaneRow). r.first_point_of) (λ r. r.points) 0 (lane-rows-told place k (drop at b)) → last_end b at k ≡ total (λ (r : LaneRow). r.points) (lane-rows-told place k (drop at b))
  end-so place zero at e o = sym (no-total place (drop at b))
  end-so place (suc k) at e o =
      let t = last_of place k at 0 e o in
      let z : total (λ (r : LaneRow). r.points) (lane-rows-told place (suc k) (drop at b)) ≡ 0 + total (λ (r : LaneRow). r.points) (lane-rows-told place (suc k) (drop at b)) = omega arith in
      sym (z ∙ t)
