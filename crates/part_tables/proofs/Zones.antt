-- The walk over zones (packed_parts::are_zone_checkpoints, are_zone_exits): each zone has its spots' checkpoints and its perimeter's exits next in turn, and none is left. Assumes nothing.
use mathlib.Core.Path.{◌≡◌, refl, sym, ap, ap₂, subst, ◌∙◌}
use mathlib.Core.List.{List, [], ◌∷◌, map}
use mathlib.Core.Bool.{Bool, true, false}
use Prim.Native.Nat.{ℕ, zero, suc, ◌+◌, ◌-◌, ◌/◌, ◌≤◌, ◌<◌}
use native.Mathlib.Omega.{arith}
use native.Mathlib.Numerals.{add-one}
use lib.Dec.{leb, ltb, eqb}
use lib.ListN.{length, take, drop, length-drop}
use lib.Seq.{drop-drop}
use borrow.Author.Tests.{leb-true, leb-false, le-leb, ltb-true, lt-ltb, eqb-true, eq-eqb}
use Rattle.terms.specs.Ascii.{Bytes}
use Rattle.terms.proofs.Tests.{clash}
use Rattle.terms.specs.Words.{Each, pick}
use Rattle.line.specs.Content.{Field}
use Rattle.grammar.specs.Tables.{ZoneRow, CheckpointRow, ExitRow}
use Rattle.row_network.specs.Consistent.{Running, zone_span, own, others, Marked, ZoneParts}
use Rattle.unpackings.proofs.Rows.{zone-back}
use Rattle.packed_rows.specs.Points.{four_at_of}
use Rattle.packed_parts.specs.Parts.{next_row, first-at, points_at, spots_at, zone_next, all-below, zone_exits, all_marked, zone_checkpoints}
use Rattle.packed_parts.proofs.PartLaws.{marked-inside}
use Rattle.packed_tables.proofs.Numbers.{value}
use Rattle.packed_tables.proofs.Reading.{read}
use Rattle.packed_tables.proofs.Records.{Small, sizes, there, here, whole-size, all_here, records-read, both_true}
use Rattle.packed_tables.proofs.Whole.{zone-kinds}
use Rattle.part_tables.proofs.Listed.{listed, drop-listed, none-listed, listed-none}
use Rattle.part_tables.proofs.Fields.{four-there, two-there, to_2, to_6, to_12, to_14}
use Rattle.part_tables.proofs.Lanes.{both-picked, picked_both}
use Rattle.part_tables.proofs.Turns.{own-listed, others-left, next-most}

-- ## A record of a zone that stands at a place
there-inside : (b : Bytes) (at : ℕ) → there zone-kinds (drop 2 (drop at b)) ≡ true → at + 16 ≤ length b
unfolding there
there-inside b at h =
    let t1 = both_true (leb 4 (length (drop 2 (drop at b)))) _ h in
    let t2 = both_true (leb 2 (length (drop 4 (drop 2 (drop at b))))) _ t1.1 in
    let t3 = both_true (leb 4 (length (drop 2 (drop 4 (drop 2 (drop at b)))))) _ t2.1 in
    let t4 = both_true (leb 2 (length (drop 4 (drop 2 (drop 4 (drop 2 (drop at b))))))) _ t3.1 in
    let y = drop 2 (drop 4 (drop 2 (drop 4 (drop 2 (drop at b))))) in
    let t5 = both_true (leb (2 + value (take 2 y)) (length y)) _ t4.1 in
    let l = leb-true (2 + value (take 2 y)) (length y) t5.0 in
    let e = ap length (to_14 b at) in
    let d = length-drop (at + 14) b in
    omega arith

record ZoneHere (b : Bytes) (place at : ℕ) : Type 0 where
  inside : at + 16 ≤ length b
  long : whole-size zone-kinds (drop at b) ≡ 2 + four_at_of b at / 65536
  first : (zone-back (read place zone-kinds (drop 2 (drop at b)))).first_point_of ≡ first-at b at
  points : (zone-back (read place zone-kinds (drop 2 (drop at b)))).points ≡ points_at b at
  spots : (zone-back (read place zone-kinds (drop 2 (drop at b)))).spots ≡ spots_at b at

here-parts : (b : Bytes) → here zone-kinds b ≡ true → (there zone-kinds (drop 2 b) ≡ true) × (value (take 2 b) ≡ sizes zone-kinds (drop 2 b))
unfolding here
here-parts b h =
    let t = both_true (leb 2 (length b)) _ h in
    let u = both_true (there zone-kinds (drop 2 b)) _ t.1 in
    (u.0, eqb-true (value (take 2 b)) (sizes zone-kinds (drop 2 b)) u.1)

module _ (b : Bytes) (s : Small b) where
  zone_here : (place at : ℕ) → here zone-kinds (drop at b) ≡ true → ZoneHere b place at
  unfolding read
  zone_here place at h =
      let u = here-parts (drop at b) h in
      let inside = there-inside b at u.0 in
      let size = two-there b at (omega arith) (drop at b) refl s in
      record {
        inside = inside;
        long = ap (λ (m : ℕ). 2 + m) (sym u.1 ∙ size);
        first = four-there b (at + 2) (omega arith) (drop 2 (drop at b)) (to_2 b at);
        points = two-there b (at + 6) (omega arith) (drop 4 (drop 2 (drop at b))) (to_6 b at) s;
        spots = two-there b (at + 12) (omega arith) (drop 4 (drop 2 (drop 4 (drop 2 (drop at b))))) (to_12 b at) s;
      }

-- a table of zones: the first of them, and those behind it
abbrev pub zone-rows-told : ℕ → ℕ → Bytes → List (ZoneRow Field)
zone-rows-told place k b = map zone-back (records-read place k zone-kinds b)

record ZonesHere (b : Bytes) (place k at : ℕ) : Type 0 where
  zone : ZoneHere b (place + 2) at
  next : ℕ
  rest : all_here k zone-kinds (drop (zone_next b at) b) ≡ true
  list : zone-rows-told place (suc k) (drop at b) ≡ zone-back (read (place + 2) zone-kinds (drop 2 (drop at b))) ∷ zone-rows-told next k (drop (zone_next b at) b)

module _ (b : Bytes) (s : Small b) where
  zones_here : (place k at : ℕ) → all_here (suc k) zone-kinds (drop at b) ≡ true → ZonesHere b place k at
  unfolding all_here records-read
  zones_here place k at h =
      let u = both_true (here zone-kinds (drop at b)) (all_here k zone-kinds (drop (whole-size zone-kinds (drop at b)) (drop at b))) h in
      let z = zone_here b s (place + 2) at u.0 in
      let p : at + (2 + four_at_of b at / 65536) ≡ zone_next b at = omega arith in
      let d : drop (whole-size zone-kinds (drop at b)) (drop at b) ≡ drop (zone_next b at) b = ap (λ (m : ℕ). drop m (drop at b)) z.long ∙ drop-drop (2 + four_at_of b at / 65536) at b ∙ ap (λ (m : ℕ). drop m b) p in
      record {
        zone = z;
        next = place + whole-size zone-kinds (drop at b);
        rest = ap (all_here k zone-kinds) (sym d) ∙ u.1;
        list = ap (λ (l : Bytes). zone-back (read (place + 2) zone-kinds (drop 2 (drop at b))) ∷ zone-rows-told (place + whole-size zone-kinds (drop at b)) k l) d;
      }

none_told : (place : ℕ) (b : Bytes) → zone-rows-told place 0 b ≡ []
unfolding records-read
none_told place b = refl

-- ## The two halves of `ZoneParts`
abbrev pub SpotParts : {N : Type 0} → ℕ → List (ZoneRow N) → List CheckpointRow → Type 0
SpotParts p [] cs = cs ≡ []
SpotParts p (z ∷ zs) cs = Marked (p + z.points) z.spots cs × SpotParts (p + zone_span z) zs (drop z.spots cs)

abbrev pub ExitParts : {N : Type 0} → (lanes_end p : ℕ) → List (ZoneRow N) → List (ExitRow ℕ) → Type 0
ExitParts end p [] es = es ≡ []
ExitParts end p (z ∷ zs) es = Each (λ (r : ExitRow ℕ). r.entry < end) (own (λ (r : ExitRow ℕ). r.point) p z.points es) × ExitParts end (p + zone_span z) zs (others (λ (r : ExitRow ℕ). r.point) p z.points es)

pub parts_join : {N : Type 0} (end p : ℕ) (zs : List (ZoneRow N)) (cs : List CheckpointRow) (es : List (ExitRow ℕ)) → SpotParts p zs cs → ExitParts end p zs es → ZoneParts end p zs cs es
parts_join end p [] cs es c e = (c, e)
parts_join end p (z ∷ zs) cs es c e = (e.0, (c.0, parts_join end (p + zone_span z) zs (drop z.spots cs) (others (λ (r : ExitRow ℕ). r.point) p z.points es) c.1 e.1))

pub parts-split : {N : Type 0} (end p : ℕ) (zs : List (ZoneRow N)) (cs : List CheckpointRow) (es : List (ExitRow ℕ)) → ZoneParts end p zs cs es → SpotParts p zs cs × ExitParts end p zs es
parts-split end p [] cs es h = (h.0, h.1)
parts-split end p (z ∷ zs) cs es h =
    let m = parts-split end (p + zone_span z) zs (drop z.spots cs) (others (λ (r : ExitRow ℕ). r.point) p z.points es) h.1.1 in
    ((h.1.0, m.0), (h.0, m.1))

-- ## Nothing is left
module _ {B : Type 0} (f : ℕ → B) (n i : ℕ) where
  pub left_so : leb n i ≡ true → listed f i (n - i) ≡ []
  left_so e = let l = leb-true n i e in none-listed f i (n - i) (omega arith)

  pub left-all : listed f i (n - i) ≡ [] → leb n i ≡ true
  left-all e = let l = listed-none f i (n - i) e in le-leb n i (omega arith)

  one_more : i < n → listed f i (n - i) ≡ f i ∷ listed f (i + 1) (n - (i + 1))
  one_more h = let e : n - i ≡ suc (n - (i + 1)) = omega arith in ap (listed f i) e

-- ## Checkpoints of spots. f: the checkpoints by their numbers
module _ (f : ℕ → CheckpointRow) (n : ℕ) where
  abbrev spot_points : ℕ → ℕ
  spot_points j = (f j).point

  more-marked : (q k i : ℕ) → all_marked spot_points n q (suc k) i ≡ pick (leb n i) false (pick (eqb (spot_points i) (q + 1)) (all_marked spot_points n (q + 2) k (i + 1)) false)
  unfolding all_marked
  more-marked q k i = refl

  no-marked : (q i : ℕ) → all_marked spot_points n q 0 i ≡ true
  unfolding all_marked
  no-marked q i = refl

  marked-so : (q k i : ℕ) → all_marked spot_points n q k i ≡ true → Marked q k (listed f i (n - i))
  marked-so q zero i e = tt
  marked-so q (suc k) i e = go (leb n i) refl (eqb (spot_points i) (q + 1)) refl (sym (more-marked q k i) ∙ e) (λ h. marked-so (q + 2) k (i + 1) h)
    where
      go : (x : Bool) → leb n i ≡ x → (y : Bool) → eqb (spot_points i) (q + 1) ≡ y → pick x false (pick y (all_marked spot_points n (q + 2) k (i + 1)) false) ≡ true
          → (all_marked spot_points n (q + 2) k (i + 1) ≡ true → Marked (q + 2) k (listed f (i + 1) (n - (i + 1)))) → Marked q (suc k) (listed f i (n - i))
      go true a y d h more = clash (sym h)
      go false a false d h more = clash (sym h)
      go false a true d h more = subst (Marked q (suc k)) (sym (one_more f n i (leb-false n i a))) (eqb-true (spot_points i) (q + 1) d ∙ add-one q, more h)

  marked_all : (q k i : ℕ) → Marked q k (listed f i (n - i)) → all_marked spot_points n q k i ≡ true
  marked_all q zero i m = no-marked q i
  marked_all q (suc k) i m = go (leb n i) refl (λ h. marked_all (q + 2) k (i + 1) h)
    where
      go : (x : Bool) → leb n i ≡ x → (Marked (q + 2) k (listed f (i + 1) (n - (i + 1))) → all_marked spot_points n (q + 2) k (i + 1) ≡ true) → all_marked spot_points n q (suc k) i ≡ true
      go true a more = absurd (subst (Marked q (suc k)) (left_so f n i a) m)
      go false a more =
          let u = subst (Marked q (suc k)) (one_more f n i (leb-false n i a)) m in
          more-marked q k i ∙ ap₂ (λ (x y : Bool). pick x false (pick y (all_marked spot_points n (q + 2) k (i + 1)) false)) a (eq-eqb (spot_points i) (q + 1) (u.0 ∙ sym (add-one q))) ∙ more u.1

  module _ (b : Bytes) (s : Small b) where
    more-zones : (k at i : ℕ) → zone_checkpoints spot_points n (suc k) b at i ≡ pick (all_marked spot_points n (first-at b at + points_at b at) (spots_at b at) i) (zone_checkpoints spot_points n k b (zone_next b at) (i + spots_at b at)) false
    unfolding zone_checkpoints
    more-zones k at i = refl

    no-zones : (at i : ℕ) → zone_checkpoints spot_points n 0 b at i ≡ leb n i
    unfolding zone_checkpoints
    no-zones at i = refl

    -- what a zone's spots leave
    left_behind : (m i : ℕ) → drop m (listed f i (n - i)) ≡ listed f (i + m) (n - (i + m))
    left_behind m i = let e : n - i - m ≡ n - (i + m) = omega arith in drop-listed f m i (n - i) ∙ ap (listed f (i + m)) e

    -- THE LAW of packed_parts::are_zone_checkpoints
    pub spot-parts-so : (place k at p i : ℕ) → i ≤ n → all_here k zone-kinds (drop at b) ≡ true → Running (λ (r : ZoneRow Field). r.first_point_of) zone_span p (zone-rows-told place k (drop at b)) → zone_checkpoints spot_points n k b at i ≡ true → SpotParts p (zone-rows-told place k (drop at b)) (listed f i (n - i))
    spot-parts-so place zero at p i h e r t = subst (λ (l : List (ZoneRow Field)). SpotParts p l (listed f i (n - i))) (sym (none_told place (drop at b))) (left_so f n i (sym (no-zones at i) ∙ t))
    spot-parts-so place (suc k) at p i h e r t =
        let z = zones_here b s place k at e in
        let row = zone-back (read (place + 2) zone-kinds (drop 2 (drop at b))) in
        let rest = zone-rows-told z.next k (drop (zone_next b at) b) in
        let run = subst (Running (λ (r : ZoneRow Field). r.first_point_of) zone_span p) z.list r in
        let u = both-picked (all_marked spot_points n (first-at b at + points_at b at) (spots_at b at) i) (zone_checkpoints spot_points n k b (zone_next b at) (i + spots_at b at)) (sym (more-zones k at i) ∙ t) in
        let begin : first-at b at ≡ p = sym z.zone.first ∙ run.0 in
        let marked : Marked (p + row.points) row.spots (listed f i (n - i)) = subst (λ (m : ℕ). Marked (p + row.points) m (listed f i (n - i))) (sym z.zone.spots) (subst (λ (q : ℕ). Marked q (spots_at b at) (listed f i (n - i))) (ap₂ ◌+◌ begin (sym z.zone.points)) (marked-so (first-at b at + points_at b at) (spots_at b at) i u.0)) in
        let inside = marked-inside spot_points n (first-at b at + points_at b at) (spots_at b at) i h u.0 in
        let more = spot-parts-so z.next k (zone_next b at) (p + zone_span row) (i + spots_at b at) inside z.rest run.1 u.1 in
        let same : drop row.spots (listed f i (n - i)) ≡ listed f (i + spots_at b at) (n - (i + spots_at b at)) = ap (λ (m : ℕ). drop m (listed f i (n - i))) z.zone.spots ∙ left_behind (spots_at b at) i in
        subst (λ (l : List (ZoneRow Field)). SpotParts p l (listed f i (n - i))) (sym z.list) (marked, subst (SpotParts (p + zone_span row) rest) (sym same) more)

    pub spot-parts-all : (place k at p i : ℕ) → i ≤ n → all_here k zone-kinds (drop at b) ≡ true → Running (λ (r : ZoneRow Field). r.first_point_of) zone_span p (zone-rows-told place k (drop at b)) → SpotParts p (zone-rows-told place k (drop at b)) (listed f i (n - i)) → zone_checkpoints spot_points n k b at i ≡ true
    spot-parts-all place zero at p i h e r c = no-zones at i ∙ left-all f n i (subst (λ (l : List (ZoneRow Field)). SpotParts p l (listed f i (n - i))) (none_told place (drop at b)) c)
    spot-parts-all place (suc k) at p i h e r c =
        let z = zones_here b s place k at e in
        let row = zone-back (read (place + 2) zone-kinds (drop 2 (drop at b))) in
        let rest = zone-rows-told z.next k (drop (zone_next b at) b) in
        let run = subst (Running (λ (r : ZoneRow Field). r.first_point_of) zone_span p) z.list r in
        let parts = subst (λ (l : List (ZoneRow Field)). SpotParts p l (listed f i (n - i))) z.list c in
        let begin : first-at b at ≡ p = sym z.zone.first ∙ run.0 in
        let marked = marked_all (first-at b at + points_at b at) (spots_at b at) i (subst (λ (q : ℕ). Marked q (spots_at b at) (listed f i (n - i))) (sym (ap₂ ◌+◌ begin (sym z.zone.points))) (subst (λ (m : ℕ). Marked (p + row.points) m (listed f i (n - i))) z.zone.spots parts.0)) in
        let inside = marked-inside spot_points n (first-at b at + points_at b at) (spots_at b at) i h marked in
        let same : drop row.spots (listed f i (n - i)) ≡ listed f (i + spots_at b at) (n - (i + spots_at b at)) = ap (λ (m : ℕ). drop m (listed f i (n - i))) z.zone.spots ∙ left_behind (spots_at b at) i in
        more-zones k at i ∙ picked_both (all_marked spot_points n (first-at b at + points_at b at) (spots_at b at) i) (zone_checkpoints spot_points n k b (zone_next b at) (i + spots_at b at)) marked
        (spot-parts-all z.next k (zone_next b at) (p + zone_span row) (i + spots_at b at) inside z.rest run.1 (subst (SpotParts (p + zone_span row) rest) same parts.1))

-- ## Exits of perimeters. f: the exits by their numbers
module _ (f : ℕ → ExitRow ℕ) (n end : ℕ) where
  abbrev points-of : ℕ → ℕ
  points-of j = (f j).point

  abbrev entries-of : ℕ → ℕ
  entries-of j = (f j).entry

  more-below : (k i : ℕ) → all-below entries-of end (suc k) i ≡ pick (ltb (entries-of i) end) (all-below entries-of end k (i + 1)) false
  unfolding all-below
  more-below k i = refl

  no-below : (i : ℕ) → all-below entries-of end 0 i ≡ true
  unfolding all-below
  no-below i = refl

  below-so : (k i : ℕ) → all-below entries-of end k i ≡ true → Each (λ (r : ExitRow ℕ). r.entry < end) (listed f i k)
  below-so zero i e = tt
  below-so (suc k) i e = let t = both-picked (ltb (entries-of i) end) (all-below entries-of end k (i + 1)) (sym (more-below k i) ∙ e) in (ltb-true (entries-of i) end t.0, below-so k (i + 1) t.1)

  below_all : (k i : ℕ) → Each (λ (r : ExitRow ℕ). r.entry < end) (listed f i k) → all-below entries-of end k i ≡ true
  below_all zero i e = no-below i
  below_all (suc k) i e = more-below k i ∙ picked_both (ltb (entries-of i) end) (all-below entries-of end k (i + 1)) (lt-ltb (entries-of i) end e.0) (below_all k (i + 1) e.1)

  module _ (b : Bytes) (s : Small b) where
    abbrev next-at : ℕ → ℕ → ℕ
    next-at at i = next_row points-of (first-at b at) (points_at b at) (n - i) i

    more-zone-exits : (k at i : ℕ) → zone_exits points-of entries-of n end (suc k) b at i ≡ pick (all-below entries-of end (next-at at i - i) i) (zone_exits points-of entries-of n end k b (zone_next b at) (next-at at i)) false
    unfolding zone_exits
    more-zone-exits k at i = refl

    no-zone-exits : (at i : ℕ) → zone_exits points-of entries-of n end 0 b at i ≡ leb n i
    unfolding zone_exits
    no-zone-exits at i = refl

    -- what the zone at hand has, and what it leaves
    module _ (at p size i : ℕ) (h : i ≤ n) (begin : first-at b at ≡ p) (long : size ≡ points_at b at) where
      own-here : own (λ (r : ExitRow ℕ). r.point) p size (listed f i (n - i)) ≡ listed f i (next-at at i - i)
      own-here = (λ x. own (λ (r : ExitRow ℕ). r.point) (sym begin x) (long x) (listed f i (n - i))) ∙ own-listed (λ (r : ExitRow ℕ). r.point) f (first-at b at) (points_at b at) (n - i) i

      others-here : others (λ (r : ExitRow ℕ). r.point) p size (listed f i (n - i)) ≡ listed f (next-at at i) (n - next-at at i)
      others-here = (λ x. others (λ (r : ExitRow ℕ). r.point) (sym begin x) (long x) (listed f i (n - i))) ∙ others-left (λ (r : ExitRow ℕ). r.point) f (first-at b at) (points_at b at) n i h

    -- THE LAW of packed_parts::are_zone_exits
    pub exit-parts-so : (place k at p i : ℕ) → i ≤ n → all_here k zone-kinds (drop at b) ≡ true → Running (λ (r : ZoneRow Field). r.first_point_of) zone_span p (zone-rows-told place k (drop at b)) → zone_exits points-of entries-of n end k b at i ≡ true → ExitParts end p (zone-rows-told place k (drop at b)) (listed f i (n - i))
    exit-parts-so place zero at p i h e r t = subst (λ (l : List (ZoneRow Field)). ExitParts end p l (listed f i (n - i))) (sym (none_told place (drop at b))) (left_so f n i (sym (no-zone-exits at i) ∙ t))
    exit-parts-so place (suc k) at p i h e r t =
        let z = zones_here b s place k at e in
        let row = zone-back (read (place + 2) zone-kinds (drop 2 (drop at b))) in
        let rest = zone-rows-told z.next k (drop (zone_next b at) b) in
        let run = subst (Running (λ (r : ZoneRow Field). r.first_point_of) zone_span p) z.list r in
        let u = both-picked (all-below entries-of end (next-at at i - i) i) (zone_exits points-of entries-of n end k b (zone_next b at) (next-at at i)) (sym (more-zone-exits k at i) ∙ t) in
        let begin : first-at b at ≡ p = sym z.zone.first ∙ run.0 in
        let more = exit-parts-so z.next k (zone_next b at) (p + zone_span row) (next-at at i) (next-most (λ (r : ExitRow ℕ). r.point) f (first-at b at) (points_at b at) n i h) z.rest run.1 u.1 in
        subst (λ (l : List (ZoneRow Field)). ExitParts end p l (listed f i (n - i))) (sym z.list) (
          subst (Each (λ (r : ExitRow ℕ). r.entry < end)) (sym (own-here at p row.points i h begin z.zone.points)) (below-so (next-at at i - i) i u.0),
          subst (ExitParts end (p + zone_span row) rest) (sym (others-here at p row.points i h begin z.zone.points)) more,
        )

    pub exit-parts-all : (place k at p i : ℕ) → i ≤ n → all_here k zone-kinds (drop at b) ≡ true → Running (λ (r : ZoneRow Field). r.first_point_of) zone_span p (zone-rows-told place k (drop at b)) → ExitParts end p (zone-rows-told place k (drop at b)) (listed f i (n - i)) → zone_exits points-of entries-of n end k b at i ≡ true
    exit-parts-all place zero at p i h e r c = no-zone-exits at i ∙ left-all f n i (subst (λ (l : List (ZoneRow Field)). ExitParts end p l (listed f i (n - i))) (none_told place (drop at b)) c)
    exit-parts-all place (suc k) at p i h e r c =
        let z = zones_here b s place k at e in
        let row = zone-back (read (place + 2) zone-kinds (drop 2 (drop at b))) in
        let rest = zone-rows-told z.next k (drop (zone_next b at) b) in
        let run = subst (Running (λ (r : ZoneRow Field). r.first_point_of) zone_span p) z.list r in
        let parts = subst (λ (l : List (ZoneRow Field)). ExitParts end p l (listed f i (n - i))) z.list c in
        let begin : first-at b at ≡ p = sym z.zone.first ∙ run.0 in
        more-zone-exits k at i ∙ picked_both (all-below entries-of end (next-at at i - i) i) (zone_exits points-of entries-of n end k b (zone_next b at) (next-at at i))
        (below_all (next-at at i - i) i (subst (Each (λ (r : ExitRow ℕ). r.entry < end)) (own-here at p row.points i h begin z.zone.points) parts.0))
        (exit-parts-all z.next k (zone_next b at) (p + zone_span row) (next-at at i) (next-most (λ (r : ExitRow ℕ). r.point) f (first-at b at) (points_at b at) n i h) z.rest run.1
        (subst (ExitParts end (p + zone_span row) rest) (others-here at p row.points i h begin z.zone.points) parts.1))
