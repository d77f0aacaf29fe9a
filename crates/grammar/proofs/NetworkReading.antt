-- The places of an RNDF read a network as the definitions say, and every place can be finished. Assumes nothing.
use mathlib.Core.Path.{◌≡◌, refl, sym, ap, ap₂, subst, ◌∙◌}
use mathlib.Core.List.{List, [], ◌∷◌, ◌++◌, map, append_assoc, tail-eq_of_cons-eq}
use mathlib.Core.Option.{Option, none, some}
use mathlib.Core.Bool.{Bool, true, false}
use Prim.Native.Nat.{ℕ, zero, suc, pred, ◌+◌, ◌*◌, ◌≤◌, ◌<◌}
use native.Mathlib.Omega.{arith}
use lib.ListN.{length}
use Rattle.terms.specs.Words.{Each, Among, perhaps, Between, InTurn, nothing, then}
use Rattle.terms.proofs.Lists.{map-id, each-any}
use Rattle.grammar.specs.Forms.{eq?, Form, free}
use lib.Dec.{T}
use lib.Ieee.Bits.{is_true}
use lib.IntN.{pos}
use Rattle.grammar.specs.Statements.{Kind, Position, Statement, lines, say, part_id, point_id, RNDF_name_of, num_segments, num_zones, segment, num_lanes, end_segment, checkpoint, end_file_of}
use Rattle.grammar.specs.Editions.{Edition, march, december}
use Rattle.grammar.specs.Network.{Under, under, largest, Checkpoint, the_checkpoint_of, OnEarth, Segment, Zone, Network, SpellsSegment, SpellsZoneBy, FileOptions, SpellsNetworkBy}
use Rattle.grammar.specs.Machine.{next, inside, judge, onto, settle, step, run}
use Rattle.grammar.specs.Forms.{tested}
use Rattle.grammar.specs.Permitted.{counted, upto, spots_of, the_number_of, the_part_of, the_point_of, own_checkpoint_of, file_row_of}
use Rattle.grammar.specs.Places.{rndf_by, Base, name_due, num_segments_due, num_zones_due, first_segment_due, part_due, num_lanes_due, first_lane_due, lane_due, num_waypoints_due, first_waypoint_due, waypoint_due, num_spots_due, perimeter_due, num_perimeterpoints_due, first_perimeterpoint_due, perimeterpoint_due, spot_due, first_of_spot_due, second_of_spot_due, end_spot_due}
use Rattle.grammar.proofs.FormLaws.{pass, pick}
use Rattle.grammar.proofs.MachineLaws.{Goes_on, Readied, at_once}
use Rattle.grammar.proofs.Options.{Holds, Given}
use Rattle.grammar.proofs.Reading.{Reads, Line, After, Seq, Many, after, reads-line, reads-after, reads_seq, reads_as, reads_open, reads-many}
use Rattle.grammar.proofs.Reading as R
use Rattle.grammar.proofs.LaneReading.{always, Lines, To, SegmentBody, reads-segment-body, reads-segment}
use Rattle.grammar.proofs.ZoneReading.{reads-zone}

module _ (by : Under) (N : Type 0) where
  abbrev Zoned : ℕ → ℕ → List (Zone N) × Unit {0} → (Lines by N) → Type 0
  Zoned z i = Many (rndf_by N by) (SpellsZoneBy by) (λ i. Line (rndf_by N by) end_file_of (free (Unit {0}))) i z

  abbrev Files : Type 0
  Files = N × (ℕ × (ℕ × ((Holds (lines N) (file_row_of N) × Unit {0}) × ((Segment N) × (List (Segment N) × (List (Zone N) × Unit {0}))))))

  abbrev FileParts : Files → (Lines by N) → Type 0
  FileParts = Seq (rndf_by N by) (Line (rndf_by N by) RNDF_name_of (free N)) λ n. Seq (rndf_by N by) (Line (rndf_by N by) num_segments counted) λ o. Seq (rndf_by N by) (Line (rndf_by N by) num_zones (upto o)) λ z.
      Seq (rndf_by N by) (After (rndf_by N by) (file_row_of N) segment (the_number_of 1)) λ x. Seq (rndf_by N by) ((SegmentBody by N) 1) λ a. Many (rndf_by N by) SpellsSegment (Zoned z) 2 (pred o)

  reads-zones : (z i : ℕ) → Reads (rndf_by N by) (Zoned z i) (some (part_due i zero z)) (λ x. none)
  reads-zones z i = reads-many (rndf_by N by) (SpellsZoneBy by) (λ i. Line (rndf_by N by) end_file_of (free (Unit {0}))) (λ i z. some (part_due i zero z)) none (reads-zone by N) (λ i. reads-line (rndf_by N by) (part_due i zero zero) (free (Unit {0})) refl (λ v. refl) (λ g. always by.strict)) i z

  parts-file : Reads (rndf_by N by) FileParts (some name_due) (λ x. none)
  parts-file =
      reads_seq (rndf_by N by) (reads-line (rndf_by N by) name_due (free N) refl (λ v. refl) (λ g. always by.strict)) λ n.
      reads_seq (rndf_by N by) (reads-line (rndf_by N by) num_segments_due counted refl (λ v. refl) (λ g. always by.strict)) λ o.
      reads_seq (rndf_by N by) (reads-line (rndf_by N by) (num_zones_due o) (upto o) refl (λ v. refl) (λ g. always by.strict)) λ z.
      reads_seq (rndf_by N by) (reads-after (rndf_by N by) (first_segment_due o z) (file_row_of N) (the_number_of 1) refl (λ v. refl) (λ g. always by.strict)) λ x.
      reads_seq (rndf_by N by) ((reads-segment-body by N) 1 (pred o) z) λ a.
      reads-many (rndf_by N by) SpellsSegment (Zoned z) (λ m o. some (part_due m o z)) none (λ m o. (reads-segment by N) m o z) (λ m. reads-zones z m) 2 (pred o)

  network_of_lem : Files → (Network N)
  network_of_lem x =
      let t = x.1.1.1 in
      record { name = x.0; version = t.0.0.0; date = t.0.0.1.0; segments = t.1.0 ∷ t.1.1.0; zones = t.1.1.1.0 }

  after_is : {A : Type 0} (i : ℕ) (l : List A) → after i l ≡ i + length l
  after_is i [] = omega arith
  after_is i (a ∷ l) = let e = after_is (suc i) l in omega arith

  abbrev with : (Network N) → List (Segment N) → (Network N)
  with a es = record { name = a.name; version = a.version; date = a.date; segments = es; zones = a.zones }

  to-file : (a : (Network N)) (es : List (Segment N)) (l os ss zs : (Lines by N)) → FileOptions a os → 1 ≤ length es → length es + length a.zones ≤ largest → InTurn SpellsSegment 1 es ss → InTurn (SpellsZoneBy by) (suc (length es)) a.zones zs
      → l ≡ say RNDF_name_of a.name ∷ say num_segments (length es) ∷ say num_zones (length a.zones) ∷ os ++ (ss ++ (zs ++ (say end_file_of tt ∷ []))) → (x : Files) × (network_of_lem x ≡ with a es) × FileParts x l
  unfolding network_of_lem
  to-file a [] l os ss zs o c d t z e = absurd (omega arith)
  to-file a (b ∷ es) l os ss zs o c d (then {u = u} {v = v} x t) z e =
      let body = say num_lanes (length b.lanes) ∷ x.options ++ (x.lanes ++ (say end_segment tt ∷ [])) in
      let rest = zs ++ (say end_file_of tt ∷ []) in
      let k = os ++ (say segment 1 ∷ (body ++ (v ++ rest))) in
      let segs = suc (length es) in
      let zons = length a.zones in
      let n : suc segs ≡ after 2 es = let q = after_is 2 es in omega arith in
      let z' : InTurn (SpellsZoneBy by) (after 2 es) a.zones zs = rw n at z in (
        (a.name, (segs, (zons, (((a.version, (a.date, tt)), tt), (b, (es, (a.zones, tt))))))),
        refl,
        (
          say RNDF_name_of a.name ∷ [],
          say num_segments segs ∷ say num_zones zons ∷ k,
          (tt, refl),
          (
            say num_segments segs ∷ [],
            say num_zones zons ∷ k,
            (record { low = c; high = omega arith }, refl),
            (
              say num_zones zons ∷ [],
              k,
              (d, refl),
              (
                os ++ (say segment 1 ∷ []),
                body ++ (v ++ rest),
                (os, ((o.version ∙ sym (map-id (perhaps a.version)), each-any (perhaps a.version), (o.date ∙ sym (map-id (perhaps a.date)), each-any (perhaps a.date), tt)), o.no_other), tt, refl),
                (body, v ++ rest, rw x.spelled at x, (v, rest, refl, t, (zs, say end_file_of tt ∷ [], refl, z', (tt, refl), refl), refl), refl),
                sym (append_assoc os (say segment 1 ∷ []) (body ++ (v ++ rest))),
              ),
              refl,
            ),
            refl,
          ),
          e ∙ rw (append_assoc u v rest, x.spelled),
        ),
      )

  from-file : (x : Files) (l : (Lines by N)) → FileParts x l → (SpellsNetworkBy by) (network_of_lem x) l
  unfolding network_of_lem
  from-file x l y =
      let y₁ = y.3 in
      let y₂ = y₁.3 in
      let y₃ = y₂.3 in
      let o = y₃.2 in
      let y₄ = y₃.3 in
      let s = y₄.3 in
      let z = s.4 in
      let es = x.1.1.1.1.1.0 in
      let len = s.2 in
      let c = y₁.2.0 in
      let w : x.1.0 ≡ suc (length es) = omega arith in
      let k = z.2 in
      let d : x.1.0 + x.1.1.0 ≤ largest = y₂.2.0 in
      let n : after 2 es ≡ suc (suc (length es)) = let q = after_is 2 es in omega arith in
      record {
        options = o.0;
        segments = (say segment 1 ∷ y₄.0) ++ s.0;
        zones = z.0;
        given = record { version = o.1.0.0 ∙ map-id (perhaps x.1.1.1.0.0.0); date = o.1.0.2.0 ∙ map-id (perhaps x.1.1.1.0.0.1.0); no_other = o.1.1 };
        some-segment = omega arith;
        count = omega arith;
        each_segment = then y₄.2 s.3;
        each_zone = rw n at z.3;
        spelled = rw (y.4, y.2.1, y₁.4, y₁.2.1, y₂.4, y₂.2.1, y₃.4, o.3, y₄.4, s.5, z.5, z.4.1, w, ← k) (simp append_assoc);
      }

  pub reads : Reads (rndf_by N by) (SpellsNetworkBy by) (some name_due) (λ n. none)
  reads = reads_as (rndf_by N by) network_of_lem (λ a l s. to-file a a.segments l s.options s.segments s.zones s.given s.some-segment s.count s.each_segment s.each_zone s.spelled) from-file parts-file

-- ## Every place can be finished
module _ (N : Type 0) where
  -- a bound on the statements of the shortest rest
  abbrev pub cost : Base → ℕ
  cost name_due = 99
  cost num_segments_due = 98
  cost (num_zones_due o) = 50 + 40 * o
  cost (first_segment_due o z) = 40 + 40 * o + 30 * z
  cost (part_due m o z) = 1 + 40 * o + 30 * z
  cost (num_lanes_due m o z) = 30 + 40 * o + 30 * z
  cost (first_lane_due m o z l) = 15 + 40 * o + 30 * z + 10 * l
  cost (lane_due m o z n l) = 2 + 40 * o + 30 * z + 10 * l
  cost (num_waypoints_due m o z n l) = 9 + 40 * o + 30 * z + 10 * l
  cost (first_waypoint_due m o z n l w) = 6 + 40 * o + 30 * z + 10 * l + w
  cost (waypoint_due m o z n l k w) = 3 + 40 * o + 30 * z + 10 * l + w
  cost (num_spots_due m z) = 25 + 30 * z
  cost (perimeter_due m z s) = 10 + 30 * z + 10 * s
  cost (num_perimeterpoints_due m z s) = 9 + 30 * z + 10 * s
  cost (first_perimeterpoint_due m z s p) = 6 + 30 * z + 10 * s + p
  cost (perimeterpoint_due m z s k p) = 3 + 30 * z + 10 * s + p
  cost (spot_due m z n s) = 2 + 30 * z + 10 * s
  cost (first_of_spot_due m z n s) = 7 + 30 * z + 10 * s
  cost (second_of_spot_due m z n s) = 6 + 30 * z + 10 * s
  cost (end_spot_due m z n s) = 5 + 30 * z + 10 * s

  -- the segments leave room for zones
  abbrev pub Good : Base → Type 0
  Good (num_zones_due o) = o ≤ largest
  Good name_due = Unit {0}
  Good num_segments_due = Unit {0}
  Good (first_segment_due o z) = Unit {0}
  Good (part_due m o z) = Unit {0}
  Good (num_lanes_due m o z) = Unit {0}
  Good (first_lane_due m o z l) = Unit {0}
  Good (lane_due m o z n l) = Unit {0}
  Good (num_waypoints_due m o z n l) = Unit {0}
  Good (first_waypoint_due m o z n l w) = Unit {0}
  Good (waypoint_due m o z n l k w) = Unit {0}
  Good (num_spots_due m z) = Unit {0}
  Good (perimeter_due m z s) = Unit {0}
  Good (num_perimeterpoints_due m z s) = Unit {0}
  Good (first_perimeterpoint_due m z s p) = Unit {0}
  Good (perimeterpoint_due m z s k p) = Unit {0}
  Good (spot_due m z n s) = Unit {0}
  Good (first_of_spot_due m z n s) = Unit {0}
  Good (second_of_spot_due m z n s) = Unit {0}
  Good (end_spot_due m z n s) = Unit {0}

  abbrev pub origin : Position
  origin = record { latitude = pos 0; longitude = pos 0 }

  pub earthly : OnEarth origin
  earthly = record { latitude = omega arith; longitude = omega arith }

  pub one-is : T (tested counted 1)
  one-is = pass counted 1 (record { low = omega arith; high = omega arith })

-- one spot is enough in every edition
pub one_spot : (e : Edition) → T (tested (spots_of e) 1)
one_spot march = pass (spots_of march) 1 (omega arith)
one_spot december = pass (spots_of december) 1 (record { low = omega arith; high = omega arith })

-- ## A bare spot is made ready by a checkpoint on its second waypoint
module _ (N : Type 0) where
  -- a checkpoint that every spot may have
  abbrev pub mark : (m n : ℕ) → Statement N
  mark m n = say checkpoint (the_checkpoint_of m n (record { waypoint = 2; number = 1 }))

  pub mark-taken : (e : Edition) (m z n s : ℕ) (x : Bool) (g : List Bool) → step (rndf_by N (under e true)) (inside (first_of_spot_due m z n s) (x ∷ false ∷ g)) (mark m n) ≡ next (inside (first_of_spot_due m z n s) (x ∷ true ∷ g))
  unfolding step
  mark-taken e m z n s x g =
      let F = own_checkpoint_of m n 2 2 in
      let c : Checkpoint = record { waypoint = 2; number = 1 } in
      let t : T (tested F (the_checkpoint_of m n c)) = pass F c (omega arith) in
      ap (λ (t : Bool). settle (rndf_by N (under e true)) (first_of_spot_due m z n s) (x ∷ false ∷ g) (onto x (judge false t (true ∷ g))) (mark m n)) (is_true (tested F (the_checkpoint_of m n c)) t)

  pub spot-readied : (e : Edition) (strict : Bool) (m z n s : ℕ) (g : List Bool) → Readied (rndf_by N (under e strict)) (first_of_spot_due m z n s) g
  unfolding run
  spot-readied e false m z n s g = at_once (rndf_by N (under e false)) (first_of_spot_due m z n s) g refl
  spot-readied e true m z n s [] = at_once (rndf_by N (under e true)) (first_of_spot_due m z n s) [] refl
  spot-readied e true m z n s (x ∷ []) = at_once (rndf_by N (under e true)) (first_of_spot_due m z n s) (x ∷ []) refl
  spot-readied e true m z n s (x ∷ true ∷ g) = at_once (rndf_by N (under e true)) (first_of_spot_due m z n s) (x ∷ true ∷ g) refl
  spot-readied e true m z n s (x ∷ false ∷ g) = record { os = mark m n ∷ []; flags = x ∷ true ∷ g; goes = rw (mark-taken e m z n s x g) refl; now = tt }

-- N has some name
module _ (by : Under) (N : Type 0) (some-name : N) where
  unfoldable pub goes_on : (b : Base) → Good N b → Goes_on (rndf_by N by) (Good N) (cost N) b
  goes_on name_due y = record { keeps = λ v t. tt; v = some-name; ok = tt; less = omega arith; readied = λ g. at_once (rndf_by N by) name_due g (always by.strict) }
  goes_on num_segments_due y = record { keeps = λ v t. (pick counted v t).1.high; v = 1; ok = (one-is N); less = omega arith; readied = λ g. at_once (rndf_by N by) num_segments_due g (always by.strict) }
  goes_on (num_zones_due o) y = record { keeps = λ v t. tt; v = 0; ok = pass (upto o) 0 (omega arith); less = omega arith; readied = λ g. at_once (rndf_by N by) (num_zones_due o) g (always by.strict) }
  goes_on (first_segment_due o z) y = record { keeps = λ v t. tt; v = 1; ok = pass (the_number_of 1) tt tt; less = omega arith; readied = λ g. at_once (rndf_by N by) (first_segment_due o z) g (always by.strict) }
  goes_on (part_due m (suc o) z) y = record { keeps = λ v t. tt; v = m; ok = pass (the_number_of m) tt tt; less = omega arith; readied = λ g. at_once (rndf_by N by) (part_due m (suc o) z) g (always by.strict) }
  goes_on (part_due m zero (suc z)) y = record { keeps = λ v t. tt; v = m; ok = pass (the_number_of m) tt tt; less = omega arith; readied = λ g. at_once (rndf_by N by) (part_due m zero (suc z)) g (always by.strict) }
  goes_on (part_due m zero zero) y = record { keeps = λ v t. tt; v = tt; ok = tt; less = tt; readied = λ g. at_once (rndf_by N by) (part_due m zero zero) g (always by.strict) }
  goes_on (num_lanes_due m o z) y = record { keeps = λ v t. tt; v = 1; ok = (one-is N); less = omega arith; readied = λ g. at_once (rndf_by N by) (num_lanes_due m o z) g (always by.strict) }
  goes_on (first_lane_due m o z l) y = record { keeps = λ v t. tt; v = part_id m 1; ok = pass (the_part_of m 1) tt tt; less = omega arith; readied = λ g. at_once (rndf_by N by) (first_lane_due m o z l) g (always by.strict) }
  goes_on (lane_due m o z n zero) y = record { keeps = λ v t. tt; v = tt; ok = tt; less = omega arith; readied = λ g. at_once (rndf_by N by) (lane_due m o z n zero) g (always by.strict) }
  goes_on (lane_due m o z n (suc l)) y = record { keeps = λ v t. tt; v = part_id m n; ok = pass (the_part_of m n) tt tt; less = omega arith; readied = λ g. at_once (rndf_by N by) (lane_due m o z n (suc l)) g (always by.strict) }
  goes_on (num_waypoints_due m o z n l) y = record { keeps = λ v t. tt; v = 1; ok = (one-is N); less = omega arith; readied = λ g. at_once (rndf_by N by) (num_waypoints_due m o z n l) g (always by.strict) }
  goes_on (first_waypoint_due m o z n l w) y = record { keeps = λ v t. tt; v = record { id = point_id m n 1; position = (origin N) }; ok = pass (the_point_of m n 1) (origin N) (earthly N); less = omega arith; readied = λ g. at_once (rndf_by N by) (first_waypoint_due m o z n l w) g (always by.strict) }
  goes_on (waypoint_due m o z n l k zero) y = record { keeps = λ v t. tt; v = tt; ok = tt; less = omega arith; readied = λ g. at_once (rndf_by N by) (waypoint_due m o z n l k zero) g (always by.strict) }
  goes_on (waypoint_due m o z n l k (suc w)) y = record { keeps = λ v t. tt; v = record { id = point_id m n k; position = (origin N) }; ok = pass (the_point_of m n k) (origin N) (earthly N); less = omega arith; readied = λ g. at_once (rndf_by N by) (waypoint_due m o z n l k (suc w)) g (always by.strict) }
  goes_on (num_spots_due m z) y = record { keeps = λ v t. tt; v = 1; ok = one_spot by.edition; less = omega arith; readied = λ g. at_once (rndf_by N by) (num_spots_due m z) g (always by.strict) }
  goes_on (perimeter_due m z s) y = record { keeps = λ v t. tt; v = part_id m 0; ok = pass (the_part_of m 0) tt tt; less = omega arith; readied = λ g. at_once (rndf_by N by) (perimeter_due m z s) g (always by.strict) }
  goes_on (num_perimeterpoints_due m z s) y = record { keeps = λ v t. tt; v = 1; ok = (one-is N); less = omega arith; readied = λ g. at_once (rndf_by N by) (num_perimeterpoints_due m z s) g (always by.strict) }
  goes_on (first_perimeterpoint_due m z s p) y = record { keeps = λ v t. tt; v = record { id = point_id m 0 1; position = (origin N) }; ok = pass (the_point_of m 0 1) (origin N) (earthly N); less = omega arith; readied = λ g. at_once (rndf_by N by) (first_perimeterpoint_due m z s p) g (always by.strict) }
  goes_on (perimeterpoint_due m z s k zero) y = record { keeps = λ v t. tt; v = tt; ok = tt; less = omega arith; readied = λ g. at_once (rndf_by N by) (perimeterpoint_due m z s k zero) g (always by.strict) }
  goes_on (perimeterpoint_due m z s k (suc p)) y = record { keeps = λ v t. tt; v = record { id = point_id m 0 k; position = (origin N) }; ok = pass (the_point_of m 0 k) (origin N) (earthly N); less = omega arith; readied = λ g. at_once (rndf_by N by) (perimeterpoint_due m z s k (suc p)) g (always by.strict) }
  goes_on (spot_due m z n zero) y = record { keeps = λ v t. tt; v = tt; ok = tt; less = omega arith; readied = λ g. at_once (rndf_by N by) (spot_due m z n zero) g (always by.strict) }
  goes_on (spot_due m z n (suc s)) y = record { keeps = λ v t. tt; v = part_id m n; ok = pass (the_part_of m n) tt tt; less = omega arith; readied = λ g. at_once (rndf_by N by) (spot_due m z n (suc s)) g (always by.strict) }
  goes_on (first_of_spot_due m z n s) y = record { keeps = λ v t. tt; v = record { id = point_id m n 1; position = (origin N) }; ok = pass (the_point_of m n 1) (origin N) (earthly N); less = omega arith; readied = λ g. spot-readied N by.edition by.strict m z n s g }
  goes_on (second_of_spot_due m z n s) y = record { keeps = λ v t. tt; v = record { id = point_id m n 2; position = (origin N) }; ok = pass (the_point_of m n 2) (origin N) (earthly N); less = omega arith; readied = λ g. at_once (rndf_by N by) (second_of_spot_due m z n s) g (always by.strict) }
  goes_on (end_spot_due m z n s) y = record { keeps = λ v t. tt; v = tt; ok = tt; less = omega arith; readied = λ g. at_once (rndf_by N by) (end_spot_due m z n s) g (always by.strict) }
