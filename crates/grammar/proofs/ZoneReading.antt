-- The places of an RNDF read perimeters, spots and zones as the definitions say. Assumes nothing.
use mathlib.Core.Path.{◌≡◌, refl, sym, ap, ap₂, subst, ◌∙◌}
use mathlib.Core.List.{List, [], ◌∷◌, ◌++◌, map, append_assoc, tail-eq_of_cons-eq}
use mathlib.Core.Option.{Option, none, some}
use mathlib.Core.Bool.{Bool, true, false}
use Prim.Native.Nat.{ℕ, zero, suc, pred, ◌+◌, ◌*◌, ◌≤◌, ◌<◌}
use native.Mathlib.Omega.{arith}
use mathlib.Core.Logic.{◌⊎◌, inl, inr}
use lib.Dec.{T}
use lib.Ieee.Bits.{is_true}
use Rattle.terms.proofs.Tests.{clash}
use lib.ListN.{length}
use Rattle.terms.specs.Words.{pick, Each, Among, perhaps, Between, InTurn, nothing, then}
use Rattle.terms.proofs.Lists.{map-id, each-any}
use Rattle.grammar.specs.Forms.{eq?, Form, free}
use Rattle.grammar.specs.Statements.{Kind, Position, Statement, lines, say, of_kind, part_id, point_id, point_line_of, numbered, zone, num_spots, end_zone, perimeter, num_perimeterpoints, end_perimeter, spot, end_spot, checkpoint, point}
use Rattle.grammar.specs.Network.{largest, Checkpoint, Exit, Perimeter, Spot, Zone, OnEarth, the_checkpoint_of, SpellsPerimeter, Under, least, SpellsSpotBy, SpellsZoneBy}
use Rattle.grammar.specs.Permitted.{part?, counted, spots_of, the_number_of, the_part_of, the_point_of, perimeter_row, spot_row_of, zone_row_of}
use Rattle.grammar.specs.Places.{rndf_by, Base, part_due, num_spots_due, perimeter_due, num_perimeterpoints_due, first_perimeterpoint_due, perimeterpoint_due, spot_due, first_of_spot_due, second_of_spot_due, end_spot_due, second}
use Rattle.grammar.specs.Choices.{opts as row}
use Rattle.grammar.proofs.LanguageLaws.{kinds-on}
use Rattle.grammar.proofs.MachineLaws.{Agrees}
use Rattle.grammar.proofs.Options.{Holds, Given, all-memb, memb-all}
use Rattle.grammar.proofs.Reading.{Reads, Line, After, AfterBy, Seq, Many, reads-line, reads-after, reads-after-by, reads_seq, reads_as, reads_open, reads-many}
use Rattle.grammar.proofs.LaneReading.{always, Lines, To, PointAt, points_in-turn, in-turn-points}

-- a spot's flags tell of its checkpoint
module _ (N : Type 0) where
  abbrev SpotFlags : (m n : ℕ) → List (Statement N) → List Bool → Type 0
  SpotFlags m n os g = Agrees (lines N) (row (lines N) (spot_row_of N m n)) (kinds-on (lines N) os []) g

  abbrev Checkpoints : (m n : ℕ) → Option Checkpoint → List (Statement N) → Type 0
  Checkpoints m n c os = of_kind checkpoint os ≡ map (the_checkpoint_of m n) (perhaps c)

  spot-enough : (strict : Bool) (m n : ℕ) (c : Option Checkpoint) (os : List (Statement N)) (g : List Bool) → Checkpoints m n c os → least strict ≤ length (perhaps c) → SpotFlags m n os g → T (pick strict (second g) true)
  spot-enough false m n c os g e h a = tt
  spot-enough true m n none os g e h a = absurd (omega arith)
  spot-enough true m n (some c) os [] e h a = absurd a
  spot-enough true m n (some c) os (x ∷ []) e h a = absurd a.1
  spot-enough true m n (some c) os (x ∷ y ∷ g) e h a = subst T (sym (a.1.0 ∙ all-memb (lines N) checkpoint os [] (rw e (omega arith)))) tt

  spot-kept : (strict : Bool) (m n : ℕ) (c : Option Checkpoint) (os : List (Statement N)) (g : List Bool) → Checkpoints m n c os → SpotFlags m n os g → T (pick strict (second g) true) → least strict ≤ length (perhaps c)
  spot-kept false m n c os g e a now = omega arith
  spot-kept true m n (some c) os g e a now = omega arith
  spot-kept true m n none os [] e a now = absurd a
  spot-kept true m n none os (x ∷ []) e a now = absurd a.1
  spot-kept true m n none os (x ∷ y ∷ g) e a now = go (memb-all (lines N) checkpoint os [] (sym a.1.0 ∙ is_true y now))
    where
      go : (◌≡◌ {A = Bool} false true) ⊎ (1 ≤ length (of_kind checkpoint os)) → 1 ≤ 0
      go (inl z) = clash (sym z)
      go (inr h) = rw e at h

module _ (by : Under) (N : Type 0) where
  -- ## What follows `perimeter m.0`
  abbrev Borders : Type 0
  Borders = ℕ × ((Holds (lines N) (perimeter_row N 0 0) × Position) × (List Position × Unit {0}))

  abbrev PerimeterParts : (m : ℕ) → Borders → List (Statement N) → Type 0
  PerimeterParts m = Seq (rndf_by N by) (Line (rndf_by N by) num_perimeterpoints counted) λ w. Seq (rndf_by N by) (After (rndf_by N by) (perimeter_row N m w) point (the_point_of m 0 1)) λ x. Many (rndf_by N by) ((PointAt by N) m 0) (λ i. Line (rndf_by N by) end_perimeter (free (Unit {0}))) 2 (pred w)

  abbrev PerimeterBody : (m : ℕ) → Perimeter → List (Statement N) → Type 0
  PerimeterBody m a l = SpellsPerimeter m a (say perimeter (part_id m 0) ∷ l)

  parts-perimeter : (m z s : ℕ) → (To by N) (PerimeterParts m) (num_perimeterpoints_due m z s) (spot_due m z 1 s)
  parts-perimeter m z s =
      reads_seq (rndf_by N by) (reads-line (rndf_by N by) (num_perimeterpoints_due m z s) counted refl (λ v. refl) (λ g. always by.strict)) λ w.
      reads_seq (rndf_by N by) (reads-after (rndf_by N by) (first_perimeterpoint_due m z s w) (perimeter_row N m w) (the_point_of m 0 1) refl (λ v. refl) (λ g. always by.strict)) λ x.
      reads-many (rndf_by N by) ((PointAt by N) m 0) (λ i. Line (rndf_by N by) end_perimeter (free (Unit {0}))) (λ i w. some (perimeterpoint_due m z s i w)) (some (spot_due m z 1 s))
      (λ i w. reads-line (rndf_by N by) (perimeterpoint_due m z s i (suc w)) (the_point_of m 0 i) refl (λ v. refl) (λ g. always by.strict))
      (λ i. reads-line (rndf_by N by) (perimeterpoint_due m z s i zero) (free (Unit {0})) refl (λ v. refl) (λ g. always by.strict)) 2 (pred w)

  perimeter_of : Borders → Perimeter
  perimeter_of x = record { exits = x.1.0.0.0; points = x.1.0.1 ∷ x.1.1.0 }

  to-perimeter : (m : ℕ) (exits : List Exit) (ps : List Position) (l : (Lines by N)) → PerimeterBody m (record { exits = exits; points = ps }) l → (x : Borders) × (perimeter_of x ≡ record { exits = exits; points = ps }) × PerimeterParts m x l
  unfolding perimeter_of numbered
  to-perimeter m exits [] l s = absurd (omega arith)
  to-perimeter m exits (p ∷ ps) l s =
      let os = s.options in
      let rest = numbered m 0 2 ps ++ (say end_perimeter tt ∷ []) in (
        (suc (length ps), (((exits, tt), p), (ps, tt))),
        refl,
        (
          say num_perimeterpoints (suc (length ps)) ∷ [],
          os ++ (point_line_of (point_id m 0 1) p ∷ rest),
          (s.good.count, refl),
          (
            os ++ (point_line_of (point_id m 0 1) p ∷ []),
            rest,
            (os, ((s.given.exits, s.good.exits, tt), s.given.no_other), s.good.points.0, refl),
            (numbered m 0 2 ps, say end_perimeter tt ∷ [], refl, (points_in-turn by N) m 0 2 ps s.good.points.1, (tt, refl), refl),
            sym (append_assoc os (point_line_of (point_id m 0 1) p ∷ []) rest),
          ),
          tail-eq_of_cons-eq s.spelled,
        ),
      )

  from-perimeter : (m : ℕ) (x : Borders) (l : (Lines by N)) → PerimeterParts m x l → PerimeterBody m (perimeter_of x) l
  unfolding perimeter_of numbered
  from-perimeter m x l y =
      let ps = x.1.1.0 in
      let b = y.3 in
      let o = b.2 in
      let e = b.3 in
      let t = (in-turn-points by N) m 0 2 ps e.0 e.3 in
      let len = e.2 in
      let c = y.2.0 in
      let w : x.0 ≡ suc (length ps) = omega arith in
      let h = o.1 in
      record {
        options = o.0;
        given = record { exits = h.0.0; no_other = h.1 };
        good = record { count = rw w at c; points = (o.2, t.0); exits = rw w at h.0.1 };
        spelled = rw (y.4, y.2.1, b.4, o.3, e.5, t.1, e.4.1, append_assoc, w);
      }

  reads-perimeter-body : (m z s : ℕ) → (To by N) (PerimeterBody m) (num_perimeterpoints_due m z s) (spot_due m z 1 s)
  reads-perimeter-body m z s = reads_as (rndf_by N by) perimeter_of (λ a l s. to-perimeter m a.exits a.points l s) (from-perimeter m) (parts-perimeter m z s)

  -- ## What follows `spot m.n`
  abbrev Stalls : Type 0
  Stalls = (Holds (lines N) (spot_row_of N 0 0) × Position) × (Position × Unit {0})

  -- the first waypoint is good, and L8's rule is kept
  abbrev SpotOk : Holds (lines N) (spot_row_of N 0 0) × Position → Type 0
  SpotOk x = OnEarth x.1 × (least by.strict ≤ length (perhaps x.0.1.0))

  abbrev SpotParts : (m n : ℕ) → Stalls → List (Statement N) → Type 0
  SpotParts m n = Seq (rndf_by N by) (AfterBy (rndf_by N by) (spot_row_of N m n) point (the_point_of m n 1) SpotOk) λ x. Seq (rndf_by N by) ((PointAt by N) m n 2) λ y. Line (rndf_by N by) end_spot (free (Unit {0}))

  parts-spot : (m z n s : ℕ) → (To by N) (SpotParts m n) (first_of_spot_due m z n s) (spot_due m z (suc n) s)
  parts-spot m z n s =
      reads_seq (rndf_by N by) (reads-after-by (rndf_by N by) (first_of_spot_due m z n s) (spot_row_of N m n) (the_point_of m n 1) refl (λ v. refl) SpotOk (λ x o. o.0)
      (λ x os h o g a. spot-enough N by.strict m n x.0.1.0 os g h.0.2.0 o.1 a) (λ x os h good g a now. (good, spot-kept N by.strict m n x.0.1.0 os g h.0.2.0 a now))) λ x.
      reads_seq (rndf_by N by) (reads-line (rndf_by N by) (second_of_spot_due m z n s) (the_point_of m n 2) refl (λ v. refl) (λ g. always by.strict)) λ y.
      reads-line (rndf_by N by) (end_spot_due m z n s) (free (Unit {0})) refl (λ v. refl) (λ g. always by.strict)

  spot_of : Stalls → Spot
  spot_of x = record { width = x.0.0.0; checkpoint = x.0.0.1.0; first = x.0.1; second = x.1.0 }

  to-spot : (m n : ℕ) (a : Spot) (l : (Lines by N)) → SpellsSpotBy by m n a (say spot (part_id m n) ∷ l) → (x : Stalls) × (spot_of x ≡ a) × SpotParts m n x l
  unfolding spot_of
  to-spot m n a l s =
      let os = s.options in
      let rest = point_line_of (point_id m n 2) a.second ∷ say end_spot tt ∷ [] in (
        (((a.width, (a.checkpoint, tt)), a.first), (a.second, tt)),
        refl,
        (
          os ++ (point_line_of (point_id m n 1) a.first ∷ []),
          rest,
          (os, ((s.given.width ∙ sym (map-id (perhaps a.width)), s.good.width, (s.given.checkpoints, s.good.checkpoint, tt)), s.given.no_other), (s.good.first, s.marked), refl),
          (point_line_of (point_id m n 2) a.second ∷ [], say end_spot tt ∷ [], (s.good.second, refl), (tt, refl), refl),
          tail-eq_of_cons-eq s.spelled ∙ sym (append_assoc os (point_line_of (point_id m n 1) a.first ∷ []) rest),
        ),
      )

  from-spot : (m n : ℕ) (x : Stalls) (l : (Lines by N)) → SpotParts m n x l → SpellsSpotBy by m n (spot_of x) (say spot (part_id m n) ∷ l)
  unfolding spot_of
  from-spot m n x l y =
      let o = y.2 in
      let e = y.3 in
      let h = o.1.0 in
      record {
        options = o.0;
        given = record { width = h.0 ∙ map-id (perhaps x.0.0.0); checkpoints = h.2.0; no_other = o.1.1 };
        good = record { width = h.1; checkpoint = h.2.1; first = o.2.0; second = e.2.0 };
        marked = o.2.1;
        spelled = rw (y.4, o.3, e.4, e.2.1, e.3.1, append_assoc);
      }

  reads-spot : (m z n s : ℕ) → (To by N) (SpellsSpotBy by m n) (spot_due m z n (suc s)) (spot_due m z (suc n) s)
  reads-spot m z n s = reads_open (rndf_by N by) (SpellsSpotBy by m n) spot part? (part_id m n) (λ a w s. (_, s.spelled)) (reads-line (rndf_by N by) (spot_due m z n (suc s)) (the_part_of m n) refl (λ v. refl) (λ g. always by.strict))
      (reads_as (rndf_by N by) spot_of (to-spot m n) (from-spot m n) (parts-spot m z n s))

  -- ## What follows `zone m`
  abbrev Yards : Type 0
  Yards = ℕ × ((Holds (lines N) (zone_row_of N) × Unit {0}) × (Perimeter × (List Spot × Unit {0})))

  abbrev ZoneParts : (m : ℕ) → Yards → List (Statement N) → Type 0
  ZoneParts m = Seq (rndf_by N by) (Line (rndf_by N by) num_spots (spots_of by.edition)) λ s. Seq (rndf_by N by) (After (rndf_by N by) (zone_row_of N) perimeter (the_part_of m 0)) λ x. Seq (rndf_by N by) (PerimeterBody m) λ p. Many (rndf_by N by) (SpellsSpotBy by m) (λ i. Line (rndf_by N by) end_zone (free (Unit {0}))) 1 s

  parts-zone : (m z : ℕ) → (To by N) (ZoneParts m) (num_spots_due m z) (part_due (suc m) zero z)
  parts-zone m z =
      reads_seq (rndf_by N by) (reads-line (rndf_by N by) (num_spots_due m z) (spots_of by.edition) refl (λ v. refl) (λ g. always by.strict)) λ s.
      reads_seq (rndf_by N by) (reads-after (rndf_by N by) (perimeter_due m z s) (zone_row_of N) (the_part_of m 0) refl (λ v. refl) (λ g. always by.strict)) λ x.
      reads_seq (rndf_by N by) (reads-perimeter-body m z s) λ p.
      reads-many (rndf_by N by) (SpellsSpotBy by m) (λ i. Line (rndf_by N by) end_zone (free (Unit {0}))) (λ i s. some (spot_due m z i s)) (some (part_due (suc m) zero z))
      (λ i s. reads-spot m z i s) (λ i. reads-line (rndf_by N by) (spot_due m z i zero) (free (Unit {0})) refl (λ v. refl) (λ g. always by.strict)) 1 s

  the_zone_of : Yards → (Zone N)
  the_zone_of x = record { name = x.1.0.0.0; border = x.1.1.0; spots = x.1.1.1.0 }

  to-zone : (m : ℕ) (a : (Zone N)) (l : (Lines by N)) → SpellsZoneBy by m a (say zone m ∷ l) → (x : Yards) × (the_zone_of x ≡ a) × ZoneParts m x l
  unfolding the_zone_of
  to-zone m a l s =
      let os = s.options in
      let b = s.bordered in
      let body = say num_perimeterpoints (length a.border.points) ∷ b.options ++ (numbered m 0 1 a.border.points ++ (say end_perimeter tt ∷ [])) in
      let rest = s.spots ++ (say end_zone tt ∷ []) in (
        (length a.spots, (((a.name, tt), tt), (a.border, (a.spots, tt)))),
        refl,
        (
          say num_spots (length a.spots) ∷ [],
          os ++ (say perimeter (part_id m 0) ∷ (body ++ rest)),
          (s.count, refl),
          (
            os ++ (say perimeter (part_id m 0) ∷ []),
            body ++ rest,
            (os, ((s.given.name ∙ sym (map-id (perhaps a.name)), each-any (perhaps a.name), tt), s.given.no_other), tt, refl),
            (body, rest, rw b.spelled at b, (s.spots, say end_zone tt ∷ [], refl, s.each, (tt, refl), refl), refl),
            sym (append_assoc os (say perimeter (part_id m 0) ∷ []) (body ++ rest)),
          ),
          tail-eq_of_cons-eq s.spelled ∙ rw b.spelled,
        ),
      )

  from-zone : (m : ℕ) (x : Yards) (l : (Lines by N)) → ZoneParts m x l → SpellsZoneBy by m (the_zone_of x) (say zone m ∷ l)
  unfolding the_zone_of
  from-zone m x l y =
      let b = y.3 in
      let o = b.2 in
      let d = b.3 in
      let e = d.3 in
      let w : x.0 ≡ length x.1.1.1.0 = sym e.2 in
      record {
        options = o.0;
        border = say perimeter (part_id m 0) ∷ d.0;
        spots = e.0;
        given = record { name = o.1.0.0 ∙ map-id (perhaps x.1.0.0.0); no_other = o.1.1 };
        count = rw w at y.2.0;
        bordered = d.2;
        each = e.3;
        spelled = rw (y.4, y.2.1, b.4, o.3, d.4, e.5, e.4.1, w) (simp append_assoc);
      }

  pub reads-zone : (m z : ℕ) → (To by N) (SpellsZoneBy by m) (part_due m zero (suc z)) (part_due (suc m) zero z)
  reads-zone m z = reads_open (rndf_by N by) (SpellsZoneBy by m) zone eq? m (λ a w s. (_, s.spelled)) (reads-line (rndf_by N by) (part_due m zero (suc z)) (the_number_of m) refl (λ v. refl) (λ g. always by.strict))
      (reads_as (rndf_by N by) the_zone_of (to-zone m) (from-zone m) (parts-zone m z))
