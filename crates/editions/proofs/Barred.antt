-- THE LAW of an edition's lines: a line gets what it gets in the present edition; but one that says what the edition does not have gets 8 or 9 for it. Assumes nothing.
use Rattle.std.specs.Prelude.{Ok, Err, Result}
use mathlib.Core.Path.{◌≡◌, refl, sym, ap, ◌∙◌}
use mathlib.Core.List.{List, [], ◌∷◌}
use mathlib.Core.Option.{Option, none, some}
use mathlib.Core.Bool.{Bool, true, false}
use Prim.Native.Nat.{ℕ, zero, suc}
use native.Mathlib.Omega.{arith}
use lib.ListN.{length, take}
use lib.Dec.{T, eqb}
use Rattle.terms.specs.Ascii.{Bytes}
use Rattle.terms.specs.Words.{pick}
use Rattle.terms.proofs.Tests.{nothing}
use Rattle.line.specs.Content.{Field}
use Rattle.line.specs.Lines.{drop_cr}
use Rattle.line.specs.Forms.{form_of, fields_at}
use Rattle.word.specs.Number.{boundary_number, digit_first}
use Rattle.grammar.specs.Editions.{Edition, march, december, has_boundary}
use Rattle.grammar.specs.Forms.{tested}
use Rattle.grammar.specs.Statements.{Boundary, double_yellow_of, solid_yellow_of, solid_white_of, broken_white_of, Kind, Says, Statement, say, lines, RNDF_name_of, num_segments, num_zones, format_version_of, creation_date_of, segment, num_lanes, segment_name_of, end_segment, lane, num_waypoints, lane_width_of, left_boundary_of, right_boundary_of, checkpoint, stop, exit, end_lane_of, zone, num_spots, zone_name_of, end_zone, perimeter, num_perimeterpoints, end_perimeter, spot, spot_width_of, end_spot, end_file_of, point}
use Rattle.grammar.specs.Machine.{Out, next, refuse, lacks, guard, over, inside, Place, step}
use Rattle.grammar.specs.Permitted.{spots_of}
use Rattle.grammar.specs.Places.{rndf, Base, opts, due, name_due, num_segments_due, num_zones_due, first_segment_due, part_due, num_lanes_due, first_lane_due, lane_due, num_waypoints_due, first_waypoint_due, waypoint_due, num_spots_due, perimeter_due, num_perimeterpoints_due, first_perimeterpoint_due, perimeterpoint_due, spot_due, first_of_spot_due, second_of_spot_due, end_spot_due}
use Rattle.grammar.specs.PlaceRows.{kind_row}
use Rattle.grammar.specs.Stands.{stands}
use Rattle.grammar.proofs.FormLaws as Forms
use Rattle.grammar.proofs.StandLaws.{stands-five}
use Rattle.text.specs.Judge.{Sort, an_integer, a_boundary, Vals, boundary_from, only_known, read, both, read_all, Verdict, fault, good, check, Lexis, kind_at, args, taken, valued, standing, of_kind, known, tell, told, formed, judge}
use Rattle.text.specs.RndfWords.{word_at, rndf_sorts_in, rndf_make_in, rndf_lexis_in, rndf_lexis}
use Rattle.text.proofs.Theorems.{places}
use Rattle.editions.specs.Bars.{too_few, bars}
use Rattle.editions.proofs.Steps.{stands_same, numbered-same, step_same}

abbrev Got : Type 0
Got = Verdict (Statement Field) (Place (rndf Field))

-- what is good in the present edition, in this one
abbrev pub barred : Edition → Verdict (Statement Field) (Place (rndf Field)) → Verdict (Statement Field) (Place (rndf Field))
barred e (fault c) = fault c
barred e (good none q) = good none q
barred e (good (some s) q) = pick (eqb (bars Field e s.kind s.val) 0) (good (some s) q) (fault (bars Field e s.kind s.val))

-- ## A line of a kind, by the values that are read
abbrev X : Edition → Lexis (lines Field)
X = rndf_lexis_in

abbrev told-by : (e : Edition) → Place (rndf Field) → (k : Kind) (ss : List Sort) → (Vals ss → Says Field k) → Option (Vals ss) → Verdict (Statement Field) (Place (rndf Field))
told-by e p k ss mk none = fault 8
told-by e p k ss mk (some v) = taken (places e) (X e) (say k (mk v)) (step (places e) p (say k (mk v)))

abbrev whole : (e : Edition) → Place (rndf Field) → (k : Kind) (ss : List Sort) → (Vals ss → Says Field k) → List Field → Verdict (Statement Field) (Place (rndf Field))
whole e p k ss mk fs = standing (places e) (X e) (stands (places e) p k) (check (eqb (length fs) (length ss)) 7 (told-by e p k ss mk (read_all ss fs)))

whole_is : (e : Edition) (p : Place (rndf Field)) (k : Kind) (fs : List Field) → of_kind (places e) (X e) p k fs ≡ whole e p k (rndf_sorts_in e k) (rndf_make_in e k) fs
whole_is e p k fs = ap (λ (v : Got). standing (places e) (X e) (stands (places e) p k) (check (eqb (length fs) (length (rndf_sorts_in e k))) 7 v)) (go (read_all (rndf_sorts_in e k) fs))
  where
    go : (x : Option (Vals (rndf_sorts_in e k))) → valued (places e) (X e) p k x ≡ told-by e p k (rndf_sorts_in e k) (rndf_make_in e k) x
    go none = refl
    go (some v) = refl

stood : (x : Option ℕ) (b : Bool) (v w : Got) → v ≡ barred december w → standing (places december) (X december) x (check b 7 v) ≡ barred december (standing (places march) (X march) x (check b 7 w))
stood none true v w h = h
stood none false v w h = refl
stood (some n) b v w h = refl

-- what is taken, and not barred
free : (s : Statement Field) (o : Out (Place (rndf Field))) → bars Field december s.kind s.val ≡ 0 → taken (places december) (X december) s o ≡ barred december (taken (places march) (X march) s o)
free s (next q) h = rw h
free s (refuse c) h = refl

-- ## A kind that the edition has as the present one has it
plain_value : (p : Place (rndf Field)) (k : Kind) (ss : List Sort) (mk : Vals ss → Says Field k) → (k ≡ num_spots → ⊥) → ((v : Says Field k) → bars Field december k v ≡ 0) → (x : Option (Vals ss)) → told-by december p k ss mk x ≡ barred december (told-by march p k ss mk x)
plain_value p k ss mk n h none = refl
plain_value p k ss mk n h (some v) = ap (taken (places december) (X december) (say k (mk v))) (step_same december p (say k (mk v)) n) ∙ free (say k (mk v)) (step (rndf Field) p (say k (mk v))) (h (mk v))

plain : (p : Place (rndf Field)) (k : Kind) (ss : List Sort) (mk : Vals ss → Says Field k) → (k ≡ num_spots → ⊥) → ((v : Says Field k) → bars Field december k v ≡ 0) → (fs : List Field) → whole december p k ss mk fs ≡ barred december (whole march p k ss mk fs)
plain p k ss mk n h fs = rw (stands_same december p k) (stood (stands (rndf Field) p k) (eqb (length fs) (length ss)) _ _ (plain_value p k ss mk n h (read_all ss fs)))

-- ## A kind that may not stand
differ : (j k : Kind) → (kind_row j ≡ kind_row k → ⊥) → j ≡ k → ⊥
differ j k n e = n (ap kind_row e)

absent : {Y : Type 0} (k : Kind) (b : Base) (g : List Bool) → T (lacks (lines Field) k (opts Field b)) → (kind_row k ≡ kind_row (due Field b).on → ⊥) → stands (rndf Field) (inside b g) k ≡ none → Y
absent k b g l n h = nothing (sym h ∙ stands-five (rndf Field) b g k l (differ k (due Field b).on n))

-- ## A boundary
-- where it may stand, it is taken
left-taken : (p : Place (rndf Field)) (b : Boundary) → stands (rndf Field) p left_boundary_of ≡ none → (q : Place (rndf Field)) × (step (rndf Field) p (say left_boundary_of b) ≡ next q)
unfolding stands step
left-taken over b h = nothing (sym h)
left-taken (inside name_due g) b h = absent left_boundary_of name_due g tt (λ z. omega arith) h
left-taken (inside num_segments_due g) b h = absent left_boundary_of num_segments_due g tt (λ z. omega arith) h
left-taken (inside (num_zones_due o) g) b h = absent left_boundary_of (num_zones_due o) g tt (λ z. omega arith) h
left-taken (inside (first_segment_due o z) g) b h = absent left_boundary_of (first_segment_due o z) g tt (λ z. omega arith) h
left-taken (inside (part_due m (suc o) z) g) b h = absent left_boundary_of (part_due m (suc o) z) g tt (λ z. omega arith) h
left-taken (inside (part_due m zero (suc z)) g) b h = absent left_boundary_of (part_due m zero (suc z)) g tt (λ z. omega arith) h
left-taken (inside (part_due m zero zero) g) b h = absent left_boundary_of (part_due m zero zero) g tt (λ z. omega arith) h
left-taken (inside (num_lanes_due m o z) g) b h = absent left_boundary_of (num_lanes_due m o z) g tt (λ z. omega arith) h
left-taken (inside (first_lane_due m o z l) g) b h = absent left_boundary_of (first_lane_due m o z l) g tt (λ z. omega arith) h
left-taken (inside (lane_due m o z n zero) g) b h = absent left_boundary_of (lane_due m o z n zero) g tt (λ z. omega arith) h
left-taken (inside (lane_due m o z n (suc l)) g) b h = absent left_boundary_of (lane_due m o z n (suc l)) g tt (λ z. omega arith) h
left-taken (inside (num_waypoints_due m o z n l) g) b h = absent left_boundary_of (num_waypoints_due m o z n l) g tt (λ z. omega arith) h
left-taken (inside (first_waypoint_due m o z n l w) []) b h = nothing (sym h)
left-taken (inside (first_waypoint_due m o z n l w) (x ∷ [])) b h = nothing (sym h)
left-taken (inside (first_waypoint_due m o z n l w) (x ∷ true ∷ g)) b h = nothing (sym h)
left-taken (inside (first_waypoint_due m o z n l w) (x ∷ false ∷ g)) b h = (_, refl)
left-taken (inside (waypoint_due m o z n l j zero) g) b h = absent left_boundary_of (waypoint_due m o z n l j zero) g tt (λ z. omega arith) h
left-taken (inside (waypoint_due m o z n l j (suc w)) g) b h = absent left_boundary_of (waypoint_due m o z n l j (suc w)) g tt (λ z. omega arith) h
left-taken (inside (num_spots_due m z) g) b h = absent left_boundary_of (num_spots_due m z) g tt (λ z. omega arith) h
left-taken (inside (perimeter_due m z i) g) b h = absent left_boundary_of (perimeter_due m z i) g tt (λ z. omega arith) h
left-taken (inside (num_perimeterpoints_due m z i) g) b h = absent left_boundary_of (num_perimeterpoints_due m z i) g tt (λ z. omega arith) h
left-taken (inside (first_perimeterpoint_due m z i a) g) b h = absent left_boundary_of (first_perimeterpoint_due m z i a) g tt (λ z. omega arith) h
left-taken (inside (perimeterpoint_due m z i j zero) g) b h = absent left_boundary_of (perimeterpoint_due m z i j zero) g tt (λ z. omega arith) h
left-taken (inside (perimeterpoint_due m z i j (suc a)) g) b h = absent left_boundary_of (perimeterpoint_due m z i j (suc a)) g tt (λ z. omega arith) h
left-taken (inside (spot_due m z n zero) g) b h = absent left_boundary_of (spot_due m z n zero) g tt (λ z. omega arith) h
left-taken (inside (spot_due m z n (suc i)) g) b h = absent left_boundary_of (spot_due m z n (suc i)) g tt (λ z. omega arith) h
left-taken (inside (first_of_spot_due m z n i) g) b h = absent left_boundary_of (first_of_spot_due m z n i) g tt (λ z. omega arith) h
left-taken (inside (second_of_spot_due m z n i) g) b h = absent left_boundary_of (second_of_spot_due m z n i) g tt (λ z. omega arith) h
left-taken (inside (end_spot_due m z n i) g) b h = absent left_boundary_of (end_spot_due m z n i) g tt (λ z. omega arith) h

-- where it may stand, it is taken
right-taken : (p : Place (rndf Field)) (b : Boundary) → stands (rndf Field) p right_boundary_of ≡ none → (q : Place (rndf Field)) × (step (rndf Field) p (say right_boundary_of b) ≡ next q)
unfolding stands step
right-taken over b h = nothing (sym h)
right-taken (inside name_due g) b h = absent right_boundary_of name_due g tt (λ z. omega arith) h
right-taken (inside num_segments_due g) b h = absent right_boundary_of num_segments_due g tt (λ z. omega arith) h
right-taken (inside (num_zones_due o) g) b h = absent right_boundary_of (num_zones_due o) g tt (λ z. omega arith) h
right-taken (inside (first_segment_due o z) g) b h = absent right_boundary_of (first_segment_due o z) g tt (λ z. omega arith) h
right-taken (inside (part_due m (suc o) z) g) b h = absent right_boundary_of (part_due m (suc o) z) g tt (λ z. omega arith) h
right-taken (inside (part_due m zero (suc z)) g) b h = absent right_boundary_of (part_due m zero (suc z)) g tt (λ z. omega arith) h
right-taken (inside (part_due m zero zero) g) b h = absent right_boundary_of (part_due m zero zero) g tt (λ z. omega arith) h
right-taken (inside (num_lanes_due m o z) g) b h = absent right_boundary_of (num_lanes_due m o z) g tt (λ z. omega arith) h
right-taken (inside (first_lane_due m o z l) g) b h = absent right_boundary_of (first_lane_due m o z l) g tt (λ z. omega arith) h
right-taken (inside (lane_due m o z n zero) g) b h = absent right_boundary_of (lane_due m o z n zero) g tt (λ z. omega arith) h
right-taken (inside (lane_due m o z n (suc l)) g) b h = absent right_boundary_of (lane_due m o z n (suc l)) g tt (λ z. omega arith) h
right-taken (inside (num_waypoints_due m o z n l) g) b h = absent right_boundary_of (num_waypoints_due m o z n l) g tt (λ z. omega arith) h
right-taken (inside (first_waypoint_due m o z n l w) []) b h = nothing (sym h)
right-taken (inside (first_waypoint_due m o z n l w) (x ∷ [])) b h = nothing (sym h)
right-taken (inside (first_waypoint_due m o z n l w) (x ∷ y ∷ [])) b h = nothing (sym h)
right-taken (inside (first_waypoint_due m o z n l w) (x ∷ y ∷ true ∷ g)) b h = nothing (sym h)
right-taken (inside (first_waypoint_due m o z n l w) (x ∷ y ∷ false ∷ g)) b h = (_, refl)
right-taken (inside (waypoint_due m o z n l j zero) g) b h = absent right_boundary_of (waypoint_due m o z n l j zero) g tt (λ z. omega arith) h
right-taken (inside (waypoint_due m o z n l j (suc w)) g) b h = absent right_boundary_of (waypoint_due m o z n l j (suc w)) g tt (λ z. omega arith) h
right-taken (inside (num_spots_due m z) g) b h = absent right_boundary_of (num_spots_due m z) g tt (λ z. omega arith) h
right-taken (inside (perimeter_due m z i) g) b h = absent right_boundary_of (perimeter_due m z i) g tt (λ z. omega arith) h
right-taken (inside (num_perimeterpoints_due m z i) g) b h = absent right_boundary_of (num_perimeterpoints_due m z i) g tt (λ z. omega arith) h
right-taken (inside (first_perimeterpoint_due m z i a) g) b h = absent right_boundary_of (first_perimeterpoint_due m z i a) g tt (λ z. omega arith) h
right-taken (inside (perimeterpoint_due m z i j zero) g) b h = absent right_boundary_of (perimeterpoint_due m z i j zero) g tt (λ z. omega arith) h
right-taken (inside (perimeterpoint_due m z i j (suc a)) g) b h = absent right_boundary_of (perimeterpoint_due m z i j (suc a)) g tt (λ z. omega arith) h
right-taken (inside (spot_due m z n zero) g) b h = absent right_boundary_of (spot_due m z n zero) g tt (λ z. omega arith) h
right-taken (inside (spot_due m z n (suc i)) g) b h = absent right_boundary_of (spot_due m z n (suc i)) g tt (λ z. omega arith) h
right-taken (inside (first_of_spot_due m z n i) g) b h = absent right_boundary_of (first_of_spot_due m z n i) g tt (λ z. omega arith) h
right-taken (inside (second_of_spot_due m z n i) g) b h = absent right_boundary_of (second_of_spot_due m z n i) g tt (λ z. omega arith) h
right-taken (inside (end_spot_due m z n i) g) b h = absent right_boundary_of (end_spot_due m z n i) g tt (λ z. omega arith) h

-- k: left or right
module _ (k : Kind) (mk : Boundary → Says Field k) (not : k ≡ num_spots → ⊥) (is : (b : Boundary) → bars Field december k (mk b) ≡ pick (has_boundary december b) 0 8)
    (takes : (p : Place (rndf Field)) (b : Boundary) → stands (rndf Field) p k ≡ none → (q : Place (rndf Field)) × (step (rndf Field) p (say k (mk b)) ≡ next q)) where
  abbrev ss : Edition → List Sort
  ss e = a_boundary e ∷ []

  abbrev said : (e : Edition) → Place (rndf Field) → Option (Boundary × Unit {0}) → Verdict (Statement Field) (Place (rndf Field))
  said e p x = told-by e p k (ss e) (λ v. mk v.0) x

  had : (p : Place (rndf Field)) (b : Boundary) → has_boundary december b ≡ true → said december p (some (b, tt)) ≡ barred december (said march p (some (b, tt)))
  had p b h = ap (taken (places december) (X december) (say k (mk b))) (step_same december p (say k (mk b)) not) ∙ free (say k (mk b)) (step (rndf Field) p (say k (mk b))) (is b ∙ ap (λ (x : Bool). pick x 0 8) h)

  lacked : (p : Place (rndf Field)) (b : Boundary) → stands (rndf Field) p k ≡ none → has_boundary december b ≡ false → fault 8 ≡ barred december (said march p (some (b, tt)))
  lacked p b s h =
      let x = takes p b s in
      let e : bars Field december k (mk b) ≡ 8 = is b ∙ ap (λ (x : Bool). pick x 0 8) h in
      sym (ap (λ (o : Out (Place (rndf Field))). barred december (taken (places march) (X march) (say k (mk b)) o)) x.1 ∙ ap (λ (n : ℕ). pick (eqb n 0) (good (some (say k (mk b))) x.0) (fault n)) e)

  side-value : (p : Place (rndf Field)) → stands (rndf Field) p k ≡ none → (fs : List Field) → said december p (read_all (ss december) fs) ≡ barred december (said march p (read_all (ss march) fs))
  unfolding read
  side-value p s [] = refl
  side-value p s (f ∷ []) = go (boundary_from (boundary_number f.bytes))
    where
      by : (b : Boundary) (x : Bool) → has_boundary december b ≡ x → said december p (both (pick x (some b) none) (some tt)) ≡ barred december (said march p (some (b, tt)))
      by b true h = had p b h
      by b false h = lacked p b s h

      go : (o : Option Boundary) → said december p (both (only_known december o) (some tt)) ≡ barred december (said march p (both o (some tt)))
      go none = refl
      go (some b) = by b (has_boundary december b) refl
  side-value p s (f ∷ g ∷ fs) = go (boundary_from (boundary_number f.bytes))
    where
      by : (b : Boundary) (x : Bool) → said december p (both (pick x (some b) none) none) ≡ fault 8
      by b true = refl
      by b false = refl

      go : (o : Option Boundary) → said december p (both (only_known december o) none) ≡ barred december (said march p (both o none))
      go none = refl
      go (some b) = by b (has_boundary december b)

  sided : (p : Place (rndf Field)) (fs : List Field) → whole december p k (ss december) (λ v. mk v.0) fs ≡ barred december (whole march p k (ss march) (λ v. mk v.0) fs)
  sided p fs = rw (stands_same december p k) (go (stands (rndf Field) p k) refl)
    where
      go : (x : Option ℕ) → stands (rndf Field) p k ≡ x → standing (places december) (X december) x (check (eqb (length fs) 1) 7 (said december p (read_all (ss december) fs)))
          ≡ barred december (standing (places march) (X march) x (check (eqb (length fs) 1) 7 (said march p (read_all (ss march) fs))))
      go none s = stood none (eqb (length fs) 1) _ _ (side-value p s fs)
      go (some n) s = refl

-- ## The number of spots
same_test : (a b : Bool) → (T a → T b) → (T b → T a) → a ≡ b
same_test true true f g = refl
same_test true false f g = absurd (f tt)
same_test false true f g = absurd (g tt)
same_test false false f g = refl

some-spots : (n : ℕ) → tested (spots_of december) (suc n) ≡ tested (spots_of march) (suc n)
some-spots n = same_test (tested (spots_of december) (suc n)) (tested (spots_of march) (suc n)) (λ t. Forms.pass (spots_of march) (suc n) (Forms.pick (spots_of december) (suc n) t).1.high)
    (λ t. Forms.pass (spots_of december) (suc n) (record { low = omega arith; high = (Forms.pick (spots_of march) (suc n) t).1 }))

abbrev spots-by : (e : Edition) → Place (rndf Field) → Option (ℕ × Unit {0}) → Verdict (Statement Field) (Place (rndf Field))
spots-by e p x = told-by e p num_spots (an_integer ∷ []) (λ v. v.0) x

spots-value : (m z : ℕ) (g : List Bool) (x : Option (ℕ × Unit {0})) → spots-by december (inside (num_spots_due m z) g) x ≡ barred december (spots-by march (inside (num_spots_due m z) g) x)
unfolding step guard
spots-value m z g none = refl
spots-value m z g (some (zero, u)) = refl
spots-value m z g (some (suc n, u)) = rw (some-spots n) (go (tested (spots_of march) (suc n)))
  where
    s : Statement Field
    s = say num_spots (suc n)

    q : Place (rndf Field)
    q = inside (perimeter_due m z (suc n)) (false ∷ [])

    go : (b : Bool) → taken (places december) (X december) s (guard b 9 (next q)) ≡ barred december (taken (places march) (X march) s (guard b 9 (next q)))
    go true = refl
    go false = refl

elsewhere : (b : Base) (g : List Bool) → T (lacks (lines Field) num_spots (opts Field b)) → (kind_row num_spots ≡ kind_row (due Field b).on → ⊥) → (fs : List Field)
    → of_kind (places december) (rndf_lexis_in december) (inside b g) num_spots fs ≡ barred december (of_kind (rndf Field) rndf_lexis (inside b g) num_spots fs)
elsewhere b g l n fs =
    let five = stands-five (rndf Field) b g num_spots l (differ num_spots (due Field b).on n) in
    rw (stands_same december (inside b g) num_spots, five)

spots : (p : Place (rndf Field)) (fs : List Field) → of_kind (places december) (rndf_lexis_in december) p num_spots fs ≡ barred december (of_kind (rndf Field) rndf_lexis p num_spots fs)
unfolding stands
spots over fs = refl
spots (inside name_due g) fs = elsewhere name_due g tt (λ z. omega arith) fs
spots (inside num_segments_due g) fs = elsewhere num_segments_due g tt (λ z. omega arith) fs
spots (inside (num_zones_due o) g) fs = elsewhere (num_zones_due o) g tt (λ z. omega arith) fs
spots (inside (first_segment_due o z) g) fs = elsewhere (first_segment_due o z) g tt (λ z. omega arith) fs
spots (inside (part_due m (suc o) z) g) fs = elsewhere (part_due m (suc o) z) g tt (λ z. omega arith) fs
spots (inside (part_due m zero (suc z)) g) fs = elsewhere (part_due m zero (suc z)) g tt (λ z. omega arith) fs
spots (inside (part_due m zero zero) g) fs = elsewhere (part_due m zero zero) g tt (λ z. omega arith) fs
spots (inside (num_lanes_due m o z) g) fs = elsewhere (num_lanes_due m o z) g tt (λ z. omega arith) fs
spots (inside (first_lane_due m o z l) g) fs = elsewhere (first_lane_due m o z l) g tt (λ z. omega arith) fs
spots (inside (lane_due m o z n zero) g) fs = elsewhere (lane_due m o z n zero) g tt (λ z. omega arith) fs
spots (inside (lane_due m o z n (suc l)) g) fs = elsewhere (lane_due m o z n (suc l)) g tt (λ z. omega arith) fs
spots (inside (num_waypoints_due m o z n l) g) fs = elsewhere (num_waypoints_due m o z n l) g tt (λ z. omega arith) fs
spots (inside (first_waypoint_due m o z n l w) g) fs = elsewhere (first_waypoint_due m o z n l w) g tt (λ z. omega arith) fs
spots (inside (waypoint_due m o z n l j zero) g) fs = elsewhere (waypoint_due m o z n l j zero) g tt (λ z. omega arith) fs
spots (inside (waypoint_due m o z n l j (suc w)) g) fs = elsewhere (waypoint_due m o z n l j (suc w)) g tt (λ z. omega arith) fs
spots (inside (num_spots_due m z) g) fs =
    whole_is december (inside (num_spots_due m z) g) num_spots fs ∙ stood none (eqb (length fs) 1) _ _ (spots-value m z g (read_all (an_integer ∷ []) fs)) ∙ ap (barred december) (sym (whole_is march (inside (num_spots_due m z) g) num_spots fs))
spots (inside (perimeter_due m z i) g) fs = elsewhere (perimeter_due m z i) g tt (λ z. omega arith) fs
spots (inside (num_perimeterpoints_due m z i) g) fs = elsewhere (num_perimeterpoints_due m z i) g tt (λ z. omega arith) fs
spots (inside (first_perimeterpoint_due m z i a) g) fs = elsewhere (first_perimeterpoint_due m z i a) g tt (λ z. omega arith) fs
spots (inside (perimeterpoint_due m z i j zero) g) fs = elsewhere (perimeterpoint_due m z i j zero) g tt (λ z. omega arith) fs
spots (inside (perimeterpoint_due m z i j (suc a)) g) fs = elsewhere (perimeterpoint_due m z i j (suc a)) g tt (λ z. omega arith) fs
spots (inside (spot_due m z n zero) g) fs = elsewhere (spot_due m z n zero) g tt (λ z. omega arith) fs
spots (inside (spot_due m z n (suc i)) g) fs = elsewhere (spot_due m z n (suc i)) g tt (λ z. omega arith) fs
spots (inside (first_of_spot_due m z n i) g) fs = elsewhere (first_of_spot_due m z n i) g tt (λ z. omega arith) fs
spots (inside (second_of_spot_due m z n i) g) fs = elsewhere (second_of_spot_due m z n i) g tt (λ z. omega arith) fs
spots (inside (end_spot_due m z n i) g) fs = elsewhere (end_spot_due m z n i) g tt (λ z. omega arith) fs

-- ## Every kind
other : (k : Kind) → (kind_row k ≡ 19 → ⊥) → k ≡ num_spots → ⊥
other k n e = n (ap kind_row e)

of_kind_of : (p : Place (rndf Field)) (k : Kind) (fs : List Field) → of_kind (places december) (rndf_lexis_in december) p k fs ≡ barred december (of_kind (rndf Field) rndf_lexis p k fs)
of_kind_of p RNDF_name_of fs = whole_is december p RNDF_name_of fs ∙ plain p RNDF_name_of (rndf_sorts_in march RNDF_name_of) (rndf_make_in march RNDF_name_of) (other RNDF_name_of (λ z. omega arith)) (λ v. refl) fs ∙ ap (barred december) (sym (whole_is march p RNDF_name_of fs))
of_kind_of p num_segments fs = whole_is december p num_segments fs ∙ plain p num_segments (rndf_sorts_in march num_segments) (rndf_make_in march num_segments) (other num_segments (λ z. omega arith)) (λ v. refl) fs ∙ ap (barred december) (sym (whole_is march p num_segments fs))
of_kind_of p num_zones fs = whole_is december p num_zones fs ∙ plain p num_zones (rndf_sorts_in march num_zones) (rndf_make_in march num_zones) (other num_zones (λ z. omega arith)) (λ v. refl) fs ∙ ap (barred december) (sym (whole_is march p num_zones fs))
of_kind_of p format_version_of fs = whole_is december p format_version_of fs ∙ plain p format_version_of (rndf_sorts_in march format_version_of) (rndf_make_in march format_version_of) (other format_version_of (λ z. omega arith)) (λ v. refl) fs ∙ ap (barred december) (sym (whole_is march p format_version_of fs))
of_kind_of p creation_date_of fs = whole_is december p creation_date_of fs ∙ plain p creation_date_of (rndf_sorts_in march creation_date_of) (rndf_make_in march creation_date_of) (other creation_date_of (λ z. omega arith)) (λ v. refl) fs ∙ ap (barred december) (sym (whole_is march p creation_date_of fs))
of_kind_of p segment fs = whole_is december p segment fs ∙ plain p segment (rndf_sorts_in march segment) (rndf_make_in march segment) (other segment (λ z. omega arith)) (λ v. refl) fs ∙ ap (barred december) (sym (whole_is march p segment fs))
of_kind_of p num_lanes fs = whole_is december p num_lanes fs ∙ plain p num_lanes (rndf_sorts_in march num_lanes) (rndf_make_in march num_lanes) (other num_lanes (λ z. omega arith)) (λ v. refl) fs ∙ ap (barred december) (sym (whole_is march p num_lanes fs))
of_kind_of p segment_name_of fs = whole_is december p segment_name_of fs ∙ plain p segment_name_of (rndf_sorts_in march segment_name_of) (rndf_make_in march segment_name_of) (other segment_name_of (λ z. omega arith)) (λ v. refl) fs ∙ ap (barred december) (sym (whole_is march p segment_name_of fs))
of_kind_of p end_segment fs = whole_is december p end_segment fs ∙ plain p end_segment (rndf_sorts_in march end_segment) (rndf_make_in march end_segment) (other end_segment (λ z. omega arith)) (λ v. refl) fs ∙ ap (barred december) (sym (whole_is march p end_segment fs))
of_kind_of p lane fs = whole_is december p lane fs ∙ plain p lane (rndf_sorts_in march lane) (rndf_make_in march lane) (other lane (λ z. omega arith)) (λ v. refl) fs ∙ ap (barred december) (sym (whole_is march p lane fs))
of_kind_of p num_waypoints fs = whole_is december p num_waypoints fs ∙ plain p num_waypoints (rndf_sorts_in march num_waypoints) (rndf_make_in march num_waypoints) (other num_waypoints (λ z. omega arith)) (λ v. refl) fs ∙ ap (barred december) (sym (whole_is march p num_waypoints fs))
of_kind_of p lane_width_of fs = whole_is december p lane_width_of fs ∙ plain p lane_width_of (rndf_sorts_in march lane_width_of) (rndf_make_in march lane_width_of) (other lane_width_of (λ z. omega arith)) (λ v. refl) fs ∙ ap (barred december) (sym (whole_is march p lane_width_of fs))
of_kind_of p left_boundary_of fs = whole_is december p left_boundary_of fs ∙ sided left_boundary_of (λ b. b) (other left_boundary_of (λ z. omega arith)) (λ b. refl) left-taken p fs ∙ ap (barred december) (sym (whole_is march p left_boundary_of fs))
of_kind_of p right_boundary_of fs = whole_is december p right_boundary_of fs ∙ sided right_boundary_of (λ b. b) (other right_boundary_of (λ z. omega arith)) (λ b. refl) right-taken p fs ∙ ap (barred december) (sym (whole_is march p right_boundary_of fs))
of_kind_of p checkpoint fs = whole_is december p checkpoint fs ∙ plain p checkpoint (rndf_sorts_in march checkpoint) (rndf_make_in march checkpoint) (other checkpoint (λ z. omega arith)) (λ v. refl) fs ∙ ap (barred december) (sym (whole_is march p checkpoint fs))
of_kind_of p stop fs = whole_is december p stop fs ∙ plain p stop (rndf_sorts_in march stop) (rndf_make_in march stop) (other stop (λ z. omega arith)) (λ v. refl) fs ∙ ap (barred december) (sym (whole_is march p stop fs))
of_kind_of p exit fs = whole_is december p exit fs ∙ plain p exit (rndf_sorts_in march exit) (rndf_make_in march exit) (other exit (λ z. omega arith)) (λ v. refl) fs ∙ ap (barred december) (sym (whole_is march p exit fs))
of_kind_of p end_lane_of fs = whole_is december p end_lane_of fs ∙ plain p end_lane_of (rndf_sorts_in march end_lane_of) (rndf_make_in march end_lane_of) (other end_lane_of (λ z. omega arith)) (λ v. refl) fs ∙ ap (barred december) (sym (whole_is march p end_lane_of fs))
of_kind_of p zone fs = whole_is december p zone fs ∙ plain p zone (rndf_sorts_in march zone) (rndf_make_in march zone) (other zone (λ z. omega arith)) (λ v. refl) fs ∙ ap (barred december) (sym (whole_is march p zone fs))
of_kind_of p num_spots fs = spots p fs
of_kind_of p zone_name_of fs = whole_is december p zone_name_of fs ∙ plain p zone_name_of (rndf_sorts_in march zone_name_of) (rndf_make_in march zone_name_of) (other zone_name_of (λ z. omega arith)) (λ v. refl) fs ∙ ap (barred december) (sym (whole_is march p zone_name_of fs))
of_kind_of p end_zone fs = whole_is december p end_zone fs ∙ plain p end_zone (rndf_sorts_in march end_zone) (rndf_make_in march end_zone) (other end_zone (λ z. omega arith)) (λ v. refl) fs ∙ ap (barred december) (sym (whole_is march p end_zone fs))
of_kind_of p perimeter fs = whole_is december p perimeter fs ∙ plain p perimeter (rndf_sorts_in march perimeter) (rndf_make_in march perimeter) (other perimeter (λ z. omega arith)) (λ v. refl) fs ∙ ap (barred december) (sym (whole_is march p perimeter fs))
of_kind_of p num_perimeterpoints fs = whole_is december p num_perimeterpoints fs ∙ plain p num_perimeterpoints (rndf_sorts_in march num_perimeterpoints) (rndf_make_in march num_perimeterpoints) (other num_perimeterpoints (λ z. omega arith)) (λ v. refl) fs ∙ ap (barred december) (sym (whole_is march p num_perimeterpoints fs))
of_kind_of p end_perimeter fs = whole_is december p end_perimeter fs ∙ plain p end_perimeter (rndf_sorts_in march end_perimeter) (rndf_make_in march end_perimeter) (other end_perimeter (λ z. omega arith)) (λ v. refl) fs ∙ ap (barred december) (sym (whole_is march p end_perimeter fs))
of_kind_of p spot fs = whole_is december p spot fs ∙ plain p spot (rndf_sorts_in march spot) (rndf_make_in march spot) (other spot (λ z. omega arith)) (λ v. refl) fs ∙ ap (barred december) (sym (whole_is march p spot fs))
of_kind_of p spot_width_of fs = whole_is december p spot_width_of fs ∙ plain p spot_width_of (rndf_sorts_in march spot_width_of) (rndf_make_in march spot_width_of) (other spot_width_of (λ z. omega arith)) (λ v. refl) fs ∙ ap (barred december) (sym (whole_is march p spot_width_of fs))
of_kind_of p end_spot fs = whole_is december p end_spot fs ∙ plain p end_spot (rndf_sorts_in march end_spot) (rndf_make_in march end_spot) (other end_spot (λ z. omega arith)) (λ v. refl) fs ∙ ap (barred december) (sym (whole_is march p end_spot fs))
of_kind_of p end_file_of fs = whole_is december p end_file_of fs ∙ plain p end_file_of (rndf_sorts_in march end_file_of) (rndf_make_in march end_file_of) (other end_file_of (λ z. omega arith)) (λ v. refl) fs ∙ ap (barred december) (sym (whole_is march p end_file_of fs))
of_kind_of p point fs = whole_is december p point fs ∙ plain p point (rndf_sorts_in march point) (rndf_make_in march point) (other point (λ z. omega arith)) (λ v. refl) fs ∙ ap (barred december) (sym (whole_is march p point fs))

-- ## A line
kind-at-same : (p : Place (rndf Field)) (f : Field) → kind_at (places december) (rndf_lexis_in december) p f ≡ kind_at (rndf Field) rndf_lexis p f
kind-at-same p f = ap (λ (o : Option Kind). pick (digit_first f.bytes) o (rndf_lexis.lookup f.bytes)) (numbered-same december p)

of_fields : (p : Place (rndf Field)) (f : Field) (fs : List Field) → tell (places december) (rndf_lexis_in december) p f fs ≡ barred december (tell (rndf Field) rndf_lexis p f fs)
unfolding tell
of_fields p f fs = ap (λ (o : Option Kind). known (places december) (rndf_lexis_in december) p o f fs) (kind-at-same p f) ∙ go (kind_at (rndf Field) rndf_lexis p f)
  where
    go : (o : Option Kind) → known (places december) (rndf_lexis_in december) p o f fs ≡ barred december (known (rndf Field) rndf_lexis p o f fs)
    go none = refl
    go (some k) = of_kind_of p k (args (rndf Field) rndf_lexis (word_at (kind_row k)) f fs)

of-all : (p : Place (rndf Field)) (fs : List Field) → told (places december) (rndf_lexis_in december) p fs ≡ barred december (told (rndf Field) rndf_lexis p fs)
of-all p [] = refl
of-all p (f ∷ fs) = of_fields p f fs

of-form : (p : Place (rndf Field)) (start : ℕ) (content : Bytes) (f : Result ℕ ℕ) → formed (places december) (rndf_lexis_in december) p start content f ≡ barred december (formed (rndf Field) rndf_lexis p start content f)
of-form p start content (Err n) = refl
of-form p start content (Ok e) = of-all p (fields_at start (take e content))

-- the present edition bars nothing
none-barred : (v : Got) → v ≡ barred march v
none-barred (fault c) = refl
none-barred (good none q) = refl
none-barred (good (some s) q) = refl

pub judge-barred : (e : Edition) (p : Place (rndf Field)) (start : ℕ) (line : Bytes) → judge (places e) (rndf_lexis_in e) p start line ≡ barred e (judge (rndf Field) rndf_lexis p start line)
unfolding judge
judge-barred march p start line = none-barred (formed (rndf Field) rndf_lexis p start (drop_cr line) (form_of (drop_cr line)))
judge-barred december p start line = of-form p start (drop_cr line) (form_of (drop_cr line))
