-- The RNDF's words, and a line that leads on from each of its places. Assumes nothing.
use mathlib.Core.Path.{◌≡◌, refl, sym, ap, subst, ◌∙◌}
use mathlib.Core.List.{List, [], ◌∷◌, ◌++◌}
use mathlib.Core.Option.{none}
use mathlib.Core.Bool.{Bool, true, false}
use Prim.Native.Nat.{ℕ, zero, suc, ◌+◌, ◌≤◌, ◌<◌}
use native.Mathlib.Omega.{arith}
use lib.ListN.{length, get_or}
use lib.Dec.{T, ltb→lt}
use Rattle.terms.specs.Ascii.{ascii}
use Rattle.terms.proofs.Lists.{get_d-inside}
use Rattle.line.specs.Content.{Field, at, IsField}
use Rattle.scan.specs.Allowed.{digit}
use Rattle.number.proofs.House.{house-triple-one, house-triple-first}
use Rattle.word.specs.Keywords.{rndf_keywords}
use Rattle.word.specs.Number.{digit_first}
use Rattle.word.proofs.Keywords.{rndf-length, rndf-differ, rndf-word-field, rndf-word-no-digit}
use Rattle.grammar.specs.Statements.{Kind, Says, lines, RNDF_name_of, num_segments, num_zones, format_version_of, creation_date_of, segment, num_lanes, segment_name_of, end_segment, lane, num_waypoints, lane_width_of, left_boundary_of, right_boundary_of, checkpoint, stop, exit, end_lane_of, zone, num_spots, zone_name_of, end_zone, perimeter, num_perimeterpoints, end_perimeter, spot, spot_width_of, end_spot, end_file_of, point}
use Rattle.grammar.specs.Editions.{Edition, march, december, Enough}
use Rattle.grammar.specs.Network.{under}
use Rattle.grammar.specs.Forms.{tested}
use Rattle.grammar.specs.Machine.{run}
use Rattle.grammar.specs.Permitted.{counted, upto, spots_of}
use Rattle.grammar.specs.Places.{rndf_by, Base, opts, due_in, name_due, num_segments_due, num_zones_due, first_segment_due, part_due, num_lanes_due, first_lane_due, lane_due, num_waypoints_due, first_waypoint_due, waypoint_due, num_spots_due, perimeter_due, num_perimeterpoints_due, first_perimeterpoint_due, perimeterpoint_due, spot_due, first_of_spot_due, second_of_spot_due, end_spot_due}
use Rattle.grammar.specs.PlaceRows.{kinds, kind_row}
use Rattle.grammar.proofs.FormLaws as Form
use Rattle.grammar.proofs.Keeping.{GoodNext}
use Rattle.grammar.proofs.RndfTable.{coded, short}
use Rattle.grammar.proofs.NetworkReading as Net
use Rattle.text.specs.Said.{SpellFields}
use Rattle.text.specs.RndfLines.{rndf_line_in_of}
use Rattle.text.specs.Spelling.{done, statement}
use Rattle.text.specs.HouseLine.{house_field, house_line}
use Rattle.text.specs.Judge.{Vals}
use Rattle.text.specs.RndfWords.{word_at, rndf_sorts_in, rndf_make_in, rndf_lexis_in}
use Rattle.text.proofs.FieldReading.{said}
use Rattle.text.proofs.Telling.{in-front, worded, Lawful}
use Rattle.text.proofs.TextReading.{Leaves, Prepared, prepared}
use Rattle.text.proofs.HouseLines.{short-field, house-says}
use Rattle.text.proofs.KeywordRows.{no_row, Rowed, lookup_right, lookup_only, no_digit}
use Rattle.text.proofs.Leaving.{x, by_name, By}
use Rattle.text.proofs.Leaving as Leaving

-- ## The words
abbrev pub rndf-parts : (e : Edition) (k : Kind) → Says Field k → Vals (rndf_sorts_in e k)
rndf-parts e RNDF_name_of v = (v, tt)
rndf-parts e num_segments v = (v, tt)
rndf-parts e num_zones v = (v, tt)
rndf-parts e format_version_of v = (v, tt)
rndf-parts e creation_date_of v = (v, tt)
rndf-parts e segment v = (v, tt)
rndf-parts e num_lanes v = (v, tt)
rndf-parts e segment_name_of v = (v, tt)
rndf-parts e end_segment v = tt
rndf-parts e lane v = (v, tt)
rndf-parts e num_waypoints v = (v, tt)
rndf-parts e lane_width_of v = (v, tt)
rndf-parts e left_boundary_of v = (v, tt)
rndf-parts e right_boundary_of v = (v, tt)
rndf-parts e checkpoint v = (v.waypoint, (v.number, tt))
rndf-parts e stop v = (v, tt)
rndf-parts e exit v = (v.waypoint, (v.entry, tt))
rndf-parts e end_lane_of v = tt
rndf-parts e zone v = (v, tt)
rndf-parts e num_spots v = (v, tt)
rndf-parts e zone_name_of v = (v, tt)
rndf-parts e end_zone v = tt
rndf-parts e perimeter v = (v, tt)
rndf-parts e num_perimeterpoints v = (v, tt)
rndf-parts e end_perimeter v = tt
rndf-parts e spot v = (v, tt)
rndf-parts e spot_width_of v = (v, tt)
rndf-parts e end_spot v = tt
rndf-parts e end_file_of v = tt
rndf-parts e point v = (v.id, (v.position.latitude, (v.position.longitude, tt)))

pub rndf-made : (e : Edition) (k : Kind) (v : Says Field k) → rndf_make_in e k (rndf-parts e k v) ≡ v
rndf-made e RNDF_name_of v = refl
rndf-made e num_segments v = refl
rndf-made e num_zones v = refl
rndf-made e format_version_of v = refl
rndf-made e creation_date_of v = refl
rndf-made e segment v = refl
rndf-made e num_lanes v = refl
rndf-made e segment_name_of v = refl
rndf-made e end_segment v = refl
rndf-made e lane v = refl
rndf-made e num_waypoints v = refl
rndf-made e lane_width_of v = refl
rndf-made e left_boundary_of v = refl
rndf-made e right_boundary_of v = refl
rndf-made e checkpoint v = refl
rndf-made e stop v = refl
rndf-made e exit v = refl
rndf-made e end_lane_of v = refl
rndf-made e zone v = refl
rndf-made e num_spots v = refl
rndf-made e zone_name_of v = refl
rndf-made e end_zone v = refl
rndf-made e perimeter v = refl
rndf-made e num_perimeterpoints v = refl
rndf-made e end_perimeter v = refl
rndf-made e spot v = refl
rndf-made e spot_width_of v = refl
rndf-made e end_spot v = refl
rndf-made e end_file_of v = refl
rndf-made e point v = refl

pub rndf-line-made : (e : Edition) (k : Kind) (w : Vals (rndf_sorts_in e k)) → rndf_line_in_of e k (rndf_make_in e k w) ≡ in-front (word_at (kind_row k)) ++ said (rndf_sorts_in e k) w
unfolding rndf_line_in_of rndf_keywords
rndf-line-made e RNDF_name_of w = refl
rndf-line-made e num_segments w = refl
rndf-line-made e num_zones w = refl
rndf-line-made e format_version_of w = refl
rndf-line-made e creation_date_of w = refl
rndf-line-made e segment w = refl
rndf-line-made e num_lanes w = refl
rndf-line-made e segment_name_of w = refl
rndf-line-made e end_segment w = refl
rndf-line-made e lane w = refl
rndf-line-made e num_waypoints w = refl
rndf-line-made e lane_width_of w = refl
rndf-line-made e left_boundary_of w = refl
rndf-line-made e right_boundary_of w = refl
rndf-line-made e checkpoint w = refl
rndf-line-made e stop w = refl
rndf-line-made e exit w = refl
rndf-line-made e end_lane_of w = refl
rndf-line-made e zone w = refl
rndf-line-made e num_spots w = refl
rndf-line-made e zone_name_of w = refl
rndf-line-made e end_zone w = refl
rndf-line-made e perimeter w = refl
rndf-line-made e num_perimeterpoints w = refl
rndf-line-made e end_perimeter w = refl
rndf-line-made e spot w = refl
rndf-line-made e spot_width_of w = refl
rndf-line-made e end_spot w = refl
rndf-line-made e end_file_of w = refl
rndf-line-made e point w = refl

rowed : Rowed 29 rndf_keywords kinds kind_row point
rowed = record { many = rndf-length; differ = rndf-differ; first = rndf-word-no-digit; back = refl; coded = λ k. get_d-inside kinds (kind_row k) point RNDF_name_of (ltb→lt (kind_row k) (length kinds) (short k)) ∙ coded k }

-- the one kind without a keyword is a point's, and its line begins with a digit
only-point : (k : Kind) → word_at (kind_row k) ≡ none → point ≡ k
only-point k e =
    let h = no_row 29 rndf_keywords [] (kind_row k) e in
    let l = ltb→lt (kind_row k) 30 (short k) in
    let i : kind_row k ≡ 29 = omega arith in
    sym (ap (λ (j : ℕ). get_or kinds j point) i) ∙ rowed.coded k

digit-line : (e : Edition) (k : Kind) → word_at (kind_row k) ≡ none → (fs : List Field) (v : Vals (rndf_sorts_in e k)) → SpellFields fs (said (rndf_sorts_in e k) v) → (f : Field) × (gs : List Field) × (fs ≡ f ∷ gs) × (digit_first f.bytes ≡ true)
digit-line e k q = subst (λ (k : Kind). (fs : List Field) (v : Vals (rndf_sorts_in e k)) → SpellFields fs (said (rndf_sorts_in e k) v) → (f : Field) × (gs : List Field) × (fs ≡ f ∷ gs) × (digit_first f.bytes ≡ true)) (only-point k q) points
  where
    points : (fs : List Field) (v : Vals (rndf_sorts_in e point)) → SpellFields fs (said (rndf_sorts_in e point) v) → (f : Field) × (gs : List Field) × (fs ≡ f ∷ gs) × (digit_first f.bytes ≡ true)
    points [] v h = absurd h
    points (f ∷ fs) v h =
        let i = v.0 in
        (f, fs, refl, rw (house-triple-one i.x i.y i.z f.bytes h.0) (house-triple-first i.x i.y i.z))

options : (b : Base) → T (worded (lines Field) (λ k. word_at (kind_row k)) (opts Field b))
options name_due = tt
options num_segments_due = tt
options (num_zones_due o) = tt
options (first_segment_due o z) = tt
options (part_due m o z) = tt
options (num_lanes_due m o z) = tt
options (first_lane_due m o z l) = tt
options (lane_due m o z n l) = tt
options (num_waypoints_due m o z n l) = tt
options (first_waypoint_due m o z n l w) = tt
options (waypoint_due m o z n l k w) = tt
options (num_spots_due m z) = tt
options (perimeter_due m z s) = tt
options (num_perimeterpoints_due m z s) = tt
options (first_perimeterpoint_due m z s p) = tt
options (perimeterpoint_due m z s k p) = tt
options (spot_due m z n s) = tt
options (first_of_spot_due m z n s) = tt
options (second_of_spot_due m z n s) = tt
options (end_spot_due m z n s) = tt

pub rndf-lawful : (e : Edition) → Lawful (rndf_by Field (under e true)) (rndf_lexis_in e) (rndf_line_in_of e)
rndf-lawful e = record { parts = rndf-parts e; made = rndf-made e; line_made = rndf-line-made e; lookup_right = lookup_right 29 rndf_keywords kinds kind_row point rowed; lookup_only = lookup_only 29 rndf_keywords kinds kind_row point rowed; no_digit = no_digit 29 rndf_keywords kinds kind_row point rowed; digit = digit-line e; options = options }

-- ## A line that leads on from each place
-- identifiers and what is owed stay within 32,768
abbrev pub Bounded : Base → Type 0
Bounded name_due = Unit {0}
Bounded num_segments_due = Unit {0}
Bounded (num_zones_due o) = (1 ≤ o) × (o ≤ 32768)
Bounded (first_segment_due o z) = (1 ≤ o) × (o + z ≤ 32768)
Bounded (part_due m o z) = m + o + z ≤ 32769
Bounded (num_lanes_due m o z) = m + o + z ≤ 32768
Bounded (first_lane_due m o z l) = (m + o + z ≤ 32768) × (l ≤ 32768)
Bounded (lane_due m o z n l) = (m + o + z ≤ 32768) × (n + l ≤ 32769)
Bounded (num_waypoints_due m o z n l) = (m + o + z ≤ 32768) × (n + l ≤ 32768)
Bounded (first_waypoint_due m o z n l w) = (m + o + z ≤ 32768) × (n + l ≤ 32768) × (w ≤ 32768)
Bounded (waypoint_due m o z n l k w) = (m + o + z ≤ 32768) × (n + l ≤ 32768) × (k + w ≤ 32769)
Bounded (num_spots_due m z) = m + z ≤ 32768
Bounded (perimeter_due m z s) = (m + z ≤ 32768) × (s ≤ 32768)
Bounded (num_perimeterpoints_due m z s) = (m + z ≤ 32768) × (s ≤ 32768)
Bounded (first_perimeterpoint_due m z s p) = (m + z ≤ 32768) × (s ≤ 32768) × (p ≤ 32768)
Bounded (perimeterpoint_due m z s k p) = (m + z ≤ 32768) × (s ≤ 32768) × (k + p ≤ 32769)
Bounded (spot_due m z n s) = (m + z ≤ 32768) × (n + s ≤ 32769)
Bounded (first_of_spot_due m z n s) = (m + z ≤ 32768) × (n + s ≤ 32768)
Bounded (second_of_spot_due m z n s) = (m + z ≤ 32768) × (n + s ≤ 32768)
Bounded (end_spot_due m z n s) = (m + z ≤ 32768) × (n + s ≤ 32768)

high : (v : ℕ) → T (tested counted v) → v ≤ 32768
high v t = (Form.pick counted v t).1.high

-- a number of spots that is enough is not too large
at_most : (e : Edition) (n : ℕ) → Enough e n → n ≤ 32768
at_most march n h = h
at_most december n h = h.high

pub keeps : (e : Edition) (b : Base) → Bounded b → (v : Says Field (due_in Field e b).on) → T ((due_in Field e b).test v) → GoodNext (rndf_by Field (under e true)) Bounded ((due_in Field e b).then v)
keeps e name_due y v t = tt
keeps e num_segments_due y v t = ((Form.pick counted v t).1.low, high v t)
keeps e (num_zones_due o) y v t = (y.0, (Form.pick (upto o) v t).1)
keeps e (first_segment_due o z) y v t = omega arith
keeps e (part_due m (suc o) z) y v t = omega arith
keeps e (part_due m zero (suc z)) y v t = omega arith
keeps e (part_due m zero zero) y v t = tt
keeps e (num_lanes_due m o z) y v t = (y, high v t)
keeps e (first_lane_due m o z l) y v t = (y.0, omega arith)
keeps e (lane_due m o z n zero) y v t = omega arith
keeps e (lane_due m o z n (suc l)) y v t = (y.0, omega arith)
keeps e (num_waypoints_due m o z n l) y v t = (y.0, y.1, high v t)
keeps e (first_waypoint_due m o z n l w) y v t = (y.0, y.1, omega arith)
keeps e (waypoint_due m o z n l k zero) y v t = (y.0, omega arith)
keeps e (waypoint_due m o z n l k (suc w)) y v t = (y.0, y.1, omega arith)
keeps e (num_spots_due m z) y v t = (y, at_most e v (Form.pick (spots_of e) v t).1)
keeps e (perimeter_due m z s) y v t = y
keeps e (num_perimeterpoints_due m z s) y v t = (y.0, y.1, high v t)
keeps e (first_perimeterpoint_due m z s p) y v t = (y.0, y.1, omega arith)
keeps e (perimeterpoint_due m z s k zero) y v t = (y.0, omega arith)
keeps e (perimeterpoint_due m z s k (suc p)) y v t = (y.0, y.1, omega arith)
keeps e (spot_due m z n zero) y v t = omega arith
keeps e (spot_due m z n (suc s)) y v t = (y.0, omega arith)
keeps e (first_of_spot_due m z n s) y v t = y
keeps e (second_of_spot_due m z n s) y v t = y
keeps e (end_spot_due m z n s) y v t = (y.0, omega arith)

-- a keyword can be written
pub kw : (i : ℕ) → i < 29 → IsField (get_or rndf_keywords i []) × (length (get_or rndf_keywords i []) ≤ 20)
kw i h = short-field (get_or rndf_keywords i []) (rndf-word-field i h)

-- the house line of the sample that the grammar has for a base
by : (e : Edition) (b : Base) (g : Net.Good Field b) → By (rndf_by Field (under e true)) (rndf_line_in_of e) (Net.Good Field) (Net.cost Field) (Net.goes_on (under e true) Field (at 0 x)) b g
by e = Leaving.by (rndf_by Field (under e true)) (rndf_line_in_of e) (Net.Good Field) (Net.cost Field) (Net.goes_on (under e true) Field (at 0 x))

pub leaves : (e : Edition) (b : Base) → Bounded b → Leaves (rndf_by Field (under e true)) (rndf_line_in_of e) (Net.cost Field) b
unfolding rndf_line_in_of rndf_keywords Net.goes_on house_field
leaves e name_due y = by_name (rndf_by Field (under e true)) (rndf_line_in_of e) (Net.Good Field) (Net.cost Field) name_due (ascii "RNDF_name") (λ f. f) (λ f. refl) (kw 0 (omega arith)) (λ f. tt) (λ f. omega arith)
leaves e num_segments_due y = by e num_segments_due tt (kw 1 (omega arith), (omega arith, tt)) (omega arith) (λ a. refl)
leaves e (num_zones_due o) y = by e (num_zones_due o) y.1 (kw 2 (omega arith), (omega arith, tt)) (omega arith) (λ a. refl)
leaves e (first_segment_due o z) y = by e (first_segment_due o z) tt (kw 5 (omega arith), (omega arith, tt)) (omega arith) (λ a. refl)
leaves e (part_due m (suc o) z) y = by e (part_due m (suc o) z) tt (kw 5 (omega arith), (omega arith, tt)) (omega arith) (λ a. refl)
leaves e (part_due m zero (suc z)) y = by e (part_due m zero (suc z)) tt (kw 18 (omega arith), (omega arith, tt)) (omega arith) (λ a. refl)
leaves e (part_due m zero zero) y = by e (part_due m zero zero) tt (kw 28 (omega arith), tt) (omega arith) (λ a. refl)
leaves e (num_lanes_due m o z) y = by e (num_lanes_due m o z) tt (kw 6 (omega arith), (omega arith, tt)) (omega arith) (λ a. refl)
leaves e (first_lane_due m o z l) y = by e (first_lane_due m o z l) tt (kw 9 (omega arith), ((omega arith, omega arith), tt)) (omega arith) (λ a. refl)
leaves e (lane_due m o z n zero) y = by e (lane_due m o z n zero) tt (kw 8 (omega arith), tt) (omega arith) (λ a. refl)
leaves e (lane_due m o z n (suc l)) y = by e (lane_due m o z n (suc l)) tt (kw 9 (omega arith), ((omega arith, omega arith), tt)) (omega arith) (λ a. refl)
leaves e (num_waypoints_due m o z n l) y = by e (num_waypoints_due m o z n l) tt (kw 10 (omega arith), (omega arith, tt)) (omega arith) (λ a. refl)
leaves e (first_waypoint_due m o z n l w) y = by e (first_waypoint_due m o z n l w) tt ((omega arith, omega arith, omega arith), (omega arith, (omega arith, tt))) (omega arith) (λ a. refl)
leaves e (waypoint_due m o z n l k zero) y = by e (waypoint_due m o z n l k zero) tt (kw 17 (omega arith), tt) (omega arith) (λ a. refl)
leaves e (waypoint_due m o z n l k (suc w)) y = by e (waypoint_due m o z n l k (suc w)) tt ((omega arith, omega arith, omega arith), (omega arith, (omega arith, tt))) (omega arith) (λ a. refl)
leaves e (num_spots_due m z) y = by e (num_spots_due m z) tt (kw 19 (omega arith), (omega arith, tt)) (omega arith) (λ a. refl)
leaves e (perimeter_due m z s) y = by e (perimeter_due m z s) tt (kw 22 (omega arith), ((omega arith, omega arith), tt)) (omega arith) (λ a. refl)
leaves e (num_perimeterpoints_due m z s) y = by e (num_perimeterpoints_due m z s) tt (kw 23 (omega arith), (omega arith, tt)) (omega arith) (λ a. refl)
leaves e (first_perimeterpoint_due m z s p) y = by e (first_perimeterpoint_due m z s p) tt ((omega arith, omega arith, omega arith), (omega arith, (omega arith, tt))) (omega arith) (λ a. refl)
leaves e (perimeterpoint_due m z s k zero) y = by e (perimeterpoint_due m z s k zero) tt (kw 24 (omega arith), tt) (omega arith) (λ a. refl)
leaves e (perimeterpoint_due m z s k (suc p)) y = by e (perimeterpoint_due m z s k (suc p)) tt ((omega arith, omega arith, omega arith), (omega arith, (omega arith, tt))) (omega arith) (λ a. refl)
leaves e (spot_due m z n zero) y = by e (spot_due m z n zero) tt (kw 21 (omega arith), tt) (omega arith) (λ a. refl)
leaves e (spot_due m z n (suc s)) y = by e (spot_due m z n (suc s)) tt (kw 25 (omega arith), ((omega arith, omega arith), tt)) (omega arith) (λ a. refl)
leaves e (first_of_spot_due m z n s) y = by e (first_of_spot_due m z n s) tt ((omega arith, omega arith, omega arith), (omega arith, (omega arith, tt))) (omega arith) (λ a. refl)
leaves e (second_of_spot_due m z n s) y = by e (second_of_spot_due m z n s) tt ((omega arith, omega arith, omega arith), (omega arith, (omega arith, tt))) (omega arith) (λ a. refl)
leaves e (end_spot_due m z n s) y = by e (end_spot_due m z n s) tt (kw 27 (omega arith), tt) (omega arith) (λ a. refl)

-- ## A bare spot is made ready by the line of a checkpoint
spot-readied : (e : Edition) (m z n s : ℕ) → Bounded (first_of_spot_due m z n s) → (g : List Bool) (a : ℕ) → Prepared (rndf_by Field (under e true)) (rndf_line_in_of e) (first_of_spot_due m z n s) g a
unfolding run rndf_line_in_of rndf_keywords
spot-readied e m z n s y [] a = prepared (rndf_by Field (under e true)) (rndf_line_in_of e) (first_of_spot_due m z n s) [] a refl
spot-readied e m z n s y (f ∷ []) a = prepared (rndf_by Field (under e true)) (rndf_line_in_of e) (first_of_spot_due m z n s) (f ∷ []) a refl
spot-readied e m z n s y (f ∷ true ∷ g) a = prepared (rndf_by Field (under e true)) (rndf_line_in_of e) (first_of_spot_due m z n s) (f ∷ true ∷ g) a refl
spot-readied e m z n s y (f ∷ false ∷ g) a =
    let v = (Net.mark Field m n).val in
    record {
      lines = house_line (rndf_line_in_of e checkpoint v) ∷ [];
      ready = record { os = Net.mark Field m n ∷ []; flags = f ∷ true ∷ g; goes = rw (Net.mark-taken Field e m z n s f g) refl; now = tt };
      said = statement (house-says (rndf_line_in_of e) a checkpoint v v (kw 14 (omega arith), ((omega arith, omega arith, omega arith), (omega arith, tt))) (omega arith) refl) done;
    }

pub readied : (e : Edition) (b : Base) → Bounded b → (g : List Bool) (a : ℕ) → Prepared (rndf_by Field (under e true)) (rndf_line_in_of e) b g a
readied e name_due y g a = prepared (rndf_by Field (under e true)) (rndf_line_in_of e) name_due g a refl
readied e num_segments_due y g a = prepared (rndf_by Field (under e true)) (rndf_line_in_of e) num_segments_due g a refl
readied e (num_zones_due o) y g a = prepared (rndf_by Field (under e true)) (rndf_line_in_of e) (num_zones_due o) g a refl
readied e (first_segment_due o z) y g a = prepared (rndf_by Field (under e true)) (rndf_line_in_of e) (first_segment_due o z) g a refl
readied e (part_due m o z) y g a = prepared (rndf_by Field (under e true)) (rndf_line_in_of e) (part_due m o z) g a refl
readied e (num_lanes_due m o z) y g a = prepared (rndf_by Field (under e true)) (rndf_line_in_of e) (num_lanes_due m o z) g a refl
readied e (first_lane_due m o z l) y g a = prepared (rndf_by Field (under e true)) (rndf_line_in_of e) (first_lane_due m o z l) g a refl
readied e (lane_due m o z n l) y g a = prepared (rndf_by Field (under e true)) (rndf_line_in_of e) (lane_due m o z n l) g a refl
readied e (num_waypoints_due m o z n l) y g a = prepared (rndf_by Field (under e true)) (rndf_line_in_of e) (num_waypoints_due m o z n l) g a refl
readied e (first_waypoint_due m o z n l w) y g a = prepared (rndf_by Field (under e true)) (rndf_line_in_of e) (first_waypoint_due m o z n l w) g a refl
readied e (waypoint_due m o z n l k w) y g a = prepared (rndf_by Field (under e true)) (rndf_line_in_of e) (waypoint_due m o z n l k w) g a refl
readied e (num_spots_due m z) y g a = prepared (rndf_by Field (under e true)) (rndf_line_in_of e) (num_spots_due m z) g a refl
readied e (perimeter_due m z s) y g a = prepared (rndf_by Field (under e true)) (rndf_line_in_of e) (perimeter_due m z s) g a refl
readied e (num_perimeterpoints_due m z s) y g a = prepared (rndf_by Field (under e true)) (rndf_line_in_of e) (num_perimeterpoints_due m z s) g a refl
readied e (first_perimeterpoint_due m z s p) y g a = prepared (rndf_by Field (under e true)) (rndf_line_in_of e) (first_perimeterpoint_due m z s p) g a refl
readied e (perimeterpoint_due m z s k p) y g a = prepared (rndf_by Field (under e true)) (rndf_line_in_of e) (perimeterpoint_due m z s k p) g a refl
readied e (spot_due m z n s) y g a = prepared (rndf_by Field (under e true)) (rndf_line_in_of e) (spot_due m z n s) g a refl
readied e (first_of_spot_due m z n s) y g a = spot-readied e m z n s y g a
readied e (second_of_spot_due m z n s) y g a = prepared (rndf_by Field (under e true)) (rndf_line_in_of e) (second_of_spot_due m z n s) g a refl
readied e (end_spot_due m z n s) y g a = prepared (rndf_by Field (under e true)) (rndf_line_in_of e) (end_spot_due m z n s) g a refl
