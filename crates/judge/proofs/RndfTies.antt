-- The judge of an RNDF's line: what its program tells is what `text` and the machine tell. Assumes nothing.
use mathlib.Core.Path.{◌≡◌, refl, sym, ap, ap₂, subst, ◌∙◌}
use mathlib.Core.List.{List, [], ◌∷◌}
use mathlib.Core.Option.{Option, none, some}
use mathlib.Core.Bool.{Bool, true, false}
use mathlib.Core.Logic.{◌⊎◌, inl, inr}
use Prim.Native.Nat.{ℕ, ◌≤◌, ◌<◌}
use native.Mathlib.Omega.{arith}
use lib.ListN.{length, get_or}
use lib.Dec.{T, eqb, ltb}
use borrow.Author.Tests.{eqb-true, ltb-true}
use Rattle.terms.specs.Ascii.{Bytes}
use Rattle.terms.specs.Words.{pick}
use Rattle.terms.proofs.Computed.{below}
use Rattle.line.specs.Content.{Field}
use Rattle.line.specs.declared.Fields.{Fields}
use Rattle.line.specs.Forms.{listed}
use Rattle.word.specs.Keywords.{rndf_keywords}
use Rattle.word.specs.Number.{index_of, digit_first}
use Rattle.grammar.specs.Language.{S}
use Rattle.grammar.specs.Statements.{Kind, Kind-discrete, lines, say, RNDF_name_of, num_segments, num_zones, format_version_of, creation_date_of, segment, num_lanes, segment_name_of, end_segment, lane, num_waypoints, lane_width_of, left_boundary_of, right_boundary_of, checkpoint, stop, exit, end_lane_of, zone, num_spots, zone_name_of, end_zone, perimeter, num_perimeterpoints, end_perimeter, spot, spot_width_of, end_spot, end_file_of, point}
use Rattle.grammar.specs.Statements as G
use Rattle.grammar.specs.PlaceTable.{rndf_table_of}
use Rattle.grammar.specs.PlaceRows.{kinds, kind_row}
use Rattle.grammar.specs.Machine.{Out, next, refuse, Stand, over, inside, lacks, step}
use Rattle.grammar.specs.Places.{rndf, Base, opts, due, name_due, num_segments_due, num_zones_due, first_segment_due, part_due, num_lanes_due, first_lane_due, lane_due, num_waypoints_due, first_waypoint_due, waypoint_due, num_spots_due, perimeter_due, num_perimeterpoints_due, first_perimeterpoint_due, perimeterpoint_due, spot_due, first_of_spot_due, second_of_spot_due, end_spot_due}
use Rattle.grammar.specs.Stands.{stands}
use Rattle.grammar.specs.Renamed.{says_named, statement_named}
use Rattle.grammar.proofs.StandLaws.{number_of, stands-due, stands-five}
use Rattle.grammar.proofs.Renaming.{rndf-renamed, rndf-stands}
use Rattle.grammar.proofs.Follows.{map_out}
use Rattle.text.specs.Judge.{due_at, numbered, kind_at, read_all, judge}
use Rattle.text.specs.RndfWords.{word_at, kind_at_of, rndf_sorts, rndf_make, rndf_lexis}
use Rattle.statement.specs.declared.Statement.{Statement}
use Rattle.statement.specs.Meaning.{Stretch, meant}
use Rattle.statement.specs.Kinds.{of_kind}
use Rattle.statement.proofs.Laws.{means}
use Rattle.made_out.specs.Names.{the_the_stretch_of, behind, told_as}
use Rattle.made_out.specs.Made.{shapes, needs_of, made_of, made_from}
use Rattle.made_out.proofs.Ties.{made-is}
use Rattle.place.specs.declared.Place.{Place}
use Rattle.place.specs.Step.{cell_of, by_cell, step_of, refuses_by, Outcome, Next, Refused}
use Rattle.place.specs.Abstract.{seen, abs_of}
use Rattle.place.proofs.Theorems.{Sound, the_step, next-sound, refuses-is, step_by, refuses-by}
use Rattle.judge.specs.RndfLine.{rndf_kind, rndf_judging}
use Rattle.judge.specs.Judging.{line}
use Rattle.judge.proofs.Judged.{keyed, OfKind, Ties, view, renamed, line-is, SoundGot, line-sound}

-- ## The kind of a first field
row_back : (i : ℕ) → i < 30 → kind_row (get_or kinds i point) ≡ i
row_back i h = eqb-true (kind_row (get_or kinds i point)) i (below (λ j. eqb (kind_row (get_or kinds j point)) j) 30 refl i h)

pub row_in : (k : Kind) → ltb (kind_row k) 30 ≡ true
row_in RNDF_name_of = refl
row_in num_segments = refl
row_in num_zones = refl
row_in format_version_of = refl
row_in creation_date_of = refl
row_in segment = refl
row_in num_lanes = refl
row_in segment_name_of = refl
row_in end_segment = refl
row_in lane = refl
row_in num_waypoints = refl
row_in lane_width_of = refl
row_in left_boundary_of = refl
row_in right_boundary_of = refl
row_in checkpoint = refl
row_in stop = refl
row_in exit = refl
row_in end_lane_of = refl
row_in zone = refl
row_in num_spots = refl
row_in zone_name_of = refl
row_in end_zone = refl
row_in perimeter = refl
row_in num_perimeterpoints = refl
row_in end_perimeter = refl
row_in spot = refl
row_in spot_width_of = refl
row_in end_spot = refl
row_in end_file_of = refl
row_in point = refl

-- every kind but a point has a keyword
worded : (k : Kind) → (point ≡ k → ⊥) → due_at (word_at (kind_row k)) k ≡ none
worded RNDF_name_of n = refl
worded num_segments n = refl
worded num_zones n = refl
worded format_version_of n = refl
worded creation_date_of n = refl
worded segment n = refl
worded num_lanes n = refl
worded segment_name_of n = refl
worded end_segment n = refl
worded lane n = refl
worded num_waypoints n = refl
worded lane_width_of n = refl
worded left_boundary_of n = refl
worded right_boundary_of n = refl
worded checkpoint n = refl
worded stop n = refl
worded exit n = refl
worded end_lane_of n = refl
worded zone n = refl
worded num_spots n = refl
worded zone_name_of n = refl
worded end_zone n = refl
worded perimeter n = refl
worded num_perimeterpoints n = refl
worded end_perimeter n = refl
worded spot n = refl
worded spot_width_of n = refl
worded end_spot n = refl
worded end_file_of n = refl
worded point n = absurd (n refl)

-- a point is no option
no-option : (b : Base) → T (lacks (lines Field) point (opts Field b))
no-option name_due = tt
no-option num_segments_due = tt
no-option (num_zones_due o) = tt
no-option (first_segment_due o z) = tt
no-option (part_due m o z) = tt
no-option (num_lanes_due m o z) = tt
no-option (first_lane_due m o z l) = tt
no-option (lane_due m o z n l) = tt
no-option (num_waypoints_due m o z n l) = tt
no-option (first_waypoint_due m o z n l w) = tt
no-option (waypoint_due m o z n l k w) = tt
no-option (num_spots_due m z) = tt
no-option (perimeter_due m z s) = tt
no-option (num_perimeterpoints_due m z s) = tt
no-option (first_perimeterpoint_due m z s p) = tt
no-option (perimeterpoint_due m z s k p) = tt
no-option (spot_due m z n s) = tt
no-option (first_of_spot_due m z n s) = tt
no-option (second_of_spot_due m z n s) = tt
no-option (end_spot_due m z n s) = tt

-- 5, 6 or 0 by the cell of a kind in the table of an RNDF
abbrev pub refusal : Place → ℕ → ℕ
refusal p kind = refuses_by p.given (cell_of rndf_table_of p kind)

pub refuses_as : (p : Place) → Sound p → (k : Kind) → refusal p (kind_row k) ≡ number_of (stands (rndf Field) (abs_of p) k)
refuses_as p i k = refuses-by p (kind_row k) ∙ refuses-is p k i ∙ ap number_of (rndf-stands the_the_stretch_of (abs_of p) k)

pub kind-is : (p : Place) → Sound p → (f : Field) → OfKind (rndf Field) rndf_lexis rndf_judging kind_row p (rndf_kind f.bytes) (kind_at (rndf Field) rndf_lexis (abs_of p) f)
unfolding rndf_kind numbered
kind-is p i f = go (digit_first f.bytes)
  where
    -- a digit: a point where it is due; else it may not stand
    at_place : (q : Stand Base) → refusal p 29 ≡ number_of (stands (rndf Field) q point) → OfKind (rndf Field) rndf_lexis rndf_judging kind_row p 29 (numbered (rndf Field) rndf_lexis q)
    at_place over r = inr (refl, r ∙ (unfold stands in refl))
    at_place (inside b g) r = by (Kind-discrete point (due Field b).on)
      where
        by : Dec (point ≡ (due Field b).on) → OfKind (rndf Field) rndf_lexis rndf_judging kind_row p 29 (due_at (word_at (kind_row (due Field b).on)) (due Field b).on)
        by (yes e) = subst (λ (k : Kind). OfKind (rndf Field) rndf_lexis rndf_judging kind_row p 29 (due_at (word_at (kind_row k)) k)) e refl
        by (no n) = rw (worded (due Field b).on n) (inr (refl, r ∙ ap number_of (stands-five (rndf Field) b g point (no-option b) n)))

    by_word : (w : ℕ) (b : Bool) → ltb w 29 ≡ b → OfKind (rndf Field) rndf_lexis rndf_judging kind_row p (pick b w 30) (pick b (some (get_or kinds w point)) none)
    by_word w true e = let h : w < 29 = ltb-true w 29 e in sym (row_back w (omega arith))
    by_word w false e = inl refl

    go : (b : Bool) → OfKind (rndf Field) rndf_lexis rndf_judging kind_row p (pick b 29 (pick (ltb (index_of f.bytes rndf_keywords) 29) (index_of f.bytes rndf_keywords) 30)) (pick b (numbered (rndf Field) rndf_lexis (abs_of p)) (kind_at_of (index_of f.bytes rndf_keywords)))
    go true = at_place (abs_of p) (refuses_as p i point)
    go false = by_word (index_of f.bytes rndf_keywords) (ltb (index_of f.bytes rndf_keywords) 29) refl

-- ## Fields, statements, places
pub needs-is : (k : Kind) → needs_of (get_or shapes (kind_row k) 0) ≡ keyed (word_at (kind_row k)) (length (rndf_sorts k))
needs-is RNDF_name_of = refl
needs-is num_segments = refl
needs-is num_zones = refl
needs-is format_version_of = refl
needs-is creation_date_of = refl
needs-is segment = refl
needs-is num_lanes = refl
needs-is segment_name_of = refl
needs-is end_segment = refl
needs-is lane = refl
needs-is num_waypoints = refl
needs-is lane_width_of = refl
needs-is left_boundary_of = refl
needs-is right_boundary_of = refl
needs-is checkpoint = refl
needs-is stop = refl
needs-is exit = refl
needs-is end_lane_of = refl
needs-is zone = refl
needs-is num_spots = refl
needs-is zone_name_of = refl
needs-is end_zone = refl
needs-is perimeter = refl
needs-is num_perimeterpoints = refl
needs-is end_perimeter = refl
needs-is spot = refl
needs-is spot_width_of = refl
needs-is end_spot = refl
needs-is end_file_of = refl
needs-is point = refl

pub needs-few : (k : Kind) → needs_of (get_or shapes (kind_row k) 0) ≤ 3
needs-few RNDF_name_of = omega arith
needs-few num_segments = omega arith
needs-few num_zones = omega arith
needs-few format_version_of = omega arith
needs-few creation_date_of = omega arith
needs-few segment = omega arith
needs-few num_lanes = omega arith
needs-few segment_name_of = omega arith
needs-few end_segment = omega arith
needs-few lane = omega arith
needs-few num_waypoints = omega arith
needs-few lane_width_of = omega arith
needs-few left_boundary_of = omega arith
needs-few right_boundary_of = omega arith
needs-few checkpoint = omega arith
needs-few stop = omega arith
needs-few exit = omega arith
needs-few end_lane_of = omega arith
needs-few zone = omega arith
needs-few num_spots = omega arith
needs-few zone_name_of = omega arith
needs-few end_zone = omega arith
needs-few perimeter = omega arith
needs-few num_perimeterpoints = omega arith
needs-few end_perimeter = omega arith
needs-few spot = omega arith
needs-few spot_width_of = omega arith
needs-few end_spot = omega arith
needs-few end_file_of = omega arith
needs-few point = omega arith

as-made : {A : Type 0} (k : Kind) (m : A → G.Says Stretch k) (o : Option A) → told_as meant (told_as (λ v. of_kind k (m v)) o) ≡ told_as (λ v. say k (m v)) o
as-made k m none = refl
as-made k m (some v) = ap some (means k (m v))

pub statement-is : (k : Kind) (base : ℕ) (s : Bytes) (f : Fields)
    → told_as meant (made_from (made_of s base f (kind_row k))) ≡ told_as (λ v. statement_named the_the_stretch_of (say k (rndf_make k v))) (read_all (rndf_sorts k) (behind (word_at (kind_row k)) (listed base s f (needs_of (get_or shapes (kind_row k) 0)))))
statement-is k base s f = ap (told_as meant) (made-is base s f k) ∙ as-made k (λ v. says_named the_the_stretch_of k (rndf_make k v)) (read_all (rndf_sorts k) (behind (word_at (kind_row k)) (listed base s f (needs_of (get_or shapes (kind_row k) 0)))))

-- the step with the cell of the kind that the statement has
by_kind : (p : Place) (s : Statement) (t : G.Statement Field) → meant s ≡ statement_named the_the_stretch_of t → by_cell p s (cell_of rndf_table_of p (kind_row t.kind)) ≡ step_of p s
by_kind p s t m = ap (λ (x : G.Statement Stretch). by_cell p s (cell_of rndf_table_of p (kind_row x.kind))) (sym m) ∙ step_by p s

pub step_is : (p : Place) → Sound p → (s : Statement) (t : G.Statement Field) → meant s ≡ statement_named the_the_stretch_of t → map_out abs_of (seen (by_cell p s (cell_of rndf_table_of p (kind_row t.kind)))) ≡ step (rndf Field) (abs_of p) t
step_is p i s t m = ap (λ (o : Outcome). map_out abs_of (seen o)) (by_kind p s t m) ∙ the_step p s i ∙ ap (step (rndf Stretch) (abs_of p)) m ∙ rndf-renamed the_the_stretch_of (abs_of p) t

next-was : (o : Outcome) (q : Place) → seen o ≡ next q → o ≡ Next q
next-was (Next r) q e = ap Next (let z : r ≡ q = cc in z)
next-was (Refused c) q e = absurd (let z : ◌≡◌ {A = ℕ} 0 1 = cc in omega arith)

pub stays : (p : Place) → Sound p → (s : Statement) (t : G.Statement Field) → meant s ≡ statement_named the_the_stretch_of t → (q : Place) → seen (by_cell p s (cell_of rndf_table_of p (kind_row t.kind))) ≡ next q → Sound q
stays p i s t m q e = next-sound p s q i (sym (by_kind p s t m) ∙ next-was (by_cell p s (cell_of rndf_table_of p (kind_row t.kind))) q e)

abbrev pub rndf_ties : Ties (rndf Field) rndf_lexis rndf_judging
rndf_ties = record { Mean = G.Statement Stretch; meant = meant; moved = statement_named the_the_stretch_of; abs = abs_of; Sound = Sound; row = kind_row; row_in = row_in; kind-is = kind-is; refuses-is = refuses_as; needs-is = needs-is; needs-few = needs-few; made-is = statement-is; step_is = step_is; stays = stays }

-- THE THEOREM: at a sound place a line of an RNDF gets what `text` says of it, and the next place is sound
pub rndf-line-is : (p : Place) → Sound p → (base : ℕ) (s : Bytes) → view (rndf Field) rndf_lexis rndf_judging rndf_ties p (line rndf_judging s base p) ≡ renamed (rndf Field) rndf_lexis rndf_judging rndf_ties (judge (rndf Field) rndf_lexis (abs_of p) base s)
rndf-line-is = line-is (rndf Field) rndf_lexis rndf_judging rndf_ties

pub rndf-line-sound : (p : Place) → Sound p → (base : ℕ) (s : Bytes) → SoundGot (rndf Field) rndf_lexis rndf_judging rndf_ties (line rndf_judging s base p)
rndf-line-sound = line-sound (rndf Field) rndf_lexis rndf_judging rndf_ties
