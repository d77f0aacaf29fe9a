-- The rows of a network, and of a mission, are as many as the lines of its text declare. Document 01, "Tables". Assumes nothing.
use mathlib.Core.Path.{◌≡◌, refl, sym, ap, ap₂, ◌∙◌}
use mathlib.Core.List.{List, [], ◌∷◌, ◌++◌, map, append-nil}
use mathlib.Core.Bool.{Bool, true, false}
use Prim.Native.Nat.{ℕ, ◌+◌, ◌*◌}
use Prim.Native.String.{String}
use native.Mathlib.Omega.{arith}
use lib.ListN.{length, length-append}
use Rattle.terms.specs.Ascii.{ascii}
use Rattle.terms.specs.Words.{pick}
use Rattle.scan.specs.Reach.{same_bytes_of}
use Rattle.line.specs.Content.{Field}
use Rattle.law.specs.Network.{Network, Mission, Line, SpellsNetwork, SpellsMission}
use Rattle.law.specs.Tables.{gather, total}
use Rattle.grammar.specs.Language.{Lang, S, all_of}
use Rattle.grammar.specs.Statements.{Kind, Says, Statement, lines, say, of_kind, RNDF_name_of, num_segments, num_zones, format_version_of, creation_date_of, segment, num_lanes, segment_name_of, end_segment, lane, num_waypoints, lane_width_of, left_boundary_of, right_boundary_of, checkpoint, stop, exit, end_lane_of, zone, num_spots, zone_name_of, end_zone, perimeter, num_perimeterpoints, end_perimeter, spot, spot_width_of, end_spot, end_file_of, point}
use Rattle.grammar.specs.MissionStatements as M
use Rattle.grammar.proofs.HouseLaws.{of_append}
use Rattle.text.specs.RndfLines.{rndf_line_in_of, the_rndf_line_of}
use Rattle.text.specs.MdfLines.{the_mdf_line_of}
use Rattle.fill.specs.Counts as Old
use Rattle.fill.proofs.ReferenceLaws.{tables-declared}
use Rattle.fill.proofs.MissionFills as Filled
use Rattle.law_spelling.specs.LineOf.{rndf_law_line, mdf_law_line}
use Rattle.law_spelling.proofs.RndfParts.{network-back}
use Rattle.law_spelling.proofs.MdfParts.{mission-back}
use Rattle.law_tables.specs.Used as N
use Rattle.edition.specs.declared.Edition.{Edition}
use Rattle.edition.specs.Editions.{rules_of}
use Rattle.replies.specs.Replies.{rows_used_of}
use Rattle.replies.proofs.Counted.{counts_are}
use Rattle.promises.specs.Accepted.{mission_rows_used}
use Rattle.promises.specs.Declared.{begins_with, numbers_in, lines_with, together, how_many, declared, mission_declared}
use Rattle.promises.proofs.Keeping.{network-later, mission-later}

-- ## Both add up line by line
abbrev sum : List ℕ → ℕ
sum = total (λ n. n)

sum-append : (a b : List ℕ) → sum (a ++ b) ≡ sum a + sum b
sum-append [] b = omega arith
sum-append (n ∷ a) b = let e = sum-append a b in omega arith

together_append : (a b : List ℕ) → Old.together (a ++ b) ≡ Old.together a + Old.together b
together_append [] b = omega arith
together_append (n ∷ a) b = let e = together_append a b in omega arith

abbrev all_numbers : List Line → List ℕ
all_numbers = gather (λ l. gather numbers_in l)

together-step : (w : String) (x : Line) (l : List Line) → together w (x ∷ l) ≡ together w (x ∷ []) + together w l
together-step w x l = go (begins_with w x)
  where
    go : (b : Bool) → sum (all_numbers (pick b (x ∷ []) [] ++ lines_with w l)) ≡ sum (all_numbers (pick b (x ∷ []) [] ++ [])) + together w l
    go true = sum-append (gather numbers_in x) (all_numbers (lines_with w l)) ∙ ap (λ (y : List ℕ). sum y + together w l) (sym (append-nil (gather numbers_in x)))
    go false = omega arith

how-many-step : (w : String) (x : Line) (l : List Line) → how_many w (x ∷ l) ≡ how_many w (x ∷ []) + how_many w l
how-many-step w x l = go (begins_with w x)
  where
    go : (b : Bool) → length (pick b (x ∷ []) [] ++ lines_with w l) ≡ length (pick b (x ∷ []) [] ++ []) + how_many w l
    go true = omega arith
    go false = omega arith

-- so where a number of lines is the number of statements for each, it is for all
module _ (L : Lang) (Line-of : S L → Line) (k : L.Kind) (h : List Line → ℕ) (g : List (L.Pay k) → ℕ) where
  summed : h [] ≡ g [] → ((x : Line) (l : List Line) → h (x ∷ l) ≡ h (x ∷ []) + h l) → ((a b : List (L.Pay k)) → g (a ++ b) ≡ g a + g b) → ((s : S L) → h (Line-of s ∷ []) ≡ g (all_of L k (s ∷ [])))
      → (ss : List (S L)) → g (all_of L k ss) ≡ h (map Line-of ss)
  summed none step add one [] = sym none
  summed none step add one (s ∷ ss) =
      ap g (of_append L k (s ∷ []) ss) ∙ add (all_of L k (s ∷ [])) (all_of L k ss) ∙ ap₂ ◌+◌ (sym (one s)) (summed none step add one ss) ∙ sym (step (Line-of s) (map Line-of ss))

-- ## An RNDF: what each statement adds
record Nine : Type 0 where
  pub segments : ℕ
  pub lanes : ℕ
  pub zones : ℕ
  pub spots : ℕ
  pub waypoints : ℕ
  pub borders : ℕ
  pub checkpoints : ℕ
  pub stops : ℕ
  pub exits : ℕ

abbrev by_lines : List Line → Nine
by_lines l = record { segments = together "num_segments" l; lanes = together "num_lanes" l; zones = together "num_zones" l; spots = together "num_spots" l; waypoints = together "num_waypoints" l; borders = together "num_perimeterpoints" l; checkpoints = how_many "checkpoint" l; stops = how_many "stop" l; exits = how_many "exit" l }

abbrev by-statements : List (Statement Field) → Nine
by-statements l = record { segments = Old.together (of_kind num_segments l); lanes = Old.together (of_kind num_lanes l); zones = Old.together (of_kind num_zones l); spots = Old.together (of_kind num_spots l); waypoints = Old.together (of_kind num_waypoints l); borders = Old.together (of_kind num_perimeterpoints l); checkpoints = length (of_kind checkpoint l); stops = length (of_kind stop l); exits = length (of_kind exit l) }

each : (k : Kind) (v : Says Field k) → by_lines (rndf_law_line (say k v) ∷ []) ≡ by-statements (say k v ∷ [])
unfolding ascii rndf_line_in_of same_bytes_of
each RNDF_name_of v = refl
each num_segments v = refl
each num_zones v = refl
each format_version_of v = refl
each creation_date_of v = refl
each segment v = refl
each num_lanes v = refl
each segment_name_of v = refl
each end_segment v = refl
each lane v = refl
each num_waypoints v = refl
each lane_width_of v = refl
each left_boundary_of v = refl
each right_boundary_of v = refl
each checkpoint v = refl
each stop v = refl
each exit v = refl
each end_lane_of v = refl
each zone v = refl
each num_spots v = refl
each zone_name_of v = refl
each end_zone v = refl
each perimeter v = refl
each num_perimeterpoints v = refl
each end_perimeter v = refl
each spot v = refl
each spot_width_of v = refl
each end_spot v = refl
each end_file_of v = refl
each point v = refl

module _ (ss : List (Statement Field)) where
  all_alike : N.rows_used_of (Old.declared ss) ≡ declared (map rndf_law_line ss)
  all_alike =
      let segments = summed (lines Field) rndf_law_line num_segments (together "num_segments") Old.together refl (together-step "num_segments") together_append (λ s. ap (λ (c : Nine). c.segments) (each s.kind s.val)) ss in
      let lanes = summed (lines Field) rndf_law_line num_lanes (together "num_lanes") Old.together refl (together-step "num_lanes") together_append (λ s. ap (λ (c : Nine). c.lanes) (each s.kind s.val)) ss in
      let zones = summed (lines Field) rndf_law_line num_zones (together "num_zones") Old.together refl (together-step "num_zones") together_append (λ s. ap (λ (c : Nine). c.zones) (each s.kind s.val)) ss in
      let spots = summed (lines Field) rndf_law_line num_spots (together "num_spots") Old.together refl (together-step "num_spots") together_append (λ s. ap (λ (c : Nine). c.spots) (each s.kind s.val)) ss in
      let waypoints = summed (lines Field) rndf_law_line num_waypoints (together "num_waypoints") Old.together refl (together-step "num_waypoints") together_append (λ s. ap (λ (c : Nine). c.waypoints) (each s.kind s.val)) ss in
      let borders = summed (lines Field) rndf_law_line num_perimeterpoints (together "num_perimeterpoints") Old.together refl (together-step "num_perimeterpoints") together_append (λ s. ap (λ (c : Nine). c.borders) (each s.kind s.val)) ss in
      let checkpoints = summed (lines Field) rndf_law_line checkpoint (how_many "checkpoint") length refl (how-many-step "checkpoint") length-append (λ s. ap (λ (c : Nine). c.checkpoints) (each s.kind s.val)) ss in
      let stops = summed (lines Field) rndf_law_line stop (how_many "stop") length refl (how-many-step "stop") length-append (λ s. ap (λ (c : Nine). c.stops) (each s.kind s.val)) ss in
      let exits = summed (lines Field) rndf_law_line exit (how_many "exit") length refl (how-many-step "exit") length-append (λ s. ap (λ (c : Nine). c.exits) (each s.kind s.val)) ss in
      λ i. record { segments = segments i; lanes = lanes i; zones = zones i; spots = spots i; points = waypoints i + borders i + 2 * spots i; checkpoints = checkpoints i; stops = stops i; exits = exits i }

pub network-counted : (edition : Edition) (n : Network Field) (said : List Line) → SpellsNetwork (rules_of edition) n said → rows_used_of n ≡ declared said
network-counted edition n said h =
    let x = network-back n said (network-later edition n said h) in
    sym (counts_are n) ∙ ap (λ (c : Old.Counts). N.rows_used_of c) (tables-declared n x.0 x.2) ∙ all_alike x.0 ∙ sym (ap (λ (l : List Line). declared l) x.1)

-- ## An MDF
abbrev two-by-lines : List Line → Old.MissionCounts
two-by-lines l = record { goals = together "num_checkpoints" l; limits = together "num_speed_limits" l }

each-mission : (k : M.Kind) (v : M.Says Field k) → two-by-lines (mdf_law_line (M.say k v) ∷ []) ≡ Old.mission_declared (M.say k v ∷ [])
unfolding ascii the_mdf_line_of same_bytes_of
each-mission M.MDF_name_of v = refl
each-mission M.RNDF v = refl
each-mission M.format_version_of v = refl
each-mission M.creation_date_of v = refl
each-mission M.checkpoints v = refl
each-mission M.num_checkpoints v = refl
each-mission M.end_checkpoints v = refl
each-mission M.speed_limits v = refl
each-mission M.num_speed_limits v = refl
each-mission M.end_speed_limits v = refl
each-mission M.end_file_of v = refl
each-mission M.goal v = refl
each-mission M.limit v = refl

pub mission_counted : (edition : Edition) (m : Mission Field) (said : List Line) → SpellsMission (rules_of edition) m said → mission_rows_used m ≡ mission_declared said
mission_counted edition m said h =
    let x = mission-back m said (mission-later edition m said h) in
    let goals = summed (M.orders Field) mdf_law_line M.num_checkpoints (together "num_checkpoints") Old.together refl (together-step "num_checkpoints") together_append (λ s. ap (λ (c : Old.MissionCounts). c.goals) (each-mission s.kind s.val)) x.0 in
    let limits = summed (M.orders Field) mdf_law_line M.num_speed_limits (together "num_speed_limits") Old.together refl (together-step "num_speed_limits") together_append (λ s. ap (λ (c : Old.MissionCounts). c.limits) (each-mission s.kind s.val)) x.0 in
    let e = Filled.mission_counted m x.0 x.2 in
    let g : length m.goals ≡ together "num_checkpoints" said = ap (λ (c : Old.MissionCounts). c.goals) e ∙ goals ∙ sym (ap (λ (l : List Line). together "num_checkpoints" l) x.1) in
    let k : length m.limits ≡ together "num_speed_limits" said = ap (λ (c : Old.MissionCounts). c.limits) e ∙ limits ∙ sym (ap (λ (l : List Line). together "num_speed_limits" l) x.1) in
    λ i. record { goals = g i; limits = k i }
