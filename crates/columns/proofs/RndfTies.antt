-- What the ties ask of an RNDF. Assumes nothing.
use Rattle.std.specs.Prelude.{Some, None}
use mathlib.Core.Path.{◌≡◌, refl, sym, ap, ◌∙◌}
use mathlib.Core.List.{List, [], ◌∷◌}
use mathlib.Core.Option.{Option, none, some}
use mathlib.Core.Bool.{Bool, true, false}
use Prim.Native.Nat.{ℕ, suc, ◌-◌, ◌≤◌}
use native.Mathlib.Omega.{arith}
use lib.ListN.{get_or}
use lib.Dec.{eqb, ltb}
use lib.IntN.{ℤ, pos}
use Rattle.terms.specs.Ascii.{Bytes}
use Rattle.terms.specs.Words.{pick}
use Rattle.line.specs.Content.{Field}
use Rattle.line.specs.Forms.{listed, part}
use Rattle.line.specs.declared.Fields.{Fields}
use Rattle.number.specs.Executable.{triple_of}
use Rattle.coordinate.specs.Executable.{the_coordinate_of}
use Rattle.grammar.specs.Language.{say}
use Rattle.grammar.specs.Machine.{step}
use Rattle.grammar.specs.Places.{rndf}
use Rattle.grammar.specs.PlaceRows.{kind_row}
use Rattle.grammar.specs.PlaceTable.{rndf_table_of}
use Rattle.grammar.specs.Renamed.{statement_named}
use Rattle.grammar.specs.Statements.{Kind, lines, RNDF_name_of, num_segments, num_zones, format_version_of, creation_date_of, segment, num_lanes, segment_name_of, end_segment, lane, num_waypoints, lane_width_of, left_boundary_of, right_boundary_of, checkpoint, stop, exit, end_lane_of, zone, num_spots, zone_name_of, end_zone, perimeter, num_perimeterpoints, end_perimeter, spot, spot_width_of, end_spot, end_file_of, point}
use Rattle.grammar.specs.Statements as G
use Rattle.text.specs.Judge.{read, triple_from, degrees, Vals}
use Rattle.text.specs.RndfWords.{word_at, rndf_sorts, rndf_make, rndf_lexis}
use Rattle.statement.specs.declared.Statement.{Statement}
use Rattle.statement.specs.declared.Statement.TheVariants as st
use Rattle.statement.specs.Meaning.{meant}
use Rattle.made_out.specs.Names.{the_the_stretch_of, behind}
use Rattle.made_out.specs.Made.{shapes, needs_of}
use Rattle.place.specs.declared.Place.{Place}
use Rattle.place.specs.Step.{permits_of, after_of, has_of, opted_of, ready_of, due_of, option_of, cell_of, by_cell, refuses_by, Next, Refused}
use Rattle.place.specs.Abstract.{seen, abs_of}
use Rattle.place.proofs.Theorems.{Sound}
use Rattle.judge.specs.RndfLine.{rndf_judging}
use Rattle.judge.proofs.RndfTies.{rndf_ties, step_is}
use Rattle.law_columns.specs.Finding.{taken?, on_read, wrong_at, tests, behind_word}
use Rattle.law_columns.specs.Files.{rndf_low}
use Rattle.columns.specs.Locating.{tried_of}
use Rattle.columns.specs.RndfColumns.{low_id, checkpoint_wrong_of, exit_wrong_of, latitude_wrong_of, point_wrong_of, rndf_wrong}
use Rattle.columns.proofs.Ties.{taken_mapped, pick-few, Locates}
use Rattle.std.specs.Prelude as Rust
use Rattle.number.specs.declared.Id.{Id}

-- where the kind may stand, the place takes what is permitted, a spot's missing checkpoint aside
taken-by : (p : Place) (s : Statement) (c : ℕ) → refuses_by p.given c ≡ 0 → taken? (seen (by_cell p s c)) ≡ permits_of p s
unfolding by_cell refuses_by due_of option_of
taken-by p s c h = go (ltb c 128) (ltb c 255) (has_of p.given (c - 128)) (permits_of p s) (ready_of p) (after_of p s c) (opted_of p (c - 128)) h
  where
    go : (due option given fine ready : Bool) (q r : Place) → ◌≡◌ {A = ℕ} (pick due 0 (pick option (pick given 6 0) 5)) 0
        → taken? (seen (pick due (pick fine (pick ready (Next q) (Refused 25)) (Refused 9)) (pick option (pick given (Refused 6) (pick fine (Next r) (Refused 9))) (Refused 5)))) ≡ fine
    go true option given true true q r e = refl
    go true option given true false q r e = refl
    go true option given false ready q r e = refl
    go false true true fine ready q r e = absurd (omega (arith, e))
    go false true false true ready q r e = refl
    go false true false false ready q r e = refl
    go false false given fine ready q r e = absurd (omega (arith, e))

-- a trial is the machine's
trial_is : (p : Place) → Sound p → (n : ℕ) (k : Kind) (s : Statement) (v : Vals (rndf_sorts k)) → refuses_by p.given (cell_of rndf_table_of p (kind_row k)) ≡ 0 → meant s ≡ statement_named the_the_stretch_of (say (lines Field) k (rndf_make k v))
    → tried_of n (permits_of p s) ≡ tests (rndf Field) rndf_lexis rndf_low (abs_of p) k n v
trial_is p i n k s v h m =
    ap (λ (b : Bool). pick (eqb n 8) true b)
    (sym (taken-by p s (cell_of rndf_table_of p (kind_row k)) h) ∙ sym (taken_mapped abs_of (seen (by_cell p s (cell_of rndf_table_of p (kind_row k))))) ∙ ap taken? (step_is p i s (say (lines Field) k (rndf_make k v)) m))

-- the field behind the keyword, or the one behind it
one_more : (b : Bool) → pick b 2 1 ≡ suc (pick b 1 0)
one_more true = refl
one_more false = refl

module _ (p : Place) (i : Sound p) (n : ℕ) where
  abbrev tried : (k : Kind) → Vals (rndf_sorts k) → Bool
  tried k = tests (rndf Field) rndf_lexis rndf_low (abs_of p) k n

  -- the kind may stand here
  abbrev may : Kind → Type 0
  may k = refuses_by p.given (cell_of rndf_table_of p (kind_row k)) ≡ 0

  checkpoint-is : may checkpoint → (t : Rust.Option Id) → checkpoint_wrong_of p n t ≡ suc (on_read (triple_from t) (λ v. pick (tried checkpoint (v, (rndf_low checkpoint).1)) 1 0))
  unfolding checkpoint_wrong_of
  checkpoint-is h (Some w) =
      let v : G.PointId = record { x = w.x; y = w.y; z = w.z } in
      ap (λ (b : Bool). pick b 2 1) (trial_is p i n checkpoint (st.Checkpoint w 1) (v, (rndf_low checkpoint).1) h refl) ∙ one_more (tried checkpoint (v, (rndf_low checkpoint).1))
  checkpoint-is h None = refl

  exit-is : may exit → (t : Rust.Option Id) → exit_wrong_of p n t ≡ suc (on_read (triple_from t) (λ v. pick (tried exit (v, (rndf_low exit).1)) 1 0))
  unfolding exit_wrong_of
  exit-is h (Some w) =
      let v : G.PointId = record { x = w.x; y = w.y; z = w.z } in
      ap (λ (b : Bool). pick b 2 1) (trial_is p i n exit (st.Exit w low_id) (v, (rndf_low exit).1) h refl) ∙ one_more (tried exit (v, (rndf_low exit).1))
  exit-is h None = refl

  latitude-is : may point → (w : _) (a : Rust.Option ℤ) → latitude_wrong_of p n w a ≡ suc (on_read (degrees a) (λ z. pick (tried point (record { x = w.x; y = w.y; z = w.z }, (z, (rndf_low point).1.1))) 1 0))
  unfolding latitude_wrong_of
  latitude-is h w (Some a) =
      let v : G.PointId = record { x = w.x; y = w.y; z = w.z } in
      ap (λ (b : Bool). pick b 2 1) (trial_is p i n point (st.Point w a (pos 0)) (v, (a, (rndf_low point).1.1)) h refl) ∙ one_more (tried point (v, (a, (rndf_low point).1.1)))
  latitude-is h w None = refl

  point-is : may point → (t : Rust.Option Id) (a : Rust.Option ℤ) → point_wrong_of p n t a ≡ on_read (triple_from t) (λ v. pick (tried point (v, (rndf_low point).1)) (suc (on_read (degrees a) (λ z. pick (tried point (v, (z, (rndf_low point).1.1))) 1 0))) 0)
  unfolding point_wrong_of
  point-is h (Some w) a =
      let v : G.PointId = record { x = w.x; y = w.y; z = w.z } in
      ap (λ (b : Bool). pick b (latitude_wrong_of p n w a) 0) (trial_is p i n point (st.Point w (pos 0) (pos 0)) (v, (rndf_low point).1) h refl)
      ∙ ap (λ (x : ℕ). pick (tried point (v, (rndf_low point).1)) x 0) (latitude-is h w a)
  point-is h None a = refl

  wrong-is : (k : Kind) (s : Bytes) (f : Fields) → may k → rndf_wrong p n s f (kind_row k) ≡ behind_word (word_at (kind_row k)) (wrong_at (rndf_sorts k) (tried k) (rndf_low k) (behind (word_at (kind_row k)) (listed 0 s f (needs_of (get_or shapes (kind_row k) 0)))))
  unfolding rndf_wrong wrong_at read
  wrong-is RNDF_name_of s f h = refl
  wrong-is num_segments s f h = refl
  wrong-is num_zones s f h = refl
  wrong-is format_version_of s f h = refl
  wrong-is creation_date_of s f h = refl
  wrong-is segment s f h = refl
  wrong-is num_lanes s f h = refl
  wrong-is segment_name_of s f h = refl
  wrong-is end_segment s f h = refl
  wrong-is lane s f h = refl
  wrong-is num_waypoints s f h = refl
  wrong-is lane_width_of s f h = refl
  wrong-is left_boundary_of s f h = refl
  wrong-is right_boundary_of s f h = refl
  wrong-is checkpoint s f h = checkpoint-is h (triple_of (part s f.b))
  wrong-is stop s f h = refl
  wrong-is exit s f h = exit-is h (triple_of (part s f.b))
  wrong-is end_lane_of s f h = refl
  wrong-is zone s f h = refl
  wrong-is num_spots s f h = refl
  wrong-is zone_name_of s f h = refl
  wrong-is end_zone s f h = refl
  wrong-is perimeter s f h = refl
  wrong-is num_perimeterpoints s f h = refl
  wrong-is end_perimeter s f h = refl
  wrong-is spot s f h = refl
  wrong-is spot_width_of s f h = refl
  wrong-is end_spot s f h = refl
  wrong-is end_file_of s f h = refl
  wrong-is point s f h = point-is h (triple_of (part s f.a)) (the_coordinate_of (part s f.b))

-- ## One of the first three
module _ (p : Place) (n : ℕ) where
  checkpoint-few : (t : Rust.Option Id) → checkpoint_wrong_of p n t ≤ 2
  unfolding checkpoint_wrong_of
  checkpoint-few (Some w) = pick-few (tried_of n (permits_of p (st.Checkpoint w 1))) 2 1 (omega arith) (omega arith)
  checkpoint-few None = omega arith

  exit-few : (t : Rust.Option Id) → exit_wrong_of p n t ≤ 2
  unfolding exit_wrong_of
  exit-few (Some w) = pick-few (tried_of n (permits_of p (st.Exit w low_id))) 2 1 (omega arith) (omega arith)
  exit-few None = omega arith

  latitude-few : (w : _) (a : Rust.Option ℤ) → latitude_wrong_of p n w a ≤ 2
  unfolding latitude_wrong_of
  latitude-few w (Some a) = pick-few (tried_of n (permits_of p (st.Point w a (pos 0)))) 2 1 (omega arith) (omega arith)
  latitude-few w None = omega arith

  point-few : (t : Rust.Option Id) (a : Rust.Option ℤ) → point_wrong_of p n t a ≤ 2
  unfolding point_wrong_of
  point-few (Some w) a = pick-few (tried_of n (permits_of p (st.Point w (pos 0) (pos 0)))) _ 0 (latitude-few w a) (omega arith)
  point-few None a = omega arith

  wrong-few : (s : Bytes) (f : Fields) (k : ℕ) → rndf_wrong p n s f k ≤ 2
  unfolding rndf_wrong
  wrong-few s f k = pick-few (eqb k 14) _ _ (checkpoint-few (triple_of (part s f.b))) (pick-few (eqb k 16) _ _ (exit-few (triple_of (part s f.b))) (pick-few (eqb k 29) _ 1 (point-few (triple_of (part s f.a)) (the_coordinate_of (part s f.b))) (omega arith)))

pub rndf_locates : Locates (rndf Field) rndf_lexis rndf_judging rndf_ties rndf_low rndf_wrong
rndf_locates = record { wrong-is = λ p i k n s f. wrong-is p i n k s f; wrong-few = wrong-few }
