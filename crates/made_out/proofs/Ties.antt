-- What is made of fields is what `text` reads of them, kind by kind; names are then known by start and length. Assumes nothing.
use Rattle.std.specs.Prelude.{ℤ, Some, None}
use mathlib.Core.Path.{◌≡◌, refl}
use mathlib.Core.Option.{Option, none, some}
use mathlib.Core.Bool.{Bool, true, false}
use Prim.Native.Nat.{ℕ, zero, suc, ◌+◌, ◌≤◌}
use native.Mathlib.Omega.{arith}
use lib.ListN.{length, get_or}
use Rattle.terms.specs.Ascii.{Bytes}
use Rattle.terms.specs.Words.{pick}
use Rattle.line.specs.Forms.{part, field_in, listed}
use Rattle.line.specs.declared.Span.{Span}
use Rattle.line.specs.declared.Fields.{Fields}
use Rattle.number.specs.Executable.{the_integer_of, the_pair_of, triple_of, is_name_length_of}
use Rattle.coordinate.specs.Executable.{the_coordinate_of}
use Rattle.word.specs.Number.{boundary_number}
use Rattle.word.proofs.Boundary.{boundary-most}
use Rattle.grammar.specs.Statements.{Kind, RNDF_name_of, num_segments, num_zones, format_version_of, creation_date_of, segment, num_lanes, segment_name_of, end_segment, lane, num_waypoints, lane_width_of, left_boundary_of, right_boundary_of, checkpoint, stop, exit, end_lane_of, zone, num_spots, zone_name_of, end_zone, perimeter, num_perimeterpoints, end_perimeter, spot, spot_width_of, end_spot, end_file_of, point}
use Rattle.grammar.specs.PlaceRows.{kind_row}
use Rattle.grammar.specs.Renamed.{says_named}
use Rattle.text.specs.Judge.{read, read_all, both, number, pair_from, triple_from, degrees, boundary_from, a_name}
use Rattle.text.specs.RndfWords.{word_at, rndf_sorts, rndf_make}
use Rattle.statement.specs.declared.Statement.{Statement}
use Rattle.statement.specs.declared.Statement.TheVariants as st
use Rattle.statement.specs.Kinds.{of_kind, boundary_row}
use Rattle.made_out.specs.Names.{the_the_stretch_of, behind, told_as}
use Rattle.made_out.specs.Made.{shapes, needs_of, bare_of, named_of, numbered_of, paired_of, sided_of, name_made_of, number_made_of, pair_made_of, side_made_of, checkpoint_made_of, stop_made_of, exit_made_of, point_made_of, made_of, made_from}
use Rattle.std.specs.Prelude as Rust
use Rattle.number.specs.declared.Id.{Id}

-- ## By shape
names : (mk : ℕ → ℕ → Statement) (base : ℕ) (s : Bytes) (f : Span)
    → made_from (pick (is_name_length_of (length (part s f))) (Some (mk (base + f.start) (length (part s f)))) None) ≡ told_as (λ v. mk v.0.start (length v.0.bytes)) (both (read a_name (field_in base s f)) (some (tt {0})))
unfolding read
names mk base s f = go (is_name_length_of (length (part s f)))
  where
    go : (b : Bool) → made_from (pick b (Some (mk (base + f.start) (length (part s f)))) None) ≡ told_as (λ v. mk v.0.start (length v.0.bytes)) (both (pick b (some (field_in base s f)) none) (some (tt {0})))
    go true = refl
    go false = refl

numbers : (k : ℕ) (n : Rust.Option ℕ) → made_from (number_made_of k n) ≡ told_as (λ v. numbered_of k v.0) (both (number n) (some (tt {0})))
numbers k (Some n) = refl
numbers k None = refl

pairs : (k : ℕ) (n : Rust.Option (ℕ × ℕ)) → made_from (pair_made_of k n) ≡ told_as (λ v. paired_of k v.0.m v.0.n) (both (pair_from n) (some (tt {0})))
pairs k (Some (m, n)) = refl
pairs k None = refl

sides : (k b : ℕ) → b ≤ 4 → made_from (side_made_of k b) ≡ told_as (λ v. sided_of k (boundary_row v.0)) (both (boundary_from b) (some (tt {0})))
unfolding side_made_of
sides k zero h = refl
sides k (suc zero) h = refl
sides k (suc (suc zero)) h = refl
sides k (suc (suc (suc zero))) h = refl
sides k (suc (suc (suc (suc zero)))) h = refl
sides k (suc (suc (suc (suc (suc b))))) h = absurd (omega arith)

checkpoints : (i : Rust.Option Id) (n : Rust.Option ℕ) → made_from (checkpoint_made_of i n) ≡ told_as (λ v. of_kind checkpoint (rndf_make checkpoint v)) (both (triple_from i) (both (number n) (some (tt {0}))))
checkpoints (Some i) (Some n) = refl
checkpoints (Some i) None = refl
checkpoints None n = refl

stops : (i : Rust.Option Id) → made_from (stop_made_of i) ≡ told_as (λ v. of_kind stop (rndf_make stop v)) (both (triple_from i) (some (tt {0})))
stops (Some i) = refl
stops None = refl

exits : (i e : Rust.Option Id) → made_from (exit_made_of i e) ≡ told_as (λ v. of_kind exit (rndf_make exit v)) (both (triple_from i) (both (triple_from e) (some (tt {0}))))
exits (Some i) (Some e) = refl
exits (Some i) None = refl
exits None e = refl

points : (i : Rust.Option Id) (a o : Rust.Option ℤ) → made_from (point_made_of i a o) ≡ told_as (λ v. of_kind point (rndf_make point v)) (both (triple_from i) (both (degrees a) (both (degrees o) (some (tt {0})))))
points (Some i) (Some a) (Some o) = refl
points (Some i) (Some a) None = refl
points (Some i) None o = refl
points None a o = refl

-- ## Every kind
module _ (base : ℕ) (s : Bytes) (f : Fields) where
  -- the statement of the values that `text` reads
  abbrev pub as_read : (k : Kind) → Option Statement
  as_read k = told_as (λ v. of_kind k (says_named the_the_stretch_of k (rndf_make k v))) (read_all (rndf_sorts k) (behind (word_at (kind_row k)) (listed base s f (needs_of (get_or shapes (kind_row k) 0)))))

  pub made-is : (k : Kind) → made_from (made_of s base f (kind_row k)) ≡ as_read k
  unfolding made_of bare_of name_made_of named_of numbered_of paired_of sided_of read
  made-is RNDF_name_of = names st.RndfName base s f.b
  made-is num_segments = numbers 1 (the_integer_of (part s f.b))
  made-is num_zones = numbers 2 (the_integer_of (part s f.b))
  made-is format_version_of = names st.FormatVersion base s f.b
  made-is creation_date_of = names st.CreationDate base s f.b
  made-is segment = numbers 5 (the_integer_of (part s f.b))
  made-is num_lanes = numbers 6 (the_integer_of (part s f.b))
  made-is segment_name_of = names st.SegmentName base s f.b
  made-is end_segment = refl
  made-is lane = pairs 9 (the_pair_of (part s f.b))
  made-is num_waypoints = numbers 10 (the_integer_of (part s f.b))
  made-is lane_width_of = numbers 11 (the_integer_of (part s f.b))
  made-is left_boundary_of = sides 12 (boundary_number (part s f.b)) (boundary-most (part s f.b))
  made-is right_boundary_of = sides 13 (boundary_number (part s f.b)) (boundary-most (part s f.b))
  made-is checkpoint = checkpoints (triple_of (part s f.b)) (the_integer_of (part s f.c))
  made-is stop = stops (triple_of (part s f.b))
  made-is exit = exits (triple_of (part s f.b)) (triple_of (part s f.c))
  made-is end_lane_of = refl
  made-is zone = numbers 18 (the_integer_of (part s f.b))
  made-is num_spots = numbers 19 (the_integer_of (part s f.b))
  made-is zone_name_of = names st.ZoneName base s f.b
  made-is end_zone = refl
  made-is perimeter = pairs 22 (the_pair_of (part s f.b))
  made-is num_perimeterpoints = numbers 23 (the_integer_of (part s f.b))
  made-is end_perimeter = refl
  made-is spot = pairs 25 (the_pair_of (part s f.b))
  made-is spot_width_of = numbers 26 (the_integer_of (part s f.b))
  made-is end_spot = refl
  made-is end_file_of = refl
  made-is point = points (triple_of (part s f.a)) (the_coordinate_of (part s f.b)) (the_coordinate_of (part s f.c))
