-- Rows in their ranges are shown with their own words: no width is refused, no row number is cut. Assumes nothing.
use mathlib.Core.Path.{◌≡◌, refl, sym, ap, ap₂, ◌∙◌}
use mathlib.Core.List.{List, [], ◌∷◌, map}
use mathlib.Core.Option.{Option, none, some}
use mathlib.Core.Logic.{inl, inr}
use Prim.Native.Nat.{ℕ, suc, ◌≤◌, ◌<◌}
use native.Mathlib.Omega.{arith}
use lib.ListN.{length, replicate}
use Rattle.terms.specs.Words.{Each}
use Rattle.grammar.specs.Tables as T
use Rattle.line.specs.Content.{Field}
use Rattle.units.specs.declared.Feet.{Feet}
use Rattle.units.proofs.Ranges.{feet-is}
use Rattle.made_out.specs.Names.{the_the_stretch_of}
use Rattle.rows.specs.declared.Stretch as RS
use Rattle.rows.specs.Lay.{rows_of, put_row_of}
use Rattle.rows.specs.Columns.{segment_words_of, lane_words_of, zone_words_of, spot_words_of, checkpoint_words_of, stop_words_of}
use Rattle.rows.specs.Table.{table_of, put_rows}
use Rattle.progress.specs.After.{width_of, width_read, file_row_of}
use Rattle.room.specs.Room.{fitted}
use Rattle.room.proofs.Fitted.{fitted-kept}
use Rattle.progress.specs.Shown.{shown_if_given, shown_file, shown_segment, shown_lane, shown_zone, shown_spot}
use Rattle.progress.proofs.Shown.{missing-shown}
use Rattle.table_words.specs.Words.{name_words, the_segment_words_of, the_lane_words_of, the_zone_words_of, the_spot_words_of, the_checkpoint_words_of, the_stop_words_of}
use Rattle.table_words.specs.Named.{file_row_named, segment_row_named, zone_row_named}
use Rattle.table_words.specs.FileRows as W
use Rattle.table_words.proofs.Bounds.{WidthBound, LaneBounds, SpotBounds, CheckpointBounds}
use Rattle.table_words.proofs.Filled.{put_all}
use Rattle.grammar.specs.Names.{perhaps_name}
use Rattle.network.specs.Reading.{most}
use Rattle.network.proofs.Stored.{shown_checkpoint, shown_stop}
use Rattle.std.specs.Prelude as Rust

-- ## Numbers
width-kept : (w : ℕ) → WidthBound w → (width_of w).0 ≡ w
unfolding width_of
width-kept w (inl e) = ap (λ (x : ℕ). (width_of x).0) e ∙ ap (λ (x : Feet). x.0) missing-shown ∙ sym e
width-kept w (inr h) = ap (λ (x : Rust.Option Feet). (width_read x).0) (feet-is (record { low = omega arith; high = h }))

-- the row of a point that there is fits into a word
pub row_kept : (n points : ℕ) → n < points → points ≤ most → fitted n ≡ n
row_kept n points h l = fitted-kept n (omega arith)

-- ## Rows. `points`: how many there are
pub lane-kept : (points : ℕ) (r : T.LaneRow) → LaneBounds points r → lane_words_of (shown_lane r) ≡ the_lane_words_of r
lane-kept points r b = ap (λ (w : ℕ). r.first_point_of ∷ r.points ∷ w ∷ r.left ∷ r.right ∷ []) (width-kept r.width b.width)

pub spot-kept : (points : ℕ) (r : T.SpotRow) → SpotBounds points r → spot_words_of (shown_spot r) ≡ the_spot_words_of r
spot-kept points r b = ap (λ (w : ℕ). r.first_point_of ∷ w ∷ []) (width-kept r.width b.width)

pub checkpoint-kept : (points : ℕ) → points ≤ most → (r : T.CheckpointRow) → CheckpointBounds points r → checkpoint_words_of (shown_checkpoint r) ≡ the_checkpoint_words_of r
checkpoint-kept points l r b = ap (λ (p : ℕ). r.number ∷ p ∷ []) (row_kept r.point points b.inside l)

pub stop-kept : (points : ℕ) → points ≤ most → (n : ℕ) → n < points → stop_words_of (shown_stop n) ≡ the_stop_words_of n
stop-kept points l n h = ap (λ (p : ℕ). p ∷ []) (row_kept n points h l)

-- ## Names: by start and length, in both
abbrev starts : Field → ℕ
starts name = name.start

abbrev lengths : Field → ℕ
lengths name = length name.bytes

name-kept : (o : Option Field) → shown_if_given (perhaps_name the_the_stretch_of o) ≡ W.shown_name starts lengths o
name-kept none = refl
name-kept (some a) = refl

name-words-kept : (o : Option Field) → ◌≡◌ {A = List ℕ} ((shown_if_given (perhaps_name the_the_stretch_of o)).start ∷ (shown_if_given (perhaps_name the_the_stretch_of o)).length ∷ []) (name_words starts lengths o)
name-words-kept none = refl
name-words-kept (some a) = refl

pub segment-kept : (r : T.SegmentRow Field) → segment_words_of (shown_segment (segment_row_named the_the_stretch_of r)) ≡ the_segment_words_of starts lengths r
segment-kept r = ap (λ (name : List ℕ). r.first_lane ∷ r.lanes ∷ name) (name-words-kept r.name)

pub zone-kept : (r : T.ZoneRow Field) → zone_words_of (shown_zone (zone_row_named the_the_stretch_of r)) ≡ the_zone_words_of starts lengths r
zone-kept r = ap (λ (name : List ℕ). r.first_point_of ∷ r.points ∷ r.first_spot_of ∷ r.spots ∷ name) (name-words-kept r.name)

pub file-kept : (r : T.FileRow Field) → shown_file (file_row_named the_the_stretch_of r) ≡ W.shown_file starts lengths r
file-kept r = ap₂ (λ (v d : RS.Stretch). file_row_of (W.shown_name starts lengths (some r.name)) v d) (name-kept r.version) (name-kept r.date)

-- ## Tables
put-shown-each : {G R X : Type 0} (stride : ℕ) (words : R → List X) (show : G → R) (own : G → List X) (t : List X) (at : ℕ) (gs : List G) → Each (λ g. words (show g) ≡ own g) gs → put_rows stride words t at (map show gs) ≡ put_rows stride own t at gs
unfolding put_rows
put-shown-each stride words show own t at [] e = refl
put-shown-each {X = X} stride words show own t at (g ∷ gs) e =
    ap (λ (x : List X). put_rows stride words (put_row_of stride t at x) (suc at) (map show gs)) e.0 ∙ put-shown-each stride words show own (put_row_of stride t at (own g)) (suc at) gs e.1

-- rows that are shown with their own words, put into a cleared table that has room for them
pub table_kept : {G R X : Type 0} (stride : ℕ) (words : R → List X) (show : G → R) (own : G → List X) → 0 < stride → ((g : G) → length (own g) ≡ stride) → (nought : X) (n : ℕ) (rs : List R) (gs : List G)
    → rs ≡ map show gs → Each (λ g. words (show g) ≡ own g) gs → length gs ≤ rows_of n stride → put_rows stride words (replicate n nought) 0 rs ≡ table_of nought own n gs
table_kept {R = R} stride words show own positive long nought n rs gs e same room =
    ap (λ (l : List R). put_rows stride words (replicate n nought) 0 l) e
    ∙ put-shown-each stride words show own (replicate n nought) 0 gs same
    ∙ put_all stride own positive long nought n gs room
