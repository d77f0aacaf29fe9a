-- What is put for all segments are the features of their lanes, each with its comma. Assumes nothing.
use mathlib.Core.Path.{◌≡◌, refl, sym, ap, ◌∙◌}
use mathlib.Core.List.{List, [], ◌∷◌, ◌++◌, map, map-append, append_assoc}
use Prim.Native.Nat.{ℕ, suc, ◌+◌, ◌≤◌, min}
use native.Mathlib.Omega.{arith}
use lib.ListN.{length, length-map, length-append}
use lib.IntN.{ℤ}
use Rattle.terms.specs.Ascii.{Bytes}
use Rattle.terms.specs.Words.{Each}
use Rattle.line.specs.Content.{Field}
use Rattle.rows.specs.Read.{point_at_of, lane_at_of, segment_at_of}
use Rattle.filled_rows.specs.From.{From}
use Rattle.filled_rows.proofs.From.{from_parts}
use Rattle.law.specs.Network.{Lane, Segment, Position}
use Rattle.law.specs.Tables.{gather, total, lane_size}
use Rattle.law.specs.Along.{along}
use Rattle.grammar.specs.Tables.{lane_row, the_segment_row_of, LaneRow}
use Rattle.table_words.specs.Shown.{shown_segment, shown_lane, shown_point}
use Rattle.features.specs.Drawn.{each, behind_one_of, segment_lanes, segment_from}
use Rattle.map_law.specs.Map as Map
use Rattle.map_tables.specs.Marked.{marks}
use Rattle.map_tables.proofs.Marks.{marks_append}
use Rattle.map_tables.proofs.Identifiers.{gather_append}
use Rattle.map_tables.proofs.Lanes.{start_of, length-of, Held, lanes-are}

-- ## Things one behind the other
pub along_append : {A B : Type 0} (size : A → ℕ) (f : ℕ → A → List B) (i : ℕ) (x y : List A) → along size f i (x ++ y) ≡ along size f i x ++ along size f (i + total size x) y
along_append size f i [] y = ap (λ (j : ℕ). along size f j y) (let e : i ≡ i + 0 = omega arith in e)
along_append size f i (a ∷ x) y =
    let e : i + size a + total size x ≡ i + (size a + total size x) = omega arith in
    ap (λ l. f i a ++ l) (along_append size f (i + size a) x y ∙ ap (λ (j : ℕ). along size f (i + size a) x ++ along size f j y) e)
    ∙ sym (append_assoc (f i a) (along size f (i + size a) x) (along size f (i + (size a + total size x)) y))

-- where each gives one
pub length-along : {A B : Type 0} (size : A → ℕ) (f : ℕ → A → B) (i : ℕ) (x : List A) → length (along size (λ j a. f j a ∷ []) i x) ≡ length x
length-along size f i [] = refl
length-along size f i (a ∷ x) = ap suc (length-along size f (i + size a) x)

pub points-counted : (ls : List Lane) → length (gather (λ a. a.points) ls) ≡ total lane_size ls
points-counted [] = refl
points-counted (a ∷ ls) = length-append a.points (gather (λ a. a.points) ls) ∙ ap (λ (n : ℕ). length a.points + n) (points-counted ls)

-- a segment whose name stands in the text, and whose lanes are not too many to be numbered
pub record NamedSegment (text : Bytes) (s : Segment Field) : Type 0 where
  pub name : Held text s.name
  pub few : length s.lanes ≤ 32768

abbrev pub lane_rows_of : ℕ → List Lane → List LaneRow
lane_rows_of p ls = along lane_size (λ f a. lane_row f a ∷ []) p ls

abbrev pub points-of : List Lane → List Position
points-of ls = gather (λ a. a.points) ls

module _ (text : Bytes) (segments lanes : List ℕ) (ps : List ℤ) where
  -- the segments from the k-th on, whose lanes' rows begin at `first` and whose points begin at p
  pub segments-are : (k first p : ℕ) (ss : List (Segment Field)) → k + length ss ≤ 32768 → Each (NamedSegment text) ss
      → From (segment_at_of segments) k (map (shown_segment start_of length-of) (along (λ s. length s.lanes) (λ f s. the_segment_row_of f s ∷ []) first ss))
      → From (lane_at_of lanes) first (map shown_lane (lane_rows_of p (gather (λ s. s.lanes) ss)))
      → From (point_at_of ps) p (map shown_point (points-of (gather (λ s. s.lanes) ss)))
      → each (segment_from text segments lanes ps) k (length ss) ≡ marks first (Map.numbered (suc k) (λ m s. Map.numbered 1 (λ n a. Map.lane_feature s.name m n a ∷ []) s.lanes) ss)
  unfolding each segment_from segment_lanes marks
  segments-are k first p [] few good rows lane-side point-side = refl
  segments-are k first p (s ∷ ss) few good rows lane-side point-side =
      let own = s.lanes in
      let others = gather (λ s. s.lanes) ss in
      let l = from_parts (lane_at_of lanes) first (map shown_lane (lane_rows_of p own)) (map shown_lane (lane_rows_of (p + total lane_size own) others)) (rw (sym (ap (map shown_lane) (along_append lane_size (λ f a. lane_row f a ∷ []) p own others) ∙ map-append shown_lane (lane_rows_of p own) (lane_rows_of (p + total lane_size own) others))) lane-side) in
      let q = from_parts (point_at_of ps) p (map shown_point (points-of own)) (map shown_point (points-of others)) (rw (sym (ap (map shown_point) (gather_append (λ a. a.points) own others) ∙ map-append shown_point (points-of own) (points-of others))) point-side) in
      let many : length (map shown_lane (lane_rows_of p own)) ≡ length own = length-map (lane_rows_of p own) shown_lane ∙ length-along lane_size lane_row p own in
      let long : length (map shown_point (points-of own)) ≡ total lane_size own = length-map (points-of own) shown_point ∙ points-counted own in
      let number : min (0 + k + 1) 4294967295 ≡ suc k = omega arith in
      let zero-on : first + 0 ≡ first = omega arith in
      let last : suc (suc k) ≡ suc k + 1 = omega arith in
      let features = Map.numbered 1 (λ n a. Map.lane_feature s.name (suc k) n a ∷ []) own in
      let here = lanes-are text ps s.name good.0.name (suc k) lanes first (length own) 0 p own (omega (arith, good.0.few)) (rw (zero-on) l.0) q.0 in
      let rest = segments-are (suc k) (first + length own) (p + total lane_size own) ss (omega arith) good.1 rows.1 (rw (sym many) l.1) (rw (sym long) q.1) in
      let as_many : length features ≡ length own = length-along (λ a. 1) (λ n a. Map.lane_feature s.name (suc k) n a) 1 own in
      (λ i. segment_lanes text lanes ps (number i) (rows.0 i) ++ each (segment_from text segments lanes ps) (suc k) (length ss))
      ∙ (λ i. here i ++ rest i)
      ∙ (λ i. marks (zero-on i) features ++ marks (first + sym as_many i) (Map.numbered (last i) (λ m s. Map.numbered 1 (λ n a. Map.lane_feature s.name m n a ∷ []) s.lanes) ss))
      ∙ sym (marks_append first features (Map.numbered (suc k + 1) (λ m s. Map.numbered 1 (λ n a. Map.lane_feature s.name m n a ∷ []) s.lanes) ss))
