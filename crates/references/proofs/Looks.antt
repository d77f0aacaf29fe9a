-- THE LAW of what is read: over tables of given rows `look_in` reads these rows, and zero behind the last. Assumes nothing.
use mathlib.Core.Path.{◌≡◌, refl, sym, ap, ◌∙◌}
use mathlib.Core.List.{List, [], ◌++◌}
use mathlib.Core.Bool.{Bool, true, false}
use Prim.Native.Nat.{ℕ, zero, suc, ◌+◌, ◌-◌, ◌*◌, ◌<◌, ◌≤◌}
use native.Mathlib.Nat.{mul-le-mul_right}
use native.Mathlib.Omega.{arith}
use lib.Dec.{ltb}
use lib.ListN.{length, get_or, replicate, get_or-eq_default}
use lib.Seq.{get_or-append-add}
use borrow.Author.Tests.{ltb-true, ltb-false}
use Rattle.rows.specs.Lay.{rows_of, row_at}
use Rattle.rows.specs.Columns.{segment_words_of, lane_words_of, zone_words_of}
use Rattle.rows.specs.Read.{segment_at_of, lane_at_of, zone_at_of}
use Rattle.rows.specs.Table.{flat, table_of}
use Rattle.rows.specs.declared.SegmentRow.{SegmentRow}
use Rattle.rows.specs.declared.LaneRow.{LaneRow}
use Rattle.rows.specs.declared.ZoneRow.{ZoneRow}
use Rattle.rows.proofs.Lay.{row-outside, word-of-row}
use Rattle.rows.proofs.Tables.{length-flat, row-of-table}
use Rattle.rows.proofs.Forms.{Form, segment, lane, zone}
use Rattle.fill.specs.Resolve.{Look}
use Rattle.references.specs.Finding.{no_segment_of, no_lane_of, no_zone_of, look_in, look_of}

zeros : (k x : ℕ) → ◌≡◌ {A = ℕ} (get_or (replicate k 0) x 0) 0
zeros zero x = refl
zeros (suc k) zero = refl
zeros (suc k) (suc x) = zeros k x

-- word j of row i, by the words of the rows; 0 behind the last row
module _ {R : Type 0} (stride : ℕ) (words : R → List ℕ) (some : 0 < stride) (long : (v : R) → length (words v) ≡ stride) (n : ℕ) (rs : List R) (room : length rs * stride ≤ n) where
  abbrev table : List ℕ
  table = table_of 0 words n rs

  word-behind : (i j : ℕ) → length rs ≤ i → j < stride → get_or (row_at stride table i) j 0 ≡ 0
  unfolding table_of
  word-behind i j h l = go (ltb i (rows_of (length table) stride)) refl
    where
      go : (b : Bool) → ltb i (rows_of (length table) stride) ≡ b → get_or (row_at stride table i) j 0 ≡ 0
      go false q = ap (λ (w : List ℕ). get_or w j 0) (row-outside stride table i (ltb-false i (rows_of (length table) stride) q))
      go true q =
          let f = length-flat stride words some long rs in
          let m = mul-le-mul_right stride h in
          let k : i * stride + j ≡ length (flat words rs) + (i * stride + j - length (flat words rs)) = omega arith in
          word-of-row stride table i j 0 (ltb-true i (rows_of (length table) stride) q) l
          ∙ ap (λ (x : ℕ). get_or table x 0) k
          ∙ get_or-append-add (flat words rs) (replicate (n - length (flat words rs)) 0) (i * stride + j - length (flat words rs)) 0
          ∙ zeros (n - length (flat words rs)) (i * stride + j - length (flat words rs))

  -- a column that is word j
  pub column-read : (column : R → ℕ) (j : ℕ) (d : R) → j < stride → ((v : R) → get_or (words v) j 0 ≡ column v) → column d ≡ 0 → (i : ℕ) → get_or (row_at stride table i) j 0 ≡ column (get_or rs i d)
  column-read column j d l is none i = go (ltb i (length rs)) refl
    where
      go : (b : Bool) → ltb i (length rs) ≡ b → get_or (row_at stride table i) j 0 ≡ column (get_or rs i d)
      go true q = ap (λ (w : List ℕ). get_or w j 0) (row-of-table stride words some long 0 n rs i d room (ltb-true i (length rs) q)) ∙ is (get_or rs i d)
      go false q = let h = ltb-false i (length rs) q in word-behind i j h l ∙ sym (ap column (get_or-eq_default rs d h) ∙ none)

module _ (a b c : ℕ) (ss : List SegmentRow) (ls : List LaneRow) (zs : List ZoneRow) (room-s : length ss * 4 ≤ a) (room-l : length ls * 5 ≤ b) (room-z : length zs * 6 ≤ c) where
  pub look-read : look_in (table_of 0 segment_words_of a ss) (table_of 0 lane_words_of b ls) (table_of 0 zone_words_of c zs) ≡ look_of ss ls zs
  look-read = λ p. record {
    first_lane = λ i. column-read 4 segment_words_of segment.some segment.long a ss room-s (λ v. v.first_lane) 0 no_segment_of (omega arith) (λ v. refl) refl i p;
    lanes = λ i. column-read 4 segment_words_of segment.some segment.long a ss room-s (λ v. v.lanes) 1 no_segment_of (omega arith) (λ v. refl) refl i p;
    lane_point = λ i. column-read 5 lane_words_of lane.some lane.long b ls room-l (λ v. v.first_point) 0 no_lane_of (omega arith) (λ v. refl) refl i p;
    lane_points = λ i. column-read 5 lane_words_of lane.some lane.long b ls room-l (λ v. v.points) 1 no_lane_of (omega arith) (λ v. refl) refl i p;
    zone_point = λ i. column-read 6 zone_words_of zone.some zone.long c zs room-z (λ v. v.first_point) 0 no_zone_of (omega arith) (λ v. refl) refl i p;
    zone_points = λ i. column-read 6 zone_words_of zone.some zone.long c zs room-z (λ v. v.points) 1 no_zone_of (omega arith) (λ v. refl) refl i p;
  }
