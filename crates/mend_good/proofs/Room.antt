-- The rows that the references need fit into two words for each line of the text: a segment, a lane and a zone have three lines of their own each, a checkpoint one. Assumes nothing.
use mathlib.Core.Path.{◌≡◌}
use mathlib.Core.List.{List, [], ◌∷◌}
use Prim.Native.Nat.{ℕ, ◌+◌, ◌*◌, ◌≤◌}
use native.Mathlib.Omega.{arith}
use lib.ListN.{length, length-append}
use Rattle.terms.specs.Words.{Bytes, InTurn, nothing, then}
use Rattle.line.specs.Content.{Field}
use Rattle.line.specs.Lines.{lines_of}
use Rattle.line.proofs.Cuts.{cut-is}
use Rattle.grammar.specs.Statements.{Statement}
use Rattle.grammar.specs.Network.{Lane, Segment, Zone, Network, Under, SpellsLane, SpellsSegment, SpellsZoneBy, SpellsNetwork}
use Rattle.grammar.specs.Tables.{tables_with, tables, point_row_of, lane_size, lane_row, the_segment_row_of, all_lanes, first_zone_point}
use Rattle.grammar.proofs.Rows.{total, length-gather}
use Rattle.text.specs.Spelling.{SpellsRndf}
use Rattle.fill.specs.Counts.{sizes}
use Rattle.fill.proofs.RowLaws.{one_each, total-each}
use Rattle.fill.proofs.SizeLaws.{zone-each}
use Rattle.table_words.proofs.RowsAtMost.{said-at-most, rows-of-statements}

-- ## How many statements a part takes at least
-- parts one behind the other
in-turn-at-least : {A X : Type 0} (Sp : ℕ → A → List X → Type 0) (size : A → ℕ) → ((i : ℕ) (a : A) (u : List X) → Sp i a u → size a ≤ length u) → {i : ℕ} {xs : List A} {w : List X} → InTurn Sp i xs w → total size xs ≤ length w
in-turn-at-least Sp size h nothing = omega arith
in-turn-at-least Sp size h (then {i = i} {a = a} {u = u} {v = v} s t) =
    let p = h i a u s in
    let q = in-turn-at-least Sp size h t in
    let l = length-append u v in
    omega arith

module _ {N : Type 0} where
  lane-three : (m n : ℕ) (a : Lane) (l : List (Statement N)) → SpellsLane m n a l → 3 ≤ length l
  lane-three m n a l s = rw s.spelled (simp length-append (omega arith))

  abbrev lanes_of : Segment N → ℕ
  lanes_of a = length a.lanes

  segment-three : (m : ℕ) (a : Segment N) (l : List (Statement N)) → SpellsSegment m a l → 3 + 3 * lanes_of a ≤ length l
  segment-three m a l s =
      let t = in-turn-at-least (SpellsLane m) (λ a. 3) (lane-three m) s.each in
      let c = total-each 3 a.lanes in
      rw s.spelled (simp length-append (omega arith))

  zone-three : (by : Under) (m : ℕ) (a : Zone N) (l : List (Statement N)) → SpellsZoneBy by m a l → 3 ≤ length l
  zone-three by m a l s = rw s.spelled (simp length-append (omega arith))

  segments-three : (l : List (Segment N)) → total (λ a. 3 + 3 * lanes_of a) l ≡ 3 * length l + 3 * total lanes_of l
  segments-three [] = omega arith
  segments-three (a ∷ l) = let h = segments-three l in omega arith

  -- of statements that spell a network, three for each segment, lane and zone
  pub three-each : (n : Network N) (u : List (Statement N)) → SpellsNetwork n u → (sizes (tables n)).segments * 3 + (sizes (tables n)).lanes * 3 + (sizes (tables n)).zones * 3 ≤ length u
  unfolding tables_with
  three-each n u s =
      let a = one_each lanes_of the_segment_row_of 0 n.segments in
      let b = one_each lane_size lane_row 0 (all_lanes n) in
      let c = zone-each (first_zone_point n) 0 n.zones in
      let d = length-gather (λ (a : Segment N). a.lanes) n.segments in
      let e = in-turn-at-least SpellsSegment (λ a. 3 + 3 * lanes_of a) segment-three s.each_segment in
      let f = segments-three n.segments in
      let g = in-turn-at-least (SpellsZoneBy _) (λ a. 3) (zone-three _) s.each_zone in
      let h = total-each 3 n.zones in
      let both : length s.segments + length s.zones ≤ length u = rw s.spelled (simp length-append (omega arith)) in
      omega arith

-- so in a text
pub parts-fit : (n : Network Field) (text : Bytes) → SpellsRndf n text → (sizes (tables n)).segments * 4 + (sizes (tables n)).lanes * 5 + (sizes (tables n)).zones * 6 ≤ length (lines_of text) * 2
parts-fit n text s =
    let a = three-each n s.said s.net in
    let b = said-at-most _ s.each in
    rw (cut-is s.made) (omega arith)

pub checkpoints-fit : (n : Network Field) (text : Bytes) → SpellsRndf n text → (sizes (tables n)).checkpoints ≤ length (lines_of text)
checkpoints-fit n text s =
    let b = said-at-most _ s.each in
    rw (cut-is s.made) (rows-of-statements (point_row_of n) n s.said s.net (length s.lines) b).checkpoints
