-- What is put for a part's checkpoints are their features, each with its comma; the walk over the rows then stands behind them. Assumes nothing.
use mathlib.Core.Path.{◌≡◌, refl, sym, ap, ◌∙◌}
use mathlib.Core.List.{List, [], ◌∷◌, ◌++◌, map, map-append, append_assoc}
use Prim.Native.Nat.{ℕ, zero, suc, pred, ◌+◌, ◌-◌, ◌≤◌, ◌<◌, min}
use native.Mathlib.Omega.{arith}
use native.Mathlib.Numerals.{add-one}
use lib.ListN.{length, length-map, take, drop}
use lib.IntN.{ℤ}
use Rattle.terms.specs.Ascii.{Bytes, ascii}
use Rattle.terms.specs.Words.{Each, Between}
use Rattle.number.specs.Decimal.{decimal}
use Rattle.number.specs.House.{house_integer, house_triple}
use Rattle.rows.specs.Read.{point_at_of, checkpoint_at_of}
use Rattle.filled_rows.specs.From.{From}
use Rattle.filled_rows.proofs.From.{from_parts}
use Rattle.law.specs.Network.{Position, Checkpoint, GoodCheckpoint}
use Rattle.law.specs.Tables.{gather}
use Rattle.grammar.specs.Tables.{CheckpointRow, checkpoint_row}
use Rattle.grammar.proofs.Rows.{each-of_map}
use Rattle.terms.proofs.Lists.{each_map}
use Rattle.table_words.specs.Shown.{shown_point, shown_checkpoint}
use Rattle.output.specs.Pen.{put}
use Rattle.features.specs.Drawn.{each, comma_from, checkpoint, walk, part_end, checkpoint_from, part_checkpoints, walk_to, part_walk}
use Rattle.features.proofs.Loops.{end-here, end-further, end-last}
use Rattle.map_law.specs.Map as Map
use Rattle.map_tables.specs.Marked.{marks}
use Rattle.map_tables.specs.Passed.{Passes}
use Rattle.map_tables.proofs.Marks.{marks-later}
use Rattle.map_tables.proofs.Shapes.{position-is}
use Rattle.map_tables.proofs.Features.{checkpoint-numbered}

-- ## One checkpoint
-- the k-th of these points, counted from 0
point_at : (ps : List ℤ) (first k : ℕ) (l : List Position) → k < length l → From (point_at_of ps) first (map shown_point l) → (p : Position) × (take 1 (drop k l) ≡ p ∷ []) × (point_at_of ps (first + k) ≡ shown_point p)
point_at ps first k [] h f = absurd (omega arith)
point_at ps first zero (p ∷ l) h f = let e : first + 0 ≡ first = omega arith in (p, refl, ap (point_at_of ps) e ∙ f.0)
point_at ps first (suc k) (p ∷ l) h f =
    let e : first + suc k ≡ suc first + k = omega arith in
    let r = point_at ps (suc first) k l (omega arith) f.1 in
    (r.0, r.1, ap (point_at_of ps) e ∙ r.2)

-- a waypoint's place in its part, told from its row
placed : (first w : ℕ) → 1 ≤ w → w ≤ 32768 → min (0 + (first + pred w - first) + 1) 4294967295 ≡ w
placed first zero h k = absurd (omega arith)
placed first (suc w) h k = omega arith

before : (w size : ℕ) → 1 ≤ w → w ≤ size → pred w < size
before zero size h k = absurd (omega arith)
before (suc w) size h k = omega arith

one-is : (ps : List ℤ) (m n first : ℕ) (c : Checkpoint) (p : Position) → Between 1 32768 c.waypoint → point_at_of ps (first + pred c.waypoint) ≡ shown_point p
    → checkpoint ps m n first (shown_checkpoint (checkpoint_row first c)) ≡ ascii "," ++ Map.feature "checkpoint" (m ∷ n ∷ c.waypoint ∷ []) (Map.member "number" (decimal c.number) ∷ []) (Map.point p)
unfolding checkpoint house_integer
one-is ps m n first c p b e =
    (λ i. ascii ",{\"type\":\"Feature\",\"geometry\":{\"type\":\"Point\",\"coordinates\":" ++ position-is ps (first + pred c.waypoint) p e i ++ ascii "},\"properties\":{\"kind\":\"checkpoint\",\"id\":\"" ++ house_triple m n (placed first c.waypoint b.low b.high i) ++ ascii "\",\"number\":" ++ decimal c.number ++ ascii "}}")
    ∙ checkpoint-numbered m n c.waypoint p (decimal c.number)

-- ## Those of a part m.n that has these points, from row `first` on, and may have a checkpoint on its waypoints from `lowest` on
module _ (ps : List ℤ) (cps : List ℕ) (m n first : ℕ) (l : List Position) (few : length l ≤ 32768) (points : From (point_at_of ps) first (map shown_point l)) (lowest : ℕ) (from_one : 1 ≤ lowest) where
  part-are : (next : ℕ) (cs : List Checkpoint) → Each (GoodCheckpoint lowest (length l)) cs → From (checkpoint_at_of cps) next (map shown_checkpoint (map (checkpoint_row first) cs))
      → each (checkpoint_from ps cps m n first) next (length cs) ≡ marks 1 (gather (Map.checkpoint_feature m n l) cs)
  unfolding each checkpoint_from marks comma_from
  part-are next [] good rows = refl
  part-are next (c ∷ cs) good rows =
      let w = good.0.waypoint in
      let from = w.low in
      let low : 1 ≤ c.waypoint = omega arith in
      let high = w.high in
      let at = point_at ps first (pred c.waypoint) l (before c.waypoint (length l) low high) points in
      let f = Map.feature "checkpoint" (m ∷ n ∷ c.waypoint ∷ []) (Map.member "number" (decimal c.number) ∷ []) (Map.point at.0) in
      let rest = part-are (suc next) cs good.1 rows.1 in
      let others = gather (Map.checkpoint_feature m n l) cs in
      (λ i. (ap (checkpoint ps m n first) rows.0 ∙ one-is ps m n first c at.0 (record { low = low; high = omega arith }) at.2) i ++ rest i)
      ∙ append_assoc (ascii ",") f (marks 1 others)
      ∙ ap (λ (x : Bytes). ascii "," ++ (f ++ x)) (sym (marks-later 1 others))
      ∙ ap (λ (x : List Position). marks 1 (map (λ p. Map.feature "checkpoint" (m ∷ n ∷ c.waypoint ∷ []) (Map.member "number" (decimal c.number) ∷ []) (Map.point p)) x ++ others)) (sym at.1)

  -- there are `count` rows in all; the part's own end where the first row stands that is not before the part's end
  module _ (count : ℕ) where
    ends : (behind next : ℕ) (own others : List CheckpointRow) → count ≡ next + length (own ++ others) → From (checkpoint_at_of cps) next (map shown_checkpoint (own ++ others)) → Each (λ r. r.point < behind) own → Each (λ r. behind ≤ r.point) others
        → part_end cps behind next (count - next) ≡ next + length own
    ends behind next [] [] c rows low high = end-last cps behind next count (omega arith) ∙ (let e : next ≡ next + 0 = omega arith in e)
    ends behind next [] (r ∷ others) c rows low high =
        let e = ap (λ x. x.point) rows.0 in
        let h = high.0 in
        end-here cps behind next count (omega arith) (omega arith) ∙ (let e : next ≡ next + 0 = omega arith in e)
    ends behind next (r ∷ own) others c rows low high =
        let e = ap (λ x. x.point) rows.0 in
        let h = low.0 in
        sym (end-further cps behind next count (omega arith) (omega arith))
        ∙ ap (λ (j : ℕ). part_end cps behind j (count - j)) (add-one next)
        ∙ ends behind (suc next) own others (omega arith) rows.1 low.1 high
        ∙ (let e : suc next + length own ≡ next + suc (length own) = omega arith in e)

    -- THE LAW: the walk over a part
    pub part-walked : (cs : List Checkpoint) → Each (GoodCheckpoint lowest (length l)) cs → Passes cps count (part_walk ps cps count m n first (length l)) (first + length l) (map (checkpoint_row first) cs) (gather (Map.checkpoint_feature m n l) cs)
    unfolding part_walk walk_to part_checkpoints
    part-walked cs good p next others left high =
        let own = map (checkpoint_row first) cs in
        let parts = from_parts (checkpoint_at_of cps) next (map shown_checkpoint own) (map shown_checkpoint others) (rw (sym (map-append shown_checkpoint own others)) left.read) in
        let low = each-of_map (λ r. r.point < first + length l) (checkpoint_row first) cs
        (each_map (GoodCheckpoint lowest (length l)) (λ c. first + pred c.waypoint < first + length l) (λ c g. let from = g.waypoint.low in let k = before c.waypoint (length l) (omega arith) g.waypoint.high in omega arith) cs good) in
        let long : next + length own - next ≡ length cs = (let k = length-map cs (checkpoint_row first) in omega arith) in
        ap (λ (e : ℕ). walk (put p (each (checkpoint_from ps cps m n first) next (e - next))) e) (ends (first + length l) next own others left.all left.read low high)
        ∙ ap (λ (k : ℕ). walk (put p (each (checkpoint_from ps cps m n first) next k)) (next + length own)) long
        ∙ ap (λ (x : Bytes). walk (put p x) (next + length own)) (part-are next cs good parts.0)
