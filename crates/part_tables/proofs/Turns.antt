-- Rows next in turn, by their numbers: what lanes leave is what lies behind the row that code finds. Assumes nothing.
use mathlib.Core.Path.{◌≡◌, refl, sym, ap, subst, ◌∙◌}
use mathlib.Core.List.{List, [], ◌∷◌}
use mathlib.Core.Bool.{Bool, true, false, ◌&&◌}
use Prim.Native.Nat.{ℕ, zero, suc, ◌+◌, ◌-◌, ◌≤◌}
use native.Mathlib.Omega.{arith}
use lib.Dec.{leb, ltb}
use lib.ListN.{drop}
use Rattle.terms.specs.Ascii.{Bytes}
use Rattle.terms.specs.Words.{pick}
use Rattle.grammar.specs.Tables.{LaneRow}
use Rattle.row_network.specs.Consistent.{Running, within, own, others, behind}
use Rattle.packed_rows.specs.Fixed.{record_here}
use Rattle.packed_rows.proofs.FixedLaws.{here-inside}
use Rattle.packed_parts.specs.Parts.{own_point, next_row, first-at, points_at, lanes_take}
use Rattle.packed_parts.proofs.PartLaws.{row_inside}
use Rattle.packed_tables.proofs.Records.{Small, all_here, records-read, both_true}
use Rattle.packed_tables.proofs.Whole.{lane-kinds}
use Rattle.part_tables.proofs.Listed.{listed}
use Rattle.part_tables.proofs.Fields.{lane-is}
use Rattle.part_tables.proofs.Lanes.{lane-rows-told, lanes-cons, lanes_here}

within-so : (p size q : ℕ) → within p size q ≡ own_point p size q
unfolding own_point
within-so p size q = go (leb p q)
  where
    go : (x : Bool) → (x && ltb q (p + size)) ≡ pick x (ltb q (p + size)) false
    go true = refl
    go false = refl

more_rows : (key : ℕ → ℕ) (p size k i : ℕ) → next_row key p size (suc k) i ≡ pick (own_point p size (key i)) (next_row key p size k (i + 1)) i
unfolding next_row
more_rows key p size k i = refl

no_rows : (key : ℕ → ℕ) (p size i : ℕ) → next_row key p size 0 i ≡ i
unfolding next_row
no_rows key p size i = refl

-- ## One part
module _ {B : Type 0} (key : B → ℕ) (f : ℕ → B) (p size : ℕ) where
  abbrev next : (k i : ℕ) → ℕ
  next k i = next_row (λ j. key (f j)) p size k i

  pub others-listed : (k i : ℕ) → others key p size (listed f i k) ≡ listed f (next k i) (i + k - next k i)
  others-listed zero i = let e = no_rows (λ j. key (f j)) p size i in let d : 0 ≡ i + 0 - next 0 i = omega arith in λ x. listed f (sym e x) (d x)
  others-listed (suc k) i = go (own_point p size (key (f i))) (within-so p size (key (f i))) (more_rows (λ j. key (f j)) p size k i) (others-listed k (i + 1))
    where
      go : (x : Bool) → within p size (key (f i)) ≡ x → next (suc k) i ≡ pick x (next k (i + 1)) i → others key p size (listed f (i + 1) k) ≡ listed f (next k (i + 1)) (i + 1 + k - next k (i + 1)) → pick (within p size (key (f i))) (others key p size (listed f (i + 1) k)) (f i ∷ listed f (i + 1) k) ≡ listed f (next (suc k) i) (i + suc k - next (suc k) i)
      go true w e more =
          let d : i + 1 + k - next k (i + 1) ≡ i + suc k - next (suc k) i = omega arith in
          ap (λ (t : Bool). pick t (others key p size (listed f (i + 1) k)) (f i ∷ listed f (i + 1) k)) w ∙ more ∙ (λ x. listed f (sym e x) (d x))
      go false w e more =
          let d : suc k ≡ i + suc k - next (suc k) i = omega arith in
          ap (λ (t : Bool). pick t (others key p size (listed f (i + 1) k)) (f i ∷ listed f (i + 1) k)) w ∙ (λ x. listed f (sym e x) (d x))

  pub own-listed : (k i : ℕ) → own key p size (listed f i k) ≡ listed f i (next k i - i)
  own-listed zero i = let e = no_rows (λ j. key (f j)) p size i in let d : 0 ≡ next 0 i - i = omega arith in ap (listed f i) d
  own-listed (suc k) i = go (own_point p size (key (f i))) (within-so p size (key (f i))) (more_rows (λ j. key (f j)) p size k i) (own-listed k (i + 1)) (row_inside (λ j. key (f j)) p size k (i + 1)).0
    where
      go : (x : Bool) → within p size (key (f i)) ≡ x → next (suc k) i ≡ pick x (next k (i + 1)) i → own key p size (listed f (i + 1) k) ≡ listed f (i + 1) (next k (i + 1) - (i + 1)) → i + 1 ≤ next k (i + 1) → pick (within p size (key (f i))) (f i ∷ own key p size (listed f (i + 1) k)) [] ≡ listed f i (next (suc k) i - i)
      go true w e more l =
          let d : suc (next k (i + 1) - (i + 1)) ≡ next (suc k) i - i = omega arith in
          ap (λ (t : Bool). pick t (f i ∷ own key p size (listed f (i + 1) k)) []) w ∙ ap (λ (y : List B). f i ∷ y) more ∙ ap (listed f i) d
      go false w e more l =
          let d : 0 ≡ next (suc k) i - i = omega arith in
          ap (λ (t : Bool). pick t (f i ∷ own key p size (listed f (i + 1) k)) []) w ∙ ap (listed f i) d

  -- of a table of n rows
  pub others-left : (n i : ℕ) → i ≤ n → others key p size (listed f i (n - i)) ≡ listed f (next (n - i) i) (n - next (n - i) i)
  others-left n i h = let d : i + (n - i) - next (n - i) i ≡ n - next (n - i) i = omega arith in others-listed (n - i) i ∙ ap (listed f (next (n - i) i)) d

  pub next-most : (n i : ℕ) → i ≤ n → next (n - i) i ≤ n
  next-most n i h = let r = (row_inside (λ j. key (f j)) p size (n - i) i).1 in omega arith

-- ## All lanes
more-taken : (key : ℕ → ℕ) (n k : ℕ) (b : Bytes) (at i : ℕ) → lanes_take key n (suc k) b at i ≡ lanes_take key n k b (at + 12) (next_row key (first-at b at) (points_at b at) (n - i) i)
unfolding lanes_take
more-taken key n k b at i = refl

none-taken : (key : ℕ → ℕ) (n : ℕ) (b : Bytes) (at i : ℕ) → i ≡ lanes_take key n 0 b at i
unfolding lanes_take
none-taken key n b at i = refl

none-behind : {B : Type 0} (key : B → ℕ) (p place : ℕ) (b : Bytes) (l : List B) → behind key p (lane-rows-told place 0 b) l ≡ l
unfolding records-read
none-behind key p place b l = refl

-- THE LAW of packed_parts::taken
module _ {B : Type 0} (key : B → ℕ) (f : ℕ → B) (n : ℕ) (b : Bytes) (s : Small b) where
  abbrev taken : (k at i : ℕ) → ℕ
  taken k at i = lanes_take (λ j. key (f j)) n k b at i

  pub behind-listed : (place k at p i : ℕ) → i ≤ n → all_here k lane-kinds (drop at b) ≡ true → Running (λ (r : LaneRow). r.first_point_of) (λ r. r.points) p (lane-rows-told place k (drop at b))
      → (behind key p (lane-rows-told place k (drop at b)) (listed f i (n - i)) ≡ listed f (taken k at i) (n - taken k at i)) × (taken k at i ≤ n)
  behind-listed place zero at p i h e o =
      let z = none-taken (λ j. key (f j)) n b at i in
      (none-behind key p place (drop at b) (listed f i (n - i)) ∙ (λ x. listed f (z x) (n - z x)), omega arith)
  behind-listed place (suc k) at p i h e o =
      let u = both_true (record_here 10 (drop at b)) (all_here k lane-kinds (drop (at + 12) b)) (sym (lanes_here k b at) ∙ e) in
      let inside = here-inside b at 10 u.0 in
      let is = lane-is b s (place + 2) at (omega arith) in
      let rest = lane-rows-told (place + 12) k (drop (at + 12) b) in
      let list = lanes-cons place k b at ∙ ap (λ (r : LaneRow). r ∷ rest) is in
      let run = subst (Running (λ (r : LaneRow). r.first_point_of) (λ r. r.points) p) list o in
      let j = next_row (λ j. key (f j)) p (points_at b at) (n - i) i in
      let more = behind-listed (place + 12) k (at + 12) (p + points_at b at) j (next-most key f p (points_at b at) n i h) u.1 run.1 in
      let same : taken k (at + 12) j ≡ taken (suc k) at i = ap (λ (q : ℕ). taken k (at + 12) (next_row (λ j. key (f j)) q (points_at b at) (n - i) i)) (sym run.0) ∙ sym (more-taken (λ j. key (f j)) n k b at i) in
      let most = more.1 in (
        ap (λ (l : List LaneRow). behind key p l (listed f i (n - i))) list
            ∙ ap (behind key (p + points_at b at) rest) (others-left key f p (points_at b at) n i h)
            ∙ more.0
            ∙ (λ x. listed f (same x) (n - same x)),
        omega arith,
      )
