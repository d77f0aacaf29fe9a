-- The pass over segments (packed_frame::segments_at): it says that every record has its length, lanes are in range, each first lane is the sum so far, and names are names. Assumes nothing.
use Rattle.std.specs.Prelude.{Some}
use mathlib.Core.Path.{◌≡◌, refl, sym, ap, subst, ◌∙◌}
use mathlib.Core.List.{List, [], ◌∷◌, map}
use mathlib.Core.Option.{Option, none, some}
use mathlib.Core.Bool.{true}
use Prim.Native.Nat.{ℕ, ◌+◌}
use native.Mathlib.Omega.{arith}
use lib.ListN.{take, drop}
use Rattle.terms.specs.Ascii.{Bytes}
use Rattle.terms.specs.Words.{Each, Between}
use Rattle.line.specs.Content.{Field}
use Rattle.law.specs.Tables.{total}
use Rattle.grammar.specs.Network.{largest}
use Rattle.grammar.specs.Tables.{SegmentRow}
use Rattle.unpackings.proofs.Cutting.{of_size}
use Rattle.unpackings.proofs.Rows.{segment-back}
use Rattle.row_network.specs.Consistent.{Running}
use Rattle.packed_rows.specs.Points.{four_at_of}
use Rattle.packed_tables.proofs.Numbers.{value}
use Rattle.packed_tables.proofs.Reading.{named-at, read}
use Rattle.packed_tables.proofs.Records.{here, all_here, after, place_after, records-read}
use Rattle.packed_tables.proofs.Whole.{segment-kinds}
use Rattle.packed_frame.specs.Names.{two_at, named_end}
use Rattle.packed_frame.specs.Segments.{segment_end_of, segment_next, segments, segments_told}
use Rattle.packed_frame.proofs.RowLaws.{segment_told_of, segment-is}
use Rattle.frame_tables.proofs.Fields.{AreNames, third-field, first-number, second-number, Fits, fits-so, so-fits, here-named, FoundNamed, found-so, found_all}
use Rattle.frame_tables.proofs.Passes.{InRow, behind-rows, OneRow, pass-so, pass_all}

-- ## One segment
-- what is asked of a row, and what is known behind it: the lanes so far
record SegmentRight (sum : ℕ) (r : SegmentRow Field) : Type 0 where
  fits : Fits sum r.first_lane r.lanes
  names : AreNames r.name

abbrev lanes-behind : ℕ → SegmentRow Field → ℕ
lanes-behind sum r = sum + r.lanes

module _ (b : Bytes) (at : ℕ) where
  abbrev NameOf : ℕ → Bytes → Type 0
  NameOf place l = AreNames (named-at place (value (take 2 l)) (drop 2 l))

  module _ (sum : ℕ) where
    abbrev Row : ℕ → Type 0
    Row place = OneRow segment-kinds segment-back segment_end_of segment_next SegmentRight lanes-behind place b at sum

    -- the row, from what code found
    the_segment_row_of : (place : ℕ) → FoundNamed (of_size 4 ∷ of_size 2 ∷ []) tt b at → segment_end_of b at sum ≡ named_end 6 b at → Fits sum (value (take 4 (drop 2 (drop at b)))) (value (take 2 (drop 4 (drop 2 (drop at b))))) → Row place
    unfolding read
    the_segment_row_of place f e g =
        let i = f.inside in
        record {
          here_so = f.here_so;
          end-so = e ∙ f.end;
          right = record { fits = g; names = subst (NameOf (place + 2 + 4 + 2)) (sym (third-field b at)) (f.is_name (place + 2 + 4 + 2)) };
          next-so = ap (λ (n : ℕ). sum + n) (second-number b at (omega arith));
        }

    segment-so : (place : ℕ) → (segment_end_of b at sum ≡ 0 → ⊥) → Row place
    segment-so place h =
        let t = segment_told_of b at sum h in
        let f = found-so (of_size 4 ∷ of_size 2 ∷ []) tt b at t.1 in
        let i = f.inside in
        let g = fits-so sum (four_at_of b (at + 2)) (two_at b (at + 6)) t.0 in
        the_segment_row_of place f (sym (segment-is b at sum true (sym t.0) (named_end 6 b at) refl)) (subst (λ (n : ℕ). Fits sum n (value (take 2 (drop 4 (drop 2 (drop at b)))))) (first-number b at (omega arith)) (subst (Fits sum (four_at_of b (at + 2))) (second-number b at (omega arith)) g))

    segment-all : (place : ℕ) → here segment-kinds (drop at b) ≡ true → SegmentRight sum (segment-back (read (place + 2) segment-kinds (drop 2 (drop at b)))) → Row place
    unfolding read
    segment-all place h r =
        let w = (here-named (of_size 4 ∷ of_size 2 ∷ []) tt b at h).whole in
        let n = found_all (of_size 4 ∷ of_size 2 ∷ []) tt b at (place + 2 + 4 + 2) h (subst (NameOf (place + 2 + 4 + 2)) (third-field b at) r.names) in
        let f = found-so (of_size 4 ∷ of_size 2 ∷ []) tt b at (λ z. omega arith) in
        let g = so-fits sum (four_at_of b (at + 2)) (two_at b (at + 6)) (subst (λ (n : ℕ). Fits sum n (two_at b (at + 6))) (sym (first-number b at (omega arith))) (subst (Fits sum (value (take 4 (drop 2 (drop at b))))) (sym (second-number b at (omega arith))) r.fits)) in
        the_segment_row_of place f (sym (segment-is b at sum true (sym g) (named_end 6 b at) refl)) r.fits

-- ## The rows
abbrev Lanes : SegmentRow Field → Type 0
Lanes r = Between 1 largest r.lanes

rows-so : (sum : ℕ) (l : List (SegmentRow Field)) → InRow SegmentRight lanes-behind sum l → Each Lanes l × (Running (λ r. r.first_lane) (λ r. r.lanes) sum l × Each (λ r. AreNames r.name) l)
rows-so sum [] h = (tt, (tt, tt))
rows-so sum (r ∷ l) h =
    let m = rows-so (sum + r.lanes) l h.1 in
    ((h.0.fits.range, m.0), ((h.0.fits.begin_so, m.1.0), (h.0.names, m.1.1)))

so-rows : (sum : ℕ) (l : List (SegmentRow Field)) → Each Lanes l → Running (λ r. r.first_lane) (λ r. r.lanes) sum l → Each (λ r. AreNames r.name) l → InRow SegmentRight lanes-behind sum l
so-rows sum [] e r n = tt
so-rows sum (s ∷ l) e r n = (record { fits = record { begin_so = r.0; range = e.0 }; names = n.0 }, so-rows (sum + s.lanes) l e.1 r.1 n.1)

lanes-total : (sum : ℕ) (l : List (SegmentRow Field)) → behind-rows lanes-behind sum l ≡ sum + total (λ r. r.lanes) l
lanes-total sum [] = let e : sum ≡ sum + 0 = omega arith in e
lanes-total sum (r ∷ l) = lanes-total (sum + r.lanes) l ∙ (let e : (sum + r.lanes) + total (λ r. r.lanes) l ≡ sum + (r.lanes + total (λ r. r.lanes) l) = omega arith in e)

-- ## The pass
-- what the rows of so many records are. place: where the first is said to stand
abbrev pub segment_rows : (place k : ℕ) → Bytes → List (SegmentRow Field)
segment_rows place k x = map segment-back (records-read place k segment-kinds x)

-- end: the place behind them; lanes: how many lanes they have
pub record SegmentsSo (place k : ℕ) (b : Bytes) (at end lanes : ℕ) : Type 0 where
  pub all_so : all_here k segment-kinds (drop at b) ≡ true
  pub each : Each (λ r. Between 1 largest r.lanes) (segment_rows place k (drop at b))
  pub running : Running (λ r. r.first_lane) (λ r. r.lanes) 0 (segment_rows place k (drop at b))
  pub names : Each (λ r. AreNames r.name) (segment_rows place k (drop at b))
  pub place_so : end ≡ place_after at k segment-kinds (drop at b)
  pub left_so : drop end b ≡ after k segment-kinds (drop at b)
  pub lanes_so : lanes ≡ total (λ r. r.lanes) (segment_rows place k (drop at b))

from_told : (o : Option (ℕ × ℕ)) (end lanes : ℕ) → segments_told o ≡ Some (end, lanes) → o ≡ some (end, lanes)
from_told none end lanes e = absurd (let z : ◌≡◌ {A = ℕ} 0 1 = cc in omega arith)
from_told (some x) end lanes e = let p : x.0 ≡ end = cc in let q : x.1 ≡ lanes = cc in λ i. some (p i, q i)

-- THE LAW: what passes is so
pub segments-so : (place k : ℕ) (b : Bytes) (at end lanes : ℕ) → segments_told (segments k b at 0) ≡ Some (end, lanes) → SegmentsSo place k b at end lanes
segments-so place k b at end lanes h =
    let p = pass-so segment-kinds segment-back segment_end_of segment_next SegmentRight lanes-behind (λ place b at s. segment-so b at s place) place k b at 0 (end, lanes) (from_told (segments k b at 0) end lanes h) in
    let r = rows-so 0 (segment_rows place k (drop at b)) p.right in
    let t : 0 + total (λ r. r.lanes) (segment_rows place k (drop at b)) ≡ total (λ r. r.lanes) (segment_rows place k (drop at b)) = omega arith in
    record { all_so = p.all_so; each = r.0; running = r.1.0; names = r.1.1; place_so = p.place_so; left_so = p.left_so; lanes_so = p.known ∙ lanes-total 0 (segment_rows place k (drop at b)) ∙ t }

-- and all that is so passes
pub segments-all : (place k : ℕ) (b : Bytes) (at : ℕ) → all_here k segment-kinds (drop at b) ≡ true → Each (λ r. Between 1 largest r.lanes) (segment_rows place k (drop at b)) → Running (λ r. r.first_lane) (λ r. r.lanes) 0 (segment_rows place k (drop at b)) → Each (λ r. AreNames r.name) (segment_rows place k (drop at b))
    → segments_told (segments k b at 0) ≡ Some (place_after at k segment-kinds (drop at b), total (λ r. r.lanes) (segment_rows place k (drop at b)))
segments-all place k b at h e r n =
    let p = pass_all segment-kinds segment-back segment_end_of segment_next SegmentRight lanes-behind (λ place b at s. segment-all b at s place) place k b at 0 h (so-rows 0 (segment_rows place k (drop at b)) e r n) in
    let t : 0 + total (λ r. r.lanes) (segment_rows place k (drop at b)) ≡ total (λ r. r.lanes) (segment_rows place k (drop at b)) = omega arith in
    ap segments_told p ∙ ap ((λ z. Some ((place_after at k segment-kinds (drop at b)), z))) (lanes-total 0 (segment_rows place k (drop at b)) ∙ t)
