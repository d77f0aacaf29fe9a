-- Where each table's records stand, and that the rows told of the bytes are those read from there on: so each pass, begun at its table's place, speaks of the rows of `rows_told`. Assumes nothing.
use mathlib.Core.Path.{◌≡◌, refl, sym, ap, ◌∙◌}
use mathlib.Core.List.{List, [], ◌∷◌, map}
use mathlib.Core.Bool.{Bool, true, ◌&&◌}
use Prim.Native.Nat.{ℕ, ◌+◌, ◌*◌, ◌≤◌}
use native.Mathlib.Omega.{arith}
use lib.Dec.{leb}
use lib.ListN.{length, drop, length-drop}
use lib.Seq.{drop-drop}
use borrow.Author.Tests.{leb-true, le-leb, lt-leb}
use Rattle.terms.specs.Ascii.{Bytes}
use Rattle.packed_law.specs.Packed.{Slot}
use Rattle.unpackings.proofs.Rows.{at, lane-back, point-back, checkpoint-back, exit-back}
use Rattle.packed_tables.proofs.Records.{here, whole-size, all_here, place_after, records-read, both_true, true-both, after-place}
use Rattle.packed_tables.proofs.Whole.{Tab, tabs-here, tabs-read, file-kinds, segment-kinds, lane-kinds, zone-kinds, spot-kinds, point-kinds, checkpoint-kinds, stop-kinds, exit-kinds, tabs, file-items, from, all_right, rows_told}
use Rattle.frame_tables.proofs.Passes.{place-fixed}
use Rattle.frame_tables.proofs.Segments.{segment_rows}
use Rattle.frame_tables.proofs.Zones.{zone_rows}
use Rattle.frame_tables.proofs.Spots.{spot_rows}

-- ## Tables one behind the other, by places
-- they are all there, and nothing is left
abbrev here-from : ℕ → List Tab → Bytes → Bool
here-from p [] b = leb (length b) p
here-from p (t ∷ ts) b = all_here t.0 t.1 (drop p b) && here-from (place_after p t.0 t.1 (drop p b)) ts b

abbrev read-from : ℕ → List Tab → Bytes → List (List (List Slot))
read-from p [] b = []
read-from p (t ∷ ts) b = records-read p t.0 t.1 (drop p b) ∷ read-from (place_after p t.0 t.1 (drop p b)) ts b

nothing_left : (p : ℕ) (b l : Bytes) → drop p b ≡ l → tabs-here [] l ≡ leb (length b) p
unfolding tabs-here
nothing_left p b [] e = let d = ap (λ (l : Bytes). length l) e in let f = length-drop p b in sym (le-leb (length b) p (omega arith))
nothing_left p b (x ∷ l) e = let d = ap (λ (l : Bytes). length l) e in let f = length-drop p b in sym (lt-leb (length b) p (omega arith))

here_so : (p : ℕ) (ts : List Tab) (b : Bytes) → tabs-here ts (drop p b) ≡ here-from p ts b
unfolding tabs-here
here_so p [] b = nothing_left p b (drop p b) refl
here_so p (t ∷ ts) b = ap (λ (x : Bool). all_here t.0 t.1 (drop p b) && x) (ap (tabs-here ts) (after-place t.0 t.1 b p) ∙ here_so (place_after p t.0 t.1 (drop p b)) ts b)

read-so : (p : ℕ) (ts : List Tab) (b : Bytes) → tabs-read p ts (drop p b) ≡ read-from p ts b
unfolding tabs-read
read-so p [] b = refl
read-so p (t ∷ ts) b =
    let q = place_after p t.0 t.1 (drop p b) in
    ap (λ (x : List (List (List Slot))). records-read p t.0 t.1 (drop p b) ∷ x) (ap (tabs-read q ts) (after-place t.0 t.1 b p) ∙ read-so q ts b)

-- ## The tables of a form
module _ (b : Bytes) where
  -- the slots of the file's record, and where each table begins
  abbrev pub items : List Slot
  items = file-items (drop 5 b)

  abbrev pub segments-at : ℕ
  segments-at = 5 + whole-size file-kinds (drop 5 b)

  abbrev pub lanes_at : ℕ
  lanes_at = place_after segments-at (at 0 items) segment-kinds (drop segments-at b)

  abbrev pub zones-at : ℕ
  zones-at = place_after lanes_at (at 1 items) lane-kinds (drop lanes_at b)

  abbrev pub spots_at : ℕ
  spots_at = place_after zones-at (at 2 items) zone-kinds (drop zones-at b)

  abbrev pub points_at : ℕ
  points_at = place_after spots_at (at 3 items) spot-kinds (drop spots_at b)

  abbrev pub checkpoints-at : ℕ
  checkpoints-at = place_after points_at (at 4 items) point-kinds (drop points_at b)

  abbrev pub stops_at : ℕ
  stops_at = place_after checkpoints-at (at 5 items) checkpoint-kinds (drop checkpoints-at b)

  abbrev pub exits-at : ℕ
  exits-at = place_after stops_at (at 6 items) stop-kinds (drop stops_at b)

  abbrev pub form-end : ℕ
  form-end = place_after exits-at (at 7 items) exit-kinds (drop exits-at b)

  -- tables without names: so many bytes to a record
  pub zones-place : zones-at ≡ lanes_at + 12 * at 1 items
  zones-place = place-fixed lane-kinds tt lanes_at (at 1 items) (drop lanes_at b)

  pub points-place : points_at ≡ spots_at + 8 * at 3 items
  points-place = place-fixed spot-kinds tt spots_at (at 3 items) (drop spots_at b)

  pub checkpoints-place : checkpoints-at ≡ points_at + 10 * at 4 items
  checkpoints-place = place-fixed point-kinds tt points_at (at 4 items) (drop points_at b)

  pub stops-place : stops_at ≡ checkpoints-at + 8 * at 5 items
  stops-place = place-fixed checkpoint-kinds tt checkpoints-at (at 5 items) (drop checkpoints-at b)

  pub exits-place : exits-at ≡ stops_at + 6 * at 6 items
  exits-place = place-fixed stop-kinds tt stops_at (at 6 items) (drop stops_at b)

  pub end-place : form-end ≡ exits-at + 10 * at 7 items
  end-place = place-fixed exit-kinds tt exits-at (at 7 items) (drop exits-at b)

  behind-file-so : drop (whole-size file-kinds (drop 5 b)) (drop 5 b) ≡ drop segments-at b
  behind-file-so = drop-drop (whole-size file-kinds (drop 5 b)) 5 b

  -- THE LAW: the rows told are those read from these places on
  pub rows-so : rows_told (drop 5 b) ≡ from items (read-from segments-at (tabs items) b)
  unfolding rows_told
  rows-so = ap (from items) (ap (tabs-read segments-at (tabs items)) behind-file-so ∙ read-so segments-at (tabs items) b)

  pub segments-are : (rows_told (drop 5 b)).segments ≡ segment_rows segments-at (at 0 items) (drop segments-at b)
  segments-are = ap (λ t. t.segments) rows-so

  pub lanes-are : (rows_told (drop 5 b)).lanes ≡ map lane-back (records-read lanes_at (at 1 items) lane-kinds (drop lanes_at b))
  lanes-are = ap (λ t. t.lanes) rows-so

  pub zones-are : (rows_told (drop 5 b)).zones ≡ zone_rows zones-at (at 2 items) (drop zones-at b)
  zones-are = ap (λ t. t.zones) rows-so

  pub spots-are : (rows_told (drop 5 b)).spots ≡ spot_rows spots_at (at 3 items) (drop spots_at b)
  spots-are = ap (λ t. t.spots) rows-so

  pub points-are : (rows_told (drop 5 b)).points ≡ map point-back (records-read points_at (at 4 items) point-kinds (drop points_at b))
  points-are = ap (λ t. t.points) rows-so

  pub checkpoints-are : (rows_told (drop 5 b)).checkpoints ≡ map checkpoint-back (records-read checkpoints-at (at 5 items) checkpoint-kinds (drop checkpoints-at b))
  checkpoints-are = ap (λ t. t.checkpoints) rows-so

  pub stops-are : (rows_told (drop 5 b)).stops ≡ map (at 0) (records-read stops_at (at 6 items) stop-kinds (drop stops_at b))
  stops-are = ap (λ t. t.stops) rows-so

  pub exits-are : (rows_told (drop 5 b)).exits ≡ map exit-back (records-read exits-at (at 7 items) exit-kinds (drop exits-at b))
  exits-are = ap (λ t. t.exits) rows-so

  -- every record has its length, table by table
  pub record AllRight : Type 0 where
    pub file : here file-kinds (drop 5 b) ≡ true
    pub segments : all_here (at 0 items) segment-kinds (drop segments-at b) ≡ true
    pub lanes : all_here (at 1 items) lane-kinds (drop lanes_at b) ≡ true
    pub zones : all_here (at 2 items) zone-kinds (drop zones-at b) ≡ true
    pub spots : all_here (at 3 items) spot-kinds (drop spots_at b) ≡ true
    pub points : all_here (at 4 items) point-kinds (drop points_at b) ≡ true
    pub checkpoints : all_here (at 5 items) checkpoint-kinds (drop checkpoints-at b) ≡ true
    pub stops : all_here (at 6 items) stop-kinds (drop stops_at b) ≡ true
    pub exits : all_here (at 7 items) exit-kinds (drop exits-at b) ≡ true
    pub no_more : length b ≤ form-end

  right_is : all_right (drop 5 b) ≡ (here file-kinds (drop 5 b) && here-from segments-at (tabs items) b)
  unfolding all_right
  right_is = ap (λ (x : Bool). here file-kinds (drop 5 b) && x) (ap (tabs-here (tabs items)) behind-file-so ∙ here_so segments-at (tabs items) b)

  pub right_so : all_right (drop 5 b) ≡ true → AllRight
  right_so h =
      let u = both_true _ _ (sym right_is ∙ h) in
      let u₁ = both_true _ _ u.1 in
      let u₂ = both_true _ _ u₁.1 in
      let u₃ = both_true _ _ u₂.1 in
      let u₄ = both_true _ _ u₃.1 in
      let u₅ = both_true _ _ u₄.1 in
      let u₆ = both_true _ _ u₅.1 in
      let u₇ = both_true _ _ u₆.1 in
      let u₈ = both_true _ _ u₇.1 in
      record { file = u.0; segments = u₁.0; lanes = u₂.0; zones = u₃.0; spots = u₄.0; points = u₅.0; checkpoints = u₆.0; stops = u₇.0; exits = u₈.0; no_more = leb-true (length b) form-end u₈.1 }

  pub so_right : AllRight → all_right (drop 5 b) ≡ true
  so_right r =
      right_is ∙ true-both _ _ r.file (true-both _ _ r.segments (true-both _ _ r.lanes (true-both _ _ r.zones (true-both _ _ r.spots (true-both _ _ r.points (true-both _ _ r.checkpoints (true-both _ _ r.stops (true-both _ _ r.exits (le-leb (length b) form-end r.no_more)))))))))
