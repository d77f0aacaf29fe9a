-- The row that a record tells to code is the one that the law reads there; and the next record stands where the law says. Assumes nothing.
use mathlib.Core.Path.{◌≡◌, refl, sym, ap, ◌∙◌}
use mathlib.Core.List.{List}
use mathlib.Core.Bool.{true}
use Prim.Native.Nat.{ℕ, ◌+◌, ◌/◌, ◌%◌, ◌≤◌}
use native.Mathlib.Omega.{arith}
use lib.ListN.{length, take, drop, length-drop}
use lib.Seq.{drop-drop}
use Rattle.terms.specs.Ascii.{Bytes}
use Rattle.units.specs.Made.{feet, checkpoint_number_of}
use Rattle.room.specs.Room.{fitted}
use Rattle.replies.specs.Replies.{longest}
use Rattle.table_words.specs.Shown.{shown_segment, shown_lane, shown_zone, shown_spot, shown_point, shown_checkpoint, shown_stop, shown_exit}
use Rattle.law_tables.proofs.SameRows.{start_of, length-of}
use Rattle.packed_rows.specs.Points.{four_at_of}
use Rattle.unpackings.proofs.Cutting.{Kind}
use Rattle.unpackings.proofs.Rows.{at, segment-back, lane-back, zone-back, spot_back, point-back, checkpoint-back, exit-back}
use Rattle.packed_tables.proofs.Numbers.{value}
use Rattle.packed_tables.proofs.Reading.{read}
use Rattle.packed_tables.proofs.Records.{Small, sizes, here, whole-size}
use Rattle.packed_tables.proofs.Whole.{segment-kinds, lane-kinds, zone-kinds, spot-kinds, point-kinds, checkpoint-kinds, stop-kinds, exit-kinds}
use Rattle.unpacked_rows.specs.Told.{upper, lower, signed, name_told, segment_told_of, lane_told_of, zone_told_of, spot_told_of, point_told_of, checkpoint_told_of, stop_told_of, exit_told_of, behind, behind_sized, behind_segment_of, behind_zone_of}
use Rattle.unpacked_rows.proofs.Storing.{steps}
use Rattle.unpacked_tables.proofs.Fields.{Halves, Word, word_on, left_over, here-inside, name-so}

module _ (b : Bytes) (small : Small b) where
  -- ## Where the next one stands
  next-so : (ks : List Kind) (place size : ℕ) → here ks (drop place b) ≡ true → size ≡ whole-size ks (drop place b) → behind (length b) place size ≡ place + whole-size ks (drop place b)
  next-so ks place size h e =
      let i = here-inside ks (drop place b) h in
      let d = length-drop place b in
      sym (steps (length b) place size (omega arith)) ∙ ap (λ (k : ℕ). place + k) e

  -- ## Lanes, spots, points, checkpoints, stops and exits: records of one size
  pub lane-so : (place : ℕ) → here lane-kinds (drop place b) ≡ true → shown_lane (lane-back (read (place + 2) lane-kinds (drop 2 (drop place b)))) ≡ lane_told_of b place
  unfolding read sizes lane_told_of
  lane-so place h =
      let l = drop place b in
      let i = here-inside lane-kinds l h in
      let n = length-drop 2 l in let m = length-drop 4 (drop 2 l) in
      let a = word_on b small place (place + 2) 2 l refl (omega arith) (omega arith) in
      let c = word_on b small (place + 2) (place + 6) 4 (drop 2 l) a.stands (omega arith) (omega arith) in
      let d = word_on b small (place + 6) (place + 8) 2 (drop 4 (drop 2 l)) c.stands (omega arith) (omega arith) in
      let points = sym c.parts.front ∙ ap upper (sym c.is) in
      let width = sym c.parts.back ∙ ap lower (sym c.is) in
      let left = sym d.parts.third ∙ ap (λ (w : ℕ). w / 256 % 256) (sym d.is) in
      let right = sym d.parts.fourth ∙ ap (λ (w : ℕ). w % 256) (sym d.is) in
      λ i. record { first_point = sym a.is i; points = points i; width = feet (width i); left = left i; right = right i }

  pub lane-next : (place : ℕ) → here lane-kinds (drop place b) ≡ true → behind_sized 12 b place ≡ place + whole-size lane-kinds (drop place b)
  unfolding sizes
  lane-next place h = next-so lane-kinds place 12 h (omega arith)

  pub spot-so : (place : ℕ) → here spot-kinds (drop place b) ≡ true → shown_spot (spot_back (read (place + 2) spot-kinds (drop 2 (drop place b)))) ≡ spot_told_of b place
  unfolding read sizes spot_told_of
  spot-so place h =
      let l = drop place b in
      let i = here-inside spot-kinds l h in
      let n = length-drop 2 l in
      let a = word_on b small place (place + 2) 2 l refl (omega arith) (omega arith) in
      let c = word_on b small (place + 2) (place + 4) 2 (drop 2 l) a.stands (omega arith) (omega arith) in
      let width = ap (λ (x : Bytes). value (take 2 x)) (sym (drop-drop 2 2 (drop 2 l))) ∙ sym c.parts.back ∙ ap lower (sym c.is) in
      λ i. record { first_point = sym a.is i; width = feet (width i) }

  pub spot_next : (place : ℕ) → here spot-kinds (drop place b) ≡ true → behind_sized 8 b place ≡ place + whole-size spot-kinds (drop place b)
  unfolding sizes
  spot_next place h = next-so spot-kinds place 8 h (omega arith)

  pub point-so : (place : ℕ) → here point-kinds (drop place b) ≡ true → shown_point (point-back (read (place + 2) point-kinds (drop 2 (drop place b)))) ≡ point_told_of b place
  unfolding read sizes point_told_of
  point-so place h =
      let l = drop place b in
      let i = here-inside point-kinds l h in
      let n = length-drop 2 l in
      let a = word_on b small place (place + 2) 2 l refl (omega arith) (omega arith) in
      let c = word_on b small (place + 2) (place + 6) 4 (drop 2 l) a.stands (omega arith) (omega arith) in
      let north = ap signed (sym a.is) in
      let east = ap signed (sym c.is) in
      λ i. record { latitude = north i; longitude = east i }

  pub point-next : (place : ℕ) → here point-kinds (drop place b) ≡ true → behind_sized 10 b place ≡ place + whole-size point-kinds (drop place b)
  unfolding sizes
  point-next place h = next-so point-kinds place 10 h (omega arith)

  pub checkpoint-so : (place : ℕ) → here checkpoint-kinds (drop place b) ≡ true → shown_checkpoint (checkpoint-back (read (place + 2) checkpoint-kinds (drop 2 (drop place b)))) ≡ checkpoint_told_of b place
  unfolding read sizes checkpoint_told_of
  checkpoint-so place h =
      let l = drop place b in
      let i = here-inside checkpoint-kinds l h in
      let n = length-drop 2 l in
      let a = word_on b small place (place + 2) 2 l refl (omega arith) (omega arith) in
      let c = word_on b small (place + 2) (place + 4) 2 (drop 2 l) a.stands (omega arith) (omega arith) in
      let number = sym a.parts.front ∙ ap upper (sym a.is) in
      λ i. record { number = checkpoint_number_of (number i); point = sym c.is i }

  pub checkpoint-next : (place : ℕ) → here checkpoint-kinds (drop place b) ≡ true → behind_sized 8 b place ≡ place + whole-size checkpoint-kinds (drop place b)
  unfolding sizes
  checkpoint-next place h = next-so checkpoint-kinds place 8 h (omega arith)

  pub stop-so : (place : ℕ) → here stop-kinds (drop place b) ≡ true → shown_stop (at 0 (read (place + 2) stop-kinds (drop 2 (drop place b)))) ≡ stop_told_of b place
  unfolding read sizes stop_told_of
  stop-so place h =
      let l = drop place b in
      let i = here-inside stop-kinds l h in
      let a = word_on b small place (place + 2) 2 l refl (omega arith) (omega arith) in
      λ i. record { point = sym a.is i }

  pub stop-next : (place : ℕ) → here stop-kinds (drop place b) ≡ true → behind_sized 6 b place ≡ place + whole-size stop-kinds (drop place b)
  unfolding sizes
  stop-next place h = next-so stop-kinds place 6 h (omega arith)

  pub exit-so : (place : ℕ) → here exit-kinds (drop place b) ≡ true → shown_exit (exit-back (read (place + 2) exit-kinds (drop 2 (drop place b)))) ≡ exit_told_of b place
  unfolding read sizes exit_told_of
  exit-so place h =
      let l = drop place b in
      let i = here-inside exit-kinds l h in
      let n = length-drop 2 l in
      let a = word_on b small place (place + 2) 2 l refl (omega arith) (omega arith) in
      let c = word_on b small (place + 2) (place + 6) 4 (drop 2 l) a.stands (omega arith) (omega arith) in
      λ i. record { point = sym a.is i; entry = sym c.is i }

  pub exit-next : (place : ℕ) → here exit-kinds (drop place b) ≡ true → behind_sized 10 b place ≡ place + whole-size exit-kinds (drop place b)
  unfolding sizes
  exit-next place h = next-so exit-kinds place 10 h (omega arith)

  -- ## Segments and zones: a name stands last
  pub segment_next : (place : ℕ) → here segment-kinds (drop place b) ≡ true → behind_segment_of b place ≡ place + whole-size segment-kinds (drop place b)
  unfolding sizes behind_segment_of
  segment_next place h =
      let l = drop place b in
      let i = here-inside segment-kinds l h in
      let n = length-drop 2 l in
      let a = word_on b small place (place + 2) 2 l refl (omega arith) (omega arith) in
      let c = word_on b small (place + 2) (place + 6) 4 (drop 2 l) a.stands (omega arith) (omega arith) in
      let size : lower (four_at_of b (place + 6)) ≡ value (take 2 (drop 2 (drop 4 (drop 2 l)))) = ap lower c.is ∙ c.parts.back in
      next-so segment-kinds place (10 + lower (four_at_of b (place + 6))) h (omega arith)

  pub zone_next : (place : ℕ) → here zone-kinds (drop place b) ≡ true → behind_zone_of b place ≡ place + whole-size zone-kinds (drop place b)
  unfolding sizes behind_zone_of
  zone_next place h =
      let l = drop place b in
      let i = here-inside zone-kinds l h in
      let n = length-drop 2 l in let m = length-drop 4 (drop 2 l) in let k = length-drop 2 (drop 4 (drop 2 l)) in
      let a = word_on b small place (place + 2) 2 l refl (omega arith) (omega arith) in
      let c = word_on b small (place + 2) (place + 6) 4 (drop 2 l) a.stands (omega arith) (omega arith) in
      let d = word_on b small (place + 6) (place + 8) 2 (drop 4 (drop 2 l)) c.stands (omega arith) (omega arith) in
      let e = word_on b small (place + 8) (place + 12) 4 (drop 2 (drop 4 (drop 2 l))) d.stands (omega arith) (omega arith) in
      let size : lower (four_at_of b (place + 12)) ≡ value (take 2 (drop 2 (drop 4 (drop 2 (drop 4 (drop 2 l)))))) = ap lower e.is ∙ e.parts.back in
      next-so zone-kinds place (16 + lower (four_at_of b (place + 12))) h (omega arith)

  module _ (few : length b ≤ longest) where
    pub segment-so : (place : ℕ) → here segment-kinds (drop place b) ≡ true → shown_segment start_of length-of (segment-back (read (place + 2) segment-kinds (drop 2 (drop place b)))) ≡ segment_told_of b place
    unfolding read sizes segment_told_of
    segment-so place h =
        let l = drop place b in
        let whole = length-drop place b in
        let i = here-inside segment-kinds l h in
        let n = length-drop 2 l in let m = length-drop 4 (drop 2 l) in let k = length-drop 2 (drop 4 (drop 2 l)) in let j = length-drop 2 (drop 2 (drop 4 (drop 2 l))) in
        let a = word_on b small place (place + 2) 2 l refl (omega arith) (omega arith) in
        let c = word_on b small (place + 2) (place + 6) 4 (drop 2 l) a.stands (omega arith) (omega arith) in
        let size = value (take 2 (drop 2 (drop 4 (drop 2 l)))) in
        let lanes = sym c.parts.front ∙ ap upper (sym c.is) in
        let name = name-so (place + 2 + 4 + 2) (place + 10) size (drop 2 (drop 2 (drop 4 (drop 2 l)))) (omega arith) (omega arith) (omega arith) ∙ ap (name_told (fitted (place + 10))) (sym c.parts.back ∙ ap lower (sym c.is)) in
        λ i. record { first_lane = sym a.is i; lanes = lanes i; name = name i }

    pub zone-so : (place : ℕ) → here zone-kinds (drop place b) ≡ true → shown_zone start_of length-of (zone-back (read (place + 2) zone-kinds (drop 2 (drop place b)))) ≡ zone_told_of b place
    unfolding read sizes zone_told_of
    zone-so place h =
        let l = drop place b in
        let whole = length-drop place b in
        let i = here-inside zone-kinds l h in
        let x8 = drop 2 (drop 4 (drop 2 l)) in
        let size = value (take 2 (drop 2 (drop 4 x8))) in
        let n = left_over 2 (14 + size) l (omega arith) in let m = left_over 4 (10 + size) (drop 2 l) (omega arith) in let k = left_over 2 (8 + size) (drop 4 (drop 2 l)) (omega arith) in
        let j = left_over 4 (4 + size) x8 (omega arith) in let q = left_over 2 (2 + size) (drop 4 x8) (omega arith) in let r = left_over 2 size (drop 2 (drop 4 x8)) (omega arith) in
        let a = word_on b small place (place + 2) 2 l refl (omega arith) (omega arith) in
        let c = word_on b small (place + 2) (place + 6) 4 (drop 2 l) a.stands (omega arith) (omega arith) in
        let d = word_on b small (place + 6) (place + 8) 2 (drop 4 (drop 2 l)) c.stands (omega arith) (omega arith) in
        let e = word_on b small (place + 8) (place + 12) 4 x8 d.stands (omega arith) (omega arith) in
        let points = sym c.parts.front ∙ ap upper (sym c.is) in
        let spots = sym e.parts.front ∙ ap upper (sym e.is) in
        let name = name-so (place + 2 + 4 + 2 + 4 + 2) (place + 16) size (drop 2 (drop 2 (drop 4 x8))) (omega arith) (omega arith) (omega arith) ∙ ap (name_told (fitted (place + 16))) (sym e.parts.back ∙ ap lower (sym e.is)) in
        λ i. record { first_point = sym a.is i; points = points i; first_spot = sym d.is i; spots = spots i; name = name i }
