-- Fields of records, as code reads them: numbers of one, two and four bytes by a read of four. Assumes nothing.
use mathlib.Core.Path.{◌≡◌, refl, sym, ap, ◌∙◌}
use mathlib.Core.List.{[], ◌∷◌, map}
use mathlib.Core.Bool.{true}
use Prim.Native.Nat.{ℕ, ◌+◌, ◌*◌, ◌/◌, ◌%◌, ◌≤◌}
use native.Mathlib.Omega.{arith}
use lib.ListN.{length, take, drop, length-drop}
use lib.Seq.{drop-drop}
use Rattle.terms.specs.Ascii.{Bytes}
use Rattle.grammar.specs.Tables.{LaneRow, SpotRow, CheckpointRow, ExitRow}
use Rattle.unpackings.proofs.Rows.{at, lane-back, spot_back, checkpoint-back, exit-back}
use Rattle.packed_rows.specs.Points.{four_at_of}
use Rattle.packed_rows.proofs.FixedLaws.{here-inside}
use Rattle.packed_parts.specs.Parts.{first-at, points_at}
use Rattle.packed_tables.proofs.Numbers.{value, value-from}
use Rattle.packed_tables.proofs.Reading.{read}
use Rattle.packed_tables.proofs.Records.{Small, small_drop, sizes, all_here, records-read}
use Rattle.packed_tables.proofs.Whole.{lane-kinds, spot-kinds, checkpoint-kinds, stop-kinds, exit-kinds}
use Rattle.packed_tables.proofs.Fixed.{here_so}
use Rattle.packed_tables.proofs.Points.{four-value}
use Rattle.part_tables.proofs.Listed.{listed, table-listed}

-- ## Four bytes, and parts of them
first_two : (l : Bytes) → Small l → 4 ≤ length l → value (take 2 l) ≡ value (take 4 l) / 65536
unfolding value-from
first_two [] s h = absurd (omega arith)
first_two (w ∷ []) s h = absurd (omega arith)
first_two (w ∷ (x ∷ [])) s h = absurd (omega arith)
first_two (w ∷ (x ∷ (y ∷ []))) s h = absurd (omega arith)
first_two (w ∷ (x ∷ (y ∷ (z ∷ l)))) s h = let c = s.1.1.0 in let d = s.1.1.1.0 in omega arith

last-two : (l : Bytes) → Small l → 4 ≤ length l → value (take 2 (drop 2 l)) ≡ value (take 4 l) % 65536
unfolding value-from
last-two [] s h = absurd (omega arith)
last-two (w ∷ []) s h = absurd (omega arith)
last-two (w ∷ (x ∷ [])) s h = absurd (omega arith)
last-two (w ∷ (x ∷ (y ∷ []))) s h = absurd (omega arith)
last-two (w ∷ (x ∷ (y ∷ (z ∷ l)))) s h = let c = s.1.1.0 in let d = s.1.1.1.0 in omega arith

third : (l : Bytes) → Small l → 4 ≤ length l → value (take 1 (drop 2 l)) ≡ value (take 4 l) / 256 % 256
unfolding value-from
third [] s h = absurd (omega arith)
third (w ∷ []) s h = absurd (omega arith)
third (w ∷ (x ∷ [])) s h = absurd (omega arith)
third (w ∷ (x ∷ (y ∷ []))) s h = absurd (omega arith)
third (w ∷ (x ∷ (y ∷ (z ∷ l)))) s h = let c = s.1.1.0 in let d = s.1.1.1.0 in omega arith

fourth : (l : Bytes) → Small l → 4 ≤ length l → value (take 1 (drop 1 (drop 2 l))) ≡ value (take 4 l) % 256
unfolding value-from
fourth [] s h = absurd (omega arith)
fourth (w ∷ []) s h = absurd (omega arith)
fourth (w ∷ (x ∷ [])) s h = absurd (omega arith)
fourth (w ∷ (x ∷ (y ∷ []))) s h = absurd (omega arith)
fourth (w ∷ (x ∷ (y ∷ (z ∷ l)))) s h = let d = s.1.1.1.0 in omega arith

-- ## At a place. x: the bytes from there on, however they are reached
module _ (b : Bytes) (place : ℕ) (h : place + 4 ≤ length b) (x : Bytes) (e : x ≡ drop place b) where
  pub four-there : value (take 4 x) ≡ four_at_of b place
  four-there = ap (λ (l : Bytes). value (take 4 l)) e ∙ sym (four-value b place h)

  long : 4 ≤ length (drop place b)
  long = let d = length-drop place b in omega arith

  module _ (s : Small b) where
    here-small : Small (drop place b)
    here-small = small_drop place b s

    pub two-there : value (take 2 x) ≡ four_at_of b place / 65536
    two-there = ap (λ (l : Bytes). value (take 2 l)) e ∙ first_two (drop place b) here-small long ∙ ap (λ (n : ℕ). n / 65536) (sym (four-value b place h))

    pub two-behind : value (take 2 (drop 2 x)) ≡ four_at_of b place % 65536
    two-behind = ap (λ (l : Bytes). value (take 2 (drop 2 l))) e ∙ last-two (drop place b) here-small long ∙ ap (λ (n : ℕ). n % 65536) (sym (four-value b place h))

    pub third-there : value (take 1 (drop 2 x)) ≡ four_at_of b place / 256 % 256
    third-there = ap (λ (l : Bytes). value (take 1 (drop 2 l))) e ∙ third (drop place b) here-small long ∙ ap (λ (n : ℕ). n / 256 % 256) (sym (four-value b place h))

    pub fourth-there : value (take 1 (drop 1 (drop 2 x))) ≡ four_at_of b place % 256
    fourth-there = ap (λ (l : Bytes). value (take 1 (drop 1 (drop 2 l)))) e ∙ fourth (drop place b) here-small long ∙ ap (λ (n : ℕ). n % 256) (sym (four-value b place h))

-- ## The fields of a record that stands at a place
module _ (b : Bytes) (at : ℕ) where
  pub to_2 : drop 2 (drop at b) ≡ drop (at + 2) b
  to_2 = drop-drop 2 at b

  step : (k m n : ℕ) (x : Bytes) → x ≡ drop (at + k) b → k + m ≡ n → drop m x ≡ drop (at + n) b
  step k m n x e q = let p : at + k + m ≡ at + n = omega arith in ap (drop m) e ∙ drop-drop m (at + k) b ∙ ap (λ (j : ℕ). drop j b) p

  pub to_4 : drop 2 (drop 2 (drop at b)) ≡ drop (at + 4) b
  to_4 = step 2 2 4 (drop 2 (drop at b)) to_2 refl

  pub to_6 : drop 4 (drop 2 (drop at b)) ≡ drop (at + 6) b
  to_6 = step 2 4 6 (drop 2 (drop at b)) to_2 refl

  pub to_8 : drop 2 (drop 4 (drop 2 (drop at b))) ≡ drop (at + 8) b
  to_8 = step 6 2 8 (drop 4 (drop 2 (drop at b))) to_6 refl

  pub to_12 : drop 4 (drop 2 (drop 4 (drop 2 (drop at b)))) ≡ drop (at + 12) b
  to_12 = step 8 4 12 (drop 2 (drop 4 (drop 2 (drop at b)))) to_8 refl

  pub to_14 : drop 2 (drop 4 (drop 2 (drop 4 (drop 2 (drop at b))))) ≡ drop (at + 14) b
  to_14 = step 12 2 14 (drop 4 (drop 2 (drop 4 (drop 2 (drop at b))))) to_12 refl

-- ## Rows, as code reads them
abbrev pub lane_told_of : Bytes → ℕ → LaneRow
lane_told_of b at = record { first_point_of = first-at b at; points = points_at b at; width = four_at_of b (at + 6) % 65536; left = four_at_of b (at + 8) / 256 % 256; right = four_at_of b (at + 8) % 256 }

abbrev pub spot_told_of : Bytes → ℕ → SpotRow
spot_told_of b at = record { first_point_of = four_at_of b (at + 2); width = four_at_of b (at + 4) % 65536 }

abbrev pub checkpoint_told_of : Bytes → ℕ → CheckpointRow
checkpoint_told_of b at = record { number = four_at_of b (at + 2) / 65536; point = four_at_of b (at + 4) }

abbrev pub exit_told_of : Bytes → ℕ → ExitRow ℕ
exit_told_of b at = record { point = four_at_of b (at + 2); entry = four_at_of b (at + 6) }

module _ (b : Bytes) (s : Small b) (place at : ℕ) where
  pub lane-is : at + 12 ≤ length b → lane-back (read place lane-kinds (drop 2 (drop at b))) ≡ lane_told_of b at
  unfolding read
  lane-is h =
      let e1 = four-there b (at + 2) (omega arith) (drop 2 (drop at b)) (to_2 b at) in
      let e2 = two-there b (at + 6) (omega arith) (drop 4 (drop 2 (drop at b))) (to_6 b at) s in
      let e3 = two-behind b (at + 6) (omega arith) (drop 4 (drop 2 (drop at b))) (to_6 b at) s in
      let e4 = third-there b (at + 8) (omega arith) (drop 2 (drop 4 (drop 2 (drop at b)))) (to_8 b at) s in
      let e5 = fourth-there b (at + 8) (omega arith) (drop 2 (drop 4 (drop 2 (drop at b)))) (to_8 b at) s in
      λ i. record { first_point_of = e1 i; points = e2 i; width = e3 i; left = e4 i; right = e5 i }

  pub spot_is : at + 8 ≤ length b → spot_back (read place spot-kinds (drop 2 (drop at b))) ≡ spot_told_of b at
  unfolding read
  spot_is h =
      let e1 = four-there b (at + 2) (omega arith) (drop 2 (drop at b)) (to_2 b at) in
      let p : drop 4 (drop 2 (drop at b)) ≡ drop 2 (drop (at + 4) b) = to_6 b at ∙ (let q : at + 6 ≡ at + 4 + 2 = omega arith in ap (λ (j : ℕ). drop j b) q) ∙ sym (drop-drop 2 (at + 4) b) in
      let e2 = ap (λ (x : Bytes). value (take 2 x)) p ∙ two-behind b (at + 4) (omega arith) (drop (at + 4) b) refl s in
      λ i. record { first_point_of = e1 i; width = e2 i }

  pub checkpoint-is : at + 8 ≤ length b → checkpoint-back (read place checkpoint-kinds (drop 2 (drop at b))) ≡ checkpoint_told_of b at
  unfolding read
  checkpoint-is h =
      let e1 = two-there b (at + 2) (omega arith) (drop 2 (drop at b)) (to_2 b at) s in
      let e2 = four-there b (at + 4) (omega arith) (drop 2 (drop 2 (drop at b))) (to_4 b at) in
      λ i. record { number = e1 i; point = e2 i }

  pub stop_is : at + 6 ≤ length b → Rattle.unpackings.proofs.Rows.at 0 (read place stop-kinds (drop 2 (drop at b))) ≡ four_at_of b (at + 2)
  unfolding read
  stop_is h = four-there b (at + 2) (omega arith) (drop 2 (drop at b)) (to_2 b at)

  pub exit-is : at + 10 ≤ length b → exit-back (read place exit-kinds (drop 2 (drop at b))) ≡ exit_told_of b at
  unfolding read
  exit-is h =
      let e1 = four-there b (at + 2) (omega arith) (drop 2 (drop at b)) (to_2 b at) in
      let e2 = four-there b (at + 6) (omega arith) (drop 4 (drop 2 (drop at b))) (to_6 b at) in
      λ i. record { point = e1 i; entry = e2 i }

-- ## Tables, row by row
module _ (b : Bytes) (s : Small b) (place k from : ℕ) where
  pub spots-listed : all_here k spot-kinds (drop from b) ≡ true → map spot_back (records-read place k spot-kinds (drop from b)) ≡ listed (λ j. spot_told_of b (from + 8 * j)) 0 k
  unfolding sizes
  spots-listed h = table-listed spot-kinds spot_back 8 (λ b. refl) b (λ at e. let i = here-inside b at 6 (sym (here_so spot-kinds (drop at b) tt) ∙ e) in omega arith) (spot_told_of b) (λ place at h. spot_is b s place at h) place k from h

  pub checkpoints-listed : all_here k checkpoint-kinds (drop from b) ≡ true → map checkpoint-back (records-read place k checkpoint-kinds (drop from b)) ≡ listed (λ j. checkpoint_told_of b (from + 8 * j)) 0 k
  unfolding sizes
  checkpoints-listed h = table-listed checkpoint-kinds checkpoint-back 8 (λ b. refl) b (λ at e. let i = here-inside b at 6 (sym (here_so checkpoint-kinds (drop at b) tt) ∙ e) in omega arith) (checkpoint_told_of b) (λ place at h. checkpoint-is b s place at h) place k from h

  pub stops-listed : all_here k stop-kinds (drop from b) ≡ true → map (at 0) (records-read place k stop-kinds (drop from b)) ≡ listed (λ j. four_at_of b (from + 6 * j + 2)) 0 k
  unfolding sizes
  stops-listed h = table-listed stop-kinds (at 0) 6 (λ b. refl) b (λ at e. let i = here-inside b at 4 (sym (here_so stop-kinds (drop at b) tt) ∙ e) in omega arith) (λ at. four_at_of b (at + 2)) (λ place at h. stop_is b s place at h) place k from h

  pub exits-listed : all_here k exit-kinds (drop from b) ≡ true → map exit-back (records-read place k exit-kinds (drop from b)) ≡ listed (λ j. exit_told_of b (from + 10 * j)) 0 k
  unfolding sizes
  exits-listed h = table-listed exit-kinds exit-back 10 (λ b. refl) b (λ at e. let i = here-inside b at 8 (sym (here_so exit-kinds (drop at b) tt) ∙ e) in omega arith) (exit_told_of b) (λ place at h. exit-is b s place at h) place k from h
