-- The loops that put a list: what is put behind what is out is all that is told. Assumes nothing.
use mathlib.Core.Path.{◌≡◌, refl, sym, ap, ◌∙◌}
use mathlib.Core.List.{List, [], ◌∷◌, map}
use mathlib.Core.Bool.{Bool, true, false, not}
use Prim.Native.Nat.{ℕ, suc, ◌+◌, ◌-◌, ◌≤◌, ◌<◌}
use native.Mathlib.Omega.{arith}
use lib.ListN.{length, take, drop}
use lib.Dec.{ltb}
use borrow.Author.Tests.{ltb-false}
use Rattle.terms.specs.Ascii.{Bytes, ascii}
use Rattle.terms.specs.Words.{pick}
use Rattle.terms.proofs.Tests.{clash}
use Rattle.scan.specs.Reach.{reach, stops_by}
use Rattle.scan.specs.declared.Until.TheVariants.{Byte}
use Rattle.line.specs.Lines.{lines_of}
use Rattle.number.specs.Decimal.{decimal}
use Rattle.number.specs.declared.Id.{Id}
use Rattle.refusal.specs.Size.{most}
use Rattle.refusal.proofs.Sized.{too_long, not_too-long}
use Rattle.output.specs.Pen.{Pen, put, Wrote}
use Rattle.units.specs.Made.{within}
use Rattle.units.proofs.Ranges.{inside}
use Rattle.fill.specs.FirstFaults.{is_among}
use Rattle.marks.specs.Marks.{Marks, is_marked_of, mark_all}
use Rattle.marks.proofs.Seen.{Marked, all_marked}
use Rattle.expected_law.specs.Expected.{entries, goals}
use Rattle.expected_law.specs.Telling.{points_words, told}
use Rattle.find_line.specs.FoundLines.{rndf_line_kind_of}
use Rattle.expected_references.specs.Listing.{element, listing_end, listing}
use Rattle.expected_references.specs.Named.{number_on_of, point_of, no_id, kept_id_of, ends_part_of, parts_from, low_in_of, entries_in, checkpoint_numbers, goals_in, is_part_of, with_part_of, parts_behind, ids_in, limit_ids, ids_behind}
use Rattle.expected_references.proofs.Listed.{one-put, told_entries, told-goals}
use Rattle.expected_references.proofs.Steps.{part-hit, part-pass, number-hit, number-pass, no_part, no_number}

-- ## The whole
module _ (s : Bytes) where
  pub goals-whole : length s ≤ most → listing (ascii "may stand here: a checkpoint of the RNDF: ") (ascii "may stand here: nothing, for the RNDF has no checkpoint") 0 (map decimal (checkpoint_numbers (lines_of s))) ≡ told (goals (goals_in s))
  unfolding goals_in
  goals-whole h = told-goals (checkpoint_numbers (lines_of s)) ∙ ap (λ (l : List ℕ). told (goals l)) (sym (not_too-long s [] (checkpoint_numbers (lines_of s)) h))

  pub goals-none : most < length s → ascii "may stand here: nothing, for the RNDF has no checkpoint" ≡ told (goals (goals_in s))
  unfolding goals_in told ascii
  goals-none h = ap (λ (l : List ℕ). told (goals l)) (sym (too_long s [] (checkpoint_numbers (lines_of s)) h))

  pub entries-whole : (line low : ℕ) → low ≡ low_in_of s line → length s ≤ most → listing (ascii "may stand here: ") (ascii "may stand here: ") 0 (map points_words (parts_from low no_id (lines_of s))) ≡ told (entries (entries_in s line))
  unfolding entries_in
  entries-whole line low e h = rw e (told_entries (parts_from (low_in_of s line) no_id (lines_of s)) ∙ ap (λ l. told (entries l)) (sym (not_too-long s [] (parts_from (low_in_of s line) no_id (lines_of s)) h)))

  pub entries_none : (line : ℕ) → most < length s → ascii "may stand here: " ≡ told (entries (entries_in s line))
  unfolding entries_in listing listing_end
  entries_none line h = told_entries [] ∙ ap (λ l. told (entries l)) (sym (too_long s [] (parts_from (low_in_of s line) no_id (lines_of s)) h))

-- ## A line more
module _ (head none : Bytes) (s : Bytes) (from e : ℕ) (h : from < length s) (q : e ≡ reach (stops_by (Byte 10)) s from) (p : Pen) (i : ℕ) where
  abbrev line : Bytes
  line = take (e - from) (drop from s)

  pub goal-put : {r : Pen} (kind n : ℕ) → kind ≡ rndf_line_kind_of line → kind ≡ 14 → n ≡ number_on_of 2 line → Wrote p (element head i (decimal n)) r
      → put r (listing head none (i + 1) (map decimal (checkpoint_numbers (lines_of (drop (e + 1) s))))) ≡ put p (listing head none i (map decimal (checkpoint_numbers (lines_of (drop from s)))))
  goal-put {r} kind n k t m u =
      one-put head none i (decimal n) (map decimal (checkpoint_numbers (lines_of (drop (e + 1) s)))) u
      ∙ ap (λ (l : List ℕ). put p (listing head none i (map decimal l))) (ap (λ (a : ℕ). a ∷ checkpoint_numbers (lines_of (drop (e + 1) s))) m ∙ sym (number-hit s from e h q (sym k ∙ t)))

  pub goal-passed : (kind : ℕ) → kind ≡ rndf_line_kind_of line → (kind ≡ 14 → ⊥)
      → put p (listing head none i (map decimal (checkpoint_numbers (lines_of (drop (e + 1) s))))) ≡ put p (listing head none i (map decimal (checkpoint_numbers (lines_of (drop from s)))))
  goal-passed kind k t = ap (λ (l : List ℕ). put p (listing head none i (map decimal l))) (sym (number-pass s from e h q (λ (z : rndf_line_kind_of line ≡ 14). t (k ∙ z))))

  module _ (low : ℕ) (last kept : Id) (k : kept ≡ kept_id_of last line) (ends : Bool) (b : ends ≡ ends_part_of low line) where
    pub part-put : {r : Pen} → ends ≡ true → Wrote p (element head i (points_words (point_of kept))) r
        → put r (listing head none (i + 1) (map points_words (parts_from low kept (lines_of (drop (e + 1) s))))) ≡ put p (listing head none i (map points_words (parts_from low last (lines_of (drop from s)))))
    part-put t u =
        one-put head none i (points_words (point_of kept)) (map points_words (parts_from low kept (lines_of (drop (e + 1) s)))) u
        ∙ ap (λ l. put p (listing head none i (map points_words l))) (ap (λ (a : Id). point_of a ∷ parts_from low a (lines_of (drop (e + 1) s))) k ∙ sym (part-hit s from e h q low last (sym b ∙ t)))

    pub part-passed : ends ≡ false → put p (listing head none i (map points_words (parts_from low kept (lines_of (drop (e + 1) s))))) ≡ put p (listing head none i (map points_words (parts_from low last (lines_of (drop from s)))))
    part-passed t = ap (λ l. put p (listing head none i (map points_words l))) (ap (λ (a : Id). parts_from low a (lines_of (drop (e + 1) s))) k ∙ sym (part-pass s from e h q low last (sym b ∙ t)))

-- ## Behind the last line
module _ (head none : Bytes) (s : Bytes) (from : ℕ) (h : length s ≤ from) {p r : Pen} (i : ℕ) (u : Wrote p (listing_end none i) r) where
  pub goals-done : put p (listing head none i (map decimal (checkpoint_numbers (lines_of (drop from s))))) ≡ r
  unfolding listing
  goals-done = ap (λ (l : List ℕ). put p (listing head none i (map decimal l))) (no_number s from h) ∙ u.is

  pub parts-done : (low : ℕ) (last : Id) → put p (listing head none i (map points_words (parts_from low last (lines_of (drop from s))))) ≡ r
  unfolding listing
  parts-done low last = ap (λ l. put p (listing head none i (map points_words l))) (no_part s from h low last) ∙ u.is

-- ## Ids
not_so : (b : Bool) → not b ≡ true → b ≡ false
not_so true e = clash (sym e)
not_so false e = refl

so : (b : Bool) → not b ≡ false → b ≡ true
so true e = refl
so false e = clash e

parts-few : (n : ℕ) (lines : List Bytes) → n ≤ 32768 → parts_behind n lines ≤ 32768
unfolding parts_behind with_part_of
parts-few n [] h = h
parts-few n (l ∷ lines) h = parts-few (with_part_of n l) lines (go (is_part_of l) (ltb 32767 n) refl)
  where
    go : (x y : Bool) → ltb 32767 n ≡ y → pick y n (pick x (suc n) n) ≤ 32768
    go x true e = h
    go true false e = omega (arith, ltb-false 32767 n e)
    go false false e = h

pub ids-few : (rndf : Bytes) → ids_in rndf ≤ 32768
unfolding ids_in
ids-few rndf = parts-few 0 (lines_of rndf) (omega arith)

-- the marks that the limits before a line leave
pub limits-marked : (mdf : Bytes) (line : ℕ) (cleared marks : Marks) → Marked [] cleared → marks ≡ mark_all cleared (limit_ids (take (line - 1) (lines_of mdf))) → Marked (limit_ids (take (line - 1) (lines_of mdf))) marks
limits-marked mdf line cleared marks M e = rw e (all_marked [] (limit_ids (take (line - 1) (lines_of mdf))) cleared M)

module _ (head none : Bytes) (given : List ℕ) (marks : Marks) (M : Marked given marks) (id last : ℕ) (h : id < last) (few : last ≤ 32768) (p : Pen) (i : ℕ) where
  tells : is_marked_of marks (id + 1) ≡ is_among (suc id) given
  tells =
      let n : id + 1 ≡ suc id = omega arith in
      let w : within 1 (suc id) ≡ true = inside {low = 1} {n = suc id} (record { low = omega arith; high = omega arith }) in
      M.tells (id + 1) ∙ rw (n, w) refl

  one_less : last - id ≡ suc (last - (id + 1))
  one_less = omega arith

  pub id-put : {r : Pen} (marked : Bool) → marked ≡ is_marked_of marks (id + 1) → not marked ≡ true → Wrote p (element head i (decimal (id + 1))) r
      → put r (listing head none (i + 1) (map decimal (ids_behind given (id + 1) (last - (id + 1))))) ≡ put p (listing head none i (map decimal (ids_behind given id (last - id))))
  unfolding ids_behind
  id-put marked m t u =
      let n : suc id ≡ id + 1 = omega arith in
      let f : is_among (suc id) given ≡ false = sym tells ∙ sym m ∙ not_so marked t in
      let k : ids_behind given id (last - id) ≡ (id + 1) ∷ ids_behind given (id + 1) (last - (id + 1)) = ap (ids_behind given id) one_less ∙ rw (f, n) refl in
      one-put head none i (decimal (id + 1)) (map decimal (ids_behind given (id + 1) (last - (id + 1)))) u ∙ ap (λ (l : List ℕ). put p (listing head none i (map decimal l))) (sym k)

  pub id-passed : (marked : Bool) → marked ≡ is_marked_of marks (id + 1) → not marked ≡ false
      → put p (listing head none i (map decimal (ids_behind given (id + 1) (last - (id + 1))))) ≡ put p (listing head none i (map decimal (ids_behind given id (last - id))))
  unfolding ids_behind
  id-passed marked m t =
      let n : suc id ≡ id + 1 = omega arith in
      let f : is_among (suc id) given ≡ true = sym tells ∙ sym m ∙ so marked t in
      let k : ids_behind given id (last - id) ≡ ids_behind given (id + 1) (last - (id + 1)) = ap (ids_behind given id) one_less ∙ rw (f, n) refl in
      ap (λ (l : List ℕ). put p (listing head none i (map decimal l))) (sym k)

pub ids-done : (head none : Bytes) (given : List ℕ) (id last : ℕ) → last ≤ id → {p r : Pen} (i : ℕ) → Wrote p (listing_end none i) r → put p (listing head none i (map decimal (ids_behind given id (last - id)))) ≡ r
unfolding listing ids_behind
ids-done head none given id last h {p} i u =
    let z : last - id ≡ 0 = omega arith in
    ap (λ (k : ℕ). put p (listing head none i (map decimal (ids_behind given id k)))) z ∙ u.is
