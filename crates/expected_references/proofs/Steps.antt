-- One line of each walk over the lines of a text, for a loop: line is what stands from a place up to the next LF. Assumes nothing.
use mathlib.Core.Path.{◌≡◌, refl, ap, ◌∙◌}
use mathlib.Core.List.{List, [], ◌∷◌}
use mathlib.Core.Bool.{Bool, true, false}
use Prim.Native.Nat.{ℕ, zero, suc, ◌+◌, ◌-◌, ◌≤◌, ◌<◌}
use native.Mathlib.Omega.{arith}
use lib.ListN.{length, take, drop}
use lib.Dec.{eqb}
use borrow.Author.Tests.{eq-eqb, ne_eqb}
use Rattle.terms.specs.Ascii.{Bytes}
use Rattle.terms.specs.Words.{pick}
use Rattle.scan.specs.Reach.{reach, stops_by}
use Rattle.scan.specs.declared.Until.TheVariants.{Byte}
use Rattle.scan.proofs.Reach.{reach_le}
use Rattle.line.specs.Lines.{lines_of}
use Rattle.line.specs.Forms.{fields_in_of, SpanWithin}
use Rattle.line.specs.declared.Span.{Span}
use Rattle.line.specs.declared.Fields.{Fields}
use Rattle.line.proofs.Spans.{fields_within}
use Rattle.line.proofs.Cuts.{lines_at, lines_end}
use Rattle.number.specs.declared.Id.{Id}
use Rattle.units.proofs.Ranges.{above}
use Rattle.marks.specs.Marks.{Marks, with_mark, mark_all}
use Rattle.find_line.specs.FoundLines.{rndf_line_kind_of, mdf_line_kind_of}
use Rattle.expected_references.specs.Named.{span_of, field_on_of, number_on_of, point_of, kept_id_of, ends_part_of, parts_from, name_on, checkpoint_numbers, with_part_of, parts_behind, limit_ids}

-- ## A field lies in its line
pub span-inside : (s : Bytes) (f : Fields) (i : ℕ) → f ≡ fields_in_of s → (span : Span) → span ≡ span_of f i → SpanWithin s span
span-inside s f i e span q = rw (q, e) (go (eqb i 0) (eqb i 1))
  where
    go : (x y : Bool) → SpanWithin s (pick x (fields_in_of s).a (pick y (fields_in_of s).b (fields_in_of s).c))
    go true y = (fields_within s).first
    go false true = (fields_within s).second
    go false false = (fields_within s).third

-- ## A number that has no mark
pub no-mark : (marks : Marks) (n : ℕ) → 32768 < n → with_mark marks n ≡ marks
unfolding with_mark
no-mark marks n h = rw (above 1 n h) refl

module _ (s : Bytes) (from e : ℕ) (h : from < length s) (q : e ≡ reach (stops_by (Byte 10)) s from) where
  abbrev line : Bytes
  line = take (e - from) (drop from s)

  abbrev rest : List Bytes
  rest = lines_of (drop (e + 1) s)

  pub line-inside : (from ≤ e) × (e ≤ length s)
  line-inside = (omega arith, rw q (reach_le (stops_by (Byte 10)) s from (omega arith)))

  -- ## 12
  pub part-hit : (low : ℕ) (last : Id) → ends_part_of low line ≡ true → parts_from low last (lines_of (drop from s)) ≡ point_of (kept_id_of last line) ∷ parts_from low (kept_id_of last line) rest
  unfolding parts_from
  part-hit low last t = rw (lines_at s from e h q, t) refl

  pub part-pass : (low : ℕ) (last : Id) → ends_part_of low line ≡ false → parts_from low last (lines_of (drop from s)) ≡ parts_from low (kept_id_of last line) rest
  unfolding parts_from
  part-pass low last t = rw (lines_at s from e h q, t) refl

  -- ## 14
  pub name-hit : rndf_line_kind_of line ≡ 0 → name_on (lines_of (drop from s)) ≡ field_on_of 1 line
  unfolding name_on
  name-hit t = rw (lines_at s from e h q, eq-eqb (rndf_line_kind_of line) 0 t) refl

  pub name-pass : (rndf_line_kind_of line ≡ 0 → ⊥) → name_on (lines_of (drop from s)) ≡ name_on rest
  unfolding name_on
  name-pass t = rw (lines_at s from e h q, ne_eqb (rndf_line_kind_of line) 0 t) refl

  -- ## 15
  pub number-hit : rndf_line_kind_of line ≡ 14 → checkpoint_numbers (lines_of (drop from s)) ≡ number_on_of 2 line ∷ checkpoint_numbers rest
  unfolding checkpoint_numbers
  number-hit t = rw (lines_at s from e h q, eq-eqb (rndf_line_kind_of line) 14 t) refl

  pub number-pass : (rndf_line_kind_of line ≡ 14 → ⊥) → checkpoint_numbers (lines_of (drop from s)) ≡ checkpoint_numbers rest
  unfolding checkpoint_numbers
  number-pass t = rw (lines_at s from e h q, ne_eqb (rndf_line_kind_of line) 14 t) refl

  -- ## 16 to 18
  pub part-more : (n : ℕ) → parts_behind n (lines_of (drop from s)) ≡ parts_behind (with_part_of n line) rest
  unfolding parts_behind
  part-more n = rw (lines_at s from e h q) refl

  module _ (left : ℕ) (more : 1 < left) where
    one_fewer : take (left - 1) (lines_of (drop from s)) ≡ line ∷ take (left - 1 - 1) rest
    one_fewer =
        let n : left - 1 ≡ suc (left - 1 - 1) = omega arith in
        ap (λ (k : ℕ). take k (lines_of (drop from s))) n ∙ ap (take (suc (left - 1 - 1))) (lines_at s from e h q)

    pub limit-hit : (marks : Marks) → mdf_line_kind_of line ≡ 12 → mark_all marks (limit_ids (take (left - 1) (lines_of (drop from s)))) ≡ mark_all (with_mark marks (number_on_of 0 line)) (limit_ids (take (left - 1 - 1) rest))
    unfolding limit_ids mark_all
    limit-hit marks t = rw (one_fewer, eq-eqb (mdf_line_kind_of line) 12 t) refl

    pub limit-pass : (marks : Marks) → (mdf_line_kind_of line ≡ 12 → ⊥) → mark_all marks (limit_ids (take (left - 1) (lines_of (drop from s)))) ≡ mark_all marks (limit_ids (take (left - 1 - 1) rest))
    unfolding limit_ids
    limit-pass marks t = rw (one_fewer, ne_eqb (mdf_line_kind_of line) 12 t) refl

-- ## Behind the last line
module _ (s : Bytes) (from : ℕ) (h : length s ≤ from) where
  pub no_part : (low : ℕ) (last : Id) → parts_from low last (lines_of (drop from s)) ≡ []
  unfolding parts_from
  no_part low last = rw (lines_end s from h) refl

  pub no_name : name_on (lines_of (drop from s)) ≡ []
  unfolding name_on
  no_name = rw (lines_end s from h) refl

  pub no_number : checkpoint_numbers (lines_of (drop from s)) ≡ []
  unfolding checkpoint_numbers
  no_number = rw (lines_end s from h) refl

  pub no_more : (n : ℕ) → parts_behind n (lines_of (drop from s)) ≡ n
  unfolding parts_behind
  no_more n = rw (lines_end s from h) refl

  pub no-limit : (marks : Marks) (left : ℕ) → mark_all marks (limit_ids (take (left - 1) (lines_of (drop from s)))) ≡ marks
  unfolding limit_ids mark_all
  no-limit marks left = rw (lines_end s from h) (go (left - 1))
    where
      go : (k : ℕ) → mark_all marks (limit_ids (take k [])) ≡ marks
      go zero = refl
      go (suc k) = refl

pub no-line-left : (marks : Marks) (left : ℕ) (lines : List Bytes) → left ≤ 1 → mark_all marks (limit_ids (take (left - 1) lines)) ≡ marks
unfolding limit_ids mark_all
no-line-left marks left lines h =
    let z : left - 1 ≡ 0 = omega arith in
    rw z refl
