-- The items of a count line, for the loop that looks ahead: a line of it, and its end; and the change of a line, as the program finds it. Assumes nothing.
use Rattle.std.specs.Prelude.{Some, None, Option}
use mathlib.Core.Path.{◌≡◌, refl, sym, ap, ◌∙◌}
use mathlib.Core.Bool.{Bool, true, false}
use Prim.Native.Nat.{ℕ, suc, ◌+◌, ◌-◌, ◌≤◌, ◌<◌}
use lib.ListN.{length, take, drop}
use lib.Dec.{eqb}
use Rattle.terms.specs.Words.{List, Bytes, pick}
use Rattle.scan.specs.Reach.{reach, stops_by}
use Rattle.scan.specs.declared.Until.TheVariants.{Byte}
use Rattle.line.specs.Lines.{lines_of}
use Rattle.line.proofs.Cuts.{lines_at, lines_end}
use Rattle.find_line.specs.FoundLines.{rndf_line_kind_of}
use Rattle.mend_lines.specs.declared.Before.{Before}
use Rattle.mend_lines.specs.declared.Becomes as DM
use Rattle.mend_lines.specs.declared.Becomes.TheVariants.{Goes}
use Rattle.mend_lines.specs.Forward.{items_of, items_in, again_of, behind_of, counted_of, corrected_by, counted_by, count_change_of, change_of}

module _ (s : Bytes) (item end : ℕ) where
  pub an_item : (from e : ℕ) → from < length s → e ≡ reach (stops_by (Byte 10)) s from
      → items_in s from item end ≡ pick (eqb (rndf_line_kind_of (take (e - from) (drop from s))) end) 0 (pick (eqb (rndf_line_kind_of (take (e - from) (drop from s))) item) (suc (items_in s (e + 1) item end)) (items_in s (e + 1) item end))
  unfolding items_in items_of
  an_item from e h q = rw (lines_at s from e h q) refl

  pub no_item : (from : ℕ) → length s ≤ from → items_in s from item end ≡ 0
  unfolding items_in items_of
  no_item from h = rw (lines_end s from h) refl

-- by the text and by its lines
pub counted-ahead : (s l : Bytes) (next : ℕ) (x : Option (ℕ × ℕ)) → corrected_by x s l next ≡ counted_by x l (lines_of (drop next s))
unfolding items_in
counted-ahead s l next (Some (item, end)) = refl
counted-ahead s l next None = refl

-- ## The change of a line l, behind which the text goes on at `next`: k, its kind; x, whether it is an option given again
module _ (s l : Bytes) (next : ℕ) (b : Before) (going : b.over ≡ false) (k : ℕ) (x : Bool) (p : k ≡ rndf_line_kind_of l) (a : x ≡ again_of b k) where
  abbrev ls : List Bytes
  ls = lines_of (drop next s)

  at_line : change_of b l ls ≡ pick x (Goes 2) (counted_by (counted_of k) l ls)
  unfolding change_of
  at_line =
      let g = ap (again_of b) (sym p) ∙ sym a in
      let c = ap (λ (n : ℕ). counted_by (counted_of n) l ls) (sym p) in
      λ i. pick (going i) (behind_of l) (pick (g i) (Goes 2) (c i))

  pub goes-again : x ≡ true → Goes 2 ≡ change_of b l ls
  goes-again t = sym (at_line ∙ ap (λ (y : Bool). pick y (Goes 2) (counted_by (counted_of k) l ls)) t)

  pub else-counts : x ≡ false → (r : DM.Becomes) → r ≡ count_change_of s l next k → r ≡ change_of b l ls
  unfolding count_change_of
  else-counts t r c = c ∙ counted-ahead s l next (counted_of k) ∙ sym (at_line ∙ ap (λ (y : Bool). pick y (Goes 2) (counted_by (counted_of k) l ls)) t)
