-- Executable: what the lines before one have left, and what becomes of it, by the kinds of first fields. Assumes nothing.
use Rattle.std.specs.Prelude.{List, [], ◌∷◌, Bool, true, false, not, ◌&&◌, ◌||◌, ℕ, suc, take, drop, get_or, set, replicate, eqb, leb, ltb, Some, None, Option}
use Rattle.terms.specs.Words.{Bytes, pick}
use Rattle.line.specs.Lines.{lines_of}
use Rattle.line.specs.Forms.{fields_in_of, part}
use Rattle.line.specs.declared.Span.{Span}
use Rattle.number.specs.Executable.{the_integer_of}
use Rattle.find_line.specs.FoundLines.{fields_end_of, rndf_line_kind_of}
use Rattle.mend_lines.specs.declared.Before.{Before}
use Rattle.mend_lines.specs.declared.Becomes as DM
use Rattle.mend_lines.specs.declared.Becomes.TheVariants.{Stays, Goes, Recount}

-- ## What the lines before have left
-- the kinds: segment, lane, zone, perimeter, spot
unfoldable pub opens_of : ℕ → Bool
opens_of k = eqb k 5 || (eqb k 9 || (eqb k 18 || (eqb k 22 || eqb k 25)))

-- of the file; of a lane; those that some parts may repeat; names and a spot's width
unfoldable pub option_of : ℕ → Bool
option_of k = (eqb k 3 || eqb k 4) || ((eqb k 11 || (eqb k 12 || eqb k 13)) || ((eqb k 14 || (eqb k 15 || eqb k 16)) || (eqb k 7 || (eqb k 20 || eqb k 26))))

abbrev pub no_kinds : List Bool
no_kinds = replicate 31 false

unfoldable pub none_before_of : Before
none_before_of = record { since = no_kinds; over = false }

unfoldable pub has_of : Before → ℕ → Bool
has_of b k = pick (ltb k 31) (get_or b.since k false) false

unfoldable pub with_kind_of : List Bool → ℕ → List Bool
with_kind_of since k = pick (ltb k 31) (set since k true) since

unfoldable pub after_of : Before → ℕ → Before
after_of b k = record { since = with_kind_of (pick (opens_of k) no_kinds b.since) k; over = b.over || eqb k 28 }

-- in a lane checkpoints, stops and exits; in a perimeter exits
unfoldable pub repeats_of : Before → ℕ → Bool
repeats_of b k = (has_of b 9 && (eqb k 14 || (eqb k 15 || eqb k 16))) || (has_of b 22 && eqb k 16)

unfoldable pub again_of : Before → ℕ → Bool
again_of b k = option_of k && (has_of b k && not (repeats_of b k))

-- ## Counts
unfoldable pub counted_of : ℕ → Option (ℕ × ℕ)
counted_of k = pick (eqb k 1) (Some (5, 28)) (pick (eqb k 2) (Some (18, 28)) (pick (eqb k 6) (Some (9, 8)) (pick (eqb k 10) (Some (29, 17)) (pick (eqb k 19) (Some (25, 21)) (pick (eqb k 23) (Some (29, 24)) None)))))

unfoldable pub items_of : (item end : ℕ) → List Bytes → ℕ
items_of item end [] = 0
items_of item end (l ∷ ls) = pick (eqb (rndf_line_kind_of l) end) 0 (pick (eqb (rndf_line_kind_of l) item) (suc (items_of item end ls)) (items_of item end ls))

unfoldable pub items_in : Bytes → (at item end : ℕ) → ℕ
items_in text at item end = items_of item end (lines_of (drop at text))

-- a good integer, and where it stands
abbrev pub numbered_of : Span → Option ℕ → Option (ℕ × ℕ × ℕ)
numbered_of f (Some m) = pick (leb m 32768) (Some (f.start, f.stop, m)) None
numbered_of f None = None

unfoldable pub second_number_of : Bytes → Option (ℕ × ℕ × ℕ)
second_number_of s = pick (eqb (fields_in_of s).count 2) (numbered_of (fields_in_of s).b (the_integer_of (part s (fields_in_of s).b))) None

unfoldable pub number_on_of : Bytes → Option (ℕ × ℕ × ℕ)
number_on_of l = second_number_of (take (fields_end_of l) l)

-- ## The change
unfoldable pub corrected_of : Option (ℕ × ℕ × ℕ) → ℕ → DM.Becomes
corrected_of (Some (start, stop, m)) n = pick (leb n 32768) (pick (eqb m n) Stays (Recount start stop n)) Stays
corrected_of None n = Stays

unfoldable pub behind_of : Bytes → DM.Becomes
behind_of l = pick (eqb (fields_in_of (take (fields_end_of l) l)).count 0) Stays (Goes 3)

abbrev pub corrected_by : Option (ℕ × ℕ) → Bytes → Bytes → ℕ → DM.Becomes
corrected_by (Some (item, end)) text l next = corrected_of (number_on_of l) (items_in text next item end)
corrected_by None text l next = Stays

unfoldable pub count_change_of : (text l : Bytes) (next kind : ℕ) → DM.Becomes
count_change_of text l next kind = corrected_by (counted_of kind) text l next

-- over lines: this one, and those behind it
abbrev pub counted_by : Option (ℕ × ℕ) → Bytes → List Bytes → DM.Becomes
counted_by (Some (item, end)) l ls = corrected_of (number_on_of l) (items_of item end ls)
counted_by None l ls = Stays

unfoldable pub change_of : Before → Bytes → List Bytes → DM.Becomes
change_of b l ls = pick b.over (behind_of l) (pick (again_of b (rndf_line_kind_of l)) (Goes 2) (counted_by (counted_of (rndf_line_kind_of l)) l ls))
