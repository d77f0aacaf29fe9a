-- The place behind the lines before the wanted one: the reading walk answers it, whatever it gathers, and the column is the wanted line's there. Assumes nothing.
use Rattle.std.specs.Prelude.{Some, None, Option}
use mathlib.Core.Path.{◌≡◌, refl, sym, ap, ◌∙◌}
use mathlib.Core.List.{List, [], ◌∷◌}
use mathlib.Core.Bool.{Bool, true, false}
use mathlib.Core.Logic.{◌⊎◌, inl, inr}
use Prim.Native.Nat.{ℕ, suc, ◌+◌, ◌-◌, ◌≤◌, ◌<◌}
use native.Mathlib.Omega.{arith}
use lib.Seq.{take_all}
use lib.ListN.{length, take, drop, length-drop, length-take}
use lib.Dec.{eqb, ltb}
use Rattle.terms.specs.Ascii.{Bytes}
use Rattle.terms.specs.Words.{pick}
use Rattle.scan.specs.Reach.{reach, stops_by}
use Rattle.scan.specs.declared.Until.TheVariants.{Byte}
use Rattle.scan.proofs.Reach.{reach_le}
use Rattle.line.specs.Lines.{lines_of}
use Rattle.line.proofs.Cuts.{lines_at, lines_end}
use Rattle.grammar.specs.Editions.{march}
use Rattle.grammar.specs.PlaceTable.{rndf_table_of}
use Rattle.statement.specs.declared.Statement.{Statement}
use Rattle.place.specs.declared.Place.{Place}
use Rattle.place.specs.Step.{first_place}
use Rattle.judge.specs.Judging.{Got, bad, blank, said, line}
use Rattle.judge.specs.RndfLine.{rndf_judging}
use Rattle.edition_judge.specs.EditionLine.{bars_of, judging_in}
use Rattle.edition_judge.proofs.Lines.{bar_got, line-so}
use Rattle.walk.specs.Standing.{place}
use Rattle.network.specs.Storing.{Memory}
use Rattle.network.specs.Reading.{put}
use Rattle.network.specs.Reaching as R
use Rattle.network.specs.Reaching.{WalkEnd, stopped, reached, reaching, reached_in}
use Rattle.refusal.specs.Size.{most}
use Rattle.refusal.proofs.Sized.{not_too-long}
use Rattle.columns.specs.Locating.{onward, line_columns}
use Rattle.columns.specs.RndfColumns.{rndf_wrong, rndf_line_column, rndf_column_in}
use Rattle.columns.proofs.Bounds.{column-small}
use Rattle.column.specs.Before.{lines_before, lines_from, bytes_before, place_on, place_after_of, place_behind_of, place_before_of, column_behind}
use Rattle.column.proofs.Lines.{lines-before, lines-from}

-- ## The reading walk
-- the present edition bars nothing
all-had : (g : Got Statement Place) → bar_got march g ≡ g
unfolding bars_of
all-had (bad n) = refl
all-had blank = refl
all-had (said s q) = refl

same_line : (l : Bytes) (start : ℕ) (p : Place) → line (judging_in march) l start p ≡ line rndf_judging l start p
same_line l start p = line-so march l start p ∙ all-had (line rndf_judging l start p)

-- what is gathered is forgotten
abbrev pub standing : WalkEnd → Option Place
standing (stopped i n) = None
standing (reached p m i) = Some p

after-so : (ls : List Bytes) (p : Place) (m : Memory) (start i : ℕ) → standing (reaching march p m start i ls) ≡ place_after_of p start ls
unfolding reaching place_after_of
after-so [] p m start i = refl
after-so (l ∷ ls) p m start i = rw (same_line l start p) (go (line rndf_judging l start p) (λ q d. after-so ls q d (start + suc (length l)) (suc i)))
  where
    go : (g : Got Statement Place) → ((q : Place) (d : Memory) → standing (reaching march q d (start + suc (length l)) (suc i) ls) ≡ place_after_of q (start + suc (length l)) ls)
        → standing (R.goes (place start i l) p m g (λ q d. reaching march q d (start + suc (length l)) (suc i) ls)) ≡ place_on p g (λ q. place_after_of q (start + suc (length l)) ls)
    go (bad n) f = refl
    go blank f = f p m
    go (said s q) f = f q (put (place start i l) s m)

pub behind-so : (text : Bytes) (m : Memory) → standing (reached_in march text m) ≡ place_behind_of text
unfolding reached_in place_behind_of
behind-so text m = go (ltb most (length text))
  where
    go : (b : Bool) → standing (pick b (stopped 0 1) (reaching march first_place m 0 1 (lines_of text))) ≡ pick b None (place_after_of first_place 0 (lines_of text))
    go true = refl
    go false = after-so (lines_of text) first_place m 0 1

-- ## The wanted line
columns-so : (ls : List Bytes) (p : Place) (start j i n : ℕ) → line_columns rndf_judging rndf_wrong p start j i n ls ≡ column_behind n (place_after_of p start (lines_before j i ls)) (lines_from j i ls)
unfolding line_columns column_behind place_after_of lines_before lines_from
columns-so [] p start j i n = refl
columns-so (l ∷ ls) p start j i n = go (eqb j i) (λ q. columns-so ls q (start + suc (length l)) (suc j) i n)
  where
    Later : Type 0
    Later = (q : Place) → line_columns rndf_judging rndf_wrong q (start + suc (length l)) (suc j) i n ls ≡ column_behind n (place_after_of q (start + suc (length l)) (lines_before (suc j) i ls)) (lines_from (suc j) i ls)

    by : (g : Got Statement Place) → Later
        → onward rndf_judging rndf_wrong p g (λ q. line_columns rndf_judging rndf_wrong q (start + suc (length l)) (suc j) i n ls) ≡ column_behind n (place_on p g (λ q. place_after_of q (start + suc (length l)) (lines_before (suc j) i ls))) (lines_from (suc j) i ls)
    by (bad k) f = refl
    by blank f = f p
    by (said s q) f = f q

    go : (x : Bool) → Later
        → pick x (rndf_line_column rndf_table_of l p n) (onward rndf_judging rndf_wrong p (line rndf_judging l start p) (λ q. line_columns rndf_judging rndf_wrong q (start + suc (length l)) (suc j) i n ls)) ≡ column_behind n (place_after_of p start (pick x [] (l ∷ lines_before (suc j) i ls))) (pick x (l ∷ ls) (lines_from (suc j) i ls))
    go true f = refl
    go false f = by (line rndf_judging l start p) f

module _ (s : Bytes) (w n from : ℕ) (size : length s ≤ most) (starts : from ≡ bytes_before 1 w (lines_of s)) where
  -- THE COLUMN
  pub column-there : column_behind n (place_behind_of (take from s)) (lines_of (drop from s)) ≡ rndf_column_in s w n
  unfolding rndf_column_in place_behind_of
  column-there =
      let short : length (take from s) ≤ most = omega (arith, length-take from s) in
      sym (not_too-long s 0 (line_columns rndf_judging rndf_wrong first_place 0 1 w n (lines_of s)) size
      ∙ columns-so (lines_of s) first_place 0 1 w n
      ∙ rw (lines-before s w from starts, lines-from s w from starts) (ap (λ (x : Option Place). column_behind n x (lines_of (drop from s))) (sym (not_too-long (take from s) None (place_after_of first_place 0 (lines_of (take from s))) short))))

  pub no_line : length s ≤ from → 0 ≡ rndf_column_in s w n
  unfolding column_behind
  no_line h = sym (go (place_behind_of (take from s))) ∙ column-there
    where
      go : (x : Option Place) → column_behind n x (lines_of (drop from s)) ≡ 0
      go None = refl
      go (Some p) = rw (lines_end s from h) refl

-- ## The place before a line
-- `stop` cuts the text before it; where there is no such line, behind all of them
pub before-so : (s : Bytes) (w from stop : ℕ) → length s ≤ most → from ≡ bytes_before 1 w (lines_of s) → (stop ≡ from) ⊎ ((length s ≤ from) × (stop ≡ length s)) → place_behind_of (take stop s) ≡ place_before_of s w
unfolding place_before_of
before-so s w from stop size starts h = ap place_behind_of (go h ∙ ap (λ (k : ℕ). take k s) starts) ∙ sym (not_too-long s None (place_behind_of (take (bytes_before 1 w (lines_of s)) s)) size)
  where
    go : (stop ≡ from) ⊎ ((length s ≤ from) × (stop ≡ length s)) → take stop s ≡ take from s
    go (inl e) = ap (λ (k : ℕ). take k s) e
    go (inr (e, q)) = take_all stop s (omega arith) ∙ sym (take_all from s e)

-- THE PLACE: behind the lines before line w, as they stand in the text
pub place-before : (s : Bytes) (w : ℕ) → length s ≤ most → place_before_of s w ≡ place_after_of first_place 0 (lines_before 1 w (lines_of s))
unfolding place_before_of place_behind_of
place-before s w size =
    let k = bytes_before 1 w (lines_of s) in
    let short : length (take k s) ≤ most = omega (arith, length-take k s) in
    not_too-long s None _ size ∙ not_too-long (take k s) None _ short ∙ ap (place_after_of first_place 0) (sym (lines-before s w k refl))

-- the line from here on, at the place that was found
pub line_there : (s : Bytes) (from e : ℕ) → from < length s → e ≡ reach (stops_by (Byte 10)) s from → (table : List (List ℕ)) → table ≡ rndf_table_of → (n : ℕ) (p : Place) (r : ℕ) → r ≡ rndf_line_column table (take (e - from) (drop from s)) p n
    → (x : Option Place) → Some p ≡ x → r ≡ column_behind n x (lines_of (drop from s))
unfolding column_behind
line_there s from e h q table right n p r a x b = a ∙ rw (← b, lines_at s from e h q, right) refl

-- a column fits in 32 bits
pub small : (s : Bytes) (from : ℕ) → from < length s → length s ≤ most → (n : ℕ) (x : Option Place) → column_behind n x (lines_of (drop from s)) < 4294967296
unfolding column_behind
small s from h z n None = omega arith
small s from h z n (Some p) =
    let e = reach (stops_by (Byte 10)) s from in
    let l = take (e - from) (drop from s) in
    let k : e ≤ length s = reach_le (stops_by (Byte 10)) s from (omega arith) in
    let m : length l ≤ length s = omega (arith, length-take (e - from) (drop from s), length-drop from s) in
    rw (lines_at s from e h refl) (omega (arith, column-small rndf_judging rndf_wrong p n l))
