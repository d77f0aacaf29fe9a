-- The sentences by their cases, as the branches of the code meet them. Assumes nothing.
use mathlib.Core.Path.{◌≡◌, refl, sym, ap}
use mathlib.Core.Bool.{Bool, true, false}
use mathlib.Core.List.{List, [], ◌++◌}
use Prim.Native.Nat.{ℕ, suc, ◌+◌, ◌-◌, ◌≤◌, ◌<◌}
use native.Mathlib.Numerals.{add-one}
use native.Mathlib.Omega.{arith}
use lib.Dec.{eqb}
use lib.ListN.{length, drop, take, get_or, length-take}
use borrow.Author.Tests.{eq-eqb, ne_eqb, lt-ltb, le-ltb}
use Rattle.terms.specs.Ascii.{Bytes, ascii}
use Rattle.terms.specs.Words.{pick}
use Rattle.scan.specs.Allowed.{separates}
use Rattle.scan.specs.Reach.{up_to, reach, fails, stops_by}
use Rattle.scan.specs.declared.Until.TheVariants.{NotSeparator}
use Rattle.scan.proofs.Reach.{up_to_le}
use Rattle.line.specs.Lines.{lines_of, drop_cr}
use Rattle.number.specs.House.{house_integer}
use Rattle.counts.specs.declared.Counts.{Counts}
use Rattle.refusal.specs.declared.Refusal.{Refusal}
use Rattle.shown.specs.Shown.{byte_words, picture, line_in}
use Rattle.answers.specs.Answers.{place, detail, sentence, unplaced, refused, counted, network_counts, rndf_accepted, goal_number_of, way_from, no_way, goal_line_of, goal_column_of, stuck_at, stuck, no_start, not_driven}

-- ## 0, and every other line or column
pub no_place : (n : ℕ) → n ≡ 0 → [] ≡ place n
unfolding place
no_place n e = rw (eq-eqb n 0 e)

pub some-place : (n : ℕ) → (n ≡ 0 → ⊥) → ascii ":" ++ house_integer n ≡ place n
unfolding place house_integer
some-place n d = rw (ne_eqb n 0 d)

-- ## 4, and every other number
module _ (line : Bytes) (number column : ℕ) where
  pub byte-told : number ≡ 4 → ascii ": " ++ byte_words (drop (column - 1) line) ≡ detail line number column
  unfolding detail
  byte-told e = rw (eq-eqb number 4 e)

  pub no-byte-told : (number ≡ 4 → ⊥) → [] ≡ detail line number column
  unfolding detail
  no-byte-told d = rw (ne_eqb number 4 d)

-- ## One, and many
pub one : (n : ℕ) (word : Bytes) → n ≡ 1 → house_integer n ++ ascii " " ++ word ++ [] ≡ counted n word
unfolding counted
one n word e = rw (eq-eqb n 1 e)

pub many : (n : ℕ) (word : Bytes) → (n ≡ 1 → ⊥) → house_integer n ++ ascii " " ++ word ++ ascii "s" ≡ counted n word
unfolding counted
many n word d = rw (ne_eqb n 1 d)

-- ## File 1, 0 and the other
module _ (rndf mdf rndf-text mdf-text : Bytes) (why : Refusal) where
  pub of_rndf : why.file ≡ 1 → sentence rndf rndf-text why.line why.number why.column ≡ refused rndf mdf rndf-text mdf-text why
  unfolding refused
  of_rndf e = rw (eq-eqb why.file 1 e)

  pub of-neither : why.file ≡ 0 → unplaced mdf why.number ≡ refused rndf mdf rndf-text mdf-text why
  unfolding refused
  of-neither e = let d : why.file ≡ 1 → ⊥ = λ f. omega arith in rw (ne_eqb why.file 1 d, eq-eqb why.file 0 e)

  pub of_mdf : (why.file ≡ 1 → ⊥) → (why.file ≡ 0 → ⊥) → sentence mdf mdf-text why.line why.number why.column ≡ refused rndf mdf rndf-text mdf-text why
  unfolding refused
  of_mdf d f = rw (ne_eqb why.file 1 d, ne_eqb why.file 0 f)

-- ## Something is the matter with the MDF, or nothing
module _ (name trouble : Bytes) (c : Counts) where
  pub in-trouble : 0 < length trouble → trouble ≡ rndf_accepted name trouble c
  unfolding rndf_accepted
  in-trouble h = rw (lt-ltb 0 (length trouble) h)

  pub no-trouble : length trouble ≤ 0 → name ++ ascii ": accepted; " ++ network_counts c ++ ascii "\n" ≡ rndf_accepted name trouble c
  unfolding rndf_accepted
  no-trouble h = rw (le-ltb 0 (length trouble) h)

-- ## The first goal, and a later one
module _ (start : Bytes) (goals : List ℕ) (row : ℕ) where
  pub from_start : row ≡ 0 → start ≡ way_from start goals row
  unfolding way_from
  from_start e = rw (eq-eqb row 0 e)

  pub from-goal : (g : ℕ) → (row ≡ 0 → ⊥) → g ≡ goal_number_of goals (row - 1) → ascii "goal " ++ house_integer g ≡ way_from start goals row
  unfolding way_from
  from-goal g d e = rw (ne_eqb row 0 d) (ap (λ (n : ℕ). ascii "goal " ++ house_integer n) e)

-- ## Where a goal stands
shown-short : (text : Bytes) (line : ℕ) → length (line_in text line) ≤ 513
unfolding line_in
shown-short text line = let l = drop_cr (get_or (lines_of text) (line - 1) []) in omega (arith, length-take 513 l)

-- `k` bytes stand before the goal in its line `l`
module _ (text l : Bytes) (line k : ℕ) (e : l ≡ line_in text line) (f : k ≡ reach (stops_by NotSeparator) l 0) where
  pub before-goal : k ≤ 513
  before-goal =
      let h : length l ≤ 513 = rw e (shown-short text line) in
      omega (arith, f, up_to_le (stops_by NotSeparator) l, h)

  counted-before : k ≡ up_to (stops_by NotSeparator) l
  counted-before = omega (arith, f)

  pub goal-at-column : k + 1 ≡ goal_column_of text line
  unfolding goal_column_of stops_by
  goal-at-column = rw (add-one, ← e) (ap suc counted-before)

pub stuck_there : (name text start : Bytes) (goals : List ℕ) (row line column : ℕ) → line ≡ goal_line_of text row → column ≡ goal_column_of text line → stuck_at name text (no_way start goals row) line column ≡ stuck name text start goals row
unfolding stuck
stuck_there name text start goals row line column e f = rw (f, e) refl

-- ## 31, 30 and the other
module _ (rndf mdf rndf-text mdf-text start : Bytes) (goals : List ℕ) (why : Refusal) where
  pub told-stuck : why.number ≡ 31 → stuck mdf mdf-text start goals why.line ≡ not_driven rndf mdf rndf-text mdf-text start goals why
  unfolding not_driven
  told-stuck e = rw (eq-eqb why.number 31 e)

  pub told-no-start : why.number ≡ 30 → no_start rndf start ≡ not_driven rndf mdf rndf-text mdf-text start goals why
  unfolding not_driven
  told-no-start e = let d : why.number ≡ 31 → ⊥ = λ f. omega arith in rw (ne_eqb why.number 31 d, eq-eqb why.number 30 e)

  pub told-refused : (why.number ≡ 31 → ⊥) → (why.number ≡ 30 → ⊥) → refused rndf mdf rndf-text mdf-text why ≡ not_driven rndf mdf rndf-text mdf-text start goals why
  unfolding not_driven
  told-refused d f = rw (ne_eqb why.number 31 d, ne_eqb why.number 30 f)
