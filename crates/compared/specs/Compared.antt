-- WHAT A READER MUST BELIEVE. The first line in which two writings differ, and what planners are told of two house writings. Document 02, L14. Assumes nothing.
use Rattle.std.specs.Prelude.{◌≡◌, Bool, ◌||◌, List, [], ◌∷◌, ◌++◌, ℕ, suc, ◌+◌, min, eqb, leb, length, take, drop, get_or, Some, None, Option}
use Rattle.terms.specs.Ascii.{Bytes, ascii}
use Rattle.terms.specs.Words.{pick, Each}
use Rattle.scan.specs.Reach.{same_bytes_of}
use Rattle.number.specs.House.{house_integer}
use Rattle.line.specs.Text.{lf, Lacks}
use Rattle.line.specs.Lines.{lines_of, write_lines}

-- ## Where they differ first
-- executable: what is left of both behind `at` bytes that are the same, where the line that is open starts, and how many lines stand before it
unfoldable pub differ_from : (at start passed : ℕ) → (a b : Bytes) → Option (ℕ × ℕ)
differ_from at start passed [] [] = None
differ_from at start passed [] (y ∷ b) = Some (start, passed)
differ_from at start passed (x ∷ a) [] = Some (start, passed)
differ_from at start passed (x ∷ a) (y ∷ b) =
    pick (eqb x y) (pick (eqb x lf) (differ_from (suc at) (suc at) (suc passed) a b) (differ_from (suc at) start passed a b)) (Some (start, passed))

unfoldable pub first_difference_of : (a b : Bytes) → Option (ℕ × ℕ)
first_difference_of a b = differ_from 0 0 0 a b

-- the first line with its LF; what there is, if there is none
unfoldable pub first_line : Bytes → Bytes
first_line [] = []
first_line (b ∷ l) = b ∷ pick (eqb b lf) [] (first_line l)

-- what it means: so many lines of both are the same, each with an LF behind it, and the next is not
pub record FirstDiffers (a b : Bytes) (start passed : ℕ) : Type 0 where
  pub lines : List Bytes
  pub one : Bytes
  pub other : Bytes
  pub whole : Each (Lacks lf) lines
  pub first : a ≡ write_lines lines ++ one
  pub second : b ≡ write_lines lines ++ other
  pub starts : start ≡ length (write_lines lines)
  pub counted : passed ≡ length lines
  pub differ : first_line one ≡ first_line other → ⊥

abbrev pub Means : (a b : Bytes) → Option (ℕ × ℕ) → Type 0
Means a b None = a ≡ b
Means a b (Some (start, passed)) = FirstDiffers a b start passed

-- ## What is told
-- lines count from 1
abbrev pub line_number_of : ℕ → ℕ
line_number_of passed = min (passed + 1) 4294967295

abbrev pub line_there : (writing : Bytes) (start : ℕ) → Bytes
line_there writing start = get_or (lines_of (drop start writing)) 0 []

abbrev pub line_of_name : (name : Bytes) (passed : ℕ) → Bytes
line_of_name name passed = ascii "house line " ++ house_integer (line_number_of passed) ++ ascii " of " ++ name

unfoldable pub line_told : (name writing : Bytes) (start passed : ℕ) → Bytes
line_told name writing start passed =
    pick (leb (length writing) start) (line_of_name name passed ++ ascii ": none, it has ended\n") (line_of_name name passed ++ ascii ": " ++ line_there writing start ++ ascii "\n")

-- a planner looks for the lane, and not for the line: a house line that opens a part ..
unfoldable pub opening : Bytes → Bool
opening line =
    (same_bytes_of (take 8 line) (ascii "segment\t") || same_bytes_of (take 5 line) (ascii "lane\t"))
    || ((same_bytes_of (take 5 line) (ascii "zone\t") || same_bytes_of (take 10 line) (ascii "perimeter\t")) || same_bytes_of (take 5 line) (ascii "spot\t"))

-- .. and the last of these lines that does, else this one
unfoldable pub last_opening_of : Bytes → List Bytes → Bytes
last_opening_of found [] = found
last_opening_of found (l ∷ lines) = last_opening_of (pick (opening l) l found) lines

unfoldable pub part_told : Bytes → Bytes
part_told part = pick (eqb (length part) 0) [] (ascii "last part before it: " ++ part ++ ascii "\n")

unfoldable pub differ_told : (name other a b : Bytes) (start passed : ℕ) → Bytes
differ_told name other a b start passed = ascii "not the same yard\n" ++ line_told name a start passed ++ line_told other b start passed ++ part_told (last_opening_of [] (lines_of (take start a)))

-- L14: "equal house writings exactly when they mean the same network apart from creation dates"
abbrev pub told_of : (name other a b : Bytes) → Option (ℕ × ℕ) → Bytes
told_of name other a b None = ascii "the same yard\n"
told_of name other a b (Some (start, passed)) = differ_told name other a b start passed

unfoldable pub told : (name other a b : Bytes) → Bytes
told name other a b = told_of name other a b (first_difference_of a b)
