-- Executable: the marks. INNER: only contracts of private functions of this crate cite it; what the tests promise (Rows, Tests) does not speak of marks. Assumes nothing.
use Rattle.std.specs.Prelude.{List, [], ◌∷◌, Bool, false, not, ℕ, pred, ◌/◌, ◌%◌, ◌^◌, get_or, set, eqb}
use Rattle.std.proofs.Math.Option.{Option}
use Rattle.std.specs.Int.Bits.{bit_or}
use Rattle.terms.specs.Words.{pick}
use Rattle.units.specs.Made.{within}
use Rattle.fill.specs.FirstFaults.{fault_if, first_fault}
use Rattle.marks.specs.Rows.{said}
use Rattle.marks.specs.Tests.{row_of}
use Rattle.std.specs.Prelude as Rust

-- ## How marks are kept: mark i is bit i % 8, the lowest first, of byte i / 8
-- 02, L6: "Keep eight to a byte inside the part that answers "seen already?"."
abbrev pub Marks : Type 0
Marks = List ℕ

abbrev pub eight_at_of : Marks → ℕ → ℕ
eight_at_of marks i = get_or marks (i / 8) 0

unfoldable pub mark_at : Marks → ℕ → Bool
mark_at marks i = eqb (eight_at_of marks i / 2 ^ (i % 8) % 2) 1

unfoldable pub set_at : Marks → ℕ → Marks
set_at marks i = set marks (i / 8) (bit_or (eight_at_of marks i) (2 ^ (i % 8)))

-- ## The mark of a number
-- 01: "32,768 marks, one for each checkpoint number": only the numbers 1 to 32,768 have one
unfoldable pub is_marked_of : Marks → ℕ → Bool
is_marked_of marks n = pick (within 1 n) (mark_at marks (pred n)) false

unfoldable pub with_mark : Marks → ℕ → Marks
with_mark marks n = pick (within 1 n) (set_at marks (pred n)) marks

unfoldable pub mark_all : Marks → List ℕ → Marks
mark_all marks [] = marks
mark_all marks (a ∷ l) = mark_all (with_mark marks a) l

-- 15: the number has no mark
abbrev pub unmarked : Marks → List ℕ → ℕ → Option ℕ
unmarked marks front a = fault_if (not (is_marked_of marks a)) 15

abbrev pub first_unmarked_of : Marks → (ℕ → ℕ) → ℕ → Rust.Option ℕ
first_unmarked_of marks says n = row_of (first_fault (unmarked marks) [] (said says n))
