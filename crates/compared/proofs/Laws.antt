-- What is left of two writings, step by step; the line that starts at a place. Assumes nothing.
use Rattle.std.specs.Prelude.{Some, None}
use mathlib.Core.Path.{◌≡◌, refl, sym, ap, ◌∙◌}
use mathlib.Core.List.{List, [], ◌++◌}
use Prim.Native.Nat.{ℕ, ◌+◌, ◌-◌, ◌≤◌, ◌<◌}
use native.Mathlib.Numerals.{add-one}
use borrow.Author.Tests.{eq-eqb, ne_eqb, le-leb, lt-leb}
use lib.ListN.{length, get_or, take, drop, drop_of_length-le}
use lib.Seq.{drop-cons}
use Rattle.terms.specs.Ascii.{Bytes, ascii}
use Rattle.scan.specs.Reach.{reach, stops_by}
use Rattle.scan.specs.declared.Until.TheVariants.{Byte}
use Rattle.line.specs.Text.{lf}
use Rattle.line.specs.Lines.{lines_of}
use Rattle.line.proofs.Cuts.{lines_at, lines_end}
use Rattle.compared.specs.Compared.{differ_from, line_there, line_of_name, line_told}

module _ (a b : Bytes) (i start passed : ℕ) where
  -- ## It is this line
  pub other_byte : i < length a → i < length b → (get_or a i 0 ≡ get_or b i 0 → ⊥) → differ_from i start passed (drop i a) (drop i b) ≡ Some (start, passed)
  unfolding differ_from
  other_byte h k e = rw (drop-cons a i 0 h, drop-cons b i 0 k, ne_eqb (get_or a i 0) (get_or b i 0) e)

  pub second-ends : i < length a → length b ≤ i → differ_from i start passed (drop i a) (drop i b) ≡ Some (start, passed)
  unfolding differ_from
  second-ends h k = rw (drop-cons a i 0 h, drop_of_length-le b k)

  pub first_ends : length a ≤ i → i < length b → differ_from i start passed (drop i a) (drop i b) ≡ Some (start, passed)
  unfolding differ_from
  first_ends h k = rw (drop_of_length-le a h, drop-cons b i 0 k)

  -- ## It is none
  pub both_end : length a ≤ i → length b ≤ i → differ_from i start passed (drop i a) (drop i b) ≡ None
  unfolding differ_from
  both_end h k = rw (drop_of_length-le a h, drop_of_length-le b k)

  -- ## On, behind an LF or any other byte
  pub next-line : i < length a → i < length b → get_or a i 0 ≡ get_or b i 0 → get_or a i 0 ≡ lf → differ_from (i + 1) (i + 1) (passed + 1) (drop (i + 1) a) (drop (i + 1) b) ≡ differ_from i start passed (drop i a) (drop i b)
  unfolding differ_from
  next-line h k e l = rw (add-one, add-one, drop-cons a i 0 h, drop-cons b i 0 k, eq-eqb (get_or a i 0) (get_or b i 0) e, eq-eqb (get_or a i 0) lf l)

  pub next-byte : i < length a → i < length b → get_or a i 0 ≡ get_or b i 0 → (get_or a i 0 ≡ lf → ⊥) → differ_from (i + 1) start passed (drop (i + 1) a) (drop (i + 1) b) ≡ differ_from i start passed (drop i a) (drop i b)
  unfolding differ_from
  next-byte h k e l = rw (add-one, drop-cons a i 0 h, drop-cons b i 0 k, eq-eqb (get_or a i 0) (get_or b i 0) e, ne_eqb (get_or a i 0) lf l)

-- ## The line that starts there
pub line-here : (writing : Bytes) (start e : ℕ) → start < length writing → e ≡ reach (stops_by (Byte lf)) writing start → take (e - start) (drop start writing) ≡ line_there writing start
line-here writing start e h q = ap (λ (ls : List Bytes). get_or ls 0 []) (sym (lines_at writing start e h q))

pub no_line : (writing : Bytes) (start : ℕ) → length writing ≤ start → [] ≡ line_there writing start
no_line writing start h = ap (λ (ls : List Bytes). get_or ls 0 []) (sym (lines_end writing start h))

-- ## What is told of it
module _ (name writing : Bytes) (start passed : ℕ) where
  pub ended-told : length writing ≤ start → line_of_name name passed ++ ascii ": none, it has ended\n" ≡ line_told name writing start passed
  unfolding line_told
  ended-told h = rw (le-leb (length writing) start h)

  pub told-there : start < length writing → line_of_name name passed ++ ascii ": " ++ line_there writing start ++ ascii "\n" ≡ line_told name writing start passed
  unfolding line_told
  told-there h = rw (lt-leb (length writing) start h)
