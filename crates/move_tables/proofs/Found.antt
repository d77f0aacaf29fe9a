-- The search by halving over rows that are read one behind the other: those in front are below, those behind are not. Assumes nothing.
use mathlib.Core.Path.{◌≡◌, refl, sym, ap, subst, ◌∙◌}
use mathlib.Core.List.{List, ◌++◌}
use Prim.Native.Nat.{ℕ, ◌+◌, ◌-◌, ◌*◌, ◌≤◌, ◌<◌, min}
use native.Mathlib.Omega.{arith}
use lib.ListN.{length, get_or, length-append}
use Rattle.terms.specs.Words.{Each}
use Rattle.rows.specs.Lay.{rows_of, row_at}
use Rattle.rows.proofs.Lay.{word-of-row}
use Rattle.filled_rows.specs.From.{From}
use Rattle.filled_rows.proofs.From.{from_parts, from_each}
use Rattle.moves.specs.Halving.{halved, first_word, rows_there_of, first_row_from_of}
use Rattle.moves.proofs.Halving.{parted, not_behind}

-- the first word of a row that is there
pub first-word-is : (table : List ℕ) (stride i : ℕ) → 0 < stride → i < rows_of (length table) stride → first_word table stride i ≡ get_or (row_at stride table i) 0 0
unfolding first_word
first-word-is table stride i some h = sym (word-of-row stride table i 0 0 h some ∙ ap (λ (k : ℕ). get_or table k 0) (let e : i * stride + 0 ≡ i * stride = omega arith in e))

-- so many rows are there
pub all_there : (table : List ℕ) (stride count : ℕ) → count ≤ rows_of (length table) stride → rows_there_of table stride count ≡ count
all_there table stride count h = omega arith

pub found_inside : (table : List ℕ) (stride count least : ℕ) → first_row_from_of table stride count least ≤ count
found_inside table stride count least =
    let b = not_behind (first_word table stride) least (rows_there_of table stride count) 0 (rows_there_of table stride count) in
    omega arith

module _ {R : Type 0} (read : ℕ → R) (key : R → ℕ) (table : List ℕ) (stride : ℕ) where
  -- THE LAW. l: the table's rows, in two parts
  pub found : (least : ℕ) (l front rest : List R) → l ≡ front ++ rest → length l ≤ rows_of (length table) stride → From read 0 l → ((i : ℕ) → i < length l → first_word table stride i ≡ key (read i))
      → Each (λ r. key r < least) front → Each (λ r. least ≤ key r) rest → first_row_from_of table stride (length l) least ≡ length front
  found least l front rest is room rows words low high =
      let n : length l ≡ length front + length rest = ap length is ∙ length-append front rest in
      let parts = from_parts read 0 front rest (subst (From read 0) is rows) in
      let there = all_there table stride (length l) room in
      ap (λ (k : ℕ). halved (first_word table stride) least k 0 k) there
      ∙ parted (first_word table stride) least (length l) 0 (length l) (length front) (omega arith) (omega arith) (omega arith)
      (λ i h m. subst (λ (k : ℕ). k < least) (sym (words i (omega arith))) (subst (λ (j : ℕ). key (read j) < least) (let z : 0 + i ≡ i = omega arith in z) (from_each read (λ r. key r < least) 0 front i parts.0 low m)))
      (λ i h m.
      let o : 0 + length front + (i - length front) ≡ i = omega arith in
      let g = from_each read (λ r. least ≤ key r) (0 + length front) rest (i - length front) parts.1 high (omega arith) in
      subst (λ (k : ℕ). least ≤ k) (sym (words i (omega arith))) (subst (λ (j : ℕ). least ≤ key (read j)) o g))
