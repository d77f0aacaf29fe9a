-- THE LAW of 13 over rows: over a table of given rows with checkpoint numbers the answer is the row of `fill`'s first repeat. Assumes nothing.
use mathlib.Core.Path.{◌≡◌, refl, ap, ap₂, ◌∙◌}
use mathlib.Core.List.{List, [], ◌∷◌, ◌++◌}
use mathlib.Core.Bool.{Bool}
use Prim.Native.Nat.{ℕ, ◌*◌, ◌≤◌}
use lib.ListN.{length}
use Rattle.terms.specs.Words.{Each}
use Rattle.terms.proofs.Lists.{each_append}
use Rattle.units.specs.Range.{Numbered}
use Rattle.rows.specs.Strides.{checkpoint_stride}
use Rattle.rows.specs.Columns.{checkpoint_words_of}
use Rattle.rows.specs.Table.{table_of}
use Rattle.rows.specs.declared.CheckpointRow.{CheckpointRow}
use Rattle.fill.specs.FirstFaults.{fault_if, or_behind, first_fault, number_fault, the_first_repeat_of}
use Rattle.marks.specs.Tests.{repeated, row_of, first_repeat_of}
use Rattle.marks.proofs.Rows.{checkpoint-numbers, checkpoints-say, seen_all}

-- behind numbers that are checkpoints' the two tests agree
same_first : (l front : List ℕ) → Each Numbered front → Each Numbered l → first_fault repeated front l ≡ first_fault number_fault front l
unfolding first_fault
same_first [] front f h = refl
same_first (a ∷ l) front f h = ap₂ (or_behind (length front)) (ap (λ (t : Bool). fault_if t 13) (seen_all front f a)) (same_first l (front ++ (a ∷ [])) (each_append Numbered front (a ∷ []) f (h.0, tt)) h.1)

module _ (n : ℕ) (rs : List CheckpointRow) (room : length rs * checkpoint_stride ≤ n) (in-range : Each Numbered (checkpoint-numbers rs)) where
  pub repeats-told : first_repeat_of (table_of 0 checkpoint_words_of n rs) (length rs) ≡ row_of (the_first_repeat_of (checkpoint-numbers rs))
  unfolding first_repeat_of
  repeats-told = ap row_of (ap (first_fault repeated []) (checkpoints-say n rs room in-range) ∙ same_first (checkpoint-numbers rs) [] tt in-range)
