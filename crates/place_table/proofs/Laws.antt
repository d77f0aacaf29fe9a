-- A look at the right table gives the cell that `grammar` says. Assumes nothing.
use mathlib.Core.Path.{◌≡◌, refl}
use mathlib.Core.List.{List}
use mathlib.Core.Bool.{Bool, true, false}
use Prim.Native.Nat.{ℕ}
use lib.ListN.{length}
use lib.Dec.{eqb, ltb}
use borrow.Author.Tests.{ltb-true, ltb-false}
use Rattle.terms.proofs.Computed.{every}
use Rattle.grammar.specs.PlaceTable.{cell, rndf_table_of, mdf_table_of}
use Rattle.grammar.proofs.TableLaws.{cell-within, cell-right, cell_below}
use Rattle.place_table.specs.Cells.{cell_in}

even-cell : (table : List (List ℕ)) (columns : ℕ) → every (λ row. eqb (length row) columns) table ≡ true → (row kind : ℕ) → cell_in (length table) columns table row kind ≡ cell table row kind
unfolding cell_in
even-cell table columns e row kind = go (ltb row (length table)) refl (ltb kind columns) refl
  where
    go : (a : Bool) → ltb row (length table) ≡ a → (b : Bool) → ltb kind columns ≡ b → cell_in (length table) columns table row kind ≡ cell table row kind
    go true h true k = rw (h, k) (cell-within table columns e row kind 0 (ltb-true row (length table) h) (ltb-true kind columns k))
    go true h false k = rw (h, k) (cell-right table columns e row kind (ltb-true row (length table) h) (ltb-false kind columns k))
    go false h b k = rw h (cell_below table row kind (ltb-false row (length table) h))

pub rndf-cell-is : (row kind : ℕ) → cell_in 27 30 rndf_table_of row kind ≡ cell rndf_table_of row kind
unfolding rndf_table_of
rndf-cell-is = even-cell rndf_table_of 30 refl

pub mdf-cell-is : (row kind : ℕ) → cell_in 12 13 mdf_table_of row kind ≡ cell mdf_table_of row kind
unfolding mdf_table_of
mdf-cell-is = even-cell mdf_table_of 13 refl
