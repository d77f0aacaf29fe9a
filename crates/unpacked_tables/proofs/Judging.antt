-- What a judge of 29 has to say of bytes: whether they are some network's form, and, where they are, the counts, the file's row and where each table's records stand. Assumes nothing.
use mathlib.Core.Path.{◌≡◌}
use mathlib.Core.List.{List, [], ◌∷◌}
use mathlib.Core.Bool.{true}
use Prim.Native.Nat.{ℕ, ◌+◌}
use lib.ListN.{drop, get_or}
use Rattle.terms.specs.Ascii.{Bytes}
use Rattle.rows.specs.declared.FileRow.{FileRow}
use Rattle.counts.specs.declared.Counts.{Counts}
use Rattle.fill.specs.Counts as F
use Rattle.table_words.specs.FileRows.{shown_file}
use Rattle.law_tables.specs.Used.{rows_used_of}
use Rattle.law_tables.proofs.SameRows.{start_of, length-of}
use Rattle.packed_law.specs.Packed.{Slot}
use Rattle.row_network.specs.Consistent.{Consistent}
use Rattle.unpackings.proofs.Rows.{at}
use Rattle.packed_tables.proofs.Names.{TableNames}
use Rattle.packed_tables.proofs.Records.{whole-size, after, place_after}
use Rattle.packed_tables.proofs.Whole.{Tab, tabs, file-kinds, file-items, all_right, rows_told}
use Rattle.unpacked_rows.specs.declared.Places.{Places}

-- not 29: every record has the length that its fields take and nothing is left; the rows are a network's; the names are names
pub record Right (bytes : Bytes) : Type 0 where
  pub framed : all_right (drop 5 bytes) ≡ true
  pub consistent : Consistent (rows_told (drop 5 bytes))
  pub names : TableNames (rows_told (drop 5 bytes))

-- the rows of each table as it counts them
abbrev pub counted : List Slot → F.Counts
counted f = record { segments = at 0 f; lanes = at 1 f; zones = at 2 f; spots = at 3 f; points = at 4 f; checkpoints = at 5 f; stops = at 6 f; exits = at 7 f }

unfoldable pub counts-told : Bytes → Counts
counts-told bytes = rows_used_of (counted (file-items (drop 5 bytes)))

-- its names, each with its place
unfoldable pub file-told : Bytes → FileRow
file-told bytes = shown_file start_of length-of (rows_told (drop 5 bytes)).file

-- where the first record of each table stands
unfoldable pub tab-places : ℕ → List Tab → Bytes → List ℕ
tab-places place [] b = []
tab-places place (t ∷ ts) b = place ∷ tab-places (place_after place t.0 t.1 b) ts (after t.0 t.1 b)

abbrev pub places_of : List ℕ → Places
places_of l = record { segments = get_or l 0 0; lanes = get_or l 1 0; zones = get_or l 2 0; spots = get_or l 3 0; points = get_or l 4 0; checkpoints = get_or l 5 0; stops = get_or l 6 0; exits = get_or l 7 0 }

unfoldable pub places-told : Bytes → Places
places-told bytes = places_of (tab-places (5 + whole-size file-kinds (drop 5 bytes)) (tabs (file-items (drop 5 bytes))) (drop (whole-size file-kinds (drop 5 bytes)) (drop 5 bytes)))

-- THE LAW of a judge that says yes. One that says no: `Right bytes → ⊥`
pub record FormTold (bytes : Bytes) (c : Counts) (file : FileRow) (places : Places) : Type 0 where
  pub right : Right bytes
  pub counts_are : c ≡ counts-told bytes
  pub file_is : file ≡ file-told bytes
  pub places_are : places ≡ places-told bytes
