-- A whole table, said once for all: the rows that code reads of its records are those that the law reads, and stored into a cleared table with room they are its words. Assumes nothing.
use mathlib.Core.Path.{◌≡◌, refl, sym, ap, ap₂, subst, ◌∙◌}
use mathlib.Core.List.{List, ◌∷◌, map}
use mathlib.Core.Bool.{true}
use Prim.Native.Nat.{ℕ, zero, suc, ◌+◌, ◌*◌, ◌≤◌}
use lib.ListN.{length, drop, replicate}
use lib.Seq.{drop-drop}
use Rattle.terms.specs.Ascii.{Bytes}
use Rattle.rows.specs.Table.{table_of, put_rows}
use Rattle.rows.proofs.Forms.{Form, filled}
use Rattle.packed_law.specs.Packed.{Slot}
use Rattle.unpackings.proofs.Cutting.{Kind}
use Rattle.packed_tables.proofs.Reading.{read}
use Rattle.packed_tables.proofs.Records.{both_true, here, whole-size, all_here, records-read}
use Rattle.unpacked_rows.specs.Stored.{rows_from}

-- R: the row that is stored; G: that of the law
module _ {R G X : Type 0} (f : Form R X) (ks : List Kind) (back : List Slot → G) (shown : G → R) (tell : Bytes → ℕ → R) (next : Bytes → ℕ → ℕ) (b : Bytes)
    (row-so : (place : ℕ) → here ks (drop place b) ≡ true → shown (back (read (place + 2) ks (drop 2 (drop place b)))) ≡ tell b place)
    (next-so : (place : ℕ) → here ks (drop place b) ≡ true → next b place ≡ place + whole-size ks (drop place b)) where
  rows-so : (k place : ℕ) → all_here k ks (drop place b) ≡ true → rows_from tell next k b place ≡ map shown (map back (records-read place k ks (drop place b)))
  unfolding rows_from all_here records-read
  rows-so zero place h = refl
  rows-so (suc k) place h =
      let size = whole-size ks (drop place b) in
      let u = both_true (here ks (drop place b)) (all_here k ks (drop size (drop place b))) h in
      let d = drop-drop size place b in
      let more = rows-so k (place + size) (ap (all_here k ks) (sym d) ∙ u.1) in
      ap₂ (λ (x : R) (y : List R). x ∷ y) (sym (row-so place u.0))
      (ap (rows_from tell next k b) (next-so place u.0) ∙ more ∙ ap (λ (y : Bytes). map shown (map back (records-read (place + size) k ks y))) (sym d))

  long : (k place : ℕ) → length (rows_from tell next k b place) ≡ k
  unfolding rows_from
  long zero place = refl
  long (suc k) place = ap suc (long k (next b place))

  -- THE LAW of a table. x: its bytes
  pub stored-so : (k place n : ℕ) (x : Bytes) → x ≡ drop place b → all_here k ks x ≡ true → k * f.stride ≤ n
      → put_rows f.stride f.words (replicate n f.nought) 0 (rows_from tell next k b place) ≡ table_of f.nought f.words n (map shown (map back (records-read place k ks x)))
  stored-so k place n x e h r =
      filled f n (rows_from tell next k b place) (subst (λ (j : ℕ). j * f.stride ≤ n) (sym (long k place)) r)
      ∙ ap (table_of f.nought f.words n) (rows-so k place (ap (all_here k ks) (sym e) ∙ h) ∙ ap (λ (y : Bytes). map shown (map back (records-read place k ks y))) (sym e))
