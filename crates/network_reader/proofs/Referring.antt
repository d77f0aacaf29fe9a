-- What the references of an RNDF's filled tables are found to be: as `fill` says of the network. Assumes nothing.
use Rattle.std.specs.Prelude.{Option}
use mathlib.Core.Path.{◌≡◌, refl, ap, ap₂, ◌∙◌}
use mathlib.Core.List.{List, [], ◌∷◌, map}
use Prim.Native.Nat.{ℕ, ◌≤◌}
use lib.ListN.{length}
use Rattle.terms.specs.Ascii.{Bytes}
use Rattle.line.specs.Content.{Field}
use Rattle.grammar.specs.Network.{Network}
use Rattle.grammar.specs.Tables.{ExitRow, the_segment_row_of, tables, tables_with, tables_unresolved}
use Rattle.text.specs.Spelling.{SpellsRndf}
use Rattle.fill.specs.Counts.{sizes}
use Rattle.fill.specs.FirstFaults.{the_first_repeat_of, numbers_of}
use Rattle.fill.proofs.RowLaws.{one_each}
use Rattle.rows.specs.Columns.{exit_words_of}
use Rattle.rows.specs.Table.{table_of}
use Rattle.rows.specs.declared.ExitRow as DE
use Rattle.table_words.specs.Words.{Lent, HasRoom, network_filled}
use Rattle.walk.specs.Standing.{places_in}
use Rattle.network.specs.Storing.{Memory}
use Rattle.network.specs.Reading.{most}
use Rattle.network.proofs.ExitLines as N
use Rattle.network.proofs.Holding.{CountsNetwork, HoldsNetwork}
use Rattle.network.proofs.Spelled.{exit-line-starts, statements-read}
use Rattle.network_references.specs.ExitStarts.{at_starts, exits_answer}
use Rattle.network_references.proofs.Theorems.{exits-told-counted, repeats-told}
use Rattle.references.specs.Exits.{Outcome, resolved_from}
use Rattle.references.specs.Finding.{look_in}
use Rattle.marks.specs.Tests.{first_repeat_of, row_of}
use Rattle.fault_lines.proofs.RndfFaults.{undeclared_in, repeated_in}
use Rattle.network_reader.specs.Reading.{joined, refer_of}

-- ## The exits' rows, by their points and by the network's exits
same_rows : {E : Type 0} (xs : List (ExitRow E)) (starts : List ℕ) → N.exits-at (map (λ r. r.point) xs) starts ≡ at_starts xs starts
unfolding N.exits-at at_starts
same_rows [] [] = refl
same_rows [] (s ∷ starts) = refl
same_rows (x ∷ xs) [] = refl
same_rows (x ∷ xs) (s ∷ starts) = ap (λ (l : List DE.ExitRow). record { point = x.point; entry = s } ∷ l) (same_rows xs starts)

-- ## The test of references, where tables and counts are known by other names
refer_as : (text : Bytes) (m : Memory) (segments exits checkpoints : ℕ) (sg ln zn ck ex : List ℕ) → m.segments ≡ sg → m.lanes ≡ ln → m.zones ≡ zn → m.checkpoints ≡ ck → m.exits ≡ ex
    → m.so_far.segments ≡ segments → m.so_far.exits ≡ exits → m.so_far.checkpoints ≡ checkpoints
    → refer_of text m.segments m.lanes m.zones m.checkpoints m.exits m.so_far ≡ joined text (resolved_from text (look_in sg ln zn) segments ex 0 exits) (first_repeat_of ck checkpoints)
unfolding refer_of
refer_as text m segments exits checkpoints sg ln zn ck ex a b c d e f g h = rw (a, b, c, d, e, f, g, h) refl

segments_in : (n : Network Field) → (sizes (tables n)).segments ≡ length n.segments
unfolding tables_with
segments_in n = one_each (λ s. length s.lanes) the_segment_row_of 0 n.segments

same_numbers : (n : Network Field) → numbers_of (tables n) ≡ numbers_of (tables_unresolved n)
unfolding tables_with
same_numbers n = refl

pub refers : (n : Network Field) (text : Bytes) (h : SpellsRndf n text) → length text ≤ most → (t : Lent) → HasRoom (sizes (tables n)) t → (m : Memory) → CountsNetwork n m.so_far → HoldsNetwork n (exit-line-starts n text h) t m
    → refer_of text m.segments m.lanes m.zones m.checkpoints m.exits m.so_far ≡ joined text (exits_answer n t (undeclared_in n)) (row_of (repeated_in n))
refers n text h size t room m c k =
    refer_as text m (length n.segments) (length (tables n).exits) (length (tables n).checkpoints) (network_filled n t).segments (network_filled n t).lanes (network_filled n t).zones (network_filled n t).checkpoints
    (table_of 0 exit_words_of (length t.exits) (at_starts (tables n).exits (N.exit-starts (places_in text) h.said))) k.segments k.lanes k.zones k.checkpoints
    (k.exits ∙ ap (λ (rs : List DE.ExitRow). table_of 0 exit_words_of (length t.exits) rs) (same_rows (tables n).exits (exit-line-starts n text h)))
    (c.segments ∙ segments_in n) c.exits c.checkpoints
    ∙ ap₂ (λ (x : Outcome) (y : Option ℕ). joined text x y) (exits-told-counted n text h h.said (statements-read n text h) size t room)
    (repeats-told n text h t room ∙ ap (λ (l : List ℕ). row_of (the_first_repeat_of l)) (same_numbers n))
