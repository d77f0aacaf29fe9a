-- THE THEOREMS: over the tables that an RNDF has filled, the exits get the points of their entries or the answer is the first undeclared entry's row; and the answer of the
-- checkpoint numbers is the first repeated number's row. For every text of at most 16,777,215 bytes that spells a network, and tables that have room. Assumes nothing.
use mathlib.Core.Path.{◌≡◌, refl, sym, ap, ap₂, subst, ◌∙◌}
use mathlib.Core.List.{List, [], ◌∷◌, map, map-map, head-eq_of_cons-eq, tail-eq_of_cons-eq, nil≢cons}
use mathlib.Core.Option.{Option, none, some}
use Prim.Native.Nat.{ℕ, suc, ◌*◌, ◌≤◌, ◌<◌}
use native.Mathlib.Omega.{arith}
use lib.ListN.{length, length-map}
use Rattle.terms.specs.Ascii.{Bytes}
use Rattle.terms.specs.Words.{Each}
use Rattle.terms.proofs.Lists.{each_map}
use Rattle.line.specs.Content.{Field}
use Rattle.grammar.specs.Statements.{PointId, ExitLine, Statement, of_kind, exit}
use Rattle.grammar.specs.Network.{Exit, Network, SpellsNetwork}
use Rattle.grammar.specs.Tables as G
use Rattle.grammar.specs.Tables.{Tables, the_segment_row_of, point_row_of, tables_with, tables_unresolved, tables}
use Rattle.grammar.specs.Places.{rndf, name_due}
use Rattle.grammar.specs.References.{Declared, all_exits}
use Rattle.grammar.proofs.Rows.{each_both, each-of_map}
use Rattle.grammar.proofs.PointRows.{lanes_in}
use Rattle.grammar.proofs.RowsInside.{rows_inside}
use Rattle.grammar.proofs.Theorems.{network_ranges}
use Rattle.text.specs.Spelling.{SpellsRndf}
use Rattle.text.specs.RndfWords.{rndf_lexis}
use Rattle.text.specs.RndfLines.{the_rndf_line_of}
use Rattle.text.specs.Answers.{read}
use Rattle.text.proofs.Theorems.{read-rndf, rndf-file}
use Rattle.text.proofs.TextReading.{spelled-read}
use Rattle.units.specs.Range.{Numbered}
use Rattle.room.specs.Room.{fitted}
use Rattle.room.proofs.Fitted.{fitted-kept}
use Rattle.rows.specs.Columns.{exit_words_of, checkpoint_words_of}
use Rattle.rows.specs.Table.{table_of}
use Rattle.rows.specs.declared.ExitRow.{ExitRow}
use Rattle.rows.specs.declared.CheckpointRow.{CheckpointRow}
use Rattle.fill.specs.Counts.{sizes}
use Rattle.fill.specs.NetworkRows.{start, fill}
use Rattle.fill.specs.Resolve.{Look, look, resolve, with_entry, or-zero}
use Rattle.fill.specs.FirstFaults.{Fault, first_fault, first_undeclared, the_first_repeat_of, numbers_of}
use Rattle.fill.proofs.RowLaws.{each-by_map, map_each, one_each}
use Rattle.fill.proofs.NetworkFills.{network_fills}
use Rattle.fill.proofs.CountLaws.{by_lines}
use Rattle.fill.proofs.ResolveLaws.{found}
use Rattle.fill.proofs.ReferenceLaws.{exits-with, entries_in-order, no-undeclared}
use Rattle.table_words.specs.Words.{Lent, HasRoom, the_checkpoint_words_of, the_exit_words_of, network_filled}
use Rattle.table_words.specs.Shown.{shown_checkpoint, shown_exit}
use Rattle.table_words.proofs.Shown.{checkpoint-shown, exit-shown, table-shown}
use Rattle.table_words.proofs.Filled.{rows_fit}
use Rattle.table_words.proofs.Bounds.{CheckpointBounds, spelled-bounded}
use Rattle.table_words.proofs.RowsAtMost.{rows-at-most}
use Rattle.walk.specs.Standing.{places_in}
use Rattle.references.specs.Finding.{look_in}
use Rattle.references.specs.Exits.{done, at, resolved_from, entry_of_row, entry_fault, resolved_row, picked}
use Rattle.marks.specs.Tests.{row_of, first_repeat_of}
use Rattle.references.proofs.Exits as Exits
use Rattle.references.proofs.Repeats as Repeats
use Rattle.network.proofs.ExitLines.{exit-starts}
use Rattle.network_references.specs.ExitStarts.{at_starts, exit_rows, exits_answer}
use Rattle.network_references.proofs.Entries.{entry-at, entries-told}
use Rattle.network_references.proofs.Looks.{shown-fit, filled-looked}

-- ## Rows that hold the starts of their entries
module _ {E : Type 0} where
  pub rows_as-many : (exits : List (G.ExitRow E)) (starts : List ℕ) → length starts ≡ length exits → length (at_starts exits starts) ≡ length exits
  unfolding at_starts
  rows_as-many [] [] h = refl
  rows_as-many [] (s ∷ starts) h = refl
  rows_as-many (a ∷ exits) [] h = absurd (omega arith)
  rows_as-many (a ∷ exits) (s ∷ starts) h = ap suc (rows_as-many exits starts (omega arith))

  -- however their entries are given
  pub at-starts-with : {F : Type 0} (f : E → F) (exits : List (G.ExitRow E)) (starts : List ℕ) → at_starts (map (with_entry f) exits) starts ≡ at_starts exits starts
  unfolding at_starts
  at-starts-with f [] [] = refl
  at-starts-with f [] (s ∷ starts) = refl
  at-starts-with f (a ∷ exits) [] = refl
  at-starts-with f (a ∷ exits) (s ∷ starts) = ap (λ (rs : List ExitRow). record { point = a.point; entry = s } ∷ rs) (at-starts-with f exits starts)

  entries-of-rows : (text : Bytes) (exits : List (G.ExitRow E)) (starts : List ℕ) → length starts ≡ length exits → map (entry_of_row text) (at_starts exits starts) ≡ map (entry-at text) starts
  unfolding at_starts
  entries-of-rows text [] [] h = refl
  entries-of-rows text [] (s ∷ starts) h = absurd (omega arith)
  entries-of-rows text (a ∷ exits) [] h = absurd (omega arith)
  entries-of-rows text (a ∷ exits) (s ∷ starts) h = ap (λ (es : List PointId). entry-at text s ∷ es) (entries-of-rows text exits starts (omega arith))

-- the row that such a row becomes
abbrev found-row : Look → ℕ → G.ExitRow PointId → ExitRow
found-row k m a = record { point = a.point; entry = fitted (or-zero (resolve m k a.entry)) }

found-fits : (k : Look) (m : ℕ) (a : G.ExitRow PointId) (i : ℕ) → resolve m k a.entry ≡ some i → i ≤ 4294967295 → found-row k m a ≡ shown_exit (with_entry (λ e. i) a)
found-fits k m a i e h = ap (λ (o : Option ℕ). record { point = a.point; entry = fitted (or-zero o) }) e ∙ ap (λ (j : ℕ). record { point = a.point; entry = j }) (fitted-kept i h)

rows-resolved : (text : Bytes) (k : Look) (m : ℕ) (exits : List (G.ExitRow PointId)) (starts : List ℕ) → map (entry-at text) starts ≡ map (λ a. a.entry) exits → map (resolved_row text k m) (at_starts exits starts) ≡ map (found-row k m) exits
unfolding at_starts
rows-resolved text k m [] [] e = refl
rows-resolved text k m [] (s ∷ starts) e = absurd (nil≢cons (sym e))
rows-resolved text k m (a ∷ exits) [] e = absurd (nil≢cons e)
rows-resolved text k m (a ∷ exits) (s ∷ starts) e =
    ap₂ (λ (i : PointId) (rs : List ExitRow). record { point = a.point; entry = fitted (or-zero (resolve m k i)) } ∷ rs) (head-eq_of_cons-eq e) (rows-resolved text k m exits starts (tail-eq_of_cons-eq e))

-- ## The text's exits
-- `ts`: what is read of the text
module _ (n : Network Field) (text : Bytes) (spelled : SpellsRndf n text) (ts : List (Statement Field)) (is : read-rndf text ≡ read ts) where
  abbrev exits : List (G.ExitRow PointId)
  exits = (tables_unresolved n).exits

  abbrev starts : List ℕ
  starts = exit-starts (places_in text) ts

  abbrev rows : List ExitRow
  rows = exit_rows n text ts

  said : spelled.said ≡ ts
  said = let e : read spelled.said ≡ read ts = sym (spelled-read (rndf Field) rndf_lexis the_rndf_line_of SpellsNetwork name_due rndf-file n text spelled) ∙ is in cc

  entries-said : map (λ v. v.entry) (of_kind exit spelled.said) ≡ map (λ a. a.entry) exits
  unfolding fill
  entries-said = sym (by_lines spelled.said (start n.name)).entries ∙ ap (λ (t : Tables Field PointId). map (λ (a : G.ExitRow PointId). a.entry) t.exits) (network_fills n.name n spelled.said spelled.net)

  -- at the start that an exit's row holds stands the exit's entry
  pub entries-at-starts : map (entry-at text) (exit-starts (places_in text) ts) ≡ map (λ a. a.entry) (tables_unresolved n).exits
  entries-at-starts = entries-told text ts is ∙ ap (λ (l : List (Statement Field)). map (λ (v : ExitLine). v.entry) (of_kind exit l)) (sym said) ∙ entries-said

  -- the rows are the same however the network's entries are given
  pub exit-rows-with : {E : Type 0} (f : PointId → E) → at_starts (tables_with f n).exits (exit-starts (places_in text) ts) ≡ at_starts (tables_unresolved n).exits (exit-starts (places_in text) ts)
  exit-rows-with {E} f = ap (λ (l : List (G.ExitRow E)). at_starts l starts) (sym (exits-with f n)) ∙ at-starts-with f exits starts

  starts_as-exits : length starts ≡ length (tables n).exits
  starts_as-exits =
      sym (length-map starts (entry-at text))
      ∙ ap (λ (l : List PointId). length l) entries-at-starts
      ∙ length-map exits (λ a. a.entry)
      ∙ sym (length-map exits (with_entry (point_row_of n)))
      ∙ ap (λ (l : List (G.ExitRow ℕ)). length l) (exits-with (point_row_of n) n)

  -- and as many as the network has exits
  pub exit-rows_as-many : length (exit_rows n text ts) ≡ length (tables n).exits
  exit-rows_as-many = rows_as-many (tables n).exits starts starts_as-exits

  entries-of-exit-rows : map (entry_of_row text) rows ≡ map (λ a. a.entry) exits
  entries-of-exit-rows = entries-of-rows text (tables n).exits starts starts_as-exits ∙ entries-at-starts

  -- ## 12
  as-many-segments : length n.segments ≡ length (tables_unresolved n).segments
  unfolding tables_with
  as-many-segments = sym (one_each lanes_in the_segment_row_of 0 n.segments)

  -- 01, 1: "text over 16,777,215 bytes"; so every row number fits into a word
  module _ (short : length text ≤ 16777215) where
    abbrev K : Look
    K = look (tables_unresolved n)

    abbrev M : ℕ
    M = length (tables_unresolved n).segments

    row-found : (a : G.ExitRow PointId) → Declared n a.entry → point_row_of n a.entry < length (tables n).points → found-row K M a ≡ shown_exit (with_entry (point_row_of n) a)
    row-found a d inside = let most = (rows-at-most n text spelled).points in found-fits K M a (point_row_of n a.entry) (found n a.entry d) (omega arith)

    -- with every entry declared the rows become those of the network
    rows-found : first_undeclared (tables_unresolved n) ≡ none → map (resolved_row text K M) rows ≡ map shown_exit (tables n).exits
    rows-found none-undeclared =
        let known = no-undeclared n none-undeclared in
        let declared = each-by_map (Declared n) (λ (a : G.ExitRow PointId). a.entry) exits (subst (Each (Declared n)) (sym (entries_in-order (λ e. e) n)) (each-of_map (Declared n) (λ (e : Exit). e.entry) (all_exits n) known)) in
        let inside = each-by_map (λ (a : G.ExitRow ℕ). a.entry < length (tables n).points) (with_entry (point_row_of n)) exits
        (subst (Each (λ (a : G.ExitRow ℕ). a.entry < length (tables n).points)) (sym (exits-with (point_row_of n) n)) (rows_inside n (network_ranges n spelled.said spelled.net) known).entries) in
        ap (map (resolved_row text K M)) (exit-rows-with (point_row_of n))
        ∙ rows-resolved text K M exits starts entries-at-starts
        ∙ map_each (found-row K M) (λ a. shown_exit (with_entry (point_row_of n) a)) exits
        (each_map (λ a. Declared n a.entry × (point_row_of n a.entry < length (tables n).points)) (λ a. found-row K M a ≡ shown_exit (with_entry (point_row_of n) a)) (λ a h. row-found a h.0 h.1) exits
        (each_both (λ a. Declared n a.entry) (λ a. point_row_of n a.entry < length (tables n).points) exits declared inside))
        ∙ sym (map-map shown_exit (with_entry (point_row_of n)) exits)
        ∙ ap (map shown_exit) (exits-with (point_row_of n) n)

    module _ (t : Lent) (room : HasRoom (sizes (tables n)) t) where
      answer-is : (o : Option Fault) → first_undeclared (tables_unresolved n) ≡ o → picked text K M (length t.exits) rows o ≡ exits_answer n t o
      answer-is none q = ap (λ (rs : List ExitRow). done (table_of 0 exit_words_of (length t.exits) rs)) (rows-found q) ∙ ap done (table-shown shown_exit exit_words_of the_exit_words_of exit-shown 0 (length t.exits) (tables n).exits)
      answer-is (some f) q = refl

      room_for-rows : length rows * 2 ≤ length t.exits
      room_for-rows = rw exit-rows_as-many (rows_fit (length (tables n).exits) (length t.exits) 2 room.exits)

      -- THE LAW of 12
      pub exits-told : resolved_from text (look_in (network_filled n t).segments (network_filled n t).lanes (network_filled n t).zones) (length n.segments) (table_of 0 exit_words_of (length t.exits) (exit_rows n text ts)) 0 (length (exit_rows n text ts))
          ≡ exits_answer n t (first_undeclared (tables_unresolved n))
      exits-told =
          Exits.exits-resolved text (look_in (network_filled n t).segments (network_filled n t).lanes (network_filled n t).zones) (length n.segments) (length t.exits) rows room_for-rows
          ∙ ap₂ (λ (k : Look) (m : ℕ). picked text k m (length t.exits) rows (first_fault (entry_fault k m) [] (map (entry_of_row text) rows))) (filled-looked n t room) as-many-segments
          ∙ ap (λ (es : List PointId). picked text K M (length t.exits) rows (first_fault (entry_fault K M) [] es)) entries-of-exit-rows
          ∙ answer-is (first_undeclared (tables_unresolved n)) refl

      -- the same where the rows are counted as the network's exits
      pub exits-told-counted : resolved_from text (look_in (network_filled n t).segments (network_filled n t).lanes (network_filled n t).zones) (length n.segments) (table_of 0 exit_words_of (length t.exits) (exit_rows n text ts)) 0 (length (tables n).exits)
          ≡ exits_answer n t (first_undeclared (tables_unresolved n))
      exits-told-counted = rw exit-rows_as-many at exits-told

-- ## 13
-- THE LAW of 13
pub repeats-told : (n : Network Field) (text : Bytes) → SpellsRndf n text → (t : Lent) → HasRoom (sizes (tables n)) t → first_repeat_of (network_filled n t).checkpoints (length (tables n).checkpoints) ≡ row_of (the_first_repeat_of (numbers_of (tables n)))
repeats-told n text spelled t room =
    let rows = map shown_checkpoint (tables n).checkpoints in
    let bounds = each_map (CheckpointBounds (length (tables n).points)) (λ r. Numbered r.number) (λ r b. b.number) (tables n).checkpoints (spelled-bounded (point_row_of n) n spelled.said spelled.net).checkpoints in
    ap₂ (λ (w : List ℕ) (k : ℕ). first_repeat_of w k) (sym (table-shown shown_checkpoint checkpoint_words_of the_checkpoint_words_of checkpoint-shown 0 (length t.checkpoints) (tables n).checkpoints)) (sym (length-map (tables n).checkpoints shown_checkpoint))
    ∙ Repeats.repeats-told (length t.checkpoints) rows (shown-fit shown_checkpoint (tables n).checkpoints (length t.checkpoints) 2 room.checkpoints) (each-of_map Numbered (λ (r : CheckpointRow). r.number.0) rows (each-of_map (λ (r : CheckpointRow). Numbered r.number.0) shown_checkpoint (tables n).checkpoints bounds))
    ∙ ap (λ (l : List ℕ). row_of (the_first_repeat_of l)) (map-map (λ (r : CheckpointRow). r.number.0) shown_checkpoint (tables n).checkpoints)
