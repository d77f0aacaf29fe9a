-- THE THEOREM: what the reader of an RNDF answers is what document 01 says: line and number of a refusal in its order; or the rows, the file's row and the tables of the network that is spelled. Assumes nothing.
use Rattle.std.specs.Prelude.{Err}
use mathlib.Core.Path.{◌≡◌, refl, sym, ap, subst, ◌∙◌}
use mathlib.Core.List.{[]}
use mathlib.Core.Option.{Option, none, some}
use mathlib.Core.Bool.{Bool, true, false}
use mathlib.Core.Logic.{⊎_elim}
use Prim.Native.Nat.{ℕ, ◌≤◌, ◌<◌}
use native.Mathlib.Omega.{arith}
use lib.ListN.{length, length-replicate}
use lib.Dec.{ltb}
use lib.IntN.{ℤ, pos}
use borrow.Author.Tests.{ltb-true, ltb-false}
use Rattle.terms.specs.Ascii.{Bytes}
use Rattle.terms.specs.Words.{pick}
use Rattle.terms.proofs.Tests.{clash}
use Rattle.line.specs.Content.{Field}
use Rattle.line.specs.Lines.{lines_of}
use Rattle.grammar.specs.Editions.{Edition, march}
use Rattle.grammar.specs.Network.{Network}
use Rattle.grammar.specs.Tables.{tables}
use Rattle.grammar.specs.References.{Sound}
use Rattle.text.specs.Spelling.{SpellsRndfIn, SpellsRndf}
use Rattle.form_faults.proofs.FormFaults.{rndf-bad-line-right_in, rndf-unended-right_in}
use Rattle.fill.specs.Counts.{sizes}
use Rattle.fill.specs.FirstFaults.{Fault}
use Rattle.room.proofs.Fitted.{fitted-kept}
use Rattle.find_line.proofs.Theorems.{rndf-line-sized}
use Rattle.rows.specs.declared.FileRow.{FileRow}
use Rattle.table_words.specs.Words.{Lent, HasRoom, zeros, network_filled}
use Rattle.table_words.specs.FileRows.{network_file}
use Rattle.table_words.proofs.RowsAtMost.{rows-at-most}
use Rattle.place.specs.Step.{first_place, over_of}
use Rattle.editions.proofs.Later.{later}
use Rattle.edition_judge.specs.EditionLine.{judging_in}
use Rattle.progress.specs.declared.Progress.{Progress}
use Rattle.walk.specs.Walking.{Found, fault, gathered}
use Rattle.walk.proofs.Cutting.{walk-keeps}
use Rattle.network.specs.Storing.{Memory}
use Rattle.network.specs.Reading.{put, filled_of, filled_in}
use Rattle.network.proofs.Steps.{Lengths, lengths, put-long}
use Rattle.network.proofs.Answered.{found-fault, filled-later}
use Rattle.network.proofs.Holding.{CountsNetwork}
use Rattle.network.proofs.Spelled.{left-counted, left-filled, found-network}
use Rattle.network_references.specs.ExitStarts.{exits_answer}
use Rattle.marks.specs.Tests.{row_of}
use Rattle.fault_lines.specs.FaultLines.{FirstRndfFault}
use Rattle.fault_lines.proofs.RndfFaults.{undeclared_in, repeated_in, exit_line, checkpoint_line_of, no-row-sound, only-undeclared, only-repeated, lines-differ, undeclared-first, repeated-first}
use Rattle.refusal.specs.Shapes as Shape
use Rattle.counts.specs.declared.Counts.{Counts}
use Rattle.room.specs.Room.{parts_fit_of, marks_fit_of}
use Rattle.network_reader.specs.Reading.{most, room, the_counts_of, fault_line_of, Referred, right, wrong, referred, joined, refer_of, Read, refused, accepted, tables_of, from_referred, judged_of, from_filled, empty, read_of}
use Rattle.network_reader.specs.Replies.{rows_used_of, AcceptsRndfIn, RefusesRndfIn, too_long, bad_line, unended, no_room, bad_reference}
use Rattle.network_reader.proofs.Rooms.{has_room, room-there}
use Rattle.network_reader.proofs.Referring.{refers}

-- ## What an answer means
pub record Accepted (ε : Edition) (text : Bytes) (t : Lent) (c : Counts) (file : FileRow) (left : Lent) : Type 0 where
  pub net : Network Field
  pub accepts : AcceptsRndfIn ε text t net
  pub rows : c ≡ rows_used_of (sizes (tables net))
  pub row : file ≡ network_file net
  pub holds : left ≡ network_filled net t

abbrev pub Meant : Edition → Bytes → Lent → Read → Type 0
Meant ε text t (refused line number) = RefusesRndfIn ε text t line number
Meant ε text t (accepted c file left) = Accepted ε text t c file left

-- ## Counts
pub counts_are : (n : Network Field) (text : Bytes) → SpellsRndf n text → length text ≤ most → (p : Progress) → CountsNetwork n p → the_counts_of p ≡ rows_used_of (sizes (tables n))
unfolding the_counts_of
counts_are n text s h p c =
    let few : (sizes (tables n)).points ≤ 4294967295 = let x = (rows-at-most n text s).points in omega arith in
    rw (c.segments, c.lanes, c.zones, c.spots, c.points, c.checkpoints, c.stops, c.exits, fitted-kept (sizes (tables n)).points few) refl

-- ## Room, by the lengths of the tables
room_by : Counts → Lengths → Bool
room_by c l = pick (parts_fit_of c l.segments l.lanes l.zones l.spots) (marks_fit_of c l.points l.checkpoints l.stops l.exits) false

lengths-kept : (text : Bytes) (t : Lent) (m : Memory) → filled_of march text (empty t) ≡ gathered m → lengths m ≡ lengths (empty t)
unfolding filled_of
lengths-kept text t m e = walk-keeps (judging_in march) put over_of (λ x. lengths x ≡ lengths (empty t)) (λ w s c h. put-long w s c ∙ h) (lines_of text) first_place (empty t) 0 1 m refl e

zeros-long : (t : Lent) (c : Counts) → room_by c (lengths (empty t)) ≡ room c t
unfolding room_by
zeros-long t c = λ i. room_by c (record { segments = length-replicate {A = ℕ} (length t.segments) 0 i; lanes = length-replicate {A = ℕ} (length t.lanes) 0 i; zones = length-replicate {A = ℕ} (length t.zones) 0 i; spots = length-replicate {A = ℕ} (length t.spots) 0 i; points = length-replicate {A = ℤ} (length t.points) (pos 0) i; checkpoints = length-replicate {A = ℕ} (length t.checkpoints) 0 i; stops = length-replicate {A = ℕ} (length t.stops) 0 i; exits = length-replicate {A = ℕ} (length t.exits) 0 i })

room-same : (text : Bytes) (t : Lent) (m : Memory) (c : Counts) → filled_of march text (empty t) ≡ gathered m → room c (tables_of m) ≡ room c t
unfolding room_by
room-same text t m c e = ap (room_by c) (lengths-kept text t m e) ∙ zeros-long t c

-- ## References: all are right, and the exits hold their entries; or the first line at fault
pub data Refers (text : Bytes) (t : Lent) (n : Network Field) (x : Referred) : Type 0 where
  all_right : Sound n → x ≡ right (network_filled n t).exits → Refers text t n x
  at-fault : (line number : ℕ) → FirstRndfFault n text line number → x ≡ wrong line number → Refers text t n x

joined-so : (n : Network Field) (text : Bytes) → length text ≤ most → SpellsRndf n text → (t : Lent) (u r : Option Fault) → undeclared_in n ≡ u → repeated_in n ≡ r → Refers text t n (joined text (exits_answer n t u) (row_of r))
unfolding fault_line_of
joined-so n text size h t none none a b = all_right (no-row-sound n text h a b) refl
joined-so n text size h t (some f) none a b = rw (rndf-line-sized text 16 f.row size) (at-fault (exit_line text f.row) 12 (only-undeclared n text h f a b) refl)
joined-so n text size h t none (some g) a b = rw (rndf-line-sized text 14 g.row size) (at-fault (checkpoint_line_of text g.row) 13 (only-repeated n text h g a b) refl)
joined-so n text size h t (some f) (some g) a b = rw (rndf-line-sized text 16 f.row size, rndf-line-sized text 14 g.row size) (go (ltb (exit_line text f.row) (checkpoint_line_of text g.row)) refl)
  where
    go : (x : Bool) → ltb (exit_line text f.row) (checkpoint_line_of text g.row) ≡ x
        → Refers text t n (referred (pick x (Err (Shape.fault (exit_line text f.row) 12)) (Err (Shape.fault (checkpoint_line_of text g.row) 13))) [])
    go true q = at-fault (exit_line text f.row) 12 (undeclared-first n text h f g a b (ltb-true (exit_line text f.row) (checkpoint_line_of text g.row) q)) refl
    go false q =
        let le = ltb-false (exit_line text f.row) (checkpoint_line_of text g.row) q in
        let less : checkpoint_line_of text g.row < exit_line text f.row = below (checkpoint_line_of text g.row) (exit_line text f.row) le (λ x. lines-differ n text h f g a b (sym x)) in
        at-fault (checkpoint_line_of text g.row) 13 (repeated-first n text h f g a b less) refl
      where
        below : (i j : ℕ) → i ≤ j → (i ≡ j → ⊥) → i < j
        below i j l d = omega (arith, l, d)

-- ## Filled tables. What is filled in an edition is filled in the present one, with the network that it spells there
module _ (ε : Edition) (text : Bytes) (size : length text ≤ most) (t : Lent) (n : Network Field) (s : SpellsRndfIn ε n text) (m : Memory) (f : filled_of ε text (empty t) ≡ gathered m) where
  h : SpellsRndf n text
  h = later ε n text s

  e : filled_of march text (empty t) ≡ gathered m
  e = filled-later ε text (empty t) m f

  pub counted : CountsNetwork n m.so_far
  counted = left-counted n text h (zeros t) m e

  -- the test of room is the one of the network's rows ..
  pub room-is : room (the_counts_of m.so_far) (tables_of m) ≡ room (rows_used_of (sizes (tables n))) t
  room-is = room-same text t m (the_counts_of m.so_far) e ∙ ap (λ (c : Counts). room c t) (counts_are n text h size m.so_far counted)

  -- .. and the references that are found are the network's
  pub references-are : HasRoom (sizes (tables n)) t → Refers text t n (refer_of text m.segments m.lanes m.zones m.checkpoints m.exits m.so_far)
  references-are fits = rw (refers n text h size t fits m counted (left-filled n text h size t fits m e)) (joined-so n text size h t (undeclared_in n) (repeated_in n) refl refl)

  refers-so : HasRoom (sizes (tables n)) t → (x : Referred) → Refers text t n x → Meant ε text t (from_referred m x)
  refers-so fits x (all_right ok q) =
      let c = counted in
      let k = left-filled n text h size t fits m e in
      rw q (record {
        net = n;
        accepts = record { size = size; spelled = s; room = fits; sound = ok };
        rows = counts_are n text h size m.so_far c;
        row = c.file;
        holds = λ i. record {
          segments = k.segments i;
          lanes = k.lanes i;
          zones = k.zones i;
          spots = k.spots i;
          points = k.points i;
          checkpoints = k.checkpoints i;
          stops = k.stops i;
          exits = (network_filled n t).exits;
        };
      })
  refers-so fits x (at-fault i k x₁ q) = rw q (bad_reference n size s fits x₁)

  judged-so : Meant ε text t (judged_of text m)
  unfolding judged_of
  judged-so = go (room (the_counts_of m.so_far) (tables_of m)) refl
    where
      go : (x : Bool) → room (the_counts_of m.so_far) (tables_of m) ≡ x → Meant ε text t (pick x (from_referred m (refer_of text m.segments m.lanes m.zones m.checkpoints m.exits m.so_far)) (refused 0 11))
      go false q = no_room n size s (λ r. clash (sym (room-there (sizes (tables n)) t r) ∙ sym room-is ∙ q))
      go true q =
          let fits = has_room (sizes (tables n)) t (sym room-is ∙ q) in
          refers-so fits (refer_of text m.segments m.lanes m.zones m.checkpoints m.exits m.so_far) (references-are fits)

-- ## The whole
pub meant : (ε : Edition) (text : Bytes) (t : Lent) → Meant ε text t (read_of ε text t)
unfolding read_of filled_in
meant ε text t = sized (ltb most (length text)) refl
  where
    found : length text ≤ most → (w : Found Memory) → filled_of ε text (empty t) ≡ w → Meant ε text t (from_filled text w)
    found size (fault i k) e =
        ⊎_elim (λ x. bad_line size (rndf-bad-line-right_in ε text i k x)) (λ x. subst (RefusesRndfIn ε text t i) (sym x.1) (unended size (rndf-unended-right_in ε text i x.0))) (found-fault ε text (empty t) i k e)
    found size (gathered m) e = let n = found-network ε text (empty t) m e in judged-so ε text size t n.0 n.1 m e

    sized : (x : Bool) → ltb most (length text) ≡ x → Meant ε text t (from_filled text (pick x (fault 0 1) (filled_of ε text (empty t))))
    sized true q = too_long (ltb-true most (length text) q)
    sized false q = found (ltb-false most (length text) q) (filled_of ε text (empty t)) refl
