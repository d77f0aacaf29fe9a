-- Every text is accepted or refused, whatever tables are lent: found without a reader, from what the theory says of statements. Assumes nothing.
use mathlib.Core.Path.{◌≡◌, refl, sym, ap, ◌∙◌}
use mathlib.Core.List.{List, map}
use mathlib.Core.Option.{Option, none, some}
use mathlib.Core.Bool.{Bool, true, false}
use mathlib.Core.Logic.{◌⊎◌, inl, inr}
use Prim.Native.Nat.{ℕ, ◌/◌, ◌≤◌, ◌<◌}
use native.Mathlib.Omega.{arith}
use lib.Dec.{ltb}
use lib.ListN.{length}
use borrow.Author.Tests.{ltb-true, ltb-false}
use Rattle.terms.specs.Ascii.{Bytes}
use Rattle.line.specs.Content.{Field}
use Rattle.scan.specs.Reach.{same_bytes_of}
use Rattle.scan.proofs.Equal.{same-equal, false-differ}
use Rattle.law.specs.Network.{Network, Mission, SpellsNetwork, SpellsMission, reading}
use Rattle.law.specs.Tables.{Lent, MissionLent, HasRoom, MissionHasRoom, segment_rows, lane_rows_of, zone_rows, spot_rows, point_rows, checkpoint_rows, stop_rows, exit_rows, goal_rows, limit_rows}
use Rattle.law.specs.Faults.{BadLine, FirstFault, RndfFault, MdfFault}
use Rattle.grammar.specs.Editions.{Edition, law_of}
use Rattle.editions.proofs.Later.{later}
use Rattle.grammar.specs.References.{all_numbers, parts}
use Rattle.text.specs.Spelling.{SpellsRndfIn, SpellsMdf}
use Rattle.fill.specs.FirstFaults.{Fault, the_first_foreign_goal_of, the_first_bad_limit_of, some_missing}
use Rattle.form_faults.specs.FormFaults.{RndfBadLineIn, RndfUnendedIn, MdfBadLine, MdfUnended}
use Rattle.form_faults.proofs.FormFaults.{rndf-one-of-three_in, mdf-one-of-three}
use Rattle.find_line.specs.FoundLines.{mdf_line_of}
use Rattle.fault_lines.proofs.RndfFaults.{undeclared_in, repeated_in, exit_line, checkpoint_line_of, no-row-sound, only-undeclared, only-repeated, lines-differ, undeclared-first, repeated-first}
use Rattle.fault_lines.proofs.MdfFaults.{other-name-line, foreign-goal-line, bad-limit-line, id-missing-line, no-mission-line, no-line-fits}
use Rattle.law_spelling.proofs.Texts.{rndf-to_in, mdf-to_in}
use Rattle.law_faults.proofs.Theorems.{rndf-bad-to_in, rndf-unended-to_in, mdf-bad-to_in, mdf-unended-to_in}
use Rattle.law_columns.specs.Files.{rndf_column_in_of, mdf_column_of}
use Rattle.law_columns.proofs.Theorems.{rndf-column-bad_in, rndf-column-fault_in, mdf-column-bad_in, mdf-column-fault_in}
use Rattle.law_tables.proofs.SameFits.{fits-to}
use Rattle.law_tables.proofs.RndfFirst.{rndf-first-to_in}
use Rattle.law_tables.proofs.MdfFirst.{mdf-first-to_in}
use Rattle.replies.specs.Replies.{longest, too_long, bad_line, unended, no_room, bad_reference}
use Rattle.replies.specs.Short.{AcceptsRndf, RefusesRndf, AcceptsMdf, RefusesMdf}

-- ## Room
abbrev Room : {X : Type 0} → (stride : ℕ) (rows : List (List X)) (lent : List X) → Type 0
Room stride rows lent = length rows ≤ length lent / stride

abbrev Decided : Type 0 → Type 0
Decided P = P ⊎ (P → ⊥)

at_most : (a b : ℕ) → Decided (a ≤ b)
at_most a b = go (ltb b a) refl
  where
    go : (x : Bool) → ltb b a ≡ x → Decided (a ≤ b)
    go true e = inr (λ (h : a ≤ b). let l = ltb-true b a e in absurd (omega arith))
    go false e = inl (ltb-false b a e)

also : {P Q : Type 0} → Decided P → Decided Q → Decided (P × Q)
also (inl p) (inl q) = inl (p, q)
also (inl p) (inr q) = inr (λ h. q h.1)
also (inr p) d = inr (λ h. p h.0)

by_parts : {P Q : Type 0} → (P → Q) → (Q → P) → Decided P → Decided Q
by_parts f g (inl p) = inl (f p)
by_parts f g (inr p) = inr (λ q. p (g q))

roomy : (n : Network Field) (t : Lent) → Decided (HasRoom n t)
roomy n t =
    by_parts
    (λ (h : Each8). record { segments = h.0.0.0; lanes = h.0.0.1; zones = h.0.1.0; spots = h.0.1.1; points = h.1.0.0; checkpoints = h.1.0.1; stops = h.1.1.0; exits = h.1.1.1 })
    (λ (h : HasRoom n t). (((h.segments, h.lanes), (h.zones, h.spots)), ((h.points, h.checkpoints), (h.stops, h.exits))))
    (also
    (also (also (at_most _ _) (at_most _ _)) (also (at_most _ _) (at_most _ _)))
    (also (also (at_most _ _) (at_most _ _)) (also (at_most _ _) (at_most _ _))))
  where
    Each8 : Type 0
    Each8 = (((Room 4 (segment_rows n) t.segments × Room 5 (lane_rows_of n) t.lanes) × (Room 6 (zone_rows n) t.zones × Room 2 (spot_rows n) t.spots))
        × ((Room 2 (point_rows n) t.points × Room 2 (checkpoint_rows n) t.checkpoints) × (Room 1 (stop_rows n) t.stops × Room 2 (exit_rows n) t.exits)))

mission-roomy : (m : Mission Field) (u : MissionLent) → Decided (MissionHasRoom m u)
mission-roomy m u =
    by_parts
    (λ (h : Room 1 (goal_rows m) u.goals × Room 3 (limit_rows m) u.limits). record { goals = h.0; limits = h.1 })
    (λ (h : MissionHasRoom m u). (h.goals, h.limits))
    (also (at_most _ _) (at_most _ _))

-- ## An RNDF
module _ (d : Edition) (text : Bytes) (t : Lent) where
  abbrev Answered : Type 0
  Answered = ((n : Network Field) × AcceptsRndf (reading (law_of d)) text t n) ⊎ ((line : ℕ) × (number : ℕ) × (column : ℕ) × RefusesRndf (reading (law_of d)) text t line number column)

  module _ (size : length text ≤ longest) (n : Network Field) (s : SpellsRndfIn d n text) (room : HasRoom n t) where
    at_line : (i k : ℕ) → FirstFault (reading (law_of d)) SpellsNetwork (RndfFault n) text i k → Answered
    at_line i k f = inr (i, k, rndf_column_in_of d text i k, bad_reference n size (rndf-to_in d n text s) room f (rndf-column-fault_in d n text i k f))

    -- 12 and 13 stand on different lines
    earlier : (f g : Fault) → undeclared_in n ≡ some f → repeated_in n ≡ some g → (x : Bool) → ltb (exit_line text f.row) (checkpoint_line_of text g.row) ≡ x → Answered
    earlier f g p q true e = at_line (exit_line text f.row) 12 (rndf-first-to_in d n text s (exit_line text f.row) 12 (undeclared-first n text (later d n text s) f g p q (ltb-true _ _ e)))
    earlier f g p q false e =
        let l = ltb-false (exit_line text f.row) (checkpoint_line_of text g.row) e in
        let w = lines-differ n text (later d n text s) f g p q in
        at_line (checkpoint_line_of text g.row) 13 (rndf-first-to_in d n text s (checkpoint_line_of text g.row) 13 (repeated-first n text (later d n text s) f g p q (omega (arith, w))))

    referring : (x y : Option Fault) → undeclared_in n ≡ x → repeated_in n ≡ y → Answered
    referring none none p q = inl (n, record { size = size; spelled = rndf-to_in d n text s; room = room; right = no-row-sound n text (later d n text s) p q })
    referring (some f) none p q = at_line (exit_line text f.row) 12 (rndf-first-to_in d n text s (exit_line text f.row) 12 (only-undeclared n text (later d n text s) f p q))
    referring none (some g) p q = at_line (checkpoint_line_of text g.row) 13 (rndf-first-to_in d n text s (checkpoint_line_of text g.row) 13 (only-repeated n text (later d n text s) g p q))
    referring (some f) (some g) p q = earlier f g p q (ltb (exit_line text f.row) (checkpoint_line_of text g.row)) refl

  spelled-so : length text ≤ longest → (n : Network Field) → SpellsRndfIn d n text → Decided (HasRoom n t) → Answered
  spelled-so size n s (inl room) = referring size n s room (undeclared_in n) (repeated_in n) refl refl
  spelled-so size n s (inr full) = inr (0, 11, 0, no_room n size (rndf-to_in d n text s) full)

  formed : length text ≤ longest → ((n : Network Field) × SpellsRndfIn d n text) ⊎ (((i : ℕ) × (k : ℕ) × RndfBadLineIn d text i k) ⊎ ((i : ℕ) × RndfUnendedIn d text i)) → Answered
  formed size (inl x) = spelled-so size x.0 x.1 (roomy x.0 t)
  formed size (inr (inl x)) = bad x.0 x.1 (rndf-bad-to_in d text x.0 x.1 x.2)
    where
      bad : (i k : ℕ) → BadLine (reading (law_of d)) SpellsNetwork text i k → Answered
      bad i k b = inr (i, k, rndf_column_in_of d text i k, bad_line size b (rndf-column-bad_in d text i k b))
  formed size (inr (inr x)) = inr (x.0, 10, 0, unended size (rndf-unended-to_in d text x.0 x.1))

  pub rndf-answered : Answered
  rndf-answered = go (ltb longest (length text)) refl
    where
      go : (x : Bool) → ltb longest (length text) ≡ x → Answered
      go true e = inr (0, 1, 0, too_long (ltb-true longest (length text) e))
      go false e = formed (ltb-false longest (length text) e) (rndf-one-of-three_in d text)

-- ## An MDF for a network
module _ (d : Edition) (n : Network Field) (text : Bytes) (u : MissionLent) where
  abbrev MdfAnswered : Type 0
  MdfAnswered = ((m : Mission Field) × AcceptsMdf (reading (law_of d)) n text u m) ⊎ ((line : ℕ) × (number : ℕ) × (column : ℕ) × RefusesMdf (reading (law_of d)) n text u line number column)

  module _ (size : length text ≤ longest) (m : Mission Field) (s : SpellsMdf m text) (room : MissionHasRoom m u) where
    mdf-at-line : (i k : ℕ) → FirstFault (reading (law_of d)) SpellsMission (MdfFault n) text i k → MdfAnswered
    mdf-at-line i k f = inr (i, k, mdf_column_of text i k, bad_reference m size (mdf-to_in d m text s) room f (mdf-column-fault_in d n text i k f))

    abbrev ids : List ℕ
    ids = map (λ a. a.id) m.limits

    -- 18
    complete : m.rndf.bytes ≡ n.name.bytes → the_first_foreign_goal_of (all_numbers n) m.goals ≡ none → the_first_bad_limit_of (parts n) ids ≡ none → (x : Bool) → some_missing (parts n) ids ≡ x → MdfAnswered
    complete e g l true q = mdf-at-line (mdf_line_of text 9 0) 18 (mdf-first-to_in n m text s d (mdf_line_of text 9 0) 18 (id-missing-line n m text s e g l q))
    complete e g l false q = inl (m, record { size = size; spelled = mdf-to_in d m text s; room = room; right = fits-to n m (no-line-fits n m text s (no-mission-line n m text s e g l q)) })

    -- 16, 17
    limited : m.rndf.bytes ≡ n.name.bytes → the_first_foreign_goal_of (all_numbers n) m.goals ≡ none → (x : Option Fault) → the_first_bad_limit_of (parts n) ids ≡ x → MdfAnswered
    limited e g none q = complete e g q (some_missing (parts n) ids) refl
    limited e g (some f) q = mdf-at-line (mdf_line_of text 12 f.row) f.number (mdf-first-to_in n m text s d (mdf_line_of text 12 f.row) f.number (bad-limit-line n m text s e g f q))

    -- 15
    known : m.rndf.bytes ≡ n.name.bytes → (x : Option Fault) → the_first_foreign_goal_of (all_numbers n) m.goals ≡ x → MdfAnswered
    known e none q = limited e q (the_first_bad_limit_of (parts n) ids) refl
    known e (some f) q = mdf-at-line (mdf_line_of text 11 f.row) 15 (mdf-first-to_in n m text s d (mdf_line_of text 11 f.row) 15 (foreign-goal-line n m text s e f q))

    -- 14
    named : (x : Bool) → same_bytes_of m.rndf.bytes n.name.bytes ≡ x → MdfAnswered
    named true e = known (same-equal m.rndf.bytes n.name.bytes e) (the_first_foreign_goal_of (all_numbers n) m.goals) refl
    named false e = mdf-at-line (mdf_line_of text 1 0) 14 (mdf-first-to_in n m text s d (mdf_line_of text 1 0) 14 (other-name-line n m text s (false-differ m.rndf.bytes n.name.bytes e)))

  mdf-spelled-so : length text ≤ longest → (m : Mission Field) → SpellsMdf m text → Decided (MissionHasRoom m u) → MdfAnswered
  mdf-spelled-so size m s (inl room) = named size m s room (same_bytes_of m.rndf.bytes n.name.bytes) refl
  mdf-spelled-so size m s (inr full) = inr (0, 11, 0, no_room m size (mdf-to_in d m text s) full)

  mdf-formed : length text ≤ longest → ((m : Mission Field) × SpellsMdf m text) ⊎ (((i : ℕ) × (k : ℕ) × MdfBadLine text i k) ⊎ ((i : ℕ) × MdfUnended text i)) → MdfAnswered
  mdf-formed size (inl x) = mdf-spelled-so size x.0 x.1 (mission-roomy x.0 u)
  mdf-formed size (inr (inl x)) = bad x.0 x.1 (mdf-bad-to_in d text x.0 x.1 x.2)
    where
      bad : (i k : ℕ) → BadLine (reading (law_of d)) SpellsMission text i k → MdfAnswered
      bad i k b = inr (i, k, mdf_column_of text i k, bad_line size b (mdf-column-bad_in d text i k b))
  mdf-formed size (inr (inr x)) = inr (x.0, 10, 0, unended size (mdf-unended-to_in d text x.0 x.1))

  pub mdf-answered : MdfAnswered
  mdf-answered = go (ltb longest (length text)) refl
    where
      go : (x : Bool) → ltb longest (length text) ≡ x → MdfAnswered
      go true e = inr (0, 1, 0, too_long (ltb-true longest (length text) e))
      go false e = mdf-formed (ltb-false longest (length text) e) (mdf-one-of-three text)
