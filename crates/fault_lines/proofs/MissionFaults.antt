-- The first line at fault of an MDF: 14, else the first goal at fault, else the first limit at fault, else 18. For any test of names, numbers and ids. Assumes nothing.
use mathlib.Core.Path.{◌≡◌, refl, sym, ap, ◌∙◌}
use mathlib.Core.List.{List, [], map}
use mathlib.Core.Option.{Option, none, some}
use mathlib.Core.Bool.{Bool, true, false, not}
use Prim.Native.Nat.{ℕ, ◌≤◌, ◌<◌}
use native.Mathlib.Omega.{arith}
use lib.ListN.{length, length-map}
use lib.Dec.{leb}
use borrow.Author.Tests.{le-leb, not-false}
use Rattle.terms.specs.Ascii.{Bytes}
use Rattle.terms.specs.Words.{pick}
use Rattle.line.specs.Content.{Field}
use Rattle.grammar.specs.Language.{Lang, S}
use Rattle.grammar.specs.MissionStatements.{Kind, Statement, Limit, orders, of_kind, RNDF, goal, limit, end_speed_limits}
use Rattle.grammar.specs.Mission.{Mission, SpellsMission}
use Rattle.grammar.specs.MissionPlaces.{mdf, name_due}
use Rattle.grammar.specs.PlaceRows.{mission_kind_row}
use Rattle.text.specs.Answers.{read}
use Rattle.text.specs.Spelling.{SpellsMdf}
use Rattle.text.specs.MdfLines.{the_mdf_line_of}
use Rattle.text.specs.MdfWords.{mdf_lexis}
use Rattle.text.proofs.TextReading.{spelled-read}
use Rattle.text.proofs.Theorems.{read-mdf, mdf-file}
use Rattle.fill.specs.Faults.{ForeignGoal, LimitFault, MissionFault}
use Rattle.fill.specs.FirstFaults.{Fault, fault, fault_if, or_behind, the_first_foreign_goal_of, the_first_bad_limit_of, some_missing}
use Rattle.fill.specs.FirstLines.{the_place_of, placed, earlier, name_fault, first_mission_fault}
use Rattle.fill.proofs.FaultLaws.{first-there, none_right, none_only}
use Rattle.fill.proofs.MissionLaws.{first-goal-right, first-limit-right}
use Rattle.fill.proofs.LineFaults.{earlier-none, placed-none, alone-none}
use Rattle.fill.proofs.MissionLines.{mission_decides, first-mission-right}
use Rattle.fill.proofs.MissionFits.{spelled-mission-rows}
use Rattle.find_line.specs.FoundLines.{mdf_line_of}
use Rattle.find_line.proofs.Theorems.{mdf-line-there}
use Rattle.fault_lines.specs.FaultLines.{NoLine, FirstLine}
use Rattle.fault_lines.proofs.Ties as Ties
use Rattle.fault_lines.proofs.Files.{mdf-clear, mdf-said, mission-one}
use Rattle.fault_lines.proofs.MissionOrder.{says-goals, says-limits, says-name, says-end, name-before-goals, name-before-limits, name-before-end, goal-before-limits, goal-before-end, limit-before-end}

-- ## A fault before all others
abbrev Late : ℕ → Option Fault → Type 0
Late i o = (x : Fault) → o ≡ some x → i ≤ x.row

some-fault : {f g : Fault} → some f ≡ some g → f ≡ g
some-fault e = cc

late-none : {Y : Type 0} {x : Fault} → ◌≡◌ {A = Option Fault} none (some x) → Y
late-none e = absurd (let z : ◌≡◌ {A = ℕ} 0 1 = cc in omega arith)

wins : (a : Fault) (o : Option Fault) → Late a.row o → earlier (some a) o ≡ some a
wins a none h = refl
wins a (some b) h = rw (le-leb a.row b.row (h b refl))

late-both : (i : ℕ) (o p : Option Fault) → Late i o → Late i p → Late i (earlier o p)
late-both i none p h g = g
late-both i (some a) none h g = h
late-both i (some a) (some b) h g = λ x e. go x (leb a.row b.row) e
  where
    go : (x : Fault) (t : Bool) → some (pick t a b) ≡ some x → i ≤ x.row
    go x true e = h x e
    go x false e = g x e

late-placed : (L : Lang) (k : L.Kind) (l : List (S L)) (o : Option Fault) (i : ℕ) → ((j : ℕ) → i < the_place_of L k l j) → Late i (placed L k l o)
late-placed L k l none i h = λ x e. late-none e
late-placed L k l (some f) i h = λ x e. let r = ap (λ (f : Fault). f.row) (some-fault e) in let p = h f.row in omega arith

-- one line and one number, of any text
pub mission-line-one : (Named : Field → Type 0) (numbers : List ℕ) (parts : ℕ) (text : Bytes) (i j k m : ℕ) → FirstLine the_mdf_line_of (MissionFault Named numbers parts) text i k → FirstLine the_mdf_line_of (MissionFault Named numbers parts) text j m → (i ≡ j) × (k ≡ m)
mission-line-one Named numbers parts text = Ties.first-line-one mdf-clear (MissionFault Named numbers parts) text (mission-one Named numbers parts)

-- `named` tells whether a name is the RNDF's; `numbers`: its checkpoints'; its ids are 1 to `parts`
module _ (named : Field → Bool) (Named : Field → Type 0) (by : (v : Field) → named v ≡ true → Named v) (is : (v : Field) → Named v → named v ≡ true) (numbers : List ℕ) (parts : ℕ)
    (m : Mission Field) (text : Bytes) (h : SpellsMdf m text) where
  abbrev u : List (Statement Field)
  u = h.said

  abbrev First : ℕ → ℕ → Type 0
  First = FirstLine the_mdf_line_of (MissionFault Named numbers parts) text

  abbrev None : Type 0
  None = NoLine the_mdf_line_of (MissionFault Named numbers parts) text

  -- the limits' ids
  abbrev pub ids : List ℕ
  ids = map (λ a. a.id) m.limits

  is_read : read-mdf text ≡ read u
  is_read = spelled-read (mdf Field) mdf_lexis the_mdf_line_of SpellsMission name_due mdf-file m text h

  -- ## Rows and their lines
  pub goal-there : (f : Fault) → the_first_foreign_goal_of numbers m.goals ≡ some f → (f.row < length (of_kind goal u)) × (f.number ≡ 15)
  goal-there f e =
      let r = first-goal-right numbers m.goals f e in
      let l = first-there (ForeignGoal numbers) m.goals f.row f.number r in
      let n = ap (λ (l : List ℕ). length l) (says-goals m u h.net) in
      (omega arith, r.fault.number)

  pub limit-there : (f : Fault) → the_first_bad_limit_of parts ids ≡ some f → f.row < length (of_kind limit u)
  limit-there f e =
      let l = first-there (LimitFault parts) ids f.row f.number (first-limit-right parts ids f e) in
      let n = ap (λ (l : List Limit). length l) (says-limits m u h.net) in
      let c = length-map m.limits (λ a. a.id) in
      omega arith

  at_row : (k : Kind) (row number : ℕ) → row < length (of_kind k u) → first_mission_fault named numbers parts u ≡ some (fault (the_place_of (orders Field) k u row) number) → First (mdf_line_of text (mission_kind_row k) row) number
  at_row k row number l e = rw (mdf-line-there k row text u is_read l)
      (Ties.first-line-right mdf-clear (MissionFault Named numbers parts) text u (mdf-said m text h) (the_place_of (orders Field) k u row) number (first-mission-right named numbers parts Named by is u (fault (the_place_of (orders Field) k u row) number) e))

  -- ## The first fault of each sort
  abbrev of-name : Option Fault
  of-name = placed (orders Field) RNDF u (or_behind 0 (name_fault named [] m.rndf) none)

  abbrev of_goals : Option Fault
  of_goals = placed (orders Field) goal u (the_first_foreign_goal_of numbers m.goals)

  abbrev of-limits : Option Fault
  of-limits = placed (orders Field) limit u (the_first_bad_limit_of parts ids)

  abbrev of_end : Option Fault
  of_end = placed (orders Field) end_speed_limits u (or_behind 0 (fault_if (some_missing parts ids) 18) none)

  by_rows : first_mission_fault named numbers parts u ≡ earlier of-name (earlier of_goals (earlier of-limits of_end))
  by_rows = spelled-mission-rows m u h.net named numbers parts

  -- ## Each of them
  pub name_line : named m.rndf ≡ false → First (mdf_line_of text 1 0) 14
  name_line q =
      let here : of-name ≡ some (fault (the_place_of (orders Field) RNDF u 0) 14) = rw q in
      let l = ap (λ (l : List Field). length l) (says-name m u h.net) in
      at_row RNDF 0 14 (omega arith) (by_rows ∙ ap (λ (o : Option Fault). earlier o (earlier of_goals (earlier of-limits of_end))) here ∙ wins (fault (the_place_of (orders Field) RNDF u 0) 14) (earlier of_goals (earlier of-limits of_end))
      (late-both (the_place_of (orders Field) RNDF u 0) of_goals (earlier of-limits of_end) (late-placed (orders Field) goal u (the_first_foreign_goal_of numbers m.goals) (the_place_of (orders Field) RNDF u 0) (name-before-goals m u h.net))
      (late-both (the_place_of (orders Field) RNDF u 0) of-limits of_end (late-placed (orders Field) limit u (the_first_bad_limit_of parts ids) (the_place_of (orders Field) RNDF u 0) (name-before-limits m u h.net))
      (late-placed (orders Field) end_speed_limits u (or_behind 0 (fault_if (some_missing parts ids) 18) none) (the_place_of (orders Field) RNDF u 0) (name-before-end m u h.net)))))

  after-name : named m.rndf ≡ true → first_mission_fault named numbers parts u ≡ earlier of_goals (earlier of-limits of_end)
  after-name q = by_rows ∙ rw q

  pub goal_line_of : named m.rndf ≡ true → (f : Fault) → the_first_foreign_goal_of numbers m.goals ≡ some f → First (mdf_line_of text 11 f.row) 15
  goal_line_of q f e =
      let t = goal-there f e in
      let p = the_place_of (orders Field) goal u f.row in
      let here : of_goals ≡ some (fault p 15) = rw (e, t.1) in
      at_row goal f.row 15 t.0 (after-name q ∙ ap (λ (o : Option Fault). earlier o (earlier of-limits of_end)) here ∙ wins (fault p 15) (earlier of-limits of_end)
      (late-both p of-limits of_end (late-placed (orders Field) limit u (the_first_bad_limit_of parts ids) p (λ j. goal-before-limits m u h.net f.row j t.0))
      (late-placed (orders Field) end_speed_limits u (or_behind 0 (fault_if (some_missing parts ids) 18) none) p (λ j. goal-before-end m u h.net f.row j t.0))))

  after-goals : named m.rndf ≡ true → the_first_foreign_goal_of numbers m.goals ≡ none → first_mission_fault named numbers parts u ≡ earlier of-limits of_end
  after-goals q e = after-name q ∙ rw e

  -- its number is 16 or 17
  pub limit_line : named m.rndf ≡ true → the_first_foreign_goal_of numbers m.goals ≡ none → (f : Fault) → the_first_bad_limit_of parts ids ≡ some f → First (mdf_line_of text 12 f.row) f.number
  limit_line q g f e =
      let t = limit-there f e in
      let p = the_place_of (orders Field) limit u f.row in
      let here : of-limits ≡ some (fault p f.number) = rw e in
      at_row limit f.row f.number t (after-goals q g ∙ ap (λ (o : Option Fault). earlier o of_end) here ∙ wins (fault p f.number) of_end
      (late-placed (orders Field) end_speed_limits u (or_behind 0 (fault_if (some_missing parts ids) 18) none) p (λ j. limit-before-end m u h.net f.row j t)))

  after-limits : named m.rndf ≡ true → the_first_foreign_goal_of numbers m.goals ≡ none → the_first_bad_limit_of parts ids ≡ none → first_mission_fault named numbers parts u ≡ of_end
  after-limits q g e = after-goals q g ∙ rw e

  pub missing-line : named m.rndf ≡ true → the_first_foreign_goal_of numbers m.goals ≡ none → the_first_bad_limit_of parts ids ≡ none → some_missing parts ids ≡ true → First (mdf_line_of text 9 0) 18
  missing-line q g e s =
      let here : of_end ≡ some (fault (the_place_of (orders Field) end_speed_limits u 0) 18) = rw s in
      let l = ap (λ (l : List (Unit {0})). length l) (says-end m u h.net) in
      at_row end_speed_limits 0 18 (omega arith) (after-limits q g e ∙ here)

  pub no_line : named m.rndf ≡ true → the_first_foreign_goal_of numbers m.goals ≡ none → the_first_bad_limit_of parts ids ≡ none → some_missing parts ids ≡ false → None
  no_line q g e s =
      let here : of_end ≡ none = rw s in
      Ties.none-at-fault mdf-clear (MissionFault Named numbers parts) text u (mdf-said m text h) (none_right (mission_decides named numbers parts Named by is) [] u (after-limits q g e ∙ here))

  pub no-line-only : None → (named m.rndf ≡ true) × (the_first_foreign_goal_of numbers m.goals ≡ none) × (the_first_bad_limit_of parts ids ≡ none) × (some_missing parts ids ≡ false)
  no-line-only z =
      let e = none_only (mission_decides named numbers parts Named by is) [] u (Ties.none_only mdf-clear (MissionFault Named numbers parts) text u (mdf-said m text h) z) in
      let a = earlier-none of-name (earlier of_goals (earlier of-limits of_end)) (sym by_rows ∙ e) in
      let b = earlier-none of_goals (earlier of-limits of_end) a.1 in
      let c = earlier-none of-limits of_end b.1 in (
        not-false (named m.rndf) (alone-none (not (named m.rndf)) 0 14 (placed-none (orders Field) RNDF u (or_behind 0 (name_fault named [] m.rndf) none) a.0)),
        placed-none (orders Field) goal u (the_first_foreign_goal_of numbers m.goals) b.0,
        placed-none (orders Field) limit u (the_first_bad_limit_of parts ids) c.0,
        alone-none (some_missing parts ids) 0 18 (placed-none (orders Field) end_speed_limits u (or_behind 0 (fault_if (some_missing parts ids) 18) none) c.1),
      )
