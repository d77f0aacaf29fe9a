-- 14 to 18 over the filled tables of a network and a mission: what is found is the first line at fault; where nothing is, the mission fits. Assumes nothing.
use Rattle.std.specs.Prelude.{⊤, Some, None, Ok, Err, Option, Result}
use mathlib.Core.Path.{◌≡◌, refl, sym, ap, ap₂, subst, ◌∙◌}
use mathlib.Core.List.{List, [], ◌∷◌, map, map-map}
use mathlib.Core.Option.{none}
use mathlib.Core.Bool.{Bool, true, false}
use Prim.Native.Nat.{ℕ, ◌+◌, ◌≤◌}
use lib.Dec.{eqb}
use lib.ListN.{length, length-map}
use borrow.Author.Tests.{eqb-true, eqb-false}
use Rattle.terms.specs.Ascii.{Bytes}
use Rattle.terms.specs.Words.{Each, Between, pick}
use Rattle.terms.proofs.Lists.{map-id, each_map}
use Rattle.scan.specs.Reach.{same_bytes_of}
use Rattle.scan.proofs.Equal.{same-equal, false-differ}
use Rattle.line.specs.Content.{Field}
use Rattle.units.specs.Range.{Numbered}
use Rattle.grammar.specs.Network.{Network}
use Rattle.grammar.specs.Mission.{Mission}
use Rattle.grammar.specs.Tables.{CheckpointRow, tables, point_row_of, mission_tables}
use Rattle.grammar.specs.References.{Different, all_numbers, parts}
use Rattle.text.specs.Spelling.{SpellsRndf, SpellsMdf}
use Rattle.fill.specs.Counts.{sizes}
use Rattle.fill.specs.FirstFaults.{fault, the_first_foreign_goal_of, the_first_bad_limit_of, some_missing}
use Rattle.fill.proofs.ReferenceLaws.{numbers_in-order}
use Rattle.fill.proofs.MissionLaws.{limits-good}
use Rattle.fill.proofs.LimitCounts.{all-counted, counted-all}
use Rattle.rows.specs.Columns.{checkpoint_words_of, goal_words_of, limit_words_of}
use Rattle.rows.specs.Strides.{checkpoint_stride, goal_stride, limit_stride}
use Rattle.rows.specs.declared.CheckpointRow as DC
use Rattle.rows.specs.declared.GoalRow as DG
use Rattle.rows.specs.declared.LimitRow as DL
use Rattle.table_words.specs.Words.{Lent, MissionLent, HasRoom, the_checkpoint_words_of, the_goal_words_of, the_limit_words_of, network_filled, mission_filled}
use Rattle.table_words.specs.FileRows.{network_file, mission_file_of}
use Rattle.table_words.specs.Shown.{shown_checkpoint, shown_goal, shown_limit}
use Rattle.table_words.proofs.Shown.{checkpoint-shown, goal-shown, limit-shown, table-shown}
use Rattle.table_words.proofs.Filled.{rows_fit}
use Rattle.table_words.proofs.Bounds.{CheckpointBounds, spelled-bounded}
use Rattle.marks.specs.declared.BadLimit.{BadLimit}
use Rattle.marks.specs.declared.BadLimit.TheVariants as Bad
use Rattle.mission_references.specs.Numbers.{goal_refusal, limit_refusal}
use Rattle.marks.specs.Tests.{first_foreign_goal_of, first_bad_limit_of}
use Rattle.mission_references.proofs.Laws.{goals-refused, limits-refused}
use Rattle.find_line.proofs.Theorems.{mdf-line-sized}
use Rattle.fault_lines.specs.FaultLines.{FirstMdfFault, NoMdfFault}
use Rattle.fault_lines.proofs.MdfFaults.{other-name-line, foreign-goal-line, bad-limit-line, id-missing-line, no-mission-line}
use Rattle.mission.proofs.Filled.{mission-memory}
use Rattle.refusal.specs.Shapes as Shape
use Rattle.mission_reader.specs.MissionReplies.{most, RoomFor}
use Rattle.mission_reader.specs.MissionReading.{Rndf, rndf_of, same_name, name_line, end_line, by_count, limit_found, goal_found, refer_of}
use Rattle.mission_reader.proofs.Standing.{network-name, mission-name}
use Rattle.refusal.specs.declared.Fault.{Fault}

-- what an accepted RNDF hands to the reader of an MDF: its text, where its name stands, its checkpoints as they were filled in, and how many segments and zones it has
abbrev pub accepted-rndf : (n : Network Field) (rndf : Bytes) (t : Lent) → Rndf
accepted-rndf n rndf t = rndf_of rndf (network_file n).name (network_filled n t).checkpoints (length (tables n).checkpoints) (length n.segments + length n.zones)

-- what is found of references says this of an MDF for the network
abbrev pub Refers : Network Field → Bytes → Result ⊤ Fault → Type 0
Refers n mdf (Ok _) = NoMdfFault n mdf
Refers n mdf (Err f) = FirstMdfFault n mdf f.line f.number

each_mapped : {A B : Type 0} (P : B → Type 0) (f : A → B) (l : List A) → Each (λ a. P (f a)) l → Each P (map f l)
each_mapped P f [] e = tt
each_mapped P f (a ∷ l) e = (e.0, each_mapped P f l e.1)

-- the same tables and counts have the same answer
same_goals : {c c' g g' : List ℕ} {i i' k k' : ℕ} → c ≡ c' → i ≡ i' → g ≡ g' → k ≡ k' → goal_refusal (first_foreign_goal_of c i g k) ≡ goal_refusal (first_foreign_goal_of c' i' g' k')
same_goals a b c d = rw (a, b, c, d) refl

same-limits : (p : ℕ) {l l' : List ℕ} {k k' : ℕ} → l ≡ l' → k ≡ k' → limit_refusal (first_bad_limit_of l k p) ≡ limit_refusal (first_bad_limit_of l' k' p)
same-limits p a b = rw (a, b) refl

module _ (n : Network Field) (rndf : Bytes) (s : SpellsRndf n rndf) (t : Lent) (roomy : HasRoom (sizes (tables n)) t) (m : Mission Field) (mdf : Bytes) (h : SpellsMdf m mdf) (u : MissionLent) (room : RoomFor m u) (long : length mdf ≤ most) where
  abbrev known : Rndf
  known = accepted-rndf n rndf t

  -- ## What the tests over the tables say
  name_compared : same_name rndf (network_file n).name mdf (mission_file_of m).rndf ≡ same_bytes_of m.rndf.bytes n.name.bytes
  unfolding same_name
  name_compared = ap₂ same_bytes_of (mission-name m mdf h) (network-name n rndf s)

  abbrev cs : List DC.CheckpointRow
  cs = map shown_checkpoint (tables n).checkpoints

  abbrev gs : List DG.GoalRow
  gs = map shown_goal m.goals

  abbrev ls : List DL.LimitRow
  ls = map shown_limit m.limits

  numbers-are : map (λ c. c.number.0) cs ≡ all_numbers n
  numbers-are = map-map (λ c. c.number.0) shown_checkpoint (tables n).checkpoints ∙ numbers_in-order (point_row_of n) n

  goal-numbers-are : map (λ g. g.number.0) gs ≡ m.goals
  goal-numbers-are = map-map (λ g. g.number.0) shown_goal m.goals ∙ map-id m.goals

  abbrev ids : List ℕ
  ids = map (λ a. a.id) m.limits

  ids-are : map (λ a. a.id.0) ls ≡ ids
  ids-are = map-map (λ a. a.id.0) shown_limit m.limits

  in-range : Each Numbered (map (λ c. c.number.0) cs)
  in-range =
      let b = spelled-bounded (point_row_of n) n s.said s.net in
      each_mapped Numbered (λ c. c.number.0) cs
      (each_mapped (λ c. Numbered c.number.0) shown_checkpoint (tables n).checkpoints
      (each_map (CheckpointBounds (length (tables n).points)) (λ r. Numbered r.number) (λ r k. k.number) (tables n).checkpoints b.checkpoints))

  foreign : Option ℕ
  foreign = first_foreign_goal_of (network_filled n t).checkpoints (length (tables n).checkpoints) (mission_filled (mission_tables m) u).goals (length m.goals)

  goals-tested : goal_refusal foreign ≡ the_first_foreign_goal_of (all_numbers n) m.goals
  unfolding foreign
  goals-tested =
      let c = length-map (tables n).checkpoints shown_checkpoint in
      let g = length-map m.goals shown_goal in
      same_goals (sym (table-shown shown_checkpoint checkpoint_words_of the_checkpoint_words_of checkpoint-shown 0 (length t.checkpoints) (tables n).checkpoints)) (sym c)
      (sym (table-shown shown_goal goal_words_of the_goal_words_of goal-shown 0 (length u.goals) m.goals)) (sym g)
      ∙ goals-refused (length t.checkpoints) (length u.goals) cs gs
      (rw c (rows_fit (length (tables n).checkpoints) (length t.checkpoints) checkpoint_stride roomy.checkpoints))
      (rw g (rows_fit (length m.goals) (length u.goals) goal_stride room.goals))
      in-range
      ∙ ap₂ (λ (numbers goals : List ℕ). the_first_foreign_goal_of numbers goals) numbers-are goal-numbers-are

  bad : BadLimit
  bad = first_bad_limit_of (mission_filled (mission_tables m) u).limits (length m.limits) (parts n)

  limits-tested : limit_refusal bad ≡ the_first_bad_limit_of (parts n) ids
  unfolding bad
  limits-tested =
      let l = length-map m.limits shown_limit in
      same-limits (parts n) (sym (table-shown shown_limit limit_words_of the_limit_words_of limit-shown 0 (length u.limits) m.limits)) (sym l)
      ∙ limits-refused (length u.limits) ls (parts n) (rw l (rows_fit (length m.limits) (length u.limits) limit_stride room.limits)) s.net.count
      ∙ ap (the_first_bad_limit_of (parts n)) ids-are

  -- ## One test behind the other
  module _ (same : m.rndf.bytes ≡ n.name.bytes) where
    counted : the_first_foreign_goal_of (all_numbers n) m.goals ≡ none → the_first_bad_limit_of (parts n) ids ≡ none → Refers n mdf (by_count mdf (length m.limits) (parts n))
    counted goals limits = go (eqb (length m.limits) (parts n)) refl (limits-good (parts n) ids limits)
      where
        as_many : length ids ≡ length m.limits
        as_many = length-map m.limits (λ a. a.id)

        missing : (x : Bool) → some_missing (parts n) ids ≡ x → (length ids ≡ parts n → ⊥) → Each (Between 1 (parts n)) ids × Different ids → x ≡ true
        missing true q e good = refl
        missing false q e good = absurd (e (all-counted (parts n) ids good.0 good.1 q))

        go : (x : Bool) → eqb (length m.limits) (parts n) ≡ x → Each (Between 1 (parts n)) ids × Different ids → Refers n mdf (pick x (Ok tt) (Err (Shape.fault (end_line mdf) 18)))
        go true q good = no-mission-line n m mdf h same goals limits (counted-all (parts n) ids good.0 good.1 (as_many ∙ eqb-true (length m.limits) (parts n) q))
        go false q good =
            rw (mdf-line-sized mdf 9 0 long) (id-missing-line n m mdf h same goals limits
            (missing (some_missing (parts n) ids) refl (λ e. eqb-false (length m.limits) (parts n) q (sym as_many ∙ e)) good))

    by-limits : the_first_foreign_goal_of (all_numbers n) m.goals ≡ none → (b : BadLimit) → limit_refusal b ≡ the_first_bad_limit_of (parts n) ids → Refers n mdf (limit_found mdf b (length m.limits) (parts n))
    unfolding limit_found
    by-limits goals (Bad.NotThere row) q = rw (mdf-line-sized mdf 12 row long) (bad-limit-line n m mdf h same goals (fault row 16) (sym q))
    by-limits goals (Bad.Again row) q = rw (mdf-line-sized mdf 12 row long) (bad-limit-line n m mdf h same goals (fault row 17) (sym q))
    by-limits goals Bad.Nothing q = counted goals (sym q)

    by-goals : (f : Option ℕ) → goal_refusal f ≡ the_first_foreign_goal_of (all_numbers n) m.goals → Refers n mdf (goal_found mdf f (limit_found mdf bad (length m.limits) (parts n)))
    unfolding goal_found
    by-goals (Some row) q = rw (mdf-line-sized mdf 11 row long) (foreign-goal-line n m mdf h same (fault row 15) (sym q))
    by-goals None q = by-limits (sym q) bad limits-tested

  -- THE LAW: what is found over the tables is the first line at fault, or no line is at fault
  pub refers : Refers n mdf (refer_of known mdf (mission-memory m u))
  unfolding refer_of foreign bad
  refers = subst (λ (x : Bool). Refers n mdf (by_name x)) (sym name_compared) (go (same_bytes_of m.rndf.bytes n.name.bytes) refl)
    where
      by_name : Bool → Result ⊤ Fault
      by_name x = pick x (goal_found mdf foreign (limit_found mdf bad (length m.limits) (parts n))) (Err (Shape.fault (name_line mdf) 14))

      go : (x : Bool) → same_bytes_of m.rndf.bytes n.name.bytes ≡ x → Refers n mdf (by_name x)
      go true q = by-goals (same-equal m.rndf.bytes n.name.bytes q) foreign goals-tested
      go false q = rw (mdf-line-sized mdf 1 0 long) (other-name-line n m mdf h (false-differ m.rndf.bytes n.name.bytes q))
