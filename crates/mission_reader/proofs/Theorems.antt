-- THE THEOREM: given an accepted RNDF, the reader of an MDF answers what specs/MissionReplies says, and nothing else. Assumes nothing.
use Rattle.std.specs.Prelude.{⊤, Ok, Err, Result}
use Rattle.mission_reader.specs.Types.{MissionReply}
use mathlib.Core.Path.{◌≡◌, refl, sym, ap, ap₂, subst, ◌∙◌}
use mathlib.Core.List.{List}
use mathlib.Core.Bool.{Bool, true, false}
use mathlib.Core.Logic.{◌⊎◌, inl, inr}
use Prim.Native.Nat.{ℕ, ◌≤◌}
use lib.Dec.{ltb, leb}
use lib.ListN.{length, length-replicate}
use borrow.Author.Tests.{ltb-true, ltb-false, leb-true, le-leb}
use Rattle.terms.specs.Ascii.{Bytes}
use Rattle.terms.specs.Words.{pick}
use Rattle.terms.proofs.Tests.{clash}
use Rattle.line.specs.Content.{Field}
use Rattle.grammar.specs.Network.{Network}
use Rattle.grammar.specs.Mission.{Mission}
use Rattle.grammar.specs.Tables.{tables, mission_tables}
use Rattle.text.specs.Spelling.{SpellsRndf, SpellsMdf}
use Rattle.fill.specs.Counts.{sizes}
use Rattle.rows.specs.Lay.{rows_of}
use Rattle.rows.specs.Strides.{goal_stride, limit_stride}
use Rattle.rows.specs.declared.MissionFileRow.{MissionFileRow}
use Rattle.table_words.specs.Words.{Lent, MissionLent, HasRoom, mission_filled}
use Rattle.table_words.specs.FileRows.{mission_file_of}
use Rattle.fault_lines.proofs.MdfFaults.{no-line-fits}
use Rattle.form_faults.specs.FormFaults.{MdfBadLine, MdfUnended}
use Rattle.walk.specs.Walking.{Found, fault, gathered}
use Rattle.mission.specs.Storing.{MissionMemory}
use Rattle.mission.specs.Reading.{filled_of, filled_in}
use Rattle.mission.proofs.Filled.{all_read, mission-memory}
use Rattle.counts.specs.declared.MissionCounts.{MissionCounts}
use Rattle.refusal.specs.Shapes as Shape
use Rattle.mission_reader.specs.MissionReplies.{most, RoomFor, AcceptsMdf, RefusesMdf, too_long, bad_line, unended, no_room, bad_reference, rows_used_of, Delivers, Takes}
use Rattle.mission_reader.specs.MissionReading.{Rndf, room, refer_of, answered_of, judged_of, Read, refused, accepted, outcome, from_filled, empty, mission_of}
use Rattle.mission_reader.proofs.Found.{found-fault, found-mission, known_behind, goals-long, limits-long, filled-behind}
use Rattle.mission_reader.proofs.References.{accepted-rndf, Refers, refers}
use Rattle.mission_reader.proofs.OneReply.{one-accepted, never_both, one-refused}
use Rattle.refusal.specs.declared.Fault.{Fault}

-- ## What a reply says
abbrev pub Replies : Network Field → Bytes → MissionLent → Read → Type 0
Replies n mdf u (refused line number) = RefusesMdf n mdf u line number
Replies n mdf u (accepted counts file goals limits) = Takes n mdf u counts file goals limits

-- ## The test of room
module _ (m : Mission Field) (u : MissionLent) where
  abbrev goals-fit : Bool
  goals-fit = leb (length m.goals) (rows_of (length u.goals) goal_stride)

  abbrev limits-fit : Bool
  limits-fit = leb (length m.limits) (rows_of (length u.limits) limit_stride)

  room-right : room (all_read m) (length u.goals) (length u.limits) ≡ true → RoomFor m u
  unfolding room
  room-right e = go goals-fit refl e
    where
      go : (x : Bool) → goals-fit ≡ x → pick x limits-fit false ≡ true → RoomFor m u
      go true q e = record { goals = leb-true (length m.goals) (rows_of (length u.goals) goal_stride) q; limits = leb-true (length m.limits) (rows_of (length u.limits) limit_stride) e }
      go false q e = clash (sym e)

  room-only : RoomFor m u → room (all_read m) (length u.goals) (length u.limits) ≡ true
  unfolding room
  room-only h = rw (le-leb (length m.goals) (rows_of (length u.goals) goal_stride) h.goals) (le-leb (length m.limits) (rows_of (length u.limits) limit_stride) h.limits)

module _ (n : Network Field) (rndf : Bytes) (s : SpellsRndf n rndf) (t : Lent) (roomy : HasRoom (sizes (tables n)) t) (mdf : Bytes) (u : MissionLent) where
  abbrev known : Rndf
  known = accepted-rndf n rndf t

  -- what the reader answers
  abbrev pub answer : Read
  answer = mission_of known mdf u.goals u.limits

  module _ (long : length mdf ≤ most) where
    module _ (m : Mission Field) (h : SpellsMdf m mdf) where
      by-reference : RoomFor m u → (x : Result ⊤ Fault) → Refers n mdf x → Replies n mdf u (outcome (answered_of x (all_read m)) (mission_filled (mission_tables m) u).goals (mission_filled (mission_tables m) u).limits)
      by-reference r (Ok _) none-wrong = record {
        mission = m;
        accepts = record { size = long; spelled = h; room = r; fits = no-line-fits n m mdf h none-wrong };
        delivers = record { counted = refl; own_row = refl; goals_hold = refl; limits_hold = refl };
      }
      by-reference r (Err x) f = bad_reference long h r f

      module _ (w : MissionMemory) (e : filled_of mdf (empty u.goals u.limits) ≡ gathered w) where
        room-tested : room w.so_far (length w.goals) (length w.limits) ≡ room (all_read m) (length u.goals) (length u.limits)
        room-tested =
            let g = goals-long m mdf h _ _ w e ∙ length-replicate (length u.goals) 0 in
            let l = limits-long m mdf h _ _ w e ∙ length-replicate (length u.limits) 0 in
            rw (known_behind m mdf h _ _ w e, g, l) refl

        -- where the tables are filled, what they hold is judged
        judged : (x : Bool) → room (all_read m) (length u.goals) (length u.limits) ≡ x → judged_of known mdf w ≡ pick x (answered_of (refer_of known mdf w) w.so_far) (Err (Shape.fault 0 11))
        unfolding judged_of
        judged x q = ap (λ (y : Bool). pick y (answered_of (refer_of known mdf w) w.so_far) (Err (Shape.fault 0 11))) (room-tested ∙ q)

        by-room : (x : Bool) → room (all_read m) (length u.goals) (length u.limits) ≡ x → Replies n mdf u (outcome (judged_of known mdf w) w.goals w.limits)
        by-room true q =
            let r = room-right m u q in
            subst (λ (y : MissionReply). Replies n mdf u (outcome y w.goals w.limits)) (sym (judged true q))
            (subst (λ (v : MissionMemory). Replies n mdf u (outcome (answered_of (refer_of known mdf v) v.so_far) v.goals v.limits)) (sym (filled-behind m mdf h u w e r))
            (by-reference r (refer_of known mdf (mission-memory m u)) (refers n rndf s t roomy m mdf h u r long)))
        by-room false q =
            subst (λ (y : MissionReply). Replies n mdf u (outcome y w.goals w.limits)) (sym (judged false q)) (no_room long h (λ r. clash (sym (room-only m u r) ∙ q)))

    by-found : (f : Found MissionMemory) → filled_of mdf (empty u.goals u.limits) ≡ f → Replies n mdf u (from_filled known mdf f)
    by-found (fault i k) e = go (found-fault mdf _ _ i k e)
      where
        go : MdfBadLine mdf i k ⊎ (MdfUnended mdf i × (k ≡ 10)) → RefusesMdf n mdf u i k
        go (inl b) = bad_line long b
        go (inr b) = subst (RefusesMdf n mdf u i) (sym b.1) (unended long b.0)
    by-found (gathered w) e =
        let f = found-mission mdf _ _ w e in
        by-room f.0 f.1 w e (room (all_read f.0) (length u.goals) (length u.limits)) refl

  -- THE THEOREM
  pub replies-right : Replies n mdf u answer
  unfolding mission_of filled_in
  replies-right = go (ltb most (length mdf)) refl
    where
      go : (x : Bool) → ltb most (length mdf) ≡ x → Replies n mdf u (from_filled known mdf (pick x (fault 0 1) (filled_of mdf (empty u.goals u.limits))))
      go true q = too_long (ltb-true most (length mdf) q)
      go false q = by-found (ltb-false most (length mdf) q) (filled_of mdf (empty u.goals u.limits)) refl

  -- what the program replied and left in the tables, by its contract
  pub read_right : (r : MissionReply) (goals limits : List ℕ) → outcome r goals limits ≡ answer → Replies n mdf u (outcome r goals limits)
  read_right r goals limits e = subst (Replies n mdf u) (sym e) replies-right

  -- so an MDF is accepted or refused
  pub accepted-or-refused : ((m : Mission Field) × AcceptsMdf n mdf u m) ⊎ ((line : ℕ) × (number : ℕ) × RefusesMdf n mdf u line number)
  accepted-or-refused = go answer replies-right
    where
      go : (r : Read) → Replies n mdf u r → ((m : Mission Field) × AcceptsMdf n mdf u m) ⊎ ((line : ℕ) × (number : ℕ) × RefusesMdf n mdf u line number)
      go (refused line number) x = inr (line, number, x)
      go (accepted c f g l) x = inl (x.mission, x.accepts)

  -- ## No other reply says what is so
  delivered-one : (m : Mission Field) {c : MissionCounts} {f : MissionFileRow} {g l : List ℕ} → Delivers u m c f g l → accepted c f g l ≡ accepted (rows_used_of m) (mission_file_of m) (mission_filled (mission_tables m) u).goals (mission_filled (mission_tables m) u).limits
  delivered-one m d = λ i. accepted (d.counted i) (d.own_row i) (d.goals_hold i) (d.limits_hold i)

  pub refused-only : (i k : ℕ) → RefusesMdf n mdf u i k → answer ≡ refused i k
  refused-only i k f = go answer replies-right
    where
      go : (r : Read) → Replies n mdf u r → r ≡ refused i k
      go (refused j c) x = let e = one-refused n mdf u j c i k x f in ap₂ (λ (a b : ℕ). refused a b) e.0 e.1
      go (accepted c o g l) x = absurd (never_both n mdf u x.mission i k x.accepts f)

  pub accepted-only : (m : Mission Field) → AcceptsMdf n mdf u m → answer ≡ accepted (rows_used_of m) (mission_file_of m) (mission_filled (mission_tables m) u).goals (mission_filled (mission_tables m) u).limits
  accepted-only m a = go answer replies-right
    where
      go : (r : Read) → Replies n mdf u r → r ≡ accepted (rows_used_of m) (mission_file_of m) (mission_filled (mission_tables m) u).goals (mission_filled (mission_tables m) u).limits
      go (refused j c) x = absurd (never_both n mdf u m j c a x)
      go (accepted c o g l) x = delivered-one m (subst (λ (y : Mission Field). Delivers u y c o g l) (one-accepted n mdf u x.mission m x.accepts a) x.delivers)
