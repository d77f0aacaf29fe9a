-- THE LAW of the checker: what is ruled of what the reader replied and left is what the contract says. Assumes nothing.
use Rattle.std.specs.Prelude.{⊤, Ok, Err, Result}
use Rattle.replies.specs.Types.{PairReply}
use mathlib.Core.Path.{◌≡◌, refl, sym, ap, subst, ◌∙◌}
use mathlib.Core.List.{List}
use Prim.Native.Nat.{ℕ}
use lib.ListN.{length}
use Rattle.terms.specs.Words.{Bytes}
use Rattle.line.specs.Line.{Field}
use Rattle.law.specs.Network.{Network, Mission, present}
use Rattle.edition.specs.declared.Edition.{Edition}
use Rattle.edition.specs.Editions.{inner, rules_of}
use Rattle.replies.proofs.Later.{accepts-later, mdf-accepts-later}
use Rattle.law.specs.Tables.{Lent, MissionLent, filled, mission_filled, zeros, mission_zeros}
use Rattle.rows.specs.declared.FileRow.{FileRow}
use Rattle.rows.specs.declared.MissionFileRow.{MissionFileRow}
use Rattle.counts.specs.declared.Counts.{Counts}
use Rattle.counts.specs.declared.MissionCounts.{MissionCounts}
use Rattle.refusal.specs.declared.Refusal.{Refusal}
use Rattle.replies.specs.Replies.{refusal, rows_used_of, network_file, mission_file_of, ReadsPair, accepted, rndf_refused_of, mdf_refused_of}
use Rattle.replies.specs.Short.{AcceptsRndf, AcceptsMdf}
use Rattle.moves.specs.Moves.{is_move}
use Rattle.move_tables.proofs.Theorem.{moves-are}
use Rattle.route_law.specs.Moves.{Move, points_declared}
use Rattle.pair_checks.specs.Checks.{AcceptedPair, unread, wrong, right, ChecksRoute}
use Rattle.goal_points.specs.Goals.{goal_point_of}
use Rattle.goal_tables.proofs.Goals.{goals, goals_stand, goals-many, goals-some, points-are}
use Rattle.route.specs.Judged.{verdict, replied, ruled}
use Rattle.route.proofs.Found.{Says, verdict-says}

module _ (ed : Edition) (start : ℕ) (route : List ℕ) (rndf mdf : Bytes) (t : Lent) (u : MissionLent) where
  -- a reply that is an acceptance keeps what the reader left, a refusal goes with tables that are zero
  abbrev pub Lawful : (left : Lent) → (mission_left : MissionLent) → PairReply → Type 0
  Lawful left mission_left (Ok (c, file, m, own)) = ChecksRoute (rules_of ed) start route rndf mdf t u (Ok (c, file, m, own)) left mission_left
  Lawful left mission_left (Err why) = ChecksRoute (rules_of ed) start route rndf mdf t u (Err why) (zeros t) (mission_zeros u)

  abbrev ruled-of : Lent → MissionLent → PairReply → PairReply
  ruled-of left mission_left = ruled left.lanes left.zones left.checkpoints left.exits mission_left.goals start route

  module _ (n : Network Field) (m : Mission Field) (a : AcceptsRndf (rules_of ed) rndf t n) (b : AcceptsMdf (rules_of ed) n mdf u m) where
    -- the present edition accepts them too
    now : AcceptsRndf present rndf t n
    now = accepts-later (inner ed) rndf t n a

    mission-now : AcceptsMdf present n mdf u m
    mission-now = mdf-accepts-later (inner ed) n mdf u m b

    pair : AcceptedPair (rules_of ed) rndf mdf t u
    pair = record { net = n; mission = m; goals = goals rndf t n now mdf u m mission-now; network_accepted = a; mission_accepted = b; goals_stand = goals_stand rndf t n now mdf u m mission-now }

    abbrev reply : PairReply
    reply = Ok (rows_used_of n, network_file n, record { goals = length m.goals; limits = length m.limits }, mission_file_of m)

    judged : (v : Result ⊤ (ℕ × ℕ)) → Says (points_declared n) (Move n) start route (goals rndf t n now mdf u m mission-now) v → Lawful (filled n t) (mission_filled m u) (replied reply v)
    unfolding pair
    judged (Ok _) s = right pair s (accepted n m a b refl refl refl)
    judged (Err (line, number)) s = wrong pair s.0 number s.2 (ap (λ (l : ℕ). Err (refusal 0 l number 0)) s.1) refl refl

    accepted-ruled : Lawful (filled n t) (mission_filled m u) (ruled-of (filled n t) (mission_filled m u) reply)
    unfolding ruled
    accepted-ruled =
        let move = is_move (filled n t).lanes (filled n t).zones (filled n t).exits (rows_used_of n) in
        let point = goal_point_of (filled n t).checkpoints (mission_filled m u).goals in
        judged (verdict move point (points_declared n) (length m.goals) start route)
        (subst (λ (k : ℕ). Says (points_declared n) (Move n) start route (goals rndf t n now mdf u m mission-now) (verdict move point (points_declared n) k start route)) (sym (goals-many rndf t n now mdf u m mission-now))
        (verdict-says (points_declared n) (Move n) start route (goals rndf t n now mdf u m mission-now) move (moves-are rndf t n now) point (points-are rndf t n now mdf u m mission-now) (goals-some rndf t n now mdf u m mission-now)))

  -- THE LAW
  pub lawful : (read : PairReply) (left : Lent) (mission_left : MissionLent) → ReadsPair (rules_of ed) rndf mdf t u read left mission_left → Lawful left mission_left (ruled-of left mission_left read)
  unfolding ruled
  lawful read left mission_left (accepted n m a b e l k) = subst (λ (x : PairReply × Lent × MissionLent). Lawful x.1 x.2 (ruled-of x.1 x.2 x.0)) (λ i. (sym e i, sym l i, sym k i)) (accepted-ruled n m a b)
  lawful read left mission_left (rndf_refused_of line number column h e l k) = subst (λ (x : PairReply). Lawful left mission_left (ruled-of left mission_left x)) (sym e) (unread (refusal 1 line number column) (rndf_refused_of line number column h refl refl refl) refl)
  lawful read left mission_left (mdf_refused_of n line number column a h e l k) = subst (λ (x : PairReply). Lawful left mission_left (ruled-of left mission_left x)) (sym e) (unread (refusal 2 line number column) (mdf_refused_of n line number column a h refl refl refl) refl)

  -- ## As the function goes on: an acceptance is handed on, at a refusal all that was lent is cleared
  pub accepted-so : (read reply : PairReply) (left : Lent) (mission_left : MissionLent) → ReadsPair (rules_of ed) rndf mdf t u read left mission_left → reply ≡ ruled-of left mission_left read
      → (c : Counts) (file : FileRow) (m : MissionCounts) (own : MissionFileRow) → reply ≡ Ok (c, file, m, own) → ChecksRoute (rules_of ed) start route rndf mdf t u (Ok (c, file, m, own)) left mission_left
  accepted-so read reply left mission_left h r c file m own e = subst (Lawful left mission_left) (sym r ∙ e) (lawful read left mission_left h)

  pub refused-so : (read reply : PairReply) (left : Lent) (mission_left : MissionLent) → ReadsPair (rules_of ed) rndf mdf t u read left mission_left → reply ≡ ruled-of left mission_left read
      → (why : Refusal) → reply ≡ Err why → (l : Lent) (k : MissionLent) → l ≡ zeros left → zeros left ≡ zeros t → k ≡ mission_zeros mission_left → mission_zeros mission_left ≡ mission_zeros u
      → ChecksRoute (rules_of ed) start route rndf mdf t u (Err why) l k
  refused-so read reply left mission_left h r why e l k cleared long mission-cleared mission-long = subst (λ (x : Lent × MissionLent). ChecksRoute (rules_of ed) start route rndf mdf t u (Err why) x.0 x.1)
      (λ i. (sym (cleared ∙ long) i, sym (mission-cleared ∙ mission-long) i)) (subst (Lawful left mission_left) (sym r ∙ e) (lawful read left mission_left h))
