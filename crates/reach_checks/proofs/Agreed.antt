-- THE THEOREM of L13, over the contracts: "L5 has a good route exactly when this, given the room, accepts" (`agreed`); and a work space with as many rows as the lent point table has is room enough (`enough`). Assumes nothing.
use Rattle.std.specs.Prelude.{Err}
use Rattle.replies.specs.Types.{PairReply}
use mathlib.Core.Path.{◌≡◌, sym, subst}
use mathlib.Core.List.{List}
use Prim.Native.Nat.{ℕ, ◌/◌, ◌≤◌}
use lib.ListN.{length, replicate, length-replicate}
use Rattle.terms.specs.Ascii.{Bytes}
use Rattle.grammar.specs.Editions.{Edition, law_of}
use Rattle.law.specs.Network.{reading}
use Rattle.law.specs.Tables.{Lent, MissionLent, filled, mission_filled}
use Rattle.route_law.specs.Moves.{Move, points_declared}
use Rattle.route_law.proofs.Goals.{goals-length}
use Rattle.reach_law.proofs.Agreed as Any
use Rattle.refusal.specs.declared.Refusal.{Refusal}
use Rattle.pair_checks.specs.Checks.{AcceptedPair, right, Good, ChecksRoute}
use Rattle.pair_checks.proofs.Judged.{read-reply, read-so}
use Rattle.pair_checks.proofs.AllAndOnly as Route
use Rattle.reach_checks.specs.Checks.{Can, ChecksMission}
use Rattle.reach_checks.specs.Agree.{IsAcceptance, SomeRoute, RowForEachPoint, RouteExactlyIfDriven}
use Rattle.reach_checks.proofs.AllAndOnly as Mission

not-refused : (r : PairReply) → IsAcceptance r → (why : Refusal) → r ≡ Err why → ⊥
not-refused r a why e = subst IsAcceptance e a

module _ (ed : Edition) (start : ℕ) (rndf mdf : Bytes) (t : Lent) (u : MissionLent) where
  some_goals : (pair : AcceptedPair (reading (law_of ed)) rndf mdf t u) → 1 ≤ length pair.goals
  some_goals p = subst (λ k. 1 ≤ k) (goals-length p.net p.mission p.goals p.goals_stand) p.mission_accepted.spelled.net.good.some_goals.low

  pub enough : RowForEachPoint (reading (law_of ed)) rndf mdf t u (replicate (length t.points / 2) 0)
  enough p = subst (λ (k : ℕ). points_declared p.net ≤ k) (sym (length-replicate (length t.points / 2) 0)) p.network_accepted.room.points

  pub agreed : RouteExactlyIfDriven (reading (law_of ed)) rndf mdf t u start
  agreed work reply left mission_left work-left room checked = (to, back)
    where
      to : SomeRoute (reading (law_of ed)) rndf mdf t u start → IsAcceptance reply
      to s =
          let w = Route.no-others ed start s.route rndf mdf t u s.reply s.left s.mission_left s.checked (not-refused s.reply s.accepted) in
          let p = w.0 in
          let c = (Any.agreed (Move p.net) (points_declared p.net) (length work) start p.goals (room p) (some_goals p)).0 (s.route, w.1) in
          let e = (Mission.all-accepted ed start rndf mdf t u work reply left mission_left work-left checked p c).0 in
          subst IsAcceptance (sym e) tt

      back : IsAcceptance reply → SomeRoute (reading (law_of ed)) rndf mdf t u start
      back a =
          let w = Mission.no-others ed start rndf mdf t u work reply left mission_left work-left checked (not-refused reply a) in
          let p = w.0 in
          let g = (Any.agreed (Move p.net) (points_declared p.net) (length work) start p.goals w.1.room (some_goals p)).1 w.1 in
          record {
            route = g.0;
            reply = read-reply ed rndf mdf t u p;
            left = filled p.net t;
            mission_left = mission_filled p.mission u;
            checked = right p g.1 (read-so ed rndf mdf t u p);
            accepted = tt;
          }
