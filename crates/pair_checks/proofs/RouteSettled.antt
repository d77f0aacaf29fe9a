-- THE THEOREM of document 01's "Prove that no second reply or memory would satisfy it", for the checker of routes (L5): its contract settles the reply and every lent word, for all texts, tables, starts and routes; and some reply and memory
-- satisfy it. Assumes nothing.
use Rattle.replies.specs.Types.{PairReply}
use mathlib.Core.Path.{◌≡◌}
use mathlib.Core.List.{List}
use Prim.Native.Nat.{ℕ}
use Rattle.terms.specs.Ascii.{Bytes}
use Rattle.grammar.specs.Editions.{Edition, law_of}
use Rattle.law.specs.Network.{reading}
use Rattle.law.specs.Tables.{Lent, MissionLent}
use Rattle.route_law.specs.Moves.{Move, points_declared}
use Rattle.route_law.proofs.Settled as Routes
use Rattle.route_law.proofs.Decided.{decide}
use Rattle.pair_checks.specs.Checks.{Good, Bad, ChecksRoute}
use Rattle.pair_checks.proofs.Judged.{settled, Some, some-reply}

module _ (ed : Edition) (start : ℕ) (route : List ℕ) (rndf mdf : Bytes) (t : Lent) (u : MissionLent) where
  pub route-settled : (r r' : PairReply) (l l' : Lent) (k k' : MissionLent) → ChecksRoute (reading (law_of ed)) start route rndf mdf t u r l k → ChecksRoute (reading (law_of ed)) start route rndf mdf t u r' l' k' → (r ≡ r') × (l ≡ l') × (k ≡ k')
  route-settled = settled ed rndf mdf t u (Good start route) (Bad start route)
      (λ n goals. Routes.not-both (points_declared n) (Move n) start route goals) (λ n goals. Routes.one-fault (points_declared n) (Move n) start route goals)

  pub route-some : Some ed rndf mdf t u (Good start route) (Bad start route)
  route-some = some-reply ed rndf mdf t u (Good start route) (Bad start route) (λ n. Routes.some-answer (Move n) (λ a b. decide a b n) (points_declared n) start route)
