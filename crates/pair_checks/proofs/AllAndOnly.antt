-- THE THEOREMS of L5: "Good routes are all accepted and no others." A good route of an accepted pair is accepted, with what the reader replies and leaves (`all-accepted`); whatever is not refused is a good route of an accepted pair
-- (`no-others`); and a route that is not good is refused with its own number (`refused-so`). Assumes nothing.
use Rattle.std.specs.Prelude.{Err}
use Rattle.replies.specs.Types.{PairReply}
use mathlib.Core.Path.{◌≡◌, refl}
use mathlib.Core.List.{List}
use Prim.Native.Nat.{ℕ}
use Rattle.terms.specs.Ascii.{Bytes}
use Rattle.grammar.specs.Editions.{Edition, law_of}
use Rattle.law.specs.Network.{reading}
use Rattle.law.specs.Tables.{Lent, MissionLent, filled, mission_filled, zeros, mission_zeros}
use Rattle.room.specs.Room.{fitted}
use Rattle.refusal.specs.declared.Refusal.{Refusal}
use Rattle.replies.specs.Replies.{refusal}
use Rattle.pair_checks.specs.Checks.{AcceptedPair, unread, wrong, right, Good, Bad, ChecksRoute}
use Rattle.pair_checks.proofs.Judged.{read-reply, read-so}
use Rattle.pair_checks.proofs.RouteSettled.{route-settled}

module _ (ed : Edition) (start : ℕ) (route : List ℕ) (rndf mdf : Bytes) (t : Lent) (u : MissionLent) (reply : PairReply) (left : Lent) (mission_left : MissionLent) (checked : ChecksRoute (reading (law_of ed)) start route rndf mdf t u reply left mission_left) where
  pub all-accepted : (pair : AcceptedPair (reading (law_of ed)) rndf mdf t u) → Good start route pair.net pair.goals
      → (reply ≡ read-reply ed rndf mdf t u pair) × (left ≡ filled pair.net t) × (mission_left ≡ mission_filled pair.mission u)
  all-accepted pair g = route-settled ed start route rndf mdf t u reply (read-reply ed rndf mdf t u pair) left (filled pair.net t) mission_left (mission_filled pair.mission u) checked (right pair g (read-so ed rndf mdf t u pair))

  pub no-others : ((why : Refusal) → reply ≡ Err why → ⊥) → (pair : AcceptedPair (reading (law_of ed)) rndf mdf t u) × Good start route pair.net pair.goals
  no-others not = go checked
    where
      go : ChecksRoute (reading (law_of ed)) start route rndf mdf t u reply left mission_left → (pair : AcceptedPair (reading (law_of ed)) rndf mdf t u) × Good start route pair.net pair.goals
      go (unread why x e) = absurd (not why e)
      go (wrong pair line number h e y z) = absurd (not (refusal 0 (fitted line) number 0) e)
      go (right pair g x) = (pair, g)

  pub refused-so : (pair : AcceptedPair (reading (law_of ed)) rndf mdf t u) (line number : ℕ) → Bad start route pair.net pair.goals line number
      → (reply ≡ Err (refusal 0 (fitted line) number 0)) × (left ≡ zeros t) × (mission_left ≡ mission_zeros u)
  refused-so pair line number b = route-settled ed start route rndf mdf t u reply (Err (refusal 0 (fitted line) number 0)) left (zeros t) mission_left (mission_zeros u) checked (wrong pair line number b refl refl refl)
