-- A part that judges an accepted pair, whatever it asks of it: where not both right and wrong can be, and wrong in one way only, the contract settles the reply and every lent word (`settled`); where always one of
-- both is, some reply and memory satisfy it (`some-reply`). Assumes nothing.
use Rattle.std.specs.Prelude.{Ok, Err}
use Rattle.replies.specs.Types.{PairReply}
use mathlib.Core.Path.{◌≡◌, refl, sym, subst, ◌∙◌}
use mathlib.Core.List.{List}
use mathlib.Core.Logic.{◌⊎◌, inl, inr}
use Prim.Native.Nat.{ℕ, ◌≤◌}
use lib.ListN.{length}
use Rattle.terms.specs.Ascii.{Bytes}
use Rattle.line.specs.Line.{Field}
use Rattle.grammar.specs.Editions.{Edition, law_of}
use Rattle.law.specs.Network.{Network, Mission, reading}
use Rattle.law.specs.Tables.{Lent, MissionLent, filled, mission_filled, zeros, mission_zeros}
use Rattle.route_law.specs.Moves.{GoalPoints}
use Rattle.route_law.proofs.Goals.{goals-one, goals_of, goals-length}
use Rattle.room.specs.Room.{fitted}
use Rattle.refusal.specs.declared.Refusal.{Refusal}
use Rattle.replies.specs.Replies.{refusal, rows_used_of, network_file, mission_file_of, ReadsPair, accepted, rndf_refused_of, mdf_refused_of}
use Rattle.replies.specs.Short.{AcceptsRndf, AcceptsMdf}
use Rattle.replies.proofs.Settled.{rndf-accepts-one, mdf-accepts-one, pair-settled, pair-some}
use Rattle.replies.proofs.Said.{pair-never-both}
use Rattle.pair_checks.specs.Checks.{AcceptedPair, Judges, unread, wrong, right}

module _ (ed : Edition) (rndf mdf : Bytes) (t : Lent) (u : MissionLent) where
  abbrev Pairs : Type 0
  Pairs = AcceptedPair (reading (law_of ed)) rndf mdf t u

  -- ## One network, one mission, one list of goals' points
  pub same-net : (p q : Pairs) → q.net ≡ p.net
  same-net p q = rndf-accepts-one ed rndf t q.net p.net q.network_accepted p.network_accepted

  same-mission : (p q : Pairs) → q.mission ≡ p.mission
  same-mission p q = mdf-accepts-one ed p.net mdf u q.mission p.mission (subst (λ n. AcceptsMdf (reading (law_of ed)) n mdf u q.mission) (same-net p q) q.mission_accepted) p.mission_accepted

  pub same_goals : (p q : Pairs) → q.goals ≡ p.goals
  same_goals p q = goals-one p.net p.mission p.network_accepted.right.numbers q.goals p.goals
      (subst (λ m. GoalPoints p.net m q.goals) (same-mission p q) (subst (λ n. GoalPoints n q.mission q.goals) (same-net p q) q.goals_stand)) p.goals_stand

  -- what is so of one is so of the other
  pub carried : (P : Network Field → List ℕ → Type 0) (p q : Pairs) → P q.net q.goals → P p.net p.goals
  carried P p q h = subst (λ g. P p.net g) (same_goals p q) (subst (λ n. P n q.goals) (same-net p q) h)

  -- ## What the reader replies to it
  abbrev pub read-reply : Pairs → PairReply
  read-reply p = Ok (rows_used_of p.net, network_file p.net, record { goals = length p.mission.goals; limits = length p.mission.limits }, mission_file_of p.mission)

  pub read-so : (p : Pairs) → ReadsPair (reading (law_of ed)) rndf mdf t u (read-reply p) (filled p.net t) (mission_filled p.mission u)
  read-so p = accepted p.net p.mission p.network_accepted p.mission_accepted refl refl refl

  not-unread : (p : Pairs) (why : Refusal) (l : Lent) (k : MissionLent) → ReadsPair (reading (law_of ed)) rndf mdf t u (Err why) l k → ⊥
  not-unread p why l k x = pair-never-both (pair-settled ed rndf mdf t u (read-reply p) (Err why) (filled p.net t) l (mission_filled p.mission u) k (read-so p) x).0

  module _ (Right : Network Field → List ℕ → Type 0) (Wrong : Network Field → List ℕ → (line number : ℕ) → Type 0) where
    abbrev Judged : PairReply → Lent → MissionLent → Type 0
    Judged = Judges (reading (law_of ed)) rndf mdf t u Right Wrong

    -- ## No second reply, and no second memory
    module _ (not-both : (n : Network Field) (goals : List ℕ) (line number : ℕ) → Right n goals → Wrong n goals line number → ⊥)
        (one-wrong : (n : Network Field) (goals : List ℕ) (line number line' number' : ℕ) → Wrong n goals line number → Wrong n goals line' number' → (line ≡ line') × (number ≡ number')) where
      pub settled : (r r' : PairReply) (l l' : Lent) (k k' : MissionLent) → Judged r l k → Judged r' l' k' → (r ≡ r') × (l ≡ l') × (k ≡ k')
      settled r r' l l' k k' (unread why x e) (unread why' x' e') = let s = pair-settled ed rndf mdf t u (Err why) (Err why') l l' k k' x x' in (e ∙ s.0 ∙ sym e', s.1, s.2)
      settled r r' l l' k k' (unread why x e) (wrong p i j h e' y z) = absurd (not-unread p why l k x)
      settled r r' l l' k k' (unread why x e) (right p h x') = absurd (not-unread p why l k x)
      settled r r' l l' k k' (wrong p i j h e y z) (unread why x e') = absurd (not-unread p why l' k' x)
      settled r r' l l' k k' (right p h x) (unread why x' e) = absurd (not-unread p why l' k' x')
      settled r r' l l' k k' (wrong p i j h e y z) (right q h' x) = absurd (not-both p.net p.goals i j (carried Right p q h') h)
      settled r r' l l' k k' (right q h' x) (wrong p i j h e y z) = absurd (not-both p.net p.goals i j (carried Right p q h') h)
      settled r r' l l' k k' (wrong p i j h e y z) (wrong q i' j' h' e' y' z') =
          let b = one-wrong p.net p.goals i j i' j' h (carried (λ n g. Wrong n g i' j') p q h') in
          (e ∙ (λ s. Err (refusal 0 (fitted (b.0 s)) (b.1 s) 0)) ∙ sym e', y ∙ sym y', z ∙ sym z')
      settled r r' l l' k k' (right p h x) (right q h' x') = pair-settled ed rndf mdf t u r r' l l' k k' x x'

    -- ## One there is. 01: "`num_checkpoints` > 0": there are goals
    pub record Some : Type 0 where
      pub reply : PairReply
      pub left : Lent
      pub mission_left : MissionLent
      pub judged : Judged reply left mission_left

    module _ (one-is : (n : Network Field) (goals : List ℕ) → 1 ≤ length goals → Right n goals ⊎ ((line : ℕ) × (number : ℕ) × Wrong n goals line number)) where
      the-pair : (n : Network Field) (m : Mission Field) → AcceptsRndf (reading (law_of ed)) rndf t n → AcceptsMdf (reading (law_of ed)) n mdf u m → Pairs
      the-pair n m h h' = let g = goals_of n m h'.right.goals in record { net = n; mission = m; goals = g.0; network_accepted = h; mission_accepted = h'; goals_stand = g.1 }

      some_goals : (p : Pairs) → 1 ≤ length p.goals
      some_goals p = subst (λ k. 1 ≤ k) (goals-length p.net p.mission p.goals p.goals_stand) p.mission_accepted.spelled.net.good.some_goals.low

      told : (p : Pairs) → Right p.net p.goals ⊎ ((line : ℕ) × (number : ℕ) × Wrong p.net p.goals line number) → Some
      told p (inl h) = record { reply = read-reply p; left = filled p.net t; mission_left = mission_filled p.mission u; judged = right p h (read-so p) }
      told p (inr f) = record { reply = Err (refusal 0 (fitted f.0) f.1 0); left = zeros t; mission_left = mission_zeros u; judged = wrong p f.0 f.1 f.2 refl refl refl }

      pub some-reply : Some
      some-reply = let s = pair-some ed rndf mdf t u in go s.reply s.left s.mission_left s.reads
        where
          go : (r : PairReply) (l : Lent) (k : MissionLent) → ReadsPair (reading (law_of ed)) rndf mdf t u r l k → Some
          go r l k (rndf_refused_of line number column h e y z) = record { reply = r; left = l; mission_left = k; judged = unread (refusal 1 line number column) (rndf_refused_of line number column h refl y z) e }
          go r l k (mdf_refused_of n line number column h h' e y z) = record { reply = r; left = l; mission_left = k; judged = unread (refusal 2 line number column) (mdf_refused_of n line number column h h' refl y z) e }
          go r l k (accepted n m h h' e y z) = let p = the-pair n m h h' in told p (one-is p.net p.goals (some_goals p))
