-- THE NINE CASES of yard A, yard A itself, and yard A with L1's limit, from the contract of `read_pair` alone, in each edition. Document 01, "Yard A": "The nine cases marked P stand together in a single table under one theorem." Assumes nothing.
use Rattle.std.specs.Prelude.{Ok}
use Rattle.replies.specs.Types.{PairReply}
use mathlib.Core.Path.{◌≡◌, refl, ◌∙◌}
use mathlib.Core.Logic.{inl, inr}
use Prim.Native.Nat.{ℕ, ◌≤◌}
use native.Mathlib.Omega.{arith}
use lib.Dec.{lit≤}
use lib.ListN.{length}
use Rattle.terms.specs.Ascii.{Bytes, ascii}
use Rattle.law.specs.Tables.{Lent, MissionLent, HasRoom, MissionHasRoom, filled, mission_filled}
use Rattle.law.specs.Faults.{MissionFits}
use Rattle.replies.specs.Replies.{longest, bad_line, bad_reference, refusal, mission_file_of, ReadsPair}
use Rattle.replies.specs.Short.{AcceptsMdf, RefusesRndf, RefusesMdf}
use Rattle.edition.specs.declared.Edition.{Edition}
use Rattle.edition.specs.Editions.{rules_of}
use Rattle.promises.specs.Yards.{yard, round, goal_8, limit_10_5, limit_5_0, network, network_twice, mission_with, mission, mission_goal_8, mission_5_0, counts, mission_counts, yard_file, round_file, used, mission_used, yard_words, round_words, words_5_0}
use Rattle.promises.specs.Cases.{PairRefused, nine, AllRefused}
use Rattle.promises.proofs.PairPromises.{spelled-pair-accepted, pair-refusal-only}
use Rattle.promises.proofs.YardA.{yard-taken, replied, room_in-used, words_are, less-room, seven}
use Rattle.promises.proofs.MissionTexts.{spelled, faults, goal-at, limit-at}

-- ## Its MDF
record Small : Type 0 where
  pub round : length round ≤ longest
  pub goal_8 : length goal_8 ≤ longest
  pub limit_10_5 : length limit_10_5 ≤ longest
  pub limit_5_0 : length limit_5_0 ≤ longest

small : Small
unfolding ascii
small = record { round = lit≤ tt; goal_8 = lit≤ tt; limit_10_5 = lit≤ tt; limit_5_0 = lit≤ tt }

fitting : (minimum maximum : ℕ) → MissionFits network (mission_with 7 minimum maximum)
fitting minimum maximum = record {
  name = refl;
  goals = (inl refl, tt);
  known = (record { low = lit≤ tt; high = lit≤ tt }, tt);
  once = ((λ a. a), tt);
  all = λ i b. inl (let low = b.low in let high : i ≤ 1 = b.high in omega arith);
}

pub round-taken : (edition : Edition) (u : MissionLent) → MissionHasRoom mission u → AcceptsMdf (rules_of edition) network round u mission
round-taken edition u room = record { size = small.round; spelled = (spelled edition).round; room = room; right = fitting 0 15 }

-- ## Pairs that are refused
-- by the RNDF, with any MDF
pub rndf-refused-so : (edition : Edition) (rndf mdf : Bytes) (t : Lent) (u : MissionLent) (line number column : ℕ) → RefusesRndf (rules_of edition) rndf t line number column → PairRefused edition rndf mdf t u 1 line number column
rndf-refused-so edition rndf mdf t u line number column h r l k x = pair-refusal-only edition rndf mdf t u r l k x (refusal 1 line number column) (inl (refl, h))

-- by the MDF, with yard A
pub mdf-refused-so : (edition : Edition) (mdf : Bytes) (t : Lent) (u : MissionLent) (line number column : ℕ) → HasRoom network t → RefusesMdf (rules_of edition) network mdf u line number column → PairRefused edition yard mdf t u 2 line number column
mdf-refused-so edition mdf t u line number column room h r l k x = pair-refusal-only edition yard mdf t u r l k x (refusal 2 line number column) (inr (refl, (network, yard-taken edition t room, h)))

pub goal-refused : (edition : Edition) (t : Lent) (u : MissionLent) → HasRoom network t → MissionHasRoom mission u → PairRefused edition yard goal_8 t u 2 5 15 1
goal-refused edition t u room mission-room = mdf-refused-so edition goal_8 t u 5 15 1 room (bad_reference mission_goal_8 small.goal_8 (spelled edition).goal_8 (record { goals = mission-room.goals; limits = mission-room.limits }) (faults edition).goal_8 (goal-at edition))

-- whatever is lent for the MDF
pub limit-refused : (edition : Edition) (t : Lent) (u : MissionLent) → HasRoom network t → PairRefused edition yard limit_10_5 t u 2 9 9 6
limit-refused edition t u room = mdf-refused-so edition limit_10_5 t u 9 9 6 room (bad_line small.limit_10_5 (faults edition).limit_10_5 (limit-at edition))

-- THE THEOREM, of whatever meets the contract, and of all lent tables with room
pub nine-cases : (edition : Edition) (t : Lent) (u : MissionLent) → HasRoom network_twice t → MissionHasRoom mission u → AllRefused edition t u nine
nine-cases edition t u room mission-room =
    let s = seven edition t room in
    let one = (less-room t room).0 in (
      rndf-refused-so edition _ round t u 9 12 12 s.entry-3,
      (
        rndf-refused-so edition _ round t u 9 9 6 s.exit_from_3,
        (
          rndf-refused-so edition _ round t u 12 5 1 s.three_waypoints,
          (
            rndf-refused-so edition _ round t u 8 9 12 s.one_waypoint,
            (
              rndf-refused-so edition _ round t u 14 10 0 s.without_end,
              (
                rndf-refused-so edition _ round t u 1 10 0 s.nothing,
                (rndf-refused-so edition _ round t u 9 13 18 s.line_8_twice, (goal-refused edition t u one mission-room, (limit-refused edition t u one, tt))),
              ),
            ),
          ),
        ),
      ),
    )

-- ## Yard A is taken: 01's `ok 1 0 1 2 0 1 0 1 1 1`
its-file : (minimum maximum : ℕ) → mission_file_of (mission_with 7 minimum maximum) ≡ round_file
unfolding ascii
its-file minimum maximum = refl

-- with any limit of segment 1
taken-with : (edition : Edition) (mdf : Bytes) (minimum maximum : ℕ) (t : Lent) (u : MissionLent) → HasRoom network t → AcceptsMdf (rules_of edition) network mdf u (mission_with 7 minimum maximum) → (r : PairReply) (l : Lent) (k : MissionLent) → ReadsPair (rules_of edition) yard mdf t u r l k
    → (r ≡ Ok (counts, yard_file, mission_counts, round_file)) × (l ≡ filled network t) × (k ≡ mission_filled (mission_with 7 minimum maximum) u)
taken-with edition mdf minimum maximum t u room a r l k x =
    let s = spelled-pair-accepted edition yard mdf t u r l k x network (mission_with 7 minimum maximum) (yard-taken edition t room) a in
    (s.0 ∙ (λ i. Ok (replied.0 i, replied.1 i, mission_counts, its-file minimum maximum i)), s.1, s.2)

pub yard_a : (edition : Edition) (t : Lent) (u : MissionLent) → HasRoom network t → MissionHasRoom mission u → (r : PairReply) (l : Lent) (k : MissionLent) → ReadsPair (rules_of edition) yard round t u r l k
    → (r ≡ Ok (counts, yard_file, mission_counts, round_file)) × (l ≡ filled network t) × (k ≡ mission_filled mission u)
yard_a edition t u room mission-room = taken-with edition round 0 15 t u room (round-taken edition u mission-room)

-- L1: "`1>5>0` is then accepted"
pub minimum-without-maximum : (edition : Edition) (t : Lent) (u : MissionLent) → HasRoom network t → MissionHasRoom mission_5_0 u → (r : PairReply) (l : Lent) (k : MissionLent) → ReadsPair (rules_of edition) yard limit_5_0 t u r l k
    → (r ≡ Ok (counts, yard_file, mission_counts, round_file)) × (l ≡ filled network t) × (k ≡ mission_filled mission_5_0 u)
minimum-without-maximum edition t u room mission-room = taken-with edition limit_5_0 5 0 t u room (record { size = small.limit_5_0; spelled = (spelled edition).limit_5_0; room = mission-room; right = fitting 5 0 })

-- every word, in tables that were in use and are longer than needed
mission-words-are : mission_filled mission mission_used ≡ round_words
mission-words-are = refl

pub yard-a-read : (edition : Edition) (r : PairReply) (l : Lent) (k : MissionLent) → ReadsPair (rules_of edition) yard round used mission_used r l k → (r ≡ Ok (counts, yard_file, mission_counts, round_file)) × (l ≡ yard_words) × (k ≡ round_words)
yard-a-read edition r l k x =
    let a = yard_a edition used mission_used room_in-used (record { goals = lit≤ tt; limits = lit≤ tt }) r l k x in
    (a.0, a.1 ∙ words_are, a.2 ∙ mission-words-are)

-- the maximum is kept as 0
zero-kept : mission_filled mission_5_0 mission_used ≡ words_5_0
zero-kept = refl

pub minimum-without-maximum-read : (edition : Edition) (r : PairReply) (l : Lent) (k : MissionLent) → ReadsPair (rules_of edition) yard limit_5_0 used mission_used r l k → (r ≡ Ok (counts, yard_file, mission_counts, round_file)) × (l ≡ yard_words) × (k ≡ words_5_0)
minimum-without-maximum-read edition r l k x =
    let a = minimum-without-maximum edition used mission_used room_in-used (record { goals = lit≤ tt; limits = lit≤ tt }) r l k x in
    (a.0, a.1 ∙ words_are, a.2 ∙ zero-kept)
