-- WHAT A READER MUST BELIEVE. The table of yard A's nine cases, and what it is that a text, or a pair, is refused. Document 01, "Yard A"; the columns: document 02, L7; in each edition: L10. Assumes nothing.
use Rattle.replies.specs.Types.{PairReply, RndfReply}
use Rattle.std.specs.Prelude.{◌≡◌, ◌∷◌, Err}
use Rattle.terms.specs.Words.{List, [], ℕ, Bytes, Each}
use Rattle.edition.specs.declared.Edition.{Edition}
use Rattle.edition.specs.declared.Edition.TheVariants.{March2007, December2006}
use Rattle.edition.specs.Editions.{rules_of}
use Rattle.law.specs.Tables.{Lent, MissionLent, zeros, mission_zeros}
use Rattle.replies.specs.Replies.{refusal, ReadsRndf, ReadsPair}
use Rattle.promises.specs.Yards.{yard, entry-3, exit_from_3, three_waypoints, one_waypoint, without_end, line_8_twice, round, goal_8, limit_10_5, yellow, no_spots}

-- whatever meets the contract in an edition gives this reply, and leaves all lent tables zero
abbrev pub Refused : Edition → Bytes → Lent → (line number column : ℕ) → Type 0
Refused edition text t line number column = (r : RndfReply) (l : Lent) → ReadsRndf (rules_of edition) text t r l → (r ≡ Err (refusal 1 line number column)) × (l ≡ zeros t)

abbrev pub PairRefused : Edition → (rndf mdf : Bytes) → Lent → MissionLent → (file line number column : ℕ) → Type 0
PairRefused edition rndf mdf t u file line number column = (r : PairReply) (l : Lent) (k : MissionLent) → ReadsPair (rules_of edition) rndf mdf t u r l k → (r ≡ Err (refusal file line number column)) × (l ≡ zeros t) × (k ≡ mission_zeros u)

pub record Case : Type 0 where
  pub rndf : Bytes
  pub mdf : Bytes
  pub file : ℕ
  pub line : ℕ
  pub number : ℕ
  pub column : ℕ

abbrev pub case : (rndf mdf : Bytes) → (file line number column : ℕ) → Case
case rndf mdf file line number column = record { rndf = rndf; mdf = mdf; file = file; line = line; number = number; column = column }

-- 01: "The nine cases marked P stand together in a single table under one theorem": in its order, the texts, and what is printed behind `refused`
abbrev pub nine : List Case
nine =
    case entry-3 round 1 9 12 12
    ∷ case exit_from_3 round 1 9 9 6
    ∷ case three_waypoints round 1 12 5 1
    ∷ case one_waypoint round 1 8 9 12
    ∷ case without_end round 1 14 10 0
    ∷ case [] round 1 1 10 0
    ∷ case line_8_twice round 1 9 13 18
    ∷ case yard goal_8 2 5 15 1
    ∷ case yard limit_10_5 2 9 9 6
    ∷ []

abbrev pub AllRefused : Edition → Lent → MissionLent → List Case → Type 0
AllRefused edition t u = Each (λ c. PairRefused edition c.rndf c.mdf t u c.file c.line c.number c.column)

-- L10: "in the older edition 8 for `solid_yellow`", "9 for 0 spots"; the present one takes these lines, so that it is the next that is missing
pub record EditionCases (t : Lent) : Type 0 where
  pub older_yellow : Refused December2006 yellow t 8 8 15
  pub older_no_spots : Refused December2006 no_spots t 12 9 11
  pub present_yellow : Refused March2007 yellow t 9 10 0
  pub present_no_spots : Refused March2007 no_spots t 13 10 0
