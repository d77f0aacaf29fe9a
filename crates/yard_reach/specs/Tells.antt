-- WHAT A READER MUST BELIEVE. Where the planners' program for L13 finds the start, and what it puts out of a mission: the sentence of what is replied to the question whether it can be driven. Assumes nothing.
use Rattle.replies.specs.Types.{PairReply}
use Rattle.std.specs.Prelude.{◌≡◌, List, ℕ}
use Rattle.terms.specs.Ascii.{Bytes}
use Rattle.edition.specs.declared.Edition.{Edition}
use Rattle.edition.specs.Editions.{rules_of}
use Rattle.grammar.specs.Statements.{PointId}
use Rattle.law.specs.Tables.{Lent, MissionLent}
use Rattle.replies.specs.Replies.{ReadsPair}
use Rattle.reach_checks.specs.Checks.{ChecksMission}
use Rattle.answers.specs.Answers.{mission_answer}
use Rattle.output.specs.Pen.{pen, Wrote}
use Rattle.yard_reach.specs.declared.Start.{Start}
use Rattle.yard_reach.specs.Starts.{start_of}

-- the pair is read by an edition into tables t and u, `left` they are then, and the start is looked up in those
pub record FindsStart (edition : Edition) (rndf mdf : Bytes) (e : PointId) (t : Lent) (u : MissionLent) (start : Start) (left : Lent) (mission_left : MissionLent) : Type 0 where
  pub reply : PairReply
  pub read : ReadsPair (rules_of edition) rndf mdf t u reply left mission_left
  pub found : start ≡ start_of left.segments left.lanes left.zones left.spots e reply

-- whether the mission can be driven from the point in this row, of which `start` is the identifier; the first n bytes of the output are the sentence. known: the table of goals as the reader fills it
pub record TellsMission (edition : Edition) (rndf-name mdf-name start rndf mdf : Bytes) (known : List ℕ) (t : Lent) (u : MissionLent) (row : ℕ) (work : List ℕ) (left : Lent) (mission_left : MissionLent) (work-left : List ℕ) (before after : Bytes) (n : ℕ) : Type 0 where
  pub reply : PairReply
  pub checked : ChecksMission (rules_of edition) row rndf mdf t u work reply left mission_left work-left
  pub told : Wrote (pen before 0) (mission_answer rndf-name mdf-name rndf mdf start known reply) (pen after n)
