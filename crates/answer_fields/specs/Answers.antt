-- WHAT A READER MUST BELIEVE. What the library for C and Rust answers, field by field, and what the lent tables and the lent output then hold. Assumes nothing.
use Rattle.writings.specs.Types.{WriteMdfReply, WriteReply}
use Rattle.replies.specs.Types.{PairReply, RndfReply}
use Rattle.mend_law.specs.Types.{MendReply}
use Rattle.look_up.specs.Types.{ListReply}
use Rattle.std.specs.Prelude.{◌≡◌, Ok, Err}
use Rattle.terms.specs.Words.{List, none, ℕ, Bytes}
use Rattle.line.specs.Line.{Field}
use Rattle.law.specs.Network.{Network}
use Rattle.edition.specs.declared.Edition.{Edition}
use Rattle.edition.specs.Editions.{rules_of}
use Rattle.law.specs.Tables.{Lent, MissionLent}
use Rattle.rows.specs.declared.Stretch.{Stretch}
use Rattle.rows.specs.declared.FileRow.{FileRow}
use Rattle.rows.specs.declared.MissionFileRow.{MissionFileRow}
use Rattle.counts.specs.declared.Counts.{Counts}
use Rattle.counts.specs.declared.MissionCounts.{MissionCounts}
use Rattle.refusal.specs.declared.Refusal.{Refusal}
use Rattle.replies.specs.Replies.{refusal, stretch, ReadsRndf, ReadsPair}
use Rattle.writings.specs.Writes.{Writes, WritesMdf}
use Rattle.unpackings.specs.Unpacks.{Unpacks}
use Rattle.mend_law.specs.Mends.{Mends}
use Rattle.pair_checks.specs.Checks.{ChecksRoute}
use Rattle.reach_checks.specs.Checks.{ChecksMission}
use Rattle.answer_fields.specs.declared.Name.{Name}
use Rattle.answer_fields.specs.declared.Answer.{Answer}
use Rattle.look_up.specs.Listed.{PointsOf}
use Rattle.answer_fields.specs.declared.WriteAnswer.{WriteAnswer}
use Rattle.answer_fields.specs.declared.ListAnswer.{ListAnswer}
use Rattle.answer_fields.specs.declared.MendAnswer.{MendAnswer}

-- 01: "A name is its start and length in the lent text"
abbrev pub named : Stretch → Name
named s = record { start = s.start; length = s.length }

-- the fields of an answer: whether it is an acceptance; 01: "file .., line, number"; L7: "a column"; "the rows used of each table"; "File: its name, format version, creation date, in an MDF its `RNDF` name too."
abbrev pub laid_out : (accepted : ℕ) → Refusal → Counts → MissionCounts → FileRow → MissionFileRow → Answer
laid_out a x c m f g = record {
  accepted = a;
  file = x.file;
  line = x.line;
  number = x.number;
  column = x.column;
  segments = c.segments;
  lanes = c.lanes;
  zones = c.zones;
  spots = c.spots;
  points = c.points;
  checkpoints = c.checkpoints;
  stops = c.stops;
  exits = c.exits;
  goals = m.goals;
  limits = m.limits;
  rndf_name = named f.name;
  rndf_version = named f.version;
  rndf_date = named f.date;
  mdf_name = named g.name;
  mdf_rndf = named g.rndf;
  mdf_version = named g.version;
  mdf_date = named g.date;
}

-- what an answer does not have is 0
abbrev pub no_counts : Counts
no_counts = record { segments = 0; lanes = 0; zones = 0; spots = 0; points = 0; checkpoints = 0; stops = 0; exits = 0 }

abbrev pub no_mission_counts : MissionCounts
no_mission_counts = record { goals = 0; limits = 0 }

abbrev pub no_file_of : FileRow
no_file_of = record { name = stretch none; version = stretch none; date = stretch none }

abbrev pub no_mission_file : MissionFileRow
no_mission_file = record { name = stretch none; rndf = stretch none; version = stretch none; date = stretch none }

-- 01: "Where an answer is an enum, a definition sets out this paper's number and values for each of its cases."
abbrev pub taken : Counts → FileRow → MissionCounts → MissionFileRow → Answer
taken c f m g = laid_out 1 (refusal 0 0 0 0) c m f g

abbrev pub refused : Refusal → Answer
refused x = laid_out 0 x no_counts no_mission_counts no_file_of no_mission_file

abbrev pub rndf_answer_of : RndfReply → Answer
rndf_answer_of (Ok (c, f)) = taken c f no_mission_counts no_mission_file
rndf_answer_of (Err x) = refused x

abbrev pub pair_answer_of : PairReply → Answer
pair_answer_of (Ok (c, f, m, g)) = taken c f m g
pair_answer_of (Err x) = refused x

-- a writer's: the same, and then the bytes written, 0 of a refusal
abbrev pub write_answer_of : WriteReply → WriteAnswer
write_answer_of (Ok (c, f, n)) = record { answer = taken c f no_mission_counts no_mission_file; length = n }
write_answer_of (Err x) = record { answer = refused x; length = 0 }

abbrev pub write_mdf_answer_of : WriteMdfReply → WriteAnswer
write_mdf_answer_of (Ok (c, f, m, g, n)) = record { answer = taken c f m g; length = n }
write_mdf_answer_of (Err x) = record { answer = refused x; length = 0 }

-- ## What is answered are the fields of a reply; that reply, and what is left in all that was lent, are as the part of the library that is asked promises
pub record Answers {Reply Fields : Type 0} (fields : Reply → Fields) (Promised : Reply → Type 0) (given : Fields) : Type 0 where
  pub reply : Reply
  pub promised : Promised reply
  pub told : given ≡ fields reply

-- an RNDF alone. L10: "The caller says which edition." t: the tables as they were lent; left: what they then hold
abbrev pub AnswersRndf : Edition → (text : Bytes) → Lent → Answer → (left : Lent) → Type 0
AnswersRndf edition text t given left = Answers rndf_answer_of (λ reply. ReadsRndf (rules_of edition) text t reply left) given

-- an RNDF with its MDF. u: the goals and limits as they were lent
abbrev pub AnswersPair : Edition → (rndf mdf : Bytes) → Lent → MissionLent → Answer → (left : Lent) → (mission_left : MissionLent) → Type 0
AnswersPair edition rndf mdf t u given left mission_left = Answers pair_answer_of (λ reply. ReadsPair (rules_of edition) rndf mdf t u reply left mission_left) given

-- a route, of an RNDF with its MDF. Request L5. start: the row of its first point; route: the rows of its points
abbrev pub AnswersRoute : Edition → (start : ℕ) → (route : List ℕ) → (rndf mdf : Bytes) → Lent → MissionLent → Answer → (left : Lent) → (mission_left : MissionLent) → Type 0
AnswersRoute edition start route rndf mdf t u given left mission_left = Answers pair_answer_of (λ reply. ChecksRoute (rules_of edition) start route rndf mdf t u reply left mission_left) given

-- whether the mission of an RNDF with its MDF can be driven. Request L13. start: the row of the point where the drive begins, as the caller gives it; work: the work space as it was lent, a word to a row
abbrev pub AnswersMission : Edition → (start : ℕ) → (rndf mdf : Bytes) → Lent → MissionLent → (work : List ℕ) → Answer → (left : Lent) → (mission_left : MissionLent) → (work-left : List ℕ) → Type 0
AnswersMission edition start rndf mdf t u work given left mission_left work-left = Answers pair_answer_of (λ reply. ChecksMission (rules_of edition) start rndf mdf t u work reply left mission_left work-left) given

-- a writing of an RNDF's network: its house writing, its map (L2), its packed form (L11). lent: the length of the lent output; out: what it then holds
abbrev pub AnswersWrite : Edition → (Writing : Network Field → Bytes → Type 0) → (text : Bytes) → Lent → (lent : ℕ) → WriteAnswer → (left : Lent) → (out : Bytes) → Type 0
AnswersWrite edition Writing text t lent given left out = Answers write_answer_of (λ reply. Writes (rules_of edition) Writing text t lent reply left out) given

-- the house writing of the MDF of a pair
abbrev pub AnswersWriteMdf : Edition → (rndf mdf : Bytes) → Lent → MissionLent → (lent : ℕ) → WriteAnswer → (left : Lent) → (mission_left : MissionLent) → (out : Bytes) → Type 0
AnswersWriteMdf edition rndf mdf t u lent given left mission_left out = Answers write_mdf_answer_of (λ reply. WritesMdf (rules_of edition) rndf mdf t u lent reply left mission_left out) given

-- a packed network. Request L11: the fields of a reader's reply. No edition: the present rules
abbrev pub AnswersUnpack : (bytes : Bytes) → Lent → Answer → (left : Lent) → Type 0
AnswersUnpack bytes t given left = Answers rndf_answer_of (λ reply. Unpacks bytes t reply left) given

-- ## The look-up of a list of checkpoint numbers. Request L4. t: the table; numbers: the list; lent: the length of the lent list of points; left: what it then holds
abbrev pub list_answer_of : ListReply → ListAnswer
list_answer_of (Ok _) = record { accepted = 1; file = 0; line = 0; number = 0; column = 0 }
list_answer_of (Err x) = record { accepted = 0; file = x.file; line = x.line; number = x.number; column = x.column }

abbrev pub AnswersList : (t numbers : List ℕ) → (lent : ℕ) → ListAnswer → (left : List ℕ) → Type 0
AnswersList t numbers lent given left = Answers list_answer_of (λ reply. PointsOf t numbers lent reply left) given

-- ## Mending. Request L9. list: the list as it was lent, two words to a row; lent: the length of the lent output; left and out: what both then hold
abbrev pub mend_answer_of : MendReply → MendAnswer
mend_answer_of (Ok (rows, n)) = record { accepted = 1; file = 0; line = 0; number = 0; column = 0; rows = rows; length = n }
mend_answer_of (Err x) = record { accepted = 0; file = x.file; line = x.line; number = x.number; column = x.column; rows = 0; length = 0 }

abbrev pub AnswersMend : Edition → (text : Bytes) → (list : List ℕ) → (lent : ℕ) → MendAnswer → (left : List ℕ) → (out : Bytes) → Type 0
AnswersMend edition text list lent given left out = Answers mend_answer_of (λ reply. Mends (rules_of edition) text list lent reply left out) given
