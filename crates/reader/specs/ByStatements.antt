-- What the entry points reply, said over statements and typed rows, as the proofs of the code have it. That it is what Replies says is proofs/Lawful. Assumes nothing.
use Rattle.replies.specs.Types.{PairReply, RndfReply}
use Rattle.std.specs.Prelude.{◌≡◌, List, ℕ, Ok, Err}
use Rattle.terms.specs.Ascii.{Bytes}
use Rattle.line.specs.Content.{Field}
use Rattle.grammar.specs.Editions.{Edition, march}
use Rattle.grammar.specs.Network.{Network}
use Rattle.grammar.specs.Tables.{tables, mission_tables}
use Rattle.grammar.specs.Mission.{Mission}
use Rattle.fill.specs.Counts.{sizes}
use Rattle.table_words.specs.Words.{Lent, MissionLent, zeros, mission_zeros, network_filled, mission_filled}
use Rattle.table_words.specs.FileRows.{network_file, mission_file_of}
use Rattle.network_reader.specs.Replies.{rows_used_of, AcceptsRndfIn, RefusesRndfIn}
use Rattle.mission_reader.specs.MissionReplies.{AcceptsMdf, RefusesMdf}
use Rattle.mission_reader.specs.MissionReplies as M
use Rattle.refusal.specs.declared.Refusal.{Refusal}
use Rattle.reader.specs.Columns.{rndf_refusal, mdf_refusal}
pub use Rattle.law.specs.Tables.{mission_lent}

-- ## An RNDF alone, by an edition: the reply, and what is left in the lent tables. t: these tables as they were lent
pub data ReadsRndfIn (edition : Edition) (text : Bytes) (t : Lent) (reply : RndfReply) (left : Lent) : Type 0 where
  -- 01: "Acceptance replies with the rows used of each table; rows beyond are zero."
  accepted : (n : Network Field) → AcceptsRndfIn edition text t n → reply ≡ Ok (rows_used_of (sizes (tables n)), network_file n) → left ≡ network_filled n t → ReadsRndfIn edition text t reply left
  -- 01: "All lent tables .. are then zero over their whole length"
  refused : (line number : ℕ) → RefusesRndfIn edition text t line number → reply ≡ Err (rndf_refusal text line number) → left ≡ zeros t → ReadsRndfIn edition text t reply left

-- ## An RNDF with its MDF. u: the goals and limits as they were lent
pub data ReadsPairIn (edition : Edition) (rndf mdf : Bytes) (t : Lent) (u : MissionLent) (reply : PairReply) (left : Lent) (mission_left : MissionLent) : Type 0 where
  accepted : (n : Network Field) (m : Mission Field) → AcceptsRndfIn edition rndf t n → AcceptsMdf n mdf u m → reply ≡ Ok (rows_used_of (sizes (tables n)), network_file n, M.rows_used_of m, mission_file_of m)
      → left ≡ network_filled n t → mission_left ≡ mission_filled (mission_tables m) u → ReadsPairIn edition rndf mdf t u reply left mission_left
  -- 01: "for the RNDF 1; ..": everything about the RNDF comes first
  rndf_refused_of : (line number : ℕ) → RefusesRndfIn edition rndf t line number → reply ≡ Err (rndf_refusal rndf line number) → left ≡ zeros t → mission_left ≡ mission_zeros u → ReadsPairIn edition rndf mdf t u reply left mission_left
  -- 01: "Then the MDF likewise"
  mdf_refused_of : (n : Network Field) (line number : ℕ) → AcceptsRndfIn edition rndf t n → RefusesMdf n mdf u line number → reply ≡ Err (mdf_refusal mdf line number)
      → left ≡ zeros t → mission_left ≡ mission_zeros u → ReadsPairIn edition rndf mdf t u reply left mission_left

-- ## In the present edition
abbrev pub ReadsRndf : Bytes → Lent → RndfReply → Lent → Type 0
ReadsRndf = ReadsRndfIn march

abbrev pub ReadsPair : (rndf mdf : Bytes) → Lent → MissionLent → PairReply → Lent → MissionLent → Type 0
ReadsPair = ReadsPairIn march
