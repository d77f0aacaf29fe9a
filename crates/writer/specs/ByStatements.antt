-- What the writers reply, said over statements, as the proofs have it. That it is what Writes says is proofs/Lawful. Assumes nothing.
use Rattle.writings.specs.Types.{WriteMdfReply, WriteReply}
use Rattle.std.specs.Prelude.{◌≡◌, ℕ, length, Ok, Err}
use Rattle.terms.specs.Ascii.{Bytes}
use Rattle.line.specs.Content.{Field}
use Rattle.law.specs.Network.{reading}
use Rattle.grammar.specs.Editions.{Edition, law_of}
use Rattle.grammar.specs.Network.{Network}
use Rattle.grammar.specs.Mission.{Mission}
use Rattle.text.specs.Spelling.{SpellsRndfIn, SpellsMdf}
use Rattle.rows.specs.declared.FileRow.{FileRow}
use Rattle.rows.specs.declared.MissionFileRow.{MissionFileRow}
use Rattle.table_words.specs.Words.{Lent, MissionLent, mission_zeros}
use Rattle.table_words.specs.Words as Tables
use Rattle.counts.specs.declared.Counts.{Counts}
use Rattle.counts.specs.declared.MissionCounts.{MissionCounts}
use Rattle.refusal.specs.declared.Refusal.{Refusal}
use Rattle.replies.specs.Replies.{refusal, ReadsRndf, ReadsPair}
use Rattle.output.specs.Output.{zero_bytes, Fits, padded}
use Rattle.house_text.specs.HouseText.{house_rndf, house_mdf}

-- ## An RNDF: the reply, and what is left in the lent tables and the lent output. t: these tables as they were lent; lent: the length of that output
pub data WritesRndf (edition : Edition) (text : Bytes) (t : Lent) (lent : ℕ) (reply : WriteReply) (left : Lent) (out : Bytes) : Type 0 where
  -- 01: "reads them first and refuses as the reader does before any refusal of its own"
  refused : (why : Refusal) → ReadsRndf (reading (law_of edition)) text t (Err why) left → reply ≡ Err why → out ≡ zero_bytes lent → WritesRndf edition text t lent reply left out
  -- 01: 19 "house writing over 16,777,215 bytes or longer than the lent output"; "All lent tables, and the writer's lent output, are then zero over their whole length"
  too_long : (n : Network Field) (c : Counts) (file : FileRow) (read : Lent) → ReadsRndf (reading (law_of edition)) text t (Ok (c, file)) read → SpellsRndfIn edition n text → (Fits lent (house_rndf n) → ⊥)
      → reply ≡ Err (refusal 1 0 19 0) → left ≡ Tables.zeros t → out ≡ zero_bytes lent → WritesRndf edition text t lent reply left out
  -- the tables hold what the reader leaves. 01: "A lent output is zero behind what was written."
  written : (n : Network Field) (c : Counts) (file : FileRow) → ReadsRndf (reading (law_of edition)) text t (Ok (c, file)) left → SpellsRndfIn edition n text → Fits lent (house_rndf n)
      → reply ≡ Ok (c, file, length (house_rndf n)) → out ≡ padded lent (house_rndf n) → WritesRndf edition text t lent reply left out

-- ## The MDF of a pair. u: the goals and limits as they were lent
pub data WritesMdf (edition : Edition) (rndf mdf : Bytes) (t : Lent) (u : MissionLent) (lent : ℕ) (reply : WriteMdfReply) (left : Lent) (mission_left : MissionLent) (out : Bytes) : Type 0 where
  refused : (why : Refusal) → ReadsPair (reading (law_of edition)) rndf mdf t u (Err why) left mission_left → reply ≡ Err why → out ≡ zero_bytes lent → WritesMdf edition rndf mdf t u lent reply left mission_left out
  -- 01: "19 gives the file written"
  too_long : (m : Mission Field) (c : Counts) (file : FileRow) (d : MissionCounts) (mission_row : MissionFileRow) (read : Lent) (mission-read : MissionLent)
      → ReadsPair (reading (law_of edition)) rndf mdf t u (Ok (c, file, d, mission_row)) read mission-read → SpellsMdf m mdf → (Fits lent (house_mdf m) → ⊥)
      → reply ≡ Err (refusal 2 0 19 0) → left ≡ Tables.zeros t → mission_left ≡ mission_zeros u → out ≡ zero_bytes lent → WritesMdf edition rndf mdf t u lent reply left mission_left out
  written : (m : Mission Field) (c : Counts) (file : FileRow) (d : MissionCounts) (mission_row : MissionFileRow)
      → ReadsPair (reading (law_of edition)) rndf mdf t u (Ok (c, file, d, mission_row)) left mission_left → SpellsMdf m mdf → Fits lent (house_mdf m)
      → reply ≡ Ok (c, file, d, mission_row, length (house_mdf m)) → out ≡ padded lent (house_mdf m) → WritesMdf edition rndf mdf t u lent reply left mission_left out
