-- What the writers take from the readers' contracts: what an accepted text spells, and that a refusal leaves zeros. Assumes nothing.
use Rattle.std.specs.Prelude.{Ok}
use Rattle.terms.specs.Ascii.{Bytes}
use Rattle.line.specs.Content.{Field}
use Rattle.law.specs.Network.{reading}
use Rattle.grammar.specs.Editions.{Edition, law_of}
use Rattle.grammar.specs.Network.{Network}
use Rattle.grammar.specs.Mission.{Mission}
use Rattle.text.specs.Spelling.{SpellsRndfIn, SpellsMdf}
use Rattle.rows.specs.declared.FileRow.{FileRow}
use Rattle.rows.specs.declared.MissionFileRow.{MissionFileRow}
use Rattle.table_words.specs.Words.{Lent, MissionLent}
use Rattle.counts.specs.declared.Counts.{Counts}
use Rattle.counts.specs.declared.MissionCounts.{MissionCounts}
use Rattle.replies.specs.Replies.{ReadsRndf, ReadsPair}
use Rattle.replies.proofs.Said.{accepted-filled, pair-accepted-filled}
pub use Rattle.replies.proofs.Said.{refused_zero, pair-refused_zero}
use Rattle.law_spelling.proofs.Texts.{rndf-back_in, mdf-back_in}

module _ (text : Bytes) (t left : Lent) where
  pub accepted_spells : (d : Edition) (c : Counts) (file : FileRow) → ReadsRndf (reading (law_of d)) text t (Ok (c, file)) left → (n : Network Field) × SpellsRndfIn d n text
  accepted_spells d c file h = let x = accepted-filled text t left c file h in (x.0, rndf-back_in d x.0 text x.1.spelled)

module _ (rndf mdf : Bytes) (t left : Lent) (u mission_left : MissionLent) where
  pub pair_spells : (e : Edition) (c : Counts) (file : FileRow) (d : MissionCounts) (row : MissionFileRow) → ReadsPair (reading (law_of e)) rndf mdf t u (Ok (c, file, d, row)) left mission_left → (m : Mission Field) × SpellsMdf m mdf
  pair_spells e c file d row h = let x = pair-accepted-filled rndf mdf t left u mission_left c file d row h in (x.1, mdf-back_in e x.1 mdf x.3.spelled)
