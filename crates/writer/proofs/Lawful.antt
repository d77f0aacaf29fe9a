-- What the proofs say over statements (ByStatements) is what the contracts say over lines (Writes). Assumes nothing.
use Rattle.std.specs.Prelude.{Ok}
use Rattle.writings.specs.Types.{WriteMdfReply, WriteReply}
use Prim.Native.Nat.{ℕ}
use Rattle.terms.specs.Ascii.{Bytes}
use Rattle.line.specs.Content.{Field}
use Rattle.law.specs.Network.{Network, Mission, reading}
use Rattle.grammar.specs.Editions.{Edition, law_of}
use Rattle.law.specs.Tables.{Lent, MissionLent}
use Rattle.grammar.proofs.Written.{network-good, mission-good}
use Rattle.text.specs.Spelling.{SpellsRndfIn, SpellsMdf}
use Rattle.law_spelling.proofs.Texts.{rndf-to_in, mdf-to_in}
use Rattle.rows.specs.declared.FileRow.{FileRow}
use Rattle.counts.specs.declared.Counts.{Counts}
use Rattle.editions.proofs.Later.{later}
use Rattle.house_text.specs.House.{HouseRndf, HouseMdf}
use Rattle.house_text.specs.HouseText.{house_rndf, house_mdf}
use Rattle.house_text.proofs.Lawful.{house-rndf-is, house-mdf-is}
use Rattle.replies.specs.Replies.{an_rndf, an_mdf, ReadsRndf}
use Rattle.replies.specs.Short.{AcceptsMdf}
use Rattle.writer.specs.ByStatements as Old
use Rattle.writings.specs.Writes.{AcceptedText}
use Rattle.writings.specs.Writes as New
use Rattle.writings.proofs.Told.{accepts-so, written-so, pair-accepts-so, mdf-written-so}

module _ (d : Edition) (text : Bytes) (t : Lent) (lent : ℕ) (reply : WriteReply) (left : Lent) (out : Bytes) where
  abbrev yard : (n : Network Field) → SpellsRndfIn d n text → (c : Counts) (file : FileRow) (read : Lent) → ReadsRndf (reading (law_of d)) text t (Ok (c, file)) read → AcceptedText (reading (law_of d)) (an_rndf t) HouseRndf text
  yard n s c file read h = record { meant = n; accepted = accepts-so d text t c file read h n (rndf-to_in d n text s); writing = house_rndf n; wrote = house-rndf-is n (network-good n (later d n text s).said (later d n text s).net) }

  pub rndf-writes-to : Old.WritesRndf d text t lent reply left out → New.WritesRndf (reading (law_of d)) text t lent reply left out
  rndf-writes-to (Old.refused why h e o) = New.refused why h e o
  rndf-writes-to (Old.too_long n c file read h s f e l o) = New.too_long (yard n s c file read h) f e l o
  rndf-writes-to (Old.written n c file h s f e o) = written-so d text t c file left h HouseRndf (yard n s c file left h) lent reply out f e o

module _ (d : Edition) (rndf mdf : Bytes) (t : Lent) (u : MissionLent) (lent : ℕ) (reply : WriteMdfReply) (left : Lent) (mission_left : MissionLent) (out : Bytes) where
  abbrev order : (m : Mission Field) → SpellsMdf m mdf → (n : Network Field) → AcceptsMdf (reading (law_of d)) n mdf u m → AcceptedText (reading (law_of d)) (an_mdf n u) HouseMdf mdf
  order m s n a = record { meant = m; accepted = a; writing = house_mdf m; wrote = house-mdf-is m (mission-good m s.said s.net) }

  pub mdf-writes-to : Old.WritesMdf d rndf mdf t u lent reply left mission_left out → New.WritesMdf (reading (law_of d)) rndf mdf t u lent reply left mission_left out
  mdf-writes-to (Old.refused why h e o) = New.refused why h e o
  mdf-writes-to (Old.too_long m c file counts row read mission-read h s f e l k o) =
      let x = pair-accepts-so d rndf mdf t u c file counts row read mission-read h m (mdf-to_in d m mdf s) in
      New.too_long x.0 x.1 (order m s x.0 x.2) f e l k o
  mdf-writes-to (Old.written m c file counts row h s f e o) =
      let x = pair-accepts-so d rndf mdf t u c file counts row left mission_left h m (mdf-to_in d m mdf s) in
      mdf-written-so d rndf mdf t u c file counts row left mission_left h x.0 x.1 (order m s x.0 x.2) lent reply out f e o
