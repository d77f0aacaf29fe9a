-- The contracts say what the reader replied and left by the network and the mission that it accepted; here by its reply, and by what the texts spell. Assumes nothing.
use Rattle.std.specs.Prelude.{Ok}
use Rattle.writings.specs.Types.{WriteMdfReply, WriteReply}
use mathlib.Core.Path.{◌≡◌, ap, subst, ◌∙◌}
use Prim.Native.Nat.{ℕ}
use lib.ListN.{length}
use Rattle.terms.specs.Ascii.{Bytes}
use Rattle.line.specs.Content.{Field}
use Rattle.grammar.specs.Editions.{Edition, law_of}
use Rattle.law.specs.Network.{Network, Mission, SpellsNetwork, SpellsMission, SpellsText, reading}
use Rattle.law.specs.Tables.{Lent, MissionLent, filled, mission_filled}
use Rattle.text.proofs.Theorems.{one-rndf_in, one-mdf}
use Rattle.law_spelling.proofs.Texts.{rndf-back_in, mdf-back_in}
use Rattle.house_text.specs.House.{HouseMdf}
use Rattle.output.specs.Output.{Fits, padded}
use Rattle.rows.specs.declared.FileRow.{FileRow}
use Rattle.rows.specs.declared.MissionFileRow.{MissionFileRow}
use Rattle.counts.specs.declared.Counts.{Counts}
use Rattle.counts.specs.declared.MissionCounts.{MissionCounts}
use Rattle.replies.specs.Replies.{an_rndf, an_mdf, ReadsRndf, ReadsPair}
use Rattle.replies.specs.Short.{AcceptsRndf, AcceptsMdf}
use Rattle.replies.proofs.Settled.{rndf-settled, pair-settled}
use Rattle.replies.proofs.Said.{accepted-filled, pair-accepted-filled}
use Rattle.writings.specs.Writes.{AcceptedText, Writes, WritesMdf}
use Rattle.writings.specs.Writes as W
use Rattle.writings.proofs.Read.{reply-of, mdf-reply-of, read-reply, pair-reply, read-so, pair-read-so}

-- ## An RNDF
module _ (ed : Edition) (text : Bytes) (t : Lent) where
  module _ (c : Counts) (file : FileRow) (left : Lent) (h : ReadsRndf (reading (law_of ed)) text t (Ok (c, file)) left) where
    -- the network that an accepted text spells is accepted
    pub accepts-so : (n : Network Field) → SpellsText (reading (law_of ed)) SpellsNetwork n text → AcceptsRndf (reading (law_of ed)) text t n
    accepts-so n s =
        let x = accepted-filled text t left c file h in
        subst (AcceptsRndf (reading (law_of ed)) text t) (one-rndf_in ed x.0 n text (rndf-back_in ed x.0 text x.1.spelled) (rndf-back_in ed n text s)) x.1

    -- written, if what was written fits: by what the reader replied and left
    pub written-so : (Writing : Network Field → Bytes → Type 0) (yard : AcceptedText (reading (law_of ed)) (an_rndf t) Writing text) (lent : ℕ) (reply : WriteReply) (out : Bytes) → Fits lent yard.writing
        → reply ≡ Ok (c, file, length yard.writing) → out ≡ padded lent yard.writing → Writes (reading (law_of ed)) Writing text t lent reply left out
    written-so Writing yard lent reply out f e z =
        let q = rndf-settled ed text t (Ok (c, file)) (read-reply yard.meant) left (filled yard.meant t) h (read-so ed text t yard.meant yard.accepted) in
        W.written yard f (e ∙ ap (reply-of (length yard.writing)) q.0) q.1 z

-- ## The MDF of a pair
module _ (ed : Edition) (rndf mdf : Bytes) (t : Lent) (u : MissionLent) where
  module _ (c : Counts) (file : FileRow) (d : MissionCounts) (row : MissionFileRow) (left : Lent) (mission_left : MissionLent) (h : ReadsPair (reading (law_of ed)) rndf mdf t u (Ok (c, file, d, row)) left mission_left) where
    -- the mission that an accepted MDF spells is accepted
    pub pair-accepts-so : (m : Mission Field) → SpellsText (reading (law_of ed)) SpellsMission m mdf → (n : Network Field) × AcceptsRndf (reading (law_of ed)) rndf t n × AcceptsMdf (reading (law_of ed)) n mdf u m
    pair-accepts-so m s =
        let x = pair-accepted-filled rndf mdf t left u mission_left c file d row h in
        (x.0, x.2, subst (AcceptsMdf (reading (law_of ed)) x.0 mdf u) (one-mdf x.1 m mdf (mdf-back_in ed x.1 mdf x.3.spelled) (mdf-back_in ed m mdf s)) x.3)

    pub mdf-written-so : (n : Network Field) (a : AcceptsRndf (reading (law_of ed)) rndf t n) (order : AcceptedText (reading (law_of ed)) (an_mdf n u) HouseMdf mdf) (lent : ℕ) (reply : WriteMdfReply) (out : Bytes) → Fits lent order.writing
        → reply ≡ Ok (c, file, d, row, length order.writing) → out ≡ padded lent order.writing → WritesMdf (reading (law_of ed)) rndf mdf t u lent reply left mission_left out
    mdf-written-so n a order lent reply out f e z =
        let q = pair-settled ed rndf mdf t u (Ok (c, file, d, row)) (pair-reply n order.meant) left (filled n t) mission_left (mission_filled order.meant u) h (pair-read-so ed rndf mdf t u n order.meant a order.accepted) in
        W.written n a order f (e ∙ ap (mdf-reply-of (length order.writing)) q.0) q.1 q.2 z
