-- THE THEOREMS of the planners' check of a packed network, from its contract: of refused bytes the sentence of their refusal is put, with the file's name; of a network's packed form the rows of that network.
-- (That the contract settles the reply is unpackings/proofs/Settled.) Assumes nothing.
use Rattle.std.specs.Prelude.{Ok, Err}
use mathlib.Core.Path.{◌≡◌, refl, ap}
use mathlib.Core.List.{[], ◌++◌}
use Prim.Native.Nat.{ℕ, ◌≤◌}
use lib.ListN.{length}
use Rattle.terms.specs.Ascii.{Bytes, ascii}
use Rattle.line.specs.Line.{Field}
use Rattle.law.specs.Network.{Network}
use Rattle.law.specs.Tables.{Lent, HasRoom, filled, zeros}
use Rattle.replies.specs.Replies.{longest, refusal, rows_used_of, network_file}
use Rattle.unpackings.specs.Unpacks.{IsPackedFormOf, UnpackRefuses, refused, unpacked}
use Rattle.unpackings.proofs.Settled.{unpack-settled}
use Rattle.output.specs.Pen.{pen, Wrote}
use Rattle.output.proofs.Writing.{same}
use Rattle.answers.specs.Answers.{sentence, network_counts, rndf_accepted, rndf_answer_of}
use Rattle.yard_unpack.specs.Tells.{TellsPacked}

module _ (name bytes : Bytes) (t left : Lent) (before after : Bytes) (n : ℕ) (x : TellsPacked name bytes t left before after n) where
  pub refused-told : (file number : ℕ) → UnpackRefuses bytes t file number → Wrote (pen before 0) (sentence name [] 0 number 0) (pen after n)
  unfolding rndf_answer_of
  refused-told file number h =
      same (ap (rndf_answer_of name [] []) (unpack-settled bytes t x.reply (Err (refusal file 0 number 0)) left (zeros t) x.read (refused file number h refl refl)).0) x.told

  pub unpacked-told : (m : Network Field) → length bytes ≤ longest → IsPackedFormOf m bytes → HasRoom m t → Wrote (pen before 0) (name ++ ascii ": accepted; " ++ network_counts (rows_used_of m) ++ ascii "\n") (pen after n)
  unfolding rndf_answer_of rndf_accepted
  unpacked-told m l f h =
      same (ap (rndf_answer_of name [] []) (unpack-settled bytes t x.reply (Ok (rows_used_of m, network_file m)) left (filled m t) x.read (unpacked m l f h refl refl)).0) x.told
