-- What the reader replies to what it accepts, and leaves. Assumes nothing.
use Rattle.std.specs.Prelude.{Ok, Err}
use Rattle.writings.specs.Types.{WriteMdfReply, WriteReply}
use Rattle.replies.specs.Types.{PairReply, RndfReply}
use mathlib.Core.Path.{refl}
use Prim.Native.Nat.{ℕ}
use lib.ListN.{length}
use Rattle.terms.specs.Ascii.{Bytes}
use Rattle.line.specs.Content.{Field}
use Rattle.grammar.specs.Editions.{Edition, law_of}
use Rattle.law.specs.Network.{Network, Mission, reading}
use Rattle.law.specs.Tables.{Lent, MissionLent, filled, mission_filled}
use Rattle.replies.specs.Replies.{rows_used_of, network_file, mission_file_of, ReadsRndf, accepted, ReadsPair}
use Rattle.replies.specs.Short.{AcceptsRndf, AcceptsMdf}

-- what the writer replies to a text that the reader replied so to, if it writes so many bytes
abbrev pub reply-of : ℕ → RndfReply → WriteReply
reply-of k (Ok (c, file)) = Ok (c, file, k)
reply-of k (Err why) = Err why

abbrev pub mdf-reply-of : ℕ → PairReply → WriteMdfReply
mdf-reply-of k (Ok (c, file, d, row)) = Ok (c, file, d, row, k)
mdf-reply-of k (Err why) = Err why

-- what the reader replies to what it accepts
abbrev pub read-reply : Network Field → RndfReply
read-reply n = Ok (rows_used_of n, network_file n)

abbrev pub pair-reply : Network Field → Mission Field → PairReply
pair-reply n m = Ok (rows_used_of n, network_file n, record { goals = length m.goals; limits = length m.limits }, mission_file_of m)

pub read-so : (ed : Edition) (text : Bytes) (t : Lent) (n : Network Field) → AcceptsRndf (reading (law_of ed)) text t n → ReadsRndf (reading (law_of ed)) text t (read-reply n) (filled n t)
read-so ed text t n a = accepted n a refl refl

pub pair-read-so : (ed : Edition) (rndf mdf : Bytes) (t : Lent) (u : MissionLent) (n : Network Field) (m : Mission Field) → AcceptsRndf (reading (law_of ed)) rndf t n → AcceptsMdf (reading (law_of ed)) n mdf u m → ReadsPair (reading (law_of ed)) rndf mdf t u (pair-reply n m) (filled n t) (mission_filled m u)
pair-read-so ed rndf mdf t u n m a b = accepted n m a b refl refl refl
