-- What a reader accepts by any edition, it accepts by the present one. Assumes nothing.
use Rattle.terms.specs.Ascii.{Bytes}
use Rattle.line.specs.Content.{Field}
use Rattle.law.specs.Network.{Network, Mission, reading, present}
use Rattle.law.specs.Tables.{Lent, MissionLent}
use Rattle.grammar.specs.Editions.{Edition, law_of}
use Rattle.law_spelling.proofs.Texts.{rndf-to, rndf-back_in, mdf-to, mdf-back_in}
use Rattle.editions.proofs.Later.{later}
use Rattle.replies.specs.Short.{AcceptsRndf, AcceptsMdf}

pub accepts-later : (d : Edition) (text : Bytes) (t : Lent) (n : Network Field) → AcceptsRndf (reading (law_of d)) text t n → AcceptsRndf present text t n
accepts-later d text t n a = record { size = a.size; spelled = rndf-to n text (later d n text (rndf-back_in d n text a.spelled)); room = a.room; right = a.right }

pub mdf-accepts-later : (d : Edition) (n : Network Field) (text : Bytes) (u : MissionLent) (m : Mission Field) → AcceptsMdf (reading (law_of d)) n text u m → AcceptsMdf present n text u m
mdf-accepts-later d n text u m a = record { size = a.size; spelled = mdf-to m text (mdf-back_in d m text a.spelled); room = a.room; right = a.right }
