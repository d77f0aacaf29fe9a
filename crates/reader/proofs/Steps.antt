-- What a reply and what is left in the tables tell, from what the readers of the two files answer. Assumes nothing.
use Rattle.std.specs.Prelude.{Ok, Err}
use mathlib.Core.Path.{◌≡◌, refl, sym, ap, ap₂, subst, ◌∙◌}
use Prim.Native.Nat.{ℕ}
use Rattle.terms.specs.Ascii.{Bytes}
use Rattle.law.specs.Network.{reading}
use Rattle.grammar.specs.Editions.{Edition, law_of}
use Rattle.rows.specs.declared.FileRow.{FileRow}
use Rattle.table_words.specs.Words.{Lent, zeros}
use Rattle.counts.specs.declared.Counts.{Counts}
use Rattle.network_reader.specs.Reading as N
use Rattle.network_reader.proofs.Theorems.{Meant, meant}
use Rattle.reader.specs.Columns.{rndf_refusal}
use Rattle.reader.specs.ByStatements.{accepted, refused}
use Rattle.replies.specs.Replies.{ReadsRndf}
use Rattle.reader.proofs.Lawful.{rndf-reads-to_in}

pub accepted-so : (ε : Edition) (text : Bytes) (t left : Lent) (c : Counts) (file : FileRow) → N.accepted c file left ≡ N.read_of ε text t → ReadsRndf (reading (law_of ε)) text t (Ok (c, file)) left
accepted-so ε text t left c file e =
    let m = subst (Meant ε text t) (sym e) (meant ε text t) in
    rndf-reads-to_in ε text t (Ok (c, file)) left (accepted m.net m.accepts (ap₂ (λ (x : Counts) (y : FileRow). Ok (x, y)) m.rows m.row) m.holds)

-- behind is what the reader of the file left, which is then cleared
pub refused-so : (ε : Edition) (text : Bytes) (t behind left : Lent) (line number : ℕ) → N.refused line number ≡ N.read_of ε text t → left ≡ zeros behind → zeros behind ≡ zeros t → ReadsRndf (reading (law_of ε)) text t (Err (rndf_refusal text line number)) left
refused-so ε text t behind left line number e z k = rndf-reads-to_in ε text t (Err (rndf_refusal text line number)) left (refused line number (subst (Meant ε text t) (sym e) (meant ε text t)) refl (z ∙ k))
