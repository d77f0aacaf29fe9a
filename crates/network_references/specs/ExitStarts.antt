-- Executable: the exits' rows that hold where their entries start (`exit-starts`, of `network`); what is answered of them. Assumes nothing.
use Rattle.std.specs.Prelude.{List, [], ◌∷◌, ℕ}
use Rattle.std.proofs.Math.Option.{Option, none, some}
use Rattle.terms.specs.Ascii.{Bytes}
use Rattle.line.specs.Content.{Field}
use Rattle.grammar.specs.Statements.{Statement}
use Rattle.grammar.specs.Network.{Network}
use Rattle.grammar.specs.Tables as G
use Rattle.rows.specs.declared.ExitRow.{ExitRow}
use Rattle.fill.specs.FirstFaults.{Fault}
use Rattle.table_words.specs.Words.{Lent, network_filled}
use Rattle.walk.specs.Standing.{places_in}
use Rattle.network.proofs.ExitLines.{exit-starts}
use Rattle.references.specs.Exits.{Outcome, done, at}

-- the rows that a walk leaves: an exit's own point, and the start of its entry in the text
unfoldable pub at_starts : {E : Type 0} → List (G.ExitRow E) → List ℕ → List ExitRow
at_starts [] [] = []
at_starts [] (start ∷ starts) = []
at_starts (a ∷ exits) [] = []
at_starts (a ∷ exits) (start ∷ starts) = record { point = a.point; entry = start } ∷ at_starts exits starts

-- of a text that spells the network n, whose statements are ts
abbrev pub exit_rows : Network Field → Bytes → List (Statement Field) → List ExitRow
exit_rows n text ts = at_starts (G.tables n).exits (exit-starts (places_in text) ts)

-- what the first undeclared entry stands for; none: the network's exits as they are to be
abbrev pub exits_answer : Network Field → Lent → Option Fault → Outcome
exits_answer n t none = done (network_filled n t).exits
exits_answer n t (some f) = at f.row
