-- The rows that a reply tells of a network are those of its tables. Assumes nothing.
use mathlib.Core.Path.{◌≡◌, ap}
use Rattle.line.specs.Content.{Field}
use Rattle.grammar.specs.Network.{Network}
use Rattle.grammar.specs.Tables.{tables}
use Rattle.fill.specs.Counts.{sizes}
use Rattle.law_tables.specs.Used as Used
use Rattle.law_tables.proofs.SameTables.{counts_same}
use Rattle.replies.specs.Replies.{rows_used_of}

pub counts_are : (n : Network Field) → Used.rows_used_of (sizes (tables n)) ≡ rows_used_of n
counts_are n = ap Used.rows_used_of (counts_same n)
