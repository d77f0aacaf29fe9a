-- What a walk leaves that was made over the text of a network: counts, the file's own row, and tables. Assumes nothing.
use mathlib.Core.Path.{◌≡◌}
use mathlib.Core.List.{List, map}
use Prim.Native.Nat.{ℕ, ◌+◌}
use lib.ListN.{length}
use Rattle.line.specs.Content.{Field}
use Rattle.grammar.specs.Network.{Network}
use Rattle.grammar.specs.Tables.{tables}
use Rattle.fill.specs.Counts.{sizes}
use Rattle.rows.specs.declared.ExitRow.{ExitRow}
use Rattle.rows.specs.Columns.{exit_words_of}
use Rattle.rows.specs.Table.{table_of}
use Rattle.progress.specs.declared.Progress.{Progress}
use Rattle.progress.specs.After.{no_progress}
use Rattle.table_words.specs.Words.{Lent, network_filled}
use Rattle.table_words.specs.FileRows.{network_file}
use Rattle.walk.specs.Walking.{Found, gathered}
use Rattle.network.specs.Storing.{Memory, memory}
use Rattle.network.proofs.ExitLines.{exits-at}

-- lent tables, with nothing so far
abbrev pub at_first : Lent → Memory
at_first t = memory no_progress t.segments t.lanes t.zones t.spots t.points t.checkpoints t.stops t.exits

-- as many rows as the tables of the network have, and its file row
pub record CountsNetwork (n : Network Field) (p : Progress) : Type 0 where
  pub segments : p.segments ≡ (sizes (tables n)).segments
  pub lanes : p.lanes ≡ (sizes (tables n)).lanes
  pub zones : p.zones ≡ (sizes (tables n)).zones
  pub spots : p.spots ≡ (sizes (tables n)).spots
  pub points : p.first + p.within ≡ (sizes (tables n)).points
  pub checkpoints : p.checkpoints ≡ (sizes (tables n)).checkpoints
  pub stops : p.stops ≡ (sizes (tables n)).stops
  pub exits : p.exits ≡ (sizes (tables n)).exits
  pub file : p.file ≡ network_file n

-- the exits of the network: each point, and where the entry starts in place of its point
abbrev pub exits-by-line : Network Field → (starts : List ℕ) → List ExitRow
exits-by-line n starts = exits-at (map (λ r. r.point) (tables n).exits) starts

-- the words of every table, in slices that are as long as what was lent
pub record HoldsNetwork (n : Network Field) (starts : List ℕ) (t : Lent) (m : Memory) : Type 0 where
  pub segments : m.segments ≡ (network_filled n t).segments
  pub lanes : m.lanes ≡ (network_filled n t).lanes
  pub zones : m.zones ≡ (network_filled n t).zones
  pub spots : m.spots ≡ (network_filled n t).spots
  pub points : m.points ≡ (network_filled n t).points
  pub checkpoints : m.checkpoints ≡ (network_filled n t).checkpoints
  pub stops : m.stops ≡ (network_filled n t).stops
  pub exits : m.exits ≡ table_of 0 exit_words_of (length t.exits) (exits-by-line n starts)

-- ## What a walk has found
-- rows, as many as the network's
pub record CountedNetwork (n : Network Field) (found : Found Memory) : Type 0 where
  pub left : Memory
  pub rows : found ≡ gathered left
  pub counts : CountsNetwork n left.so_far

-- rows, and they are the network's
pub record FilledNetwork (n : Network Field) (starts : List ℕ) (t : Lent) (found : Found Memory) : Type 0 where
  pub left : Memory
  pub rows : found ≡ gathered left
  pub counts : CountsNetwork n left.so_far
  pub holds : HoldsNetwork n starts t left
