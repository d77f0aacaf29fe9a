-- WHAT A READER MUST BELIEVE. When two networks (from the law) and two missions are the same; the theorems of the return trip speak of both. Assumes nothing.
use Rattle.std.specs.Prelude.{◌≡◌}
use Rattle.line.specs.Line.{Field}
use Rattle.law.specs.Network.{Mission}
use Rattle.grammar.specs.Names.{mission_named}
pub use Rattle.law.specs.Same.{SameNetwork}
use Rattle.law.specs.Same.{bytes_of}

-- the same, with each name's bytes in place of start and length
abbrev pub SameMission : Mission Field → Mission Field → Type 0
SameMission m m' = mission_named bytes_of m ≡ mission_named bytes_of m'
