-- Short names for what law/specs/Network says; nothing more to believe. Assumes nothing.
use Rattle.std.specs.Prelude.{◌∷◌}
use Rattle.terms.specs.Words.{[], ℕ, String, Bytes}
use Rattle.line.specs.Line.{Field}
use Rattle.law.specs.Network.{Network, Mission, Line, name, numbers, line, present, SpellsNetwork, SpellsMission, SpellsText}

abbrev pub bare : String → Line
bare w = line w []

abbrev pub counted : String → ℕ → Line
counted w n = line w (numbers (n ∷ []) ∷ [])

abbrev pub named : String → Field → Line
named w v = line w (name v ∷ [])

abbrev pub parted : String → (m n : ℕ) → Line
parted w m n = line w (numbers (m ∷ n ∷ []) ∷ [])

-- a text that spells a network, a mission
abbrev pub SpellsRndf : Network Field → Bytes → Type 0
SpellsRndf = SpellsText present SpellsNetwork

abbrev pub SpellsMdf : Mission Field → Bytes → Type 0
SpellsMdf = SpellsText present SpellsMission
