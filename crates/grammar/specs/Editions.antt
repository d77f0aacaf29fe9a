-- Executable: the editions of the format: which boundaries each has, and how few spots a zone may have. Request L10. Assumes nothing.
use Rattle.std.specs.Prelude.{Bool, true, false, ℕ, ◌≤◌}
use Rattle.terms.specs.Words.{Between}
use Rattle.law.specs.Network.{Boundary, double_yellow_of, solid_yellow_of, solid_white_of, broken_white_of, largest}
pub use Rattle.law.specs.Network.{Edition, march_2007 as march, december_2006 as december}

-- as the law has them
abbrev pub law_of : Edition → Edition
law_of e = e

-- L10: "`solid_yellow` was not yet a boundary"
abbrev pub has_boundary : Edition → Boundary → Bool
has_boundary march b = true
has_boundary december double_yellow_of = true
has_boundary december solid_yellow_of = false
has_boundary december solid_white_of = true
has_boundary december broken_white_of = true

-- L10: "the note of February 20 is what allowed a zone without spots"
abbrev pub Enough : Edition → ℕ → Type 0
Enough march n = n ≤ largest
Enough december n = Between 1 largest n
