-- What 25 tells of a text: which lines stand before, and which line it is. Request L8. Assumes nothing.
use Rattle.std.specs.Prelude.{◌≡◌, ◌∷◌, ◌++◌}
use Rattle.terms.specs.Words.{List, [], ℕ, Each}
use Rattle.law.specs.Network.{Position, Line, numbers, coordinate, line}

-- L8: "a spot whose options give no checkpoint is refused at its first waypoint's line": behind `spot` m.n with no option but its width stands the waypoint m.n.1
pub record BareSpot (front : List Line) (this : Line) : Type 0 where
  pub m : ℕ
  pub n : ℕ
  pub earlier : List Line
  pub options : List Line
  pub was : front ≡ earlier ++ (line "spot" (numbers (m ∷ n ∷ []) ∷ []) ∷ options)
  pub widths : Each (λ l. (w : ℕ) × (l ≡ line "spot_width" (numbers (w ∷ []) ∷ []))) options
  pub first : Position
  pub is : this ≡ numbers (m ∷ n ∷ 1 ∷ []) ∷ coordinate first.latitude ∷ coordinate first.longitude ∷ []
