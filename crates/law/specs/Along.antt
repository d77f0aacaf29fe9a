-- What each part of a list gives, told the first row that is its own: short for what law/specs/Tables says with `placed`, as the proofs have it; nothing more to believe. Assumes nothing.
use Rattle.std.specs.Prelude.{◌∷◌, ◌+◌}
use Rattle.terms.specs.Words.{List, [], ℕ, length}
use Rattle.line.specs.Line.{Field}
use Rattle.law.specs.Network.{Spot, Zone}
use Rattle.law.specs.Tables.{gather, placed, zone_size, the_zone_row_of}

abbrev pub along : {A B : Type 0} → (A → ℕ) → (ℕ → A → List B) → ℕ → List A → List B
along size f first l = gather (λ p. f p.first p.part) (placed size first l)

-- what each spot of a zone gives, where the zone's points begin at row `first`
abbrev pub over_spots : {N B : Type 0} → (ℕ → Spot → List B) → ℕ → Zone N → List B
over_spots f first z = along (λ s. 2) f (first + length z.border.points) z.spots

-- the rows of zones, from a point and a spot on
abbrev pub zone_rows_from : (point spot : ℕ) → List (Zone Field) → List (List ℕ)
zone_rows_from point spot l = gather (λ z. the_zone_row_of z.first z.part ∷ []) (placed (λ z. length z.part.spots) spot (placed zone_size point l))
