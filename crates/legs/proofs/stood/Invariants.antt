use mathlib.Core.Path.{◌≡◌}
use Rattle.legs.specs.Legs.{stood}
use Rattle.legs.proofs.stood.Given as goal

abbrev pub invariant-loop-row : goal.invariant-loop-row
invariant-loop-row l = stood l.goals l.number l.row ≡ stood l.goals l.number l.many
