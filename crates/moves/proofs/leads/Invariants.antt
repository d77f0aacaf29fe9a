use mathlib.Core.Path.{◌≡◌}
use Prim.Native.Nat.{◌-◌}
use Rattle.moves.specs.Moves.{leads_from, leads}
use Rattle.moves.proofs.leads.Given as goal

abbrev pub invariant-loop-row : goal.invariant-loop-row
invariant-loop-row l = leads_from l.exits l.behind l.a l.b l.row (l.rows - l.row) ≡ leads l.exits l.count l.fn.part l.a l.b
