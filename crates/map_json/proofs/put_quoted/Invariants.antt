use mathlib.Core.Path.{◌≡◌}
use lib.ListN.{length, drop}
use Rattle.output.specs.Pen.{pen, put}
use Rattle.map_json.specs.Json.{escapes}
use Rattle.map_json.proofs.put_quoted.Given as goal

abbrev pub invariant-loop-b : goal.invariant-loop-b
invariant-loop-b l = (length l.out ≡ length l.initial.out) × (put (pen l.out l.to) (escapes (drop l.b-index l.s)) ≡ put (pen l.initial.out l.initial.to) (escapes l.s))
