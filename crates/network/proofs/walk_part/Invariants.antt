use mathlib.Core.Path.{◌≡◌}
use Prim.Native.Nat.{◌+◌, ◌-◌, ◌≤◌}
use lib.ListN.{length}
use Rattle.grammar.specs.PlaceTable.{rndf_table_of}
use Rattle.edition.specs.Editions.{inner}
use Rattle.progress.specs.After.{total}
use Rattle.walk.specs.Standing.{place}
use Rattle.refusal.specs.Size.{most}
use Rattle.network.specs.Storing.{memory}
use Rattle.network.specs.Reaching.{onwards}
use Rattle.network.proofs.Steps.{lengths}
use Rattle.network.proofs.walk_part.Given as goal

abbrev pub invariant-loop-from : goal.invariant-loop-from
invariant-loop-from l =
    (l.first ≤ 16777216) × (l.line ≤ l.first + l.from) × (total l.initial.gained ≤ 16777216 → total l.gained ≤ total l.initial.gained + l.from) × (lengths (memory l.gained l.segments l.lanes l.zones l.spots l.points l.checkpoints l.stops l.exits) ≡ lengths (memory l.initial.gained l.initial.segments l.initial.lanes l.initial.zones l.initial.spots l.initial.points l.initial.checkpoints l.initial.stops l.initial.exits)) × (l.table ≡ rndf_table_of → total l.initial.gained ≤ 16777216 → onwards (inner l.edition) l.text l.place (memory l.gained l.segments l.lanes l.zones l.spots l.points l.checkpoints l.stops l.exits) l.from l.line ≡ onwards (inner l.edition) l.text l.initial.place (memory l.initial.gained l.initial.segments l.initial.lanes l.initial.zones l.initial.spots l.initial.points l.initial.checkpoints l.initial.stops l.initial.exits) l.start l.first) × (length l.text ≤ most)

abbrev pub decreases-loop-from : goal.decreases-loop-from
decreases-loop-from l = length l.text + 1 - l.from
