use mathlib.Core.Path.{◌≡◌}
use mathlib.Core.List.{map}
use Prim.Native.Nat.{◌-◌, ◌≤◌}
use lib.ListN.{length, take}
use Rattle.line.specs.Lines.{lines_of}
use Rattle.number.specs.Decimal.{decimal}
use Rattle.refusal.specs.Size.{most}
use Rattle.output.specs.Pen.{pen, put}
use Rattle.output.proofs.Writing.{none}
use Rattle.expected_references.specs.Listing.{listing}
use Rattle.expected_references.specs.Named.{limit_ids, ids_behind, unlimited_in}
use Rattle.expected_references.proofs.put_unlimited.Given as goal

abbrev pub invariant-loop-id : goal.invariant-loop-id
invariant-loop-id l = (length l.out ≡ length l.initial.out) × (l.id ≤ l.most) × (l.count ≤ l.id) × (put (pen l.out l.to) (listing l.head l.none l.count (map decimal (ids_behind (limit_ids (take (l.line - 1) (lines_of l.mdf))) l.id (l.most - l.id)))) ≡ put (pen l.initial.out l.at) (listing l.head l.none 0 (map decimal (unlimited_in l.rndf l.mdf l.line))))

abbrev pub decreases-loop-id : goal.decreases-loop-id
decreases-loop-id l = l.most - l.id
