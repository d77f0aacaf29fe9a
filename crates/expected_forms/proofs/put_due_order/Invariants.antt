use mathlib.Core.Path.{◌≡◌}
use Prim.Native.Nat.{◌-◌, ◌≤◌}
use lib.ListN.{length}
use Rattle.output.specs.Pen.{pen}
use Rattle.expected_forms.specs.Forms.{kinds_from, is_due_order_of, order_forms}
use Rattle.expected_forms.specs.Listing.{Lists}
use Rattle.expected_forms.proofs.put_due_order.Given as goal

abbrev pub invariant-loop-kind : goal.invariant-loop-kind
invariant-loop-kind l = (l.kind ≤ 13) × (length l.out ≡ length l.initial.out) × Lists (pen l.initial.out l.initial.to.at) l.initial.to.some (order_forms (kinds_from (is_due_order_of l.table l.p) 0 l.kind)) (pen l.out l.to.at) l.to.some

abbrev pub decreases-loop-kind : goal.decreases-loop-kind
decreases-loop-kind l = 13 - l.kind
