use mathlib.Core.Path.{◌≡◌}
use Prim.Native.Nat.{◌-◌, ◌≤◌}
use lib.ListN.{length}
use Rattle.output.specs.Pen.{pen}
use Rattle.expected_forms.specs.Forms.{kinds_from, is_open, forms_of}
use Rattle.expected_forms.specs.Listing.{Lists}
use Rattle.expected_forms.proofs.put_open.Given as goal

abbrev pub invariant-loop-kind : goal.invariant-loop-kind
invariant-loop-kind l = (l.kind ≤ 30) × (length l.out ≡ length l.initial.out) × Lists (pen l.initial.out l.initial.to.at) l.initial.to.some (forms_of l.edition l.p (kinds_from (is_open l.table l.p) 0 l.kind)) (pen l.out l.to.at) l.to.some

abbrev pub decreases-loop-kind : goal.decreases-loop-kind
decreases-loop-kind l = 30 - l.kind
