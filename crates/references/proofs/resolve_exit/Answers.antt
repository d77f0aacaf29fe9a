-- `references::resolve_exit` meets its contract. Assumes nothing.
use mathlib.Core.Path.{ap, ◌∙◌}
use Rattle.references.specs.Finding.{look_in}
use Rattle.references.specs.Exits.{done}
use Rattle.references.proofs.ExitSteps.{stored, row_named, row-left}
use Rattle.references.proofs.resolve_exit.Goals as goal

pub returns-in-Some : goal.returns-in-Some
returns-in-Some c =
    let a = c.args in
    let look = look_in a.segments.now a.lanes.now a.zones.now in
    let o = row_named a.text.now look a.segment_count a.exits.now a.row c.exit_at-exit.result c.named_at-found.result c.exit_at-exit.ensures c.named_at-found.ensures in
    let k = row-left a.text.now look a.segment_count a.exits.now a.row c.exit_at-exit.result c.named_at-found.result c.exit_at-exit.ensures c.named_at-found.ensures in
    let s = stored a.exits.now a.row c.in-Some.i c.exit_at-exit.result c.in_word.result c.store_exit.new.t c.exit_at-exit.ensures c.in_word.ensures c.store_exit.ensures in
    record { exits_after = ap done s ∙ (rw c.in-Some.is at o); exits_after_2 = s ∙ (rw c.in-Some.is at k) }

pub returns-in-None : goal.returns-in-None
returns-in-None c =
    let a = c.args in
    let look = look_in a.segments.now a.lanes.now a.zones.now in
    let o = row_named a.text.now look a.segment_count a.exits.now a.row c.exit_at-exit.result c.named_at-found.result c.exit_at-exit.ensures c.named_at-found.ensures in
    let k = row-left a.text.now look a.segment_count a.exits.now a.row c.exit_at-exit.result c.named_at-found.result c.exit_at-exit.ensures c.named_at-found.ensures in
    record { exits_after = rw c.in-None.is at o; exits_after_2 = rw c.in-None.is at k }
