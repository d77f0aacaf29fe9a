-- `references::resolve_exits` meets its contract. The loop's invariant: the rows that are left, resolved from here, come to what all rows come to from the start; so does what the table holds then. Assumes nothing.
use mathlib.Core.Path.{sym, ◌∙◌}
use Rattle.references.specs.Finding.{look_in}
use Rattle.references.proofs.ExitSteps.{next_row, bad-row, no_row, next-left, bad-left, no-left}
use Rattle.references.proofs.resolve_exits.Goals as goal

pub loop-row-preserved : goal.loop-row-preserved
loop-row-preserved c =
    let a = c.args in
    let look = look_in a.segments.now a.lanes.now a.zones.now in
    let l = c.loop-row in
    let e = rw c.if-not-resolve_exit.false at c.resolve_exit.ensures.exits_after in
    let u = c.resolve_exit.new.exits in
    (sym (next_row a.text.now look a.segment_count l.exits l.row u a.exit_count c.loop-row-test.true e) ∙ l.invariant.0, sym (next-left a.text.now look a.segment_count l.exits l.row u a.exit_count c.loop-row-test.true e) ∙ l.invariant.1)

pub returns-then-not-resolve_exit : goal.returns-then-not-resolve_exit
returns-then-not-resolve_exit c =
    let a = c.args in
    let look = look_in a.segments.now a.lanes.now a.zones.now in
    let l = c.loop-row in
    let e = rw c.if-not-resolve_exit.true at c.resolve_exit.ensures.exits_after in
    let h = c.loop-row-test.true in
    record { exits_after = sym (bad-row a.text.now look a.segment_count l.exits l.row a.exit_count h e) ∙ l.invariant.0; exits_after_2 = bad-left a.text.now look a.segment_count l.exits l.row c.resolve_exit.new.exits a.exit_count h e c.resolve_exit.ensures.exits_after_2 ∙ l.invariant.1 }

pub returns : goal.returns
returns c =
    let a = c.args in
    let look = look_in a.segments.now a.lanes.now a.zones.now in
    let l = c.loop-row in
    record { exits_after = sym (no_row a.text.now look a.segment_count l.exits l.row a.exit_count c.loop-row-test.false) ∙ l.invariant.0; exits_after_2 = sym (no-left a.text.now look a.segment_count l.exits l.row a.exit_count c.loop-row-test.false) ∙ l.invariant.1 }
