-- `moves::leads` meets its contract: the rows that are left say what all say. Assumes nothing.
use mathlib.Core.Path.{sym, subst, ◌∙◌}
use Prim.Native.Nat.{ℕ, ◌-◌, ◌≤◌, ◌<◌}
use Rattle.moves.specs.Moves.{leads_from, leads}
use Rattle.moves.proofs.Moves.{none_left, passed, this-one, other-one}
use Rattle.moves.proofs.leads.Goals as goal

pub loop-row-init : goal.loop-row-init
unfolding leads
loop-row-init c =
    let a = c.args in
    let found = c.first_row_from-row.ensures in
    let rows = c.rows_there-rows.ensures in
    λ i. leads_from a.exits.now a.part.behind a.a a.b (found i) (rows i - found i)

pub returns-then-behind-source : goal.returns-then-behind-source
returns-then-behind-source c =
    let a = c.args in
    sym (passed a.exits.now a.part.behind a.a a.b c.loop-row.row c.rows_there-rows.result c.loop-row-test.true (subst (λ (w : ℕ). a.part.behind ≤ w) c.first_word-source.ensures c.if-behind-source.true)) ∙ c.loop-row.invariant

pub returns-then-goes : goal.returns-then-goes
returns-then-goes c =
    let a = c.args in
    sym (this-one a.exits.now a.part.behind a.a a.b c.loop-row.row c.rows_there-rows.result c.loop-row-test.true (subst (λ (w : ℕ). w < a.part.behind) c.first_word-source.ensures c.if-behind-source.false) (sym c.goes.ensures ∙ c.if-goes.true)) ∙ c.loop-row.invariant

pub loop-row-preserved : goal.loop-row-preserved
loop-row-preserved c =
    let a = c.args in
    other-one a.exits.now a.part.behind a.a a.b c.loop-row.row c.rows_there-rows.result c.loop-row-test.true (subst (λ (w : ℕ). w < a.part.behind) c.first_word-source.ensures c.if-behind-source.false) (sym c.goes.ensures ∙ c.if-goes.false) ∙ c.loop-row.invariant

pub returns : goal.returns
returns c =
    let a = c.args in
    sym (none_left a.exits.now a.part.behind a.a a.b c.loop-row.row c.rows_there-rows.result c.loop-row-test.false) ∙ c.loop-row.invariant
