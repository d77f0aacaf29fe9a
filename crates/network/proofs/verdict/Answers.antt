-- `network::verdict` meets its contract. Assumes nothing.
use mathlib.Core.Path.{sym, ◌∙◌}
use borrow.Author.Tests.{eq-eqb, ne_eqb}
use Rattle.std.proofs.lemmas.Result.{err_from_is_err_and}
use Rattle.place_table.proofs.Verdicts.{none-refuses, refused-by}
use Rattle.network.specs.Reaching.{the_refusal_of}
use Rattle.network.proofs.verdict.Goals as goal

pub returns-in_err-refuses : goal.returns-in_err-refuses
unfolding the_refusal_of
returns-in_err-refuses c =
    let e = err_from_is_err_and c.from_residual.result c.from_residual.ensures.1 in
    let r = refused-by _ _ c.refuses.result c.refuses.ensures c.in_err-refuses.was in
    rw (e.1, e.2, ne_eqb _ 0 r.1) (sym c.in_err-refuses.was ∙ c.refuses.ensures)

pub returns-in_err-tested : goal.returns-in_err-tested
unfolding the_refusal_of
returns-in_err-tested c =
    let e = err_from_is_err_and c.from_residual-in_err-tested.result c.from_residual-in_err-tested.ensures.1 in
    let r = refused-by _ _ c.tested.result c.tested.ensures c.in_err-tested.was in
    rw (e.1, e.2, eq-eqb _ 0 (none-refuses _ c.refuses.result c.refuses.ensures c.in_ok-refuses.was), ne_eqb _ 0 r.1) (sym c.in_err-tested.was ∙ c.tested.ensures)

pub returns : goal.returns
unfolding the_refusal_of
returns c =
    rw (eq-eqb _ 0 (none-refuses _ c.refuses.result c.refuses.ensures c.in_ok-refuses.was), eq-eqb _ 0 (none-refuses _ c.tested.result c.tested.ensures c.in_ok-tested.was)) c.barred.ensures
