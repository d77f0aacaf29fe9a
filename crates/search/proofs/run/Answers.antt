-- `search::run` meets its contract: what is left says what all says. Assumes nothing.
use mathlib.Core.Path.{sym, ◌∙◌, ◌≡◌}
use Prim.Native.Nat.{ℕ}
use native.Mathlib.Omega.{arith}
use Rattle.search.proofs.Steps.{any-default, past_end, run_end, run_on, run-stop}
use Rattle.search.proofs.run.Goals as goal

pub returns-then-work-i : goal.returns-then-work-i
returns-then-work-i c =
    sym (run-stop c.loop-i.work c.loop-i.i c.args.behind c.loop-i-test.true (λ e. let z : ◌≡◌ {A = ℕ} 1 0 = sym (past_end c.loop-i.work c.loop-i.i 1 c.if-work-i.true) ∙ e in omega arith)) ∙ c.loop-i.invariant

pub returns-then-work-i-ne0 : goal.returns-then-work-i-ne0
returns-then-work-i-ne0 c =
    sym (run-stop c.loop-i.work c.loop-i.i c.args.behind c.loop-i-test.true (λ e. c.if-work-i-ne0.true (any-default c.loop-i.work c.loop-i.i 0 1 c.if-work-i.false ∙ e))) ∙ c.loop-i.invariant

pub loop-i-preserved : goal.loop-i-preserved
loop-i-preserved c =
    run_on c.loop-i.work c.loop-i.i c.args.behind c.loop-i-test.true (any-default c.loop-i.work c.loop-i.i 1 0 c.if-work-i.false ∙ c.if-work-i-ne0.false) ∙ c.loop-i.invariant

pub returns : goal.returns
returns c = sym (run_end c.loop-i.work c.loop-i.i c.args.behind c.loop-i-test.false) ∙ c.loop-i.invariant
