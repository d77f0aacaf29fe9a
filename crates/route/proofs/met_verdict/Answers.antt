-- `route::met_verdict` meets its contract. Assumes nothing.
use Rattle.std.specs.Prelude.{Err}
use mathlib.Core.Path.{sym, ap, subst, ◌∙◌}
use Prim.Native.Nat.{ℕ, ◌≤◌, ◌<◌}
use Rattle.room.specs.Room.{fitted}
use borrow.Author.Tests.{lt-ltb, le-ltb}
use Rattle.route.specs.Judged.{met_verdict_of}
use Rattle.route.proofs.met_verdict.Goals as goal

pub returns-then-met-count : goal.returns-then-met-count
unfolding met_verdict_of
returns-then-met-count c =
    let a = c.args in
    let met = c.goals_met-met.ensures in
    ap (λ (line : ℕ). Err (line, 23)) (c.in_word.ensures ∙ ap fitted met) ∙ rw (lt-ltb _ _ (subst (λ (k : ℕ). k < a.count) met c.if-met-count.true))

pub returns-then-ends : goal.returns-then-ends
unfolding met_verdict_of
returns-then-ends c =
    let a = c.args in
    rw (le-ltb _ _ (subst (λ (k : ℕ). a.count ≤ k) c.goals_met-met.ensures c.if-met-count.false), sym c.ends.ensures ∙ c.if-ends.true)

pub returns-else-ends : goal.returns-else-ends
unfolding met_verdict_of
returns-else-ends c =
    let a = c.args in
    rw (le-ltb _ _ (subst (λ (k : ℕ). a.count ≤ k) c.goals_met-met.ensures c.if-met-count.false), sym c.ends.ensures ∙ c.if-ends.false)
