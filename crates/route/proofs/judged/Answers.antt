-- `route::judged` meets its contract. Assumes nothing.
use Rattle.std.specs.Prelude.{Err}
use mathlib.Core.Path.{sym, ap, subst, ◌∙◌}
use Prim.Native.Nat.{ℕ, ◌≤◌, ◌<◌}
use lib.ListN.{length}
use Rattle.room.specs.Room.{fitted}
use borrow.Author.Tests.{lt-ltb, le-ltb}
use Rattle.route.specs.Judged.{verdict}
use Rattle.route.proofs.judged.Goals as goal

pub returns-then-place-route : goal.returns-then-place-route
unfolding verdict
returns-then-place-route c =
    let a = c.args in
    let place = c.stray-place.ensures in
    ap (λ (line : ℕ). Err (line, 22)) (c.in_word.ensures ∙ ap fitted place)
    ∙ rw (sym c.begins.ensures ∙ c.if-begins.true, lt-ltb _ _ (subst (λ (k : ℕ). k < length a.route.now) place c.if-place-route.true))

pub returns-else-place-route : goal.returns-else-place-route
unfolding verdict
returns-else-place-route c =
    let a = c.args in
    let place = c.stray-place.ensures in
    c.met_verdict.ensures
    ∙ rw (sym c.begins.ensures ∙ c.if-begins.true, le-ltb _ _ (subst (λ (k : ℕ). length a.route.now ≤ k) place c.if-place-route.false))

pub returns-else-begins : goal.returns-else-begins
unfolding verdict
returns-else-begins c = rw (sym c.begins.ensures ∙ c.if-begins.false)
