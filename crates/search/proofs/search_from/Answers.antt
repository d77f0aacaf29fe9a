-- `search::search_from` meets its contract. Assumes nothing.
use mathlib.Core.Path.{ap, subst, ◌∙◌}
use mathlib.Core.List.{List}
use Prim.Native.Nat.{ℕ, ◌≤◌, ◌<◌}
use lib.ListN.{length, length-replicate}
use Rattle.search.specs.Search as Spec
use Rattle.search.proofs.Steps.{found-far, found-many, found-is}
use Rattle.search.proofs.search_from.Goals as goal

pub returns-then-work-from : goal.returns-then-work-from
returns-then-work-from c =
    let a = c.args in
    let long = ap length c.clear.ensures ∙ length-replicate (length a.work.now) 0 in
    c.clear.ensures ∙ found-far a.lanes.now a.zones.now a.exits.now a.c (length a.work.now) a.from (subst (λ (x : ℕ). x ≤ a.from) long c.if-work-from.true)

pub returns-then-work-ge4294967294 : goal.returns-then-work-ge4294967294
returns-then-work-ge4294967294 c =
    let a = c.args in
    let long = ap length c.clear.ensures ∙ length-replicate (length a.work.now) 0 in
    c.clear.ensures ∙ found-many a.lanes.now a.zones.now a.exits.now a.c (length a.work.now) a.from (subst (λ (x : ℕ). a.from < x) long c.if-work-from.false) (subst (λ (x : ℕ). 4294967294 ≤ x) long c.if-work-ge4294967294.true)

pub returns : goal.returns
returns c =
    let a = c.args in
    let long = ap length c.clear.ensures ∙ length-replicate (length a.work.now) 0 in
    c.search.ensures ∙ ap (λ (v : List ℕ). Spec.search a.lanes.now a.zones.now a.exits.now a.c v a.from) c.clear.ensures
    ∙ found-is a.lanes.now a.zones.now a.exits.now a.c (length a.work.now) a.from (subst (λ (x : ℕ). a.from < x) long c.if-work-from.false) (subst (λ (x : ℕ). x < 4294967294) long c.if-work-ge4294967294.false)
