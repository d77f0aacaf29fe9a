-- `search::search` meets its contract: so many points are taken off the stack, while there are some. Assumes nothing.
use mathlib.Core.Path.{◌≡◌, refl, sym, ap, ◌∙◌}
use Prim.Native.Nat.{ℕ, zero, suc, ◌-◌, ◌<◌}
use native.Mathlib.Omega.{arith}
use lib.ListN.{length}
use Rattle.search.specs.Search.{Marks, spread, targets, firsts, searched, search}
use Rattle.search.proofs.Steps.{all-top, popped-long, popped-top, search-over, search-end, search-on}
use Rattle.search.proofs.search.Goals as goal

pub loop-init : goal.loop-init
unfolding search
loop-init c =
    let a = c.args in
    let e = c.begin-top.ensures in
    let long = c.begin-top.auto.work in
    let high = ap (λ (m : Marks). m.top) e in
    let most = all-top a.lanes.now a.zones.now a.c (firsts a.lanes.now a.zones.now a.exits.now a.c a.from) a.work.now 0 (omega arith) in
    let all : length c.begin-top.new.work - 0 ≡ length a.work.now = omega (arith, long) in
    (λ i. (searched (spread a.lanes.now a.zones.now a.c) (targets a.lanes.now a.zones.now a.exits.now a.c) (all i) (e i)).words, omega (arith, long, high, most))

pub returns-then-top-eq0 : goal.returns-then-top-eq0
returns-then-top-eq0 c =
    let a = c.args in
    sym (search-over (spread a.lanes.now a.zones.now a.c) (targets a.lanes.now a.zones.now a.exits.now a.c) c.loop.work c.loop.top (length c.begin-top.new.work - c.loop.counter) c.if-top-eq0.true) ∙ c.loop.invariant.0

pub onward-top-requires : goal.onward-top-requires
onward-top-requires c =
    let n = c.if-top-eq0.false in
    let long = c.begin-top.auto.work in
    let same = c.loop.auto.work in
    let few = c.requires.1 in
    (ne-zero c.loop.top n, c.loop.invariant.1, omega (arith, long, same, few))
  where
    ne-zero : (k : ℕ) → (k ≡ 0 → ⊥) → 0 < k
    ne-zero zero h = absurd (h refl)
    ne-zero (suc k) h = omega arith

pub loop-preserved : goal.loop-preserved
loop-preserved c =
    let a = c.args in
    let long = ap (λ (m : Marks). length m.words) c.onward-top.ensures ∙ popped-long a.lanes.now a.zones.now a.exits.now a.c c.loop.work c.loop.top in
    let high = ap (λ (m : Marks). m.top) c.onward-top.ensures in
    let most = popped-top a.lanes.now a.zones.now a.exits.now a.c c.loop.work c.loop.top in (
      search-on (spread a.lanes.now a.zones.now a.c) (targets a.lanes.now a.zones.now a.exits.now a.c) c.loop.work c.loop.top c.loop.counter (length c.begin-top.new.work) c.onward-top.new.work c.onward-top.result c.loop-test.true c.if-top-eq0.false c.onward-top.ensures ∙ c.loop.invariant.0,
      omega (arith, long, high, most),
    )

pub returns : goal.returns
returns c =
    let a = c.args in
    sym (search-end (spread a.lanes.now a.zones.now a.c) (targets a.lanes.now a.zones.now a.exits.now a.c) c.loop.work c.loop.top (length c.begin-top.new.work - c.loop.counter) (omega (arith, c.loop-test.false))) ∙ c.loop.invariant.0
