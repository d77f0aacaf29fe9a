-- `search::reach_entries` meets its contract: the rows that are left lead to what all lead to. Assumes nothing.
use mathlib.Core.Path.{sym, ap, subst, ◌∙◌}
use Prim.Native.Nat.{ℕ, ◌+◌, ◌-◌, ◌*◌, ◌≤◌, ◌<◌}
use native.Mathlib.Omega.{arith}
use lib.ListN.{length, get_or}
use Rattle.rows.specs.Strides.{exit_stride}
use Rattle.moves.specs.Halving.{first_word}
use Rattle.search.specs.Search.{Marks, marks, spread, reach_all, entry_taken, entries}
use Rattle.search.proofs.Steps.{entries-end, entries-past, entries-on, taken-long, taken-top, first-word-of, own-are}
use Rattle.search.proofs.reach_entries.Goals as goal

pub loop-row-init : goal.loop-row-init
loop-row-init c =
    let a = c.args in
    (own-are (spread a.lanes.now a.zones.now a.c) a.exits.now a.c.exits a.part a.least a.last c.rows_there-rows.result c.first_row_from-row.result (marks a.work.now a.top) c.rows_there-rows.ensures c.first_row_from-row.ensures, c.requires.0)

pub returns-then-behind-source : goal.returns-then-behind-source
returns-then-behind-source c =
    let a = c.args in
    let sp = spread a.lanes.now a.zones.now a.c in
    sym (entries-past sp a.exits.now a.part.behind a.least a.last c.loop-row.row c.rows_there-rows.result (marks c.loop-row.work c.loop-row.head) c.loop-row-test.true (subst (λ (x : ℕ). a.part.behind ≤ x) (c.word-source.ensures ∙ sym (first-word-of a.exits.now c.loop-row.row)) c.if-behind-source.true)) ∙ c.loop-row.invariant.0

pub reach_entry-head-requires : goal.reach_entry-head-requires
reach_entry-head-requires c =
    let e = c.rows_there-rows.ensures in
    let t = c.loop-row-test.true in
    let n = c.loop-row.auto.work in
    let h = c.loop-row.invariant.1 in
    let p = c.requires.1 in
    (omega arith, omega arith)

pub loop-row-preserved : goal.loop-row-preserved
loop-row-preserved c =
    let a = c.args in
    let sp = spread a.lanes.now a.zones.now a.c in
    let s = marks c.loop-row.work c.loop-row.head in
    let entry = get_or a.exits.now (c.loop-row.row * exit_stride + 1) 0 in
    let source = c.word-source.ensures ∙ sym (first-word-of a.exits.now c.loop-row.row) in
    let all = c.reach_entry-head.ensures ∙ ap (λ (x : ℕ). entry_taken sp a.least a.last x entry s) source in
    let long = ap (λ (m : Marks). length m.words) all ∙ taken-long a.lanes.now a.zones.now a.c a.least a.last (first_word a.exits.now exit_stride c.loop-row.row) entry c.loop-row.work c.loop-row.head in
    let high = ap (λ (m : Marks). m.top) all in
    let most = taken-top a.lanes.now a.zones.now a.c a.least a.last (first_word a.exits.now exit_stride c.loop-row.row) entry c.loop-row.work c.loop-row.head c.loop-row.invariant.1 in (
      ap (λ (m : Marks). reach_all sp m (entries a.exits.now a.part.behind a.least a.last (c.loop-row.row + 1) (c.rows_there-rows.result - (c.loop-row.row + 1)))) all
          ∙ entries-on sp a.exits.now a.part.behind a.least a.last c.loop-row.row c.rows_there-rows.result s c.loop-row-test.true (subst (λ (x : ℕ). x < a.part.behind) source c.if-behind-source.false)
          ∙ c.loop-row.invariant.0,
      omega (arith, high, most, long),
    )

pub returns : goal.returns
returns c =
    let a = c.args in
    let sp = spread a.lanes.now a.zones.now a.c in
    sym (entries-end sp a.exits.now a.part.behind a.least a.last c.loop-row.row c.rows_there-rows.result (marks c.loop-row.work c.loop-row.head) c.loop-row-test.false) ∙ c.loop-row.invariant.0
