-- `said_line::fields_cut` meets its contract. Assumes nothing.
use mathlib.Core.Path.{◌≡◌, subst}
use Prim.Native.Nat.{ℕ, ◌+◌, ◌≤◌}
use native.Mathlib.Omega.{arith}
use borrow.Author.Tests.{eq-eqb, ne_eqb, lt-ltb, le-ltb}
use lib.ListN.{length}
use Rattle.line.specs.Forms.{SpanWithin}
use Rattle.line.specs.declared.Fields.{Fields}
use Rattle.line.proofs.Spans.{fields_within}
use Rattle.judge.specs.Judging.{known, told}
use Rattle.said_line.specs.Saying.{last_in, LastOfFew}
use Rattle.said_line.proofs.Cuts.{last-inside, told-last}
use Rattle.said_line.proofs.fields_cut.Goals as goal

pub returns-then-f-eq0 : goal.returns-then-f-eq0
unfolding told
returns-then-f-eq0 c = (rw (← c.fields_of-f.ensures, eq-eqb _ 0 c.if-f-eq0.true), tt)

pub slice_bounds-kind_of-count : goal.slice_bounds-kind_of-count
slice_bounds-kind_of-count c = let h : SpanWithin c.args.s.now c.fields_of-f.result.a = rw c.fields_of-f.ensures (fields_within c.args.s.now).first in omega (arith, h.order, h.inside)

pub slice_bounds-kind_of-start : goal.slice_bounds-kind_of-start
slice_bounds-kind_of-start c = let h : SpanWithin c.args.s.now c.fields_of-f.result.a = rw c.fields_of-f.ensures (fields_within c.args.s.now).first in omega (arith, h.order, h.inside)

pub slice_bounds-kind_of-end : goal.slice_bounds-kind_of-end
slice_bounds-kind_of-end c = let h : SpanWithin c.args.s.now c.fields_of-f.result.a = rw c.fields_of-f.ensures (fields_within c.args.s.now).first in omega (arith, h.order, h.inside)

pub overflow_add-last : goal.overflow_add-last
overflow_add-last c =
    let s = c.args.s.now in
    let l : c.last_start.result ≤ length s = rw (c.last_start.ensures, c.fields_of-f.ensures) (last-inside s) in
    omega (arith, c.requires, l)

pub kind_cut-requires : goal.kind_cut-requires
kind_cut-requires c = (c.requires, c.if-kind-lt-COUNT.true)

pub returns-then-kind-lt-COUNT : goal.returns-then-kind-lt-COUNT
unfolding told known
returns-then-kind-lt-COUNT c =
    let s = c.args.s.now in
    let base = c.args.base in
    let some : c.fields_of-f.result.count ≡ 0 → ⊥ = c.if-f-eq0.false in (
      rw (← c.fields_of-f.ensures, ne_eqb _ 0 some, ← c.kind_of-kind.ensures, lt-ltb _ 30 c.if-kind-lt-COUNT.true) c.kind_cut.ensures.0,
      told-last base s (subst (λ (g : Fields). g.count ≡ 0 → ⊥) c.fields_of-f.ensures some) c.kind_cut.result
          (subst (λ (g : Fields). LastOfFew g.count (base + last_in g) c.kind_cut.result) c.fields_of-f.ensures (subst (λ (n : ℕ). LastOfFew c.fields_of-f.result.count (base + n) c.kind_cut.result) c.last_start.ensures c.kind_cut.ensures.1)),
    )

pub returns-else-kind-lt-COUNT : goal.returns-else-kind-lt-COUNT
unfolding told known
returns-else-kind-lt-COUNT c = (rw (← c.fields_of-f.ensures, ne_eqb _ 0 c.if-f-eq0.false, ← c.kind_of-kind.ensures, le-ltb _ 30 c.if-kind-lt-COUNT.false), tt)
