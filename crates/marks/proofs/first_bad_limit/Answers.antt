-- `marks::first_bad_limit` meets its contract. The loop's invariant: the marks are those of the ids of the rows before, and none of these rows is at fault. Assumes nothing.
use mathlib.Core.Path.{◌≡◌, refl, sym, ap, ◌∙◌}
use mathlib.Core.Bool.{true, false}
use Prim.Native.Nat.{zero-le}
use native.Mathlib.Numerals.{add-one}
use native.Mathlib.Omega.{arith}
use Rattle.fill.specs.FirstFaults.{in_parts}
use Rattle.marks.specs.Rows.{limit_says, said}
use Rattle.marks.specs.Tests.{seen, ids_to, unfitting, bad_limit, first_bad_limit_of}
use Rattle.marks.proofs.Seen.{none-marked, one_more}
use Rattle.marks.proofs.Walked.{whole, at-end, hit, passed}
use Rattle.marks.proofs.first_bad_limit.Goals as goal

pub loop-row-init : goal.loop-row-init
unfolding said
loop-row-init c =
    let a = c.args in
    (zero-le, none-marked 4096 refl, whole (unfitting a.parts) (limit_says a.limits.now) a.limit_count)

pub returns-then-is_marked : goal.returns-then-is_marked
unfolding first_bad_limit_of
returns-then-is_marked c =
    let a = c.args in
    let i = limit_says a.limits.now c.loop-row.row in
    let there : in_parts (ids_to a.parts) i ≡ true = sym (rw c.limit_at-limit.ensures at c.is_there.ensures) ∙ c.if-is_there.true in
    let again : seen (said (limit_says a.limits.now) c.loop-row.row) i ≡ true = sym (c.loop-row.invariant.1.tells i) ∙ sym (rw c.limit_at-limit.ensures at c.is_marked.ensures) ∙ c.if-is_marked.true in
    sym (ap bad_limit (sym c.loop-row.invariant.2 ∙ hit (unfitting a.parts) (limit_says a.limits.now) a.limit_count c.loop-row.row 17 (omega arith) (rw (there, again))))

pub returns-else-is_there : goal.returns-else-is_there
unfolding first_bad_limit_of
returns-else-is_there c =
    let a = c.args in
    let i = limit_says a.limits.now c.loop-row.row in
    let there : in_parts (ids_to a.parts) i ≡ false = sym (rw c.limit_at-limit.ensures at c.is_there.ensures) ∙ c.if-is_there.false in
    sym (ap bad_limit (sym c.loop-row.invariant.2 ∙ hit (unfitting a.parts) (limit_says a.limits.now) a.limit_count c.loop-row.row 16 (omega arith) (rw there)))

pub loop-row-preserved : goal.loop-row-preserved
unfolding said
loop-row-preserved c =
    let a = c.args in
    let i = limit_says a.limits.now c.loop-row.row in
    let there : in_parts (ids_to a.parts) i ≡ true = sym (rw c.limit_at-limit.ensures at c.is_there.ensures) ∙ c.if-is_there.true in
    let new : seen (said (limit_says a.limits.now) c.loop-row.row) i ≡ false = sym (c.loop-row.invariant.1.tells i) ∙ sym (rw c.limit_at-limit.ensures at c.is_marked.ensures) ∙ c.if-is_marked.false in
    (omega arith, rw (c.mark.ensures, c.limit_at-limit.ensures, add-one) (one_more c.loop-row.invariant.1 i), sym (passed (unfitting a.parts) (limit_says a.limits.now) a.limit_count c.loop-row.row (omega arith) (rw (there, new))) ∙ c.loop-row.invariant.2)

pub returns : goal.returns
unfolding first_bad_limit_of
returns c =
    let a = c.args in
    sym (ap bad_limit (sym c.loop-row.invariant.2 ∙ at-end (unfitting a.parts) (limit_says a.limits.now) a.limit_count c.loop-row.row (omega arith)))
