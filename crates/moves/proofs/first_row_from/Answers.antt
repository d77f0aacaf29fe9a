-- `moves::first_row_from` meets its contract: what is left to be halved has the answer of the whole. Assumes nothing.
use mathlib.Core.Path.{sym, ap, subst, ◌∙◌}
use Prim.Native.Nat.{ℕ, ◌≤◌, ◌<◌}
use native.Mathlib.Omega.{arith}
use Rattle.moves.specs.Halving.{halved, first_word}
use Rattle.moves.proofs.Halving.{upper_half, lower_half, nothing_left}
use Rattle.moves.proofs.first_row_from.Goals as goal

pub loop-left-init : goal.loop-left-init
loop-left-init c =
    let a = c.args in
    let e = c.rows_there-left.ensures in
    (omega arith, ap (λ (k : ℕ). halved (first_word a.table.now a.stride) a.least k 0 k) e)

pub overflow_add-middle : goal.overflow_add-middle
overflow_add-middle c = let i = c.loop-left.invariant.0 in omega arith

-- the row in the middle is there
pub first_word-requires : goal.first_word-requires
first_word-requires c = let i = c.loop-left.invariant.0 in let t = c.loop-left-test.true in omega arith

pub overflow_add-low : goal.overflow_add-low
overflow_add-low c = let i = c.loop-left.invariant.0 in let t = c.loop-left-test.true in omega arith

pub loop-left-smaller-then-first_word-least : goal.loop-left-smaller-then-first_word-least
loop-left-smaller-then-first_word-least c = let t = c.loop-left-test.true in omega arith

pub loop-left-preserved-then-first_word-least : goal.loop-left-preserved-then-first_word-least
loop-left-preserved-then-first_word-least c =
    let l = c.loop-left in
    let a = c.args in
    let t = c.loop-left-test.true in
    let i = l.invariant.0 in
    (omega arith, upper_half (first_word a.table.now a.stride) a.least l.low l.left t (subst (λ (w : ℕ). w < a.least) c.first_word.ensures c.if-first_word-least.true) ∙ l.invariant.1)

pub loop-left-smaller : goal.loop-left-smaller
loop-left-smaller c = let t = c.loop-left-test.true in omega arith

pub loop-left-preserved : goal.loop-left-preserved
loop-left-preserved c =
    let l = c.loop-left in
    let a = c.args in
    let t = c.loop-left-test.true in
    let i = l.invariant.0 in
    (omega arith, lower_half (first_word a.table.now a.stride) a.least l.low l.left t (subst (λ (w : ℕ). a.least ≤ w) c.first_word.ensures c.if-first_word-least.false) ∙ l.invariant.1)

pub returns : goal.returns
returns c =
    let l = c.loop-left in
    let a = c.args in
    sym (sym l.invariant.1 ∙ nothing_left (first_word a.table.now a.stride) a.least l.low l.left c.loop-left-test.false)
