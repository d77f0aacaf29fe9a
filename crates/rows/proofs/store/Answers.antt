-- `rows::store` meets its contract: of the row the first j words are the new ones, all else is as it was. Assumes nothing.
use mathlib.Core.Path.{◌≡◌, sym, ap, ◌∙◌}
use Prim.Native.Nat.{◌*◌, ◌<◌}
use native.Mathlib.Numerals.{add-one}
use native.Mathlib.Omega.{arith}
use lib.ListN.{length, length-set}
use lib.Seq.{paste-suc, take-length}
use Rattle.rows.specs.Lay.{rows_of}
use Rattle.rows.proofs.Lay.{put-inside, put-outside}
use Rattle.rows.proofs.store.Goals as goal

pub loop-j-preserved : goal.loop-j-preserved
loop-j-preserved g c =
    let l = c.loop-j in
    let a = c.args in
    let words = c.words-words.result in
    let many : length words ≡ g.row.STRIDE = ap length c.words-words.ensures ∙ g.met.R.Row.as_many a.value in (
      omega arith,
      (rw (l.invariant.1, add-one) (paste-suc a.t.now (a.row * g.row.STRIDE) words l.j c.index-words-j.result (omega arith) (omega arith))),
      (simp length-set l.invariant.2),
      l.invariant.3,
    )

pub returns-after-loop-j : goal.returns-after-loop-j
returns-after-loop-j g c =
    let l = c.loop-j in
    let a = c.args in
    let h : a.row < rows_of (length a.t.now) g.row.STRIDE = rw c.rows_of.ensures at c.if-row-rows_of.true in
    let words = g.R.Row.words_of a.value in
    let many = g.met.R.Row.as_many a.value in
    let e : l.j ≡ length words = omega arith in
    l.invariant.1 ∙ rw (c.words-words.ensures, e, take-length, many) (sym (put-inside g.row.STRIDE a.t.now a.row words h))

pub returns-else-row-rows_of : goal.returns-else-row-rows_of
returns-else-row-rows_of g c =
    let a = c.args in
    sym (put-outside g.row.STRIDE a.t.now a.row (g.R.Row.words_of a.value) (rw c.rows_of.ensures at c.if-row-rows_of.false))
