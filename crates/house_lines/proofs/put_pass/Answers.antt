-- `house_lines::put_pass` meets its contract. Assumes nothing.
use mathlib.Core.Path.{refl, sym, ap, ◌∙◌}
use Prim.Native.Nat.{ℕ, ◌+◌, ◌-◌}
use native.Mathlib.Omega.{arith}
use lib.ListN.{take, drop}
use Rattle.terms.specs.Ascii.{Bytes}
use Rattle.scan.specs.Reach.{stops_by}
use Rattle.scan.specs.declared.Until.TheVariants.{Byte}
use Rattle.scan.proofs.Reach.{reach_le}
use Rattle.grammar.specs.Tables.{gather}
use Rattle.output.specs.Pen.{pen}
use Rattle.house_lines.specs.declared.Said.{Said}
use Rattle.house_lines.specs.Arranged.{line_of, pass}
use Rattle.house_lines.specs.Said.{spoken_from}
use Rattle.house_lines.proofs.Heard.{said-within}
use Rattle.house_lines.proofs.Order.{goes_on, is-over, pass-ends, pass_step, pass-over}
use Rattle.house_lines.proofs.put_pass.Goals as goal

pub loop-start-init : goal.loop-start-init
loop-start-init c = (refl, refl)

pub slice_bounds-said_on-count : goal.slice_bounds-said_on-count
slice_bounds-said_on-count c = omega (arith, c.far_byte_from-e.ensures)

pub slice_bounds-said_on-start : goal.slice_bounds-said_on-start
slice_bounds-said_on-start c = omega (arith, c.far_byte_from-e.ensures)

pub slice_bounds-said_on-end : goal.slice_bounds-said_on-end
slice_bounds-said_on-end c =
    let s = c.args.text.now in
    let l = c.loop-start in
    let k = reach_le (stops_by (Byte 10)) s l.start (omega arith) in
    omega (arith, c.far_byte_from-e.ensures, k)

pub shape_of-out-then-s-eq0 : goal.shape_of-out-then-s-eq0
shape_of-out-then-s-eq0 c = c.loop-start.invariant.0

pub returns-then-s-eq0 : goal.returns-then-s-eq0
returns-then-s-eq0 c =
    let s = c.args.text.now in
    let l = c.loop-start in
    is-over l.invariant.1 (pass-ends s l.start c.far_byte_from-e.result (omega arith) c.far_byte_from-e.ensures c.args.rank (sym (ap (λ (r : Said). r.rank) c.said_on-s.ensures) ∙ c.if-s-eq0.true))

pub slice_bounds-put_ranked-count : goal.slice_bounds-put_ranked-count
slice_bounds-put_ranked-count c = omega (arith, c.far_byte_from-e.ensures)

pub slice_bounds-put_ranked-start : goal.slice_bounds-put_ranked-start
slice_bounds-put_ranked-start c = omega (arith, c.far_byte_from-e.ensures)

pub slice_bounds-put_ranked-end : goal.slice_bounds-put_ranked-end
slice_bounds-put_ranked-end c =
    let s = c.args.text.now in
    let l = c.loop-start in
    let k = reach_le (stops_by (Byte 10)) s l.start (omega arith) in
    omega (arith, c.far_byte_from-e.ensures, k)

pub put_ranked-to-requires : goal.put_ranked-to-requires
put_ranked-to-requires c =
    let s = c.args.text.now in
    let f = c.loop-start.start in
    rw c.said_on-s.ensures (said-within (take (c.far_byte_from-e.result - f) (drop f s)))

pub overflow_add-start : goal.overflow_add-start
overflow_add-start c =
    let s = c.args.text.now in
    let l = c.loop-start in
    let k = reach_le (stops_by (Byte 10)) s l.start (omega arith) in
    omega (arith, c.far_byte_from-e.ensures, k)

pub loop-start-smaller : goal.loop-start-smaller
loop-start-smaller c =
    let s = c.args.text.now in
    let l = c.loop-start in
    let k = reach_le (stops_by (Byte 10)) s l.start (omega arith) in
    omega (arith, c.far_byte_from-e.ensures, k)

pub loop-start-preserved : goal.loop-start-preserved
loop-start-preserved c =
    let a = c.args in
    let l = c.loop-start in
    let more = pass_step a.text.now l.start c.far_byte_from-e.result c.loop-start-test.true c.far_byte_from-e.ensures a.rank c.requires c.said_on-s.result c.said_on-s.ensures c.if-s-eq0.false in
    let rest : ℕ → Bytes = λ n. gather line_of (pass a.rank (spoken_from a.text.now n)) in
    (c.put_ranked-to.auto.out ∙ l.invariant.0, goes_on (pen a.out.now a.at) (rest a.from) (rest (c.far_byte_from-e.result + 1)) l.invariant.1 more c.put_ranked-to.ensures)

pub shape_of-out : goal.shape_of-out
shape_of-out c = c.loop-start.invariant.0

pub returns : goal.returns
returns c = is-over c.loop-start.invariant.1 (pass-over c.args.text.now c.loop-start.start (omega arith) c.args.rank)
