-- `plain_line::word_said` meets its contract. Assumes nothing.
use mathlib.Core.Path.{sym, ◌∙◌}
use native.Mathlib.Omega.{arith}
use Rattle.plain_line.proofs.Shapes.{bare-made, word_made}
use Rattle.plain_line.proofs.word_said.Goals as goal

pub returns-then-shape-eq0 : goal.returns-then-shape-eq0
returns-then-shape-eq0 c =
    let word = c.in_ok-kind in
    rw c.bare.ensures (bare-made c.args.s.now c.args.from word.w word.kind word.ensures (sym c.shape_of-shape.ensures ∙ c.if-shape-eq0.true))

pub shape_behind-requires : goal.shape_behind-requires
shape_behind-requires c = (sym c.shape_of-shape.ensures, c.in_ok-b.ensures.inside)

pub returns : goal.returns
returns c =
    let a = c.args in
    let word = c.in_ok-kind in
    let behind = c.in_ok-said in
    word_made a.s.now a.from word.w word.kind word.ensures c.in_ok-b.b behind.e behind.said behind.last c.in_ok-b.ensures behind.ensures
