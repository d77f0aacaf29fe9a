-- `compared::last_opening` meets its contract: what is left of the lines has the last one, or it was found before. Assumes nothing.
use mathlib.Core.Path.{sym, ap, ◌∙◌}
use native.Mathlib.Omega.{arith}
use lib.ListN.{length}
use borrow.Author.Rules.{rules}
use Rattle.terms.specs.Ascii.{Bytes}
use Rattle.scan.specs.Reach.{stops_by}
use Rattle.scan.specs.declared.Until.TheVariants.{Byte}
use Rattle.scan.proofs.Reach.{reach_le}
use Rattle.line.specs.Lines.{lines_of}
use Rattle.compared.specs.Compared.{line_there, opening, last_opening_of}
use Rattle.compared.proofs.Laws.{no_line}
use Rattle.compared.proofs.Opening.{opens-here, opens_not, opens-end}
use Rattle.compared.proofs.last_opening.Goals as goal

pub loop-from-init : goal.loop-from-init
loop-from-init c =
    let s = c.args.front.now in
    ap (λ (l : Bytes). last_opening_of l (lines_of s)) (sym (no_line s (length s) (omega arith)))

pub overflow_add-from : goal.overflow_add-from
overflow_add-from c =
    let l = c.loop-from in
    let a = c.args in
    let h = c.loop-from-test.true in
    omega (arith, c.far_byte_from-e.ensures, reach_le (stops_by (Byte 10)) a.front.now l.from (omega arith))

pub loop-from-smaller-then-is_opening : goal.loop-from-smaller-then-is_opening
loop-from-smaller-then-is_opening c = search (rules, c.far_byte_from-e.ensures)

pub loop-from-preserved-then-is_opening : goal.loop-from-preserved-then-is_opening
loop-from-preserved-then-is_opening c =
    let l = c.loop-from in
    let a = c.args in
    opens-here a.front.now l.from c.far_byte_from-e.result (line_there a.front.now l.found) c.loop-from-test.true c.far_byte_from-e.ensures (ap opening (sym c.line_at.ensures) ∙ sym c.is_opening.ensures ∙ c.if-is_opening.true) ∙ l.invariant

pub overflow_add-from-in-loop-from : goal.overflow_add-from-in-loop-from
overflow_add-from-in-loop-from c =
    let l = c.loop-from in
    let a = c.args in
    let h = c.loop-from-test.true in
    omega (arith, c.far_byte_from-e.ensures, reach_le (stops_by (Byte 10)) a.front.now l.from (omega arith))

pub loop-from-smaller : goal.loop-from-smaller
loop-from-smaller c = search (rules, c.far_byte_from-e.ensures)

pub loop-from-preserved : goal.loop-from-preserved
loop-from-preserved c =
    let l = c.loop-from in
    let a = c.args in
    opens_not a.front.now l.from c.far_byte_from-e.result (line_there a.front.now l.found) c.loop-from-test.true c.far_byte_from-e.ensures (ap opening (sym c.line_at.ensures) ∙ sym c.is_opening.ensures ∙ c.if-is_opening.false) ∙ l.invariant

pub returns : goal.returns
returns c =
    let l = c.loop-from in
    let a = c.args in
    c.line_at-2.ensures ∙ sym (opens-end a.front.now l.from (line_there a.front.now l.found) c.loop-from-test.false) ∙ l.invariant
