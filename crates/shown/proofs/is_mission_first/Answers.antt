-- `shown::is_mission_first` meets its contract: the first word of the lines from here on is the text's. Assumes nothing.
use mathlib.Core.Path.{ap, ◌∙◌}
use native.Mathlib.Omega.{arith}
use borrow.Author.Rules.{rules}
use Rattle.terms.specs.Ascii.{Bytes, ascii}
use Rattle.scan.specs.Reach.{stops_by, same_bytes_of}
use Rattle.scan.specs.declared.Until.TheVariants.{Byte}
use Rattle.scan.proofs.Reach.{reach_le}
use Rattle.shown.proofs.FirstWord.{has_word, no_word, no_line}
use Rattle.shown.proofs.is_mission_first.Goals as goal

pub slice_bounds-word_in-count : goal.slice_bounds-word_in-count
slice_bounds-word_in-count c = search (rules, c.far_byte_from-e.ensures)

pub slice_bounds-word_in-start : goal.slice_bounds-word_in-start
slice_bounds-word_in-start c = search (rules, c.far_byte_from-e.ensures)

pub slice_bounds-word_in-end : goal.slice_bounds-word_in-end
slice_bounds-word_in-end c =
    let s = c.args.text.now in
    let l = c.loop-from.from in
    let h = c.loop-from-test.true in
    omega (arith, c.far_byte_from-e.ensures, reach_le (stops_by (Byte 10)) s l (omega arith))

pub returns-then-word-gt0 : goal.returns-then-word-gt0
unfolding ascii
returns-then-word-gt0 c =
    c.same.ensures ∙ ap (λ (x : Bytes). same_bytes_of x (ascii "MDF_name")) (c.word_in-word.ensures ∙ has_word c.args.text.now _ c.loop-from.from c.far_byte_from-e.result c.loop-from-test.true c.far_byte_from-e.ensures c.loop-from.invariant (rw (← c.word_in-word.ensures) c.if-word-gt0.true))

pub overflow_add-from : goal.overflow_add-from
overflow_add-from c =
    let s = c.args.text.now in
    let l = c.loop-from.from in
    let h = c.loop-from-test.true in
    omega (arith, c.far_byte_from-e.ensures, reach_le (stops_by (Byte 10)) s l (omega arith))

pub loop-from-smaller : goal.loop-from-smaller
loop-from-smaller c = search (rules, c.far_byte_from-e.ensures)

pub loop-from-preserved : goal.loop-from-preserved
loop-from-preserved c =
    no_word c.args.text.now _ c.loop-from.from c.far_byte_from-e.result c.loop-from-test.true c.far_byte_from-e.ensures c.loop-from.invariant (rw (← c.word_in-word.ensures) c.if-word-gt0.false)

pub returns : goal.returns
unfolding ascii same_bytes_of
returns c =
    ap (λ (x : Bytes). same_bytes_of x (ascii "MDF_name")) (no_line c.args.text.now _ c.loop-from.from c.loop-from-test.false c.loop-from.invariant)
