-- `shown::word_in` meets its contract: before the comment, up to a separator. Assumes nothing.
use Prim.Native.Nat.{◌≤◌}
use native.Mathlib.Omega.{arith}
use lib.ListN.{length}
use Rattle.scan.specs.Reach.{stops_by}
use Rattle.scan.specs.declared.Until.TheVariants.{Separator, NotSeparator}
use Rattle.scan.proofs.Reach.{reach_le}
use Rattle.shown.proofs.FirstWord.{line_word}
use Rattle.shown.proofs.word_in.Goals as goal

pub slice_bounds-result-end : goal.slice_bounds-result-end
slice_bounds-result-end c =
    let s = c.first-s.result.now in
    let a : c.not_separator_from-start.result ≤ length s = omega (arith, c.not_separator_from-start.ensures, reach_le (stops_by NotSeparator) s 0 (omega arith)) in
    omega (arith, c.separator_from-stop.ensures, reach_le (stops_by Separator) s c.not_separator_from-start.result a)

pub returns : goal.returns
returns c =
    line_word
    c.args.line.now
    c.first-content.result.now
    c.first-s.result.now
    c.trimmed.result
    c.two_from.result
    c.not_separator_from-start.result
    c.separator_from-stop.result
    c.trimmed.ensures
    c.first-content.ensures
    c.two_from.ensures
    c.first-s.ensures
    c.not_separator_from-start.ensures
    c.separator_from-stop.ensures
