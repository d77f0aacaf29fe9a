-- A line without its CR is no longer.
use Rattle.std.proofs.Common.{sym, ◌≤◌, arith, length}
use lib.Seq.{length-take-le}
use Rattle.line.proofs.Ends.{trim_le}
use Rattle.line_vectors.proofs.put_line.Goals as goal

pub slice_bounds-put_content-end : goal.slice_bounds-put_content-end
slice_bounds-put_content-end g c =
    let s = c.args.s.now in
    let h : c.trimmed-k.result ≤ length s = omega (arith, c.trimmed-k.ensures, trim_le s) in
    sym (length-take-le c.trimmed-k.result s h)
