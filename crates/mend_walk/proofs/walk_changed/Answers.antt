-- `mend_walk::walk_changed` meets its contract. Assumes nothing.
use mathlib.Core.Path.{sym}
use native.Mathlib.Omega.{arith}
use Rattle.edition.specs.Editions.{inner}
use Rattle.mend_pieces.specs.Pieces.{piece_of}
use Rattle.mend_tests.specs.Tests.{few}
use Rattle.mend_walk.proofs.Counted.{too_long}
use Rattle.mend_walk.proofs.Steps.{buffer_lent, buffer-holds, buffer-short, piece-walked}
use Rattle.mend_walk.proofs.walk_changed.Goals as goal

pub slice_bounds-walk_few-end : goal.slice_bounds-walk_few-end
slice_bounds-walk_few-end c =
    let A = c.args in
    buffer_lent 520 (piece_of A.becomes A.line.now) c.put_piece-length.new.out c.put_piece-length.result c.put_piece-length.ensures c.if-length-le520.true

pub returns-then-length-le520 : goal.returns-then-length-le520
returns-then-length-le520 c =
    let A = c.args in
    let fits = c.if-length-le520.true in
    let piece = piece_of A.becomes A.line.now in
    let lent = buffer_lent 520 piece c.put_piece-length.new.out c.put_piece-length.result c.put_piece-length.ensures fits in
    λ right rows small plain. piece-walked (inner A.edition) A.at (few A.had A.segments.now A.lanes.now A.zones.now A.checkpoints.now) A.first _ piece (buffer-holds 520 piece c.put_piece-length.new.out c.put_piece-length.result c.put_piece-length.ensures (omega arith) fits) plain (c.walk_few.ensures right (omega (arith, lent, fits)) rows small)

pub returns : goal.returns
returns c =
    let A = c.args in
    let piece = piece_of A.becomes A.line.now in
    λ right rows small plain. sym (too_long (inner A.edition) A.at (few A.had A.segments.now A.lanes.now A.zones.now A.checkpoints.now) 0 A.first piece (buffer-short 520 piece c.put_piece-length.new.out c.put_piece-length.result c.put_piece-length.ensures (omega arith) c.if-length-le520.false))
