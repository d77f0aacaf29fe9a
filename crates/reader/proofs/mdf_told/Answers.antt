-- `reader::mdf_told` meets its contract: by the number, then by the line. Assumes nothing.
use Rattle.reader.proofs.Columns.{no_end, no_line, some-line}
use Rattle.columns.specs.MdfColumns.{mdf_column_in}
use Rattle.reader.specs.Columns.{mdf_told_of}
use Rattle.reader.proofs.mdf_told.Goals as goal

pub returns-then-fault-eq10 : goal.returns-then-fault-eq10
unfolding mdf_told_of
returns-then-fault-eq10 c =
    let A = c.args in
    no_end A.fault.line A.fault.number (mdf_column_in A.text.now A.fault.line A.fault.number) c.if-fault-eq10.true

pub returns-then-fault-eq0 : goal.returns-then-fault-eq0
unfolding mdf_told_of
returns-then-fault-eq0 c = no_line _ _ _ c.if-fault-eq10.false c.if-fault-eq0.true

pub returns : goal.returns
unfolding mdf_told_of
returns c = rw c.mdf_column.ensures (some-line _ _ _ c.if-fault-eq10.false c.if-fault-eq0.false)
