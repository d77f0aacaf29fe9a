-- `unpacked_rows::is_version` meets its contract. Assumes nothing.
use Rattle.unpacked_rows.proofs.Storing.{no_bytes, first_byte}
use Rattle.unpacked_rows.proofs.is_version.Goals as goal

pub returns-then-bytes-eq0 : goal.returns-then-bytes-eq0
returns-then-bytes-eq0 c = no_bytes c.args.bytes.now c.if-bytes-eq0.true

pub returns : goal.returns
returns c = first_byte c.args.bytes.now c.if-bytes-eq0.false
