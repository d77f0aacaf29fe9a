-- `output::put_u16_be` meets its contract. Assumes nothing.
use mathlib.Core.Path.{◌∙◌}
use Rattle.output.proofs.Writing.{same}
use Rattle.output.proofs.Packed.{bytes-two}
use Rattle.output.proofs.put_u16_be.Goals as goal

pub returns : goal.returns
returns c = same (c.to_be_bytes.ensures ∙ bytes-two c.args.n) c.put_bytes.ensures
