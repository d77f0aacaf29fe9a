-- `output::put_u32_be` meets its contract. Assumes nothing.
use mathlib.Core.Path.{◌∙◌}
use Rattle.output.proofs.Writing.{same}
use Rattle.output.proofs.Packed.{bytes_four}
use Rattle.output.proofs.put_u32_be.Goals as goal

pub returns : goal.returns
returns c = same (c.to_be_bytes.ensures ∙ bytes_four c.args.n) c.put_bytes.ensures
