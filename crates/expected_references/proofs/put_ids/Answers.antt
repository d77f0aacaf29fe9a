-- `expected_references::put_ids` meets its contract. Assumes nothing.
use Rattle.terms.specs.Ascii.{ascii}
use Rattle.output.proofs.Writing.{same}
use Rattle.expected_references.specs.Named.{unlimited_in}
use Rattle.expected_references.proofs.Listed.{told-ids}
use Rattle.expected_references.proofs.put_ids.Goals as goal

pub returns : goal.returns
unfolding ascii
returns c = same (told-ids (unlimited_in c.args.rndf.now c.args.mdf.now c.args.line)) c.put_unlimited.ensures
