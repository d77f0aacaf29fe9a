-- `expected_references::put_missing` meets its contract. Assumes nothing.
use Rattle.terms.specs.Ascii.{ascii}
use Rattle.output.proofs.Writing.{same}
use Rattle.expected_references.specs.Named.{unlimited_in}
use Rattle.expected_references.proofs.Listed.{told-missing}
use Rattle.expected_references.proofs.put_missing.Goals as goal

pub returns : goal.returns
unfolding ascii
returns c = same (told-missing (unlimited_in c.args.rndf.now c.args.mdf.now c.args.line)) c.put_unlimited.ensures
