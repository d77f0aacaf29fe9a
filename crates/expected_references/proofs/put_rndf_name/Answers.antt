-- `expected_references::put_rndf_name` meets its contract. Assumes nothing.
use Rattle.terms.specs.Ascii.{ascii}
use Rattle.output.proofs.Writing.{same, ◌then◌}
use Rattle.expected_law.specs.Telling.{told}
use Rattle.expected_references.proofs.put_rndf_name.Goals as goal

pub returns : goal.returns
unfolding told ascii
returns c = c.put_bytes-a.ensures then (same c.rndf_name.ensures c.put_bytes.ensures)
