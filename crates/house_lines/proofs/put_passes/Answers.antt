-- `house_lines::put_passes` meets its contract. Assumes nothing.
use Rattle.output.proofs.Writing.{same, ◌then◌}
use Rattle.house_lines.specs.Said.{spoken_from}
use Rattle.house_lines.proofs.Order.{six}
use Rattle.house_lines.proofs.put_passes.Goals as goal

pub returns : goal.returns
returns c =
    let a = c.args in
    same
    (six (spoken_from a.text.now a.from))
    (c.put_pass-a.ensures then c.put_pass-b.ensures then c.put_pass-c.ensures then c.put_pass-d.ensures then c.put_pass-e.ensures then c.put_pass.ensures)
