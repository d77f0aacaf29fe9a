use mathlib.Core.Path.{◌∙◌}
use Rattle.edition.specs.Editions.{inner}
use Rattle.network_reader.proofs.Steps.{cleared}
use Rattle.network_reader.proofs.read_network.Goals as goal

pub returns-in-Err : goal.returns-in-Err
returns-in-Err c = cleared (inner c.args.edition) c.args.text.now _ _ _ (rw c.in-Err.is at c.fill_lines-filled.ensures) c.clear_tables.ensures

pub returns-in-Ok : goal.returns-in-Ok
returns-in-Ok c = c.judge_rows.ensures ∙ cleared (inner c.args.edition) c.args.text.now _ _ _ (rw c.in-Ok.is at c.fill_lines-filled.ensures) c.clear_tables.ensures
