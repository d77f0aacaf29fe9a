-- `unpacked_rows::name_of_size` meets its contract. Assumes nothing.
use Rattle.unpacked_rows.proofs.Storing.{some-name}
use Rattle.unpacked_rows.specs.Told.{name_told}
use mathlib.Core.Path.{sym, ap}
use Rattle.unpacked_rows.proofs.name_of_size.Goals as goal

pub returns-then-size-eq0 : goal.returns-then-size-eq0
returns-then-size-eq0 c = ap (name_told c.args.place) (sym c.if-size-eq0.true)

pub returns-else-size-eq0 : goal.returns-else-size-eq0
returns-else-size-eq0 c = some-name c.args.place c.args.size c.if-size-eq0.false
