-- `output::put_padded` meets its contract. The measure is the count of digits. Assumes nothing.
use mathlib.Core.Path.{sym}
use Rattle.number.proofs.Decimals.{padded-none, padded-last}
use Rattle.output.proofs.Writing.{none, same, ◌then◌}
use Rattle.output.proofs.+put_padded.Goals as goal

pub returns-then-digits-eq0 : goal.returns-then-digits-eq0
returns-then-digits-eq0 t c = same (sym (padded-none _ _ c.if-digits-eq0.true)) none

pub returns : goal.returns
returns t c = same (sym (padded-last c.args.digits c.args.n c.if-digits-eq0.false)) (c.put_padded-last.ensures then c.put_digit.ensures)
