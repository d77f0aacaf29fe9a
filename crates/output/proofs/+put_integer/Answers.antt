-- `output::put_integer` meets its contract. The measure is the number. Assumes nothing.
use mathlib.Core.Path.{sym}
use Rattle.number.specs.House.{house_integer}
use Rattle.output.proofs.Digits.{decimal-few}
use Rattle.number.proofs.Decimals.{decimal-last}
use Rattle.output.proofs.Writing.{same, ◌then◌}
use Rattle.output.proofs.+put_integer.Goals as goal

pub returns-then-n-lt10 : goal.returns-then-n-lt10
unfolding house_integer
returns-then-n-lt10 t c = same (sym (decimal-few _ c.if-n-lt10.true)) c.put_digit.ensures

pub returns : goal.returns
unfolding house_integer
returns t c = same (sym (decimal-last _ c.if-n-lt10.false)) (c.put_integer-to.ensures then c.put_digit-2.ensures)
