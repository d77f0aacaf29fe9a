-- Each call has the number without its last digit.
use Rattle.output.proofs.+put_integer.Given as goal

abbrev pub decreases-put_integer : goal.decreases-put_integer
decreases-put_integer l = l.n
