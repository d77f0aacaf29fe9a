-- Each call has one digit fewer to put.
use Rattle.output.proofs.+put_padded.Given as goal

abbrev pub decreases-put_padded : goal.decreases-put_padded
decreases-put_padded l = l.digits
