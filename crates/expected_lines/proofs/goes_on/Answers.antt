-- `expected_lines::goes_on` meets its contract. Assumes nothing.
use Rattle.expected_lines.specs.Words.{goes_on_of}
use Rattle.expected_lines.proofs.goes_on.Goals as goal

pub returns-in_default : goal.returns-in_default
unfolding goes_on_of
returns-in_default c = rw c.in_default.is

pub returns-in_default-m : goal.returns-in_default-m
unfolding goes_on_of
returns-in_default-m c = rw (c.in-Some.is, c.in_default-m.is)

pub returns : goal.returns
unfolding goes_on_of
returns c = rw (c.in-Some.is, c.in-Some-m.is) c.limited.ensures
