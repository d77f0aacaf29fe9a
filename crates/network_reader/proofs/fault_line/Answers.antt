use mathlib.Core.Path.{refl}
use borrow.Author.Tests.{lt-ltb, le-ltb}
use Rattle.network_reader.specs.Reading.{fault_line_of}
use Rattle.network_reader.proofs.fault_line.Goals as goal

pub returns-then-exit_line-checkpoint_line : goal.returns-then-exit_line-checkpoint_line
unfolding fault_line_of
returns-then-exit_line-checkpoint_line c = rw (c.in-Some.is, c.in-Some-repeated.is, ← c.rndf_line-exit_line.ensures, ← c.rndf_line-checkpoint_line.ensures, lt-ltb _ _ c.if-exit_line-checkpoint_line.true) refl

pub returns-else-exit_line-checkpoint_line : goal.returns-else-exit_line-checkpoint_line
unfolding fault_line_of
returns-else-exit_line-checkpoint_line c = rw (c.in-Some.is, c.in-Some-repeated.is, ← c.rndf_line-exit_line.ensures, ← c.rndf_line-checkpoint_line.ensures, le-ltb _ _ c.if-exit_line-checkpoint_line.false) refl

pub returns-in-None-repeated : goal.returns-in-None-repeated
unfolding fault_line_of
returns-in-None-repeated c = rw (c.in-Some.is, c.in-None-repeated.is, ← c.rndf_line-exit_line.ensures) refl

pub returns-in-Some-repeated-2 : goal.returns-in-Some-repeated-2
unfolding fault_line_of
returns-in-Some-repeated-2 c = rw (c.in-None.is, c.in-Some-repeated-2.is, ← c.rndf_line.ensures) refl

pub returns-in-None-repeated-2 : goal.returns-in-None-repeated-2
unfolding fault_line_of
returns-in-None-repeated-2 c = rw (c.in-None.is, c.in-None-repeated-2.is) refl
