-- `reasons::reason` meets its contract: an arm for each number, and the last for those that no refusal has. Assumes nothing.
use mathlib.Core.Path.{sym, ap}
use Rattle.terms.specs.Ascii.{ascii}
use Rattle.reasons.specs.Reasons.{reason, reasons}
use Rattle.reasons.proofs.Others.{none_else}
use Rattle.reasons.proofs.reason.Goals as goal

pub returns-in-1 : goal.returns-in-1
unfolding ascii reason reasons
returns-in-1 c = ap reason (sym c.in-1.is)

pub returns-in-2 : goal.returns-in-2
unfolding ascii reason reasons
returns-in-2 c = ap reason (sym c.in-2.is)

pub returns-in-3 : goal.returns-in-3
unfolding ascii reason reasons
returns-in-3 c = ap reason (sym c.in-3.is)

pub returns-in-4 : goal.returns-in-4
unfolding ascii reason reasons
returns-in-4 c = ap reason (sym c.in-4.is)

pub returns-in-5 : goal.returns-in-5
unfolding ascii reason reasons
returns-in-5 c = ap reason (sym c.in-5.is)

pub returns-in-6 : goal.returns-in-6
unfolding ascii reason reasons
returns-in-6 c = ap reason (sym c.in-6.is)

pub returns-in-7 : goal.returns-in-7
unfolding ascii reason reasons
returns-in-7 c = ap reason (sym c.in-7.is)

pub returns-in-8 : goal.returns-in-8
unfolding ascii reason reasons
returns-in-8 c = ap reason (sym c.in-8.is)

pub returns-in-9 : goal.returns-in-9
unfolding ascii reason reasons
returns-in-9 c = ap reason (sym c.in-9.is)

pub returns-in-10 : goal.returns-in-10
unfolding ascii reason reasons
returns-in-10 c = ap reason (sym c.in-10.is)

pub returns-in-11 : goal.returns-in-11
unfolding ascii reason reasons
returns-in-11 c = ap reason (sym c.in-11.is)

pub returns-in-12 : goal.returns-in-12
unfolding ascii reason reasons
returns-in-12 c = ap reason (sym c.in-12.is)

pub returns-in-13 : goal.returns-in-13
unfolding ascii reason reasons
returns-in-13 c = ap reason (sym c.in-13.is)

pub returns-in-14 : goal.returns-in-14
unfolding ascii reason reasons
returns-in-14 c = ap reason (sym c.in-14.is)

pub returns-in-15 : goal.returns-in-15
unfolding ascii reason reasons
returns-in-15 c = ap reason (sym c.in-15.is)

pub returns-in-16 : goal.returns-in-16
unfolding ascii reason reasons
returns-in-16 c = ap reason (sym c.in-16.is)

pub returns-in-17 : goal.returns-in-17
unfolding ascii reason reasons
returns-in-17 c = ap reason (sym c.in-17.is)

pub returns-in-18 : goal.returns-in-18
unfolding ascii reason reasons
returns-in-18 c = ap reason (sym c.in-18.is)

pub returns-in-19 : goal.returns-in-19
unfolding ascii reason reasons
returns-in-19 c = ap reason (sym c.in-19.is)

pub returns-in-20 : goal.returns-in-20
unfolding ascii reason reasons
returns-in-20 c = ap reason (sym c.in-20.is)

pub returns-in-21 : goal.returns-in-21
unfolding ascii reason reasons
returns-in-21 c = ap reason (sym c.in-21.is)

pub returns-in-22 : goal.returns-in-22
unfolding ascii reason reasons
returns-in-22 c = ap reason (sym c.in-22.is)

pub returns-in-23 : goal.returns-in-23
unfolding ascii reason reasons
returns-in-23 c = ap reason (sym c.in-23.is)

pub returns-in-24 : goal.returns-in-24
unfolding ascii reason reasons
returns-in-24 c = ap reason (sym c.in-24.is)

pub returns-in-25 : goal.returns-in-25
unfolding ascii reason reasons
returns-in-25 c = ap reason (sym c.in-25.is)

pub returns-in-26 : goal.returns-in-26
unfolding ascii reason reasons
returns-in-26 c = ap reason (sym c.in-26.is)

pub returns-in-27 : goal.returns-in-27
unfolding ascii reason reasons
returns-in-27 c = ap reason (sym c.in-27.is)

pub returns-in-28 : goal.returns-in-28
unfolding ascii reason reasons
returns-in-28 c = ap reason (sym c.in-28.is)

pub returns-in-29 : goal.returns-in-29
unfolding ascii reason reasons
returns-in-29 c = ap reason (sym c.in-29.is)

pub returns-in-30 : goal.returns-in-30
unfolding ascii reason reasons
returns-in-30 c = ap reason (sym c.in-30.is)

pub returns-in-31 : goal.returns-in-31
unfolding ascii reason reasons
returns-in-31 c = ap reason (sym c.in-31.is)

pub returns-in_default : goal.returns-in_default
unfolding ascii
returns-in_default c = none_else _ c.in_default.in_default-own.rest
