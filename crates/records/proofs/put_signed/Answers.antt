-- `records::put_signed` meets its contract. Assumes nothing.
use mathlib.Core.Path.{ap}
use Rattle.output.specs.Packed.{big_endian}
use Rattle.output.proofs.Writing.{same}
use Rattle.records.proofs.Signs.{wide, negated_fits, minus_cast, minus-some, minus-few, minus-unsigned, plus_cast, plus-unsigned}
use Rattle.records.proofs.put_signed.Goals as goal

pub overflow_cast-size : goal.overflow_cast-size
overflow_cast-size c = wide _ c.ranges.z

pub overflow_sub-size : goal.overflow_sub-size
overflow_sub-size c = negated_fits _ c.ranges.z

pub overflow_cast-size-then-z-lt0 : goal.overflow_cast-size-then-z-lt0
overflow_cast-size-then-z-lt0 c = minus_cast _ c.ranges.z c.if-z-lt0.true

pub overflow_sub-size-then-z-lt0 : goal.overflow_sub-size-then-z-lt0
overflow_sub-size-then-z-lt0 c = minus-some _ c.ranges.z c.if-z-lt0.true

pub overflow_sub-size-then-z-lt0-2 : goal.overflow_sub-size-then-z-lt0-2
overflow_sub-size-then-z-lt0-2 c = minus-few _ c.ranges.z c.if-z-lt0.true

pub returns-then-z-lt0 : goal.returns-then-z-lt0
returns-then-z-lt0 c = same (ap (big_endian 4) (minus-unsigned _ c.ranges.z c.if-z-lt0.true)) c.put_u32_be.ensures

pub overflow_cast-z : goal.overflow_cast-z
overflow_cast-z c = plus_cast _ c.ranges.z c.if-z-lt0.false

pub returns : goal.returns
returns c = same (ap (big_endian 4) (plus-unsigned _ c.ranges.z c.if-z-lt0.false)) c.put_u32_be-2.ensures
