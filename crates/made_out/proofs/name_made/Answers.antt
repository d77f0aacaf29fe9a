-- `made_out::name_made` meets its contract. Assumes nothing.
use mathlib.Core.Path.{◌≡◌, sym, ap, ◌∙◌}
use mathlib.Core.Bool.{true}
use Prim.Native.Nat.{◌≤◌, ◌<◌}
use native.Mathlib.Omega.{arith}
use lib.ListN.{length}
use Rattle.line.specs.Forms.{part}
use Rattle.number.specs.Executable.{is_name_length_of}
use Rattle.number.proofs.Ranges.{name-right}
use Rattle.made_out.specs.Made.{name_made_of}
use Rattle.made_out.proofs.Whole.{begins_in}
use Rattle.made_out.proofs.name_made.Goals as goal
use Rattle.made_out.proofs.name_made.Goals.{After-struct_known-1}

-- a name: it begins in the line, and is short
is_name : (c : After-struct_known-1) → is_name_length_of (length c.field-name.result.now) ≡ true
is_name c = sym c.is_name_length.ensures ∙ c.if-is_name_length.true

starts : (c : After-struct_known-1) → c.args.f.start < length c.args.s.now
starts c =
    let a = c.args in
    let e : length c.field-name.result.now ≡ length (part a.s.now a.f) = ap length c.field-name.ensures in
    begins_in a.s.now a.f (omega (arith, e, (name-right (length c.field-name.result.now) (is_name c)).low))

short : (c : After-struct_known-1) → length c.field-name.result.now ≤ 128
short c = (name-right (length c.field-name.result.now) (is_name c)).high

pub overflow_add-base : goal.overflow_add-base
overflow_add-base c =
    let h = starts (goal.at.overflow_add-base c).After-struct_known-1 in
    omega (arith, h, c.requires)

pub overflow_cast-base : goal.overflow_cast-base
overflow_cast-base c =
    let h = starts (goal.at.overflow_cast-base c).After-struct_known-1 in
    record { fits = omega (arith, h, c.requires) }

pub overflow_cast-n : goal.overflow_cast-n
overflow_cast-n c =
    let h = short (goal.at.overflow_cast-n c).After-struct_known-1 in
    record { fits = omega (arith, h) }

pub returns-then-is_name_length : goal.returns-then-is_name_length
unfolding name_made_of
returns-then-is_name_length c = rw (← c.field-name.ensures, ← c.is_name_length.ensures, c.if-is_name_length.true, c.named.ensures)

pub returns-else-is_name_length : goal.returns-else-is_name_length
unfolding name_made_of
returns-else-is_name_length c = rw (← c.field-name.ensures, ← c.is_name_length.ensures, c.if-is_name_length.false)
