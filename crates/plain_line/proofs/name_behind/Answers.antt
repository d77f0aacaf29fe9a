-- `plain_line::name_behind` meets its contract. Assumes nothing.
use mathlib.Core.Path.{sym, ◌∙◌}
use Prim.Native.Nat.{◌-◌}
use native.Mathlib.Omega.{arith}
use Rattle.number.proofs.Ranges.{name-right}
use Rattle.plain_line.proofs.Shapes.{name-made}
use Rattle.plain_line.proofs.name_behind.Goals as goal

-- src/lib.rt:96:56
pub overflow_cast-n : goal.overflow_cast-n
overflow_cast-n c =
    let n = c.name_end-e.result - c.args.from in
    let short = (name-right n (sym c.is_name_length.ensures ∙ c.if-is_name_length.true)).high in
    record { fits = omega arith }

-- src/lib.rt:96:13
pub returns-then-from-lt4294967296 : goal.returns-then-from-lt4294967296
returns-then-from-lt4294967296 c =
    rw c.named.ensures (name-made c.args.s.now c.args.from c.name_end-e.result c.args.kind c.requires.0 c.requires.1 c.name_end-e.ensures (sym c.is_name_length.ensures ∙ c.if-is_name_length.true))
