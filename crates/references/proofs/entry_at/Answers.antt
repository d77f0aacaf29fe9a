-- `references::entry_at` meets its contract. Assumes nothing.
use mathlib.Core.Path.{sym, ◌∙◌}
use native.Mathlib.Omega.{arith}
use Rattle.references.proofs.Entries.{entry-stands, ends-by-byte, ends-by-text}
use Rattle.references.proofs.entry_at.Goals as goal

pub returns-else-is_number_byte : goal.returns-else-is_number_byte
returns-else-is_number_byte c =
    let a = c.args in
    let there = rw c.in-Some.is at c.triple_at.ensures in
    sym (entry-stands a.text.now a.at c.in-Some.e c.in-Some.x c.in-Some.y c.in-Some.z there (ends-by-byte a.text.now c.in-Some.e (omega arith) (sym c.is_number_byte.ensures ∙ c.if-is_number_byte.false)))

pub returns-else-e-text : goal.returns-else-e-text
returns-else-e-text c =
    let a = c.args in
    let there = rw c.in-Some.is at c.triple_at.ensures in
    sym (entry-stands a.text.now a.at c.in-Some.e c.in-Some.x c.in-Some.y c.in-Some.z there (ends-by-text a.text.now c.in-Some.e (omega arith)))
