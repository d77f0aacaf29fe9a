-- `shown::from_column` meets its contract. Assumes nothing.
use mathlib.Core.Path.{sym, ap, ◌∙◌}
use Prim.Native.Nat.{ℕ, ◌-◌, ◌≤◌}
use native.Mathlib.Omega.{arith}
use lib.ListN.{length, drop, length-drop, drop_of_length-le}
use lib.Seq.{take_all}
use Rattle.shown.proofs.from_column.Goals as goal

pub returns-then-from-line : goal.returns-then-from-line
returns-then-from-line c =
    let s = c.args.line.now in
    let n = c.saturating_sub-from.result in
    take_all (length s - n) (drop n s) (omega (arith, length-drop n s)) ∙ ap (λ (k : ℕ). drop k s) c.saturating_sub-from.ensures

pub returns-else-from-line : goal.returns-else-from-line
returns-else-from-line c =
    let s = c.args.line.now in
    let n = c.args.column in
    let h : length s ≤ n - 1 = omega arith in
    sym (drop_of_length-le s h)
