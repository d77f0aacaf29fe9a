-- `references::entry_cut` meets its contract. Assumes nothing.
use mathlib.Core.Path.{◌≡◌, sym, ap, ◌∙◌}
use Prim.Native.Nat.{ℕ, ◌-◌}
use native.Mathlib.Omega.{arith}
use lib.ListN.{take, drop}
use Rattle.scan.specs.Reach.{up_to, fails}
use Rattle.scan.proofs.Reach.{reach_le}
use Rattle.number.specs.Executable.{triple_of}
use Rattle.number.specs.House.{number_byte}
use Rattle.references.specs.Entry.{id_from_of, number_at, entry_at}
use Rattle.references.proofs.Entries.{none-there}
use Rattle.references.proofs.entry_cut.Goals as goal

pub slice_bounds-triple_of-end : goal.slice_bounds-triple_of-end
slice_bounds-triple_of-end c = let a = c.args in omega (arith, c.number_end-e.ensures, reach_le (fails number_byte) a.text.now a.at (omega arith))

pub returns-then-at-text : goal.returns-then-at-text
unfolding entry_at number_at
returns-then-at-text c =
    let a = c.args in
    let rest = drop a.at a.text.now in
    let long : c.number_end-e.result - a.at ≡ up_to (fails number_byte) rest = omega (arith, c.number_end-e.ensures) in
    c.id_from.ensures ∙ ap id_from_of c.triple_of.ensures ∙ ap (λ (k : ℕ). id_from_of (triple_of (take k rest))) long

pub returns-else-at-text : goal.returns-else-at-text
returns-else-at-text c = let a = c.args in sym (none-there a.text.now a.at (omega arith))
