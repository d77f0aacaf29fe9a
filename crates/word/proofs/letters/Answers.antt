-- `word::letters` meets its contract. Assumes nothing.
use mathlib.Core.Path.{sym, ap, ◌∙◌}
use native.Mathlib.Omega.{arith}
use lib.ListN.{drop, length-drop}
use lib.Seq.{take_all}
use Rattle.word.specs.Packed.{packed}
use Rattle.word.proofs.letters.Goals as goal

pub returns-else-at-s : goal.returns-else-at-s
returns-else-at-s c =
    let a = c.args in
    c.few.ensures ∙ ap packed (sym (take_all 8 (drop a.at a.s.now) (omega (arith, length-drop a.at a.s.now))))
