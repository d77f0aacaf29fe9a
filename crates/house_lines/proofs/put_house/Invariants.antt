use mathlib.Core.Path.{◌≡◌}
use Prim.Native.Nat.{◌-◌}
use lib.ListN.{length}
use Rattle.grammar.specs.Tables.{gather}
use Rattle.output.specs.Pen.{pen, put}
use Rattle.house_lines.specs.Arranged.{line_of, arranged_text}
use Rattle.house_lines.specs.Said.{spoken_from, left_over_of}
use Rattle.house_lines.proofs.put_house.Given as goal

abbrev pub invariant-loop-from : goal.invariant-loop-from
invariant-loop-from l = (length l.out ≡ length l.initial.out) × (put (pen l.out l.to) (gather line_of (left_over_of l.fresh (spoken_from l.text l.from))) ≡ put (pen l.initial.out l.at) (arranged_text l.text))

abbrev pub decreases-loop-from : goal.decreases-loop-from
decreases-loop-from l = length l.text - l.from
