use mathlib.Core.Path.{◌≡◌}
use Prim.Native.Nat.{◌-◌}
use lib.ListN.{length}
use Rattle.grammar.specs.Tables.{gather}
use Rattle.output.specs.Pen.{pen, put}
use Rattle.house_lines.specs.Arranged.{line_of, pass}
use Rattle.house_lines.specs.Said.{spoken_from}
use Rattle.house_lines.proofs.put_pass.Given as goal

abbrev pub invariant-loop-start : goal.invariant-loop-start
invariant-loop-start l = (length l.out ≡ length l.initial.out) × (put (pen l.out l.to) (gather line_of (pass l.rank (spoken_from l.text l.start))) ≡ put (pen l.initial.out l.at) (gather line_of (pass l.rank (spoken_from l.text l.from))))

abbrev pub decreases-loop-start : goal.decreases-loop-start
decreases-loop-start l = length l.text - l.start
