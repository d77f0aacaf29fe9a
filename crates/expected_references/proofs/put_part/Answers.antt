-- `expected_references::put_part` meets its contract. Assumes nothing.
use mathlib.Core.Path.{sym, ap, ◌∙◌}
use mathlib.Core.List.{[], ◌++◌}
use lib.Dec.{eqb}
use Rattle.terms.specs.Ascii.{Bytes, ascii}
use Rattle.terms.specs.Words.{pick}
use Rattle.output.proofs.Writing.{none, same, ◌then◌}
use Rattle.expected_references.specs.Named.{point_of}
use Rattle.expected_references.proofs.Listed.{element-past, element-told, part-words}
use Rattle.expected_references.proofs.put_part.Goals as goal

pub returns-then-i-gt5 : goal.returns-then-i-gt5
returns-then-i-gt5 c = same (sym (element-past _ [] _ _ c.if-i-gt5.true)) none

pub returns : goal.returns
returns c = same (ap (λ (w : Bytes). pick (eqb c.args.i 0) c.args.head.now (ascii ", ") ++ w) (part-words (point_of c.args.last)) ∙ element-told _ [] _ _ c.if-i-gt5.false) (c.put_before-a.ensures then c.put_point_words.ensures)
