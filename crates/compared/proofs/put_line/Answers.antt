-- `compared::put_line` meets its contract: a run of puts, by whether the line is there. Assumes nothing.
use mathlib.Core.Path.{ap, ◌∙◌}
use mathlib.Core.List.{◌++◌}
use Prim.Native.Nat.{ℕ}
use Rattle.terms.specs.Ascii.{Bytes, ascii}
use Rattle.number.specs.House.{house_integer}
use Rattle.output.proofs.Writing.{same, ◌then◌}
use Rattle.compared.specs.Compared.{line_number_of, line_of_name}
use Rattle.compared.proofs.Laws.{ended-told, told-there}
use Rattle.compared.proofs.put_line.Goals as goal

pub shape_of-out-then-writing-start : goal.shape_of-out-then-writing-start
shape_of-out-then-writing-start c =
    c.put_bytes.auto.out ∙ c.put_bytes-d.auto.out ∙ c.put_bytes-c.auto.out ∙ c.put_integer-b.auto.out ∙ c.put_bytes-a.auto.out

pub returns-then-writing-start : goal.returns-then-writing-start
unfolding ascii
returns-then-writing-start c =
    let a = c.args in
    same
    (ap (λ (k : ℕ). ascii "house line " ++ house_integer k ++ ascii " of " ++ a.name.now ++ ascii ": none, it has ended\n") c.line_number.ensures ∙ ended-told a.name.now a.writing.now a.start a.passed c.if-writing-start.true)
    (c.put_bytes-a.ensures then c.put_integer-b.ensures then c.put_bytes-c.ensures then c.put_bytes-d.ensures then c.put_bytes.ensures)

pub shape_of-out : goal.shape_of-out
shape_of-out c =
    c.put_byte.auto.out ∙ c.put_bytes-f.auto.out ∙ c.put_bytes-e.auto.out ∙ c.put_bytes-d.auto.out ∙ c.put_bytes-c.auto.out ∙ c.put_integer-b.auto.out ∙ c.put_bytes-a.auto.out

pub returns : goal.returns
unfolding ascii
returns c =
    let a = c.args in
    same
    (ap (λ (k : ℕ). ascii "house line " ++ house_integer k ++ ascii " of " ++ a.name.now ++ ascii ": " ++ c.line_at.result.now ++ ascii "\n") c.line_number.ensures
    ∙ ap (λ (l : Bytes). line_of_name a.name.now a.passed ++ ascii ": " ++ l ++ ascii "\n") c.line_at.ensures
    ∙ told-there a.name.now a.writing.now a.start a.passed c.if-writing-start.false)
    (c.put_bytes-a.ensures then c.put_integer-b.ensures then c.put_bytes-c.ensures then c.put_bytes-d.ensures then c.put_bytes-e.ensures then c.put_bytes-f.ensures then c.put_byte.ensures)
