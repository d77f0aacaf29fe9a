-- `mend_words::put_fault` meets its contract: a run of puts. Assumes nothing.
use mathlib.Core.Path.{ap, ◌∙◌}
use Prim.Native.Nat.{ℕ}
use Rattle.terms.specs.Ascii.{ascii}
use Rattle.room.specs.Room.{fitted}
use Rattle.output.proofs.Writing.{same, ◌then◌}
use Rattle.answers.specs.Answers.{place}
use Rattle.mend_words.specs.Told.{fault_told}
use Rattle.mend_words.proofs.put_fault.Goals as goal

pub shape_of-out : goal.shape_of-out
shape_of-out c =
    c.put_why.auto.out ∙ c.put_bytes-d.auto.out ∙ c.put_place-c.auto.out ∙ c.put_place-b.auto.out ∙ c.put_bytes-a.auto.out

pub returns : goal.returns
unfolding ascii fault_told
returns c =
    c.put_bytes-a.ensures then same (ap place (c.in_word-line.ensures ∙ ap (λ (k : ℕ). fitted k) c.given_line.ensures)) c.put_place-b.ensures then c.put_place-c.ensures then c.put_bytes-d.ensures then (rw c.line_of.ensures at c.put_why.ensures)
