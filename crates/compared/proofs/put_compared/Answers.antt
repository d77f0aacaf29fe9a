-- `compared::put_compared` meets its contract: by where they differ first. Assumes nothing.
use mathlib.Core.Path.{sym, ap, ◌∙◌}
use Rattle.terms.specs.Ascii.{ascii}
use Rattle.output.proofs.Writing.{same}
use Rattle.compared.specs.Compared.{told_of, told}
use Rattle.compared.proofs.put_compared.Goals as goal

pub returns-in-None : goal.returns-in-None
unfolding ascii told
returns-in-None c =
    let a = c.args in
    same (sym (ap (told_of a.name.now a.other.now a.a.now a.b.now) (sym c.first_difference-difference.ensures ∙ c.in-None.is))) c.put_bytes.ensures

pub returns-in-Some : goal.returns-in-Some
unfolding told
returns-in-Some c =
    let a = c.args in
    same (sym (ap (told_of a.name.now a.other.now a.a.now a.b.now) (sym c.first_difference-difference.ensures ∙ c.in-Some.is))) c.put_differ.ensures
