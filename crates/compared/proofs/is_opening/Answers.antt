-- `compared::is_opening` meets its contract. Assumes nothing.
use mathlib.Core.Path.{refl}
use Rattle.terms.specs.Ascii.{ascii}
use Rattle.compared.specs.Compared.{opening}
use Rattle.compared.proofs.is_opening.Goals as goal

pub returns : goal.returns
unfolding opening ascii
returns c = rw (c.same.ensures, c.same-2.ensures, c.same-3.ensures, c.same-4.ensures, c.same-5.ensures, c.first.ensures, c.first-2.ensures, c.first-3.ensures, c.first-4.ensures, c.first-5.ensures) refl
