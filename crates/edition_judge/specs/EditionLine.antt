-- Executable: what a line of an RNDF gets in an edition, over the program's types. Request L10. Assumes nothing.
use Rattle.std.specs.Prelude.{ℕ, get_or, eqb}
use Rattle.terms.specs.Words.{pick}
use Rattle.grammar.specs.Editions.{Edition}
use Rattle.grammar.specs.Machine.{Out, next, refuse}
use Rattle.grammar.specs.PlaceTable.{rndf_table_of}
use Rattle.statement.specs.declared.Statement.{Statement}
use Rattle.statement.specs.Meaning.{Stretch, meant}
use Rattle.made_out.specs.Made.{shapes, needs_of, made_of, made_from}
use Rattle.place.specs.declared.Place.{Place}
use Rattle.place.specs.Step.{cell_of, refuses_by, by_cell}
use Rattle.place.specs.Abstract.{seen}
use Rattle.judge.specs.Judging.{Judging}
use Rattle.judge.specs.RndfLine.{rndf_kind}
use Rattle.editions.specs.Bars.{bars}

-- L10: "8 for `solid_yellow`", the second boundary; "9 for 0 spots"
unfoldable pub side_bars_of : ℕ → ℕ
side_bars_of b = pick (eqb b 2) 8 0

unfoldable pub spots_bar_of : ℕ → ℕ
spots_bar_of n = pick (eqb n 0) 9 0

-- the number for a statement that the edition does not have, or 0: by what it means
unfoldable pub bars_of : Edition → Statement → ℕ
bars_of e s = bars Stretch e (meant s).kind (meant s).val

-- a statement that the place takes, if the edition has it
abbrev pub only_had : Edition → Statement → Out Place → Out Place
only_had e s (next q) = pick (eqb (bars_of e s) 0) (next q) (refuse (bars_of e s))
only_had e s (refuse n) = refuse n

-- the judge of an edition
abbrev pub judging_in : Edition → Judging
judging_in e = record { St = Statement; Pl = Place; kinds = 30; kind_of = λ p w. rndf_kind w; cell = cell_of rndf_table_of; refuses = λ p c. refuses_by p.given c; needs = λ k. needs_of (get_or shapes k 0); made = λ s base f k. made_from (made_of s base f k); steps = λ p c s. only_had e s (seen (by_cell p s c)) }
