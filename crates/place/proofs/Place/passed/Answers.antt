-- `place::Place::passed` meets its contract. Assumes nothing.
use native.Mathlib.Numerals.{add-one}
use Rattle.place.proofs.Place.passed.Goals as goal

pub returns : goal.returns
returns c = rw (c.in_row.ensures, ← c.less.ensures, add-one)
