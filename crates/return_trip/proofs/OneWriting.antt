-- ONE HOUSE WRITING: what is the same apart from its date has equal writings. Assumes nothing.
use mathlib.Core.Path.{sym, ◌∙◌}
use Rattle.house_text.proofs.Lawful.{house-rndf-only, house-mdf-only}
use Rattle.house_text.proofs.Theorems.{rndf-one-writing, mdf-one-writing}
use Rattle.return_trip.specs.OneWriting.{OneRndfWriting, OneMdfWriting}

pub one-rndf-writing : OneRndfWriting
one-rndf-writing n n' e w w' h h' = house-rndf-only n w h ∙ rndf-one-writing n n' e ∙ sym (house-rndf-only n' w' h')

pub one-mdf-writing : OneMdfWriting
one-mdf-writing m m' e w w' h h' = house-mdf-only m w h ∙ mdf-one-writing m m' e ∙ sym (house-mdf-only m' w' h')
