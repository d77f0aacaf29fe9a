-- The test of room is right: it holds exactly if no table has fewer rows than needed. Assumes nothing.
use mathlib.Core.Path.{◌≡◌, refl, sym}
use mathlib.Core.Bool.{Bool, true, false}
use Rattle.terms.specs.Words.{pick}
use Rattle.terms.proofs.Tests.{clash}
use Rattle.fill.specs.Counts.{Counts}
use Rattle.table_words.specs.Words.{Lent, HasRoom}
use Rattle.law_tables.proofs.Rooms.{parts, marks, fit, parts-there, marks-there}
use Rattle.network_reader.specs.Reading.{room}
use Rattle.network_reader.specs.Replies.{rows_used_of}

both_true : {R : Type 0} (a b : Bool) → pick a b false ≡ true → (a ≡ true → b ≡ true → R) → R
both_true true b e k = k refl e
both_true false b e k = clash (sym e)

pub has_room : (c : Counts) (t : Lent) → room (rows_used_of c) t ≡ true → HasRoom c t
has_room c t e = both_true (parts c t) (marks c t) e (fit c t)

pub room-there : (c : Counts) (t : Lent) → HasRoom c t → room (rows_used_of c) t ≡ true
room-there c t h = λ i. pick (parts-there c t h i) (marks-there c t h i) false
