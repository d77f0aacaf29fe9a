-- Executable: the form of a kind at a place of an RNDF and of an MDF, and what is told of a field of an MDF's line. Assumes nothing.
use Rattle.std.specs.Prelude.{List, [], ◌∷◌, true, ℕ, eqb}
use Rattle.std.proofs.Math.Option.{Option, none, some}
use Rattle.terms.specs.Ascii.{Bytes}
use Rattle.terms.specs.Words.{pick}
use Rattle.line.specs.Content.{Field}
use Rattle.law.specs.Network.{largest}
use Rattle.grammar.specs.Editions.{Edition}
use Rattle.grammar.specs.Forms.{tested}
use Rattle.grammar.specs.Statements as Rndf
use Rattle.grammar.specs.MissionStatements as Mdf
use Rattle.grammar.specs.Machine.{Place}
use Rattle.grammar.specs.Network.{under}
use Rattle.grammar.specs.Places.{rndf_by, rndf}
use Rattle.grammar.specs.MissionPlaces.{mdf, limited}
use Rattle.text.specs.Judge.{an_integer, read}
use Rattle.expected_law.specs.Expected.{Form, ceiling, Expectation, field}
use Rattle.expected_law.specs.Items.{from_to}
use Rattle.expected_exact.specs.Listed.{rndf_options, rndf_due, mdf_options, mdf_due}
use Rattle.expected_fields.specs.AtFields.{form_of_kind, item_at_of}

-- the places are the same in every edition
abbrev pub the_rndf_form_of : Edition → Place (rndf Field) → Rndf.Kind → Form
the_rndf_form_of e = form_of_kind (rndf_by Field (under e true)) (rndf_options e) (rndf_due e)

abbrev pub mdf_form : Place (mdf Field) → Mdf.Kind → Form
mdf_form = form_of_kind (mdf Field) mdf_options mdf_due

-- a limit's maximum, behind an id and a minimum with which some limit goes on; else by itself
abbrev pub maximum_told : (minimum : Bytes) → (id least : Option ℕ) → Expectation
maximum_told minimum none m = field [] (from_to 0 largest)
maximum_told minimum (some i) none = field [] (from_to 0 largest)
maximum_told minimum (some i) (some m) = pick (tested limited (record { id = i; minimum = m; maximum = 0 })) (field minimum ceiling) (field [] (from_to 0 largest))

abbrev pub maximum_behind : List Field → Expectation
maximum_behind [] = field [] (from_to 0 largest)
maximum_behind (f ∷ []) = field [] (from_to 0 largest)
maximum_behind (f ∷ g ∷ fs) = maximum_told g.bytes (read an_integer f) (read an_integer g)

-- of field i, counted from 0: only a limit has three
abbrev pub mdf_field_told : Form → (i : ℕ) → List Field → Expectation
mdf_field_told form i fields = pick (eqb i 2) (maximum_behind fields) (field [] (item_at_of i form))
