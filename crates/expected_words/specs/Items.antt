-- Executable: what each item and form of the program stands for, and the words of some of them. Assumes nothing.
use Rattle.std.specs.Prelude.{List, [], ◌∷◌, ◌++◌, ℕ, suc, take, eqb}
use Rattle.terms.specs.Ascii.{Bytes, ascii}
use Rattle.terms.specs.Words.{pick}
use Rattle.number.specs.House.{house_triple}
use Rattle.edition.specs.Editions.{inner}
use Rattle.shown.specs.Shown.{line_in}
use Rattle.expected_law.specs.Expected as Law
use Rattle.expected_law.specs.Items.{from_to, the_the_part_of, own, an_entry, an_id, a_minimum, boundaries}
use Rattle.expected_words.specs.declared.Item as DI
use Rattle.expected_words.specs.declared.Item.TheVariants as Item
use Rattle.expected_words.specs.declared.Form as DF

-- the keywords, in the order of their kinds, a line each; empty of another kind
abbrev pub rndf_words_of : Bytes
rndf_words_of = ascii "RNDF_name\nnum_segments\nnum_zones\nformat_version\ncreation_date\nsegment\nnum_lanes\nsegment_name\nend_segment\nlane\nnum_waypoints\nlane_width\nleft_boundary\nright_boundary\ncheckpoint\nstop\nexit\nend_lane\nzone\nnum_spots\nzone_name\nend_zone\nperimeter\nnum_perimeterpoints\nend_perimeter\nspot\nspot_width\nend_spot\nend_file\n"

unfoldable pub rndf_word : ℕ → Bytes
rndf_word kind = line_in rndf_words_of (suc kind)

abbrev pub mdf_words_of : Bytes
mdf_words_of = ascii "MDF_name\nRNDF\nformat_version\ncreation_date\ncheckpoints\nnum_checkpoints\nend_checkpoints\nspeed_limits\nnum_speed_limits\nend_speed_limits\nend_file\n"

unfoldable pub mdf_word : ℕ → Bytes
mdf_word kind = line_in mdf_words_of (suc kind)

abbrev pub law_item : DI.Item → Law.Item
law_item (Item.Word kind) = Law.this (rndf_word kind)
law_item (Item.Order kind) = Law.this (mdf_word kind)
law_item Item.Name = Law.a_name
law_item (Item.Number low high) = from_to low high
law_item (Item.Part m n) = the_the_part_of m n
law_item (Item.Point m n low high) = own m n low high
law_item (Item.Entry low) = an_entry low
law_item Item.Id = an_id
law_item Item.Minimum = a_minimum
law_item Item.Maximum = Law.ceiling
law_item Item.Latitude = Law.degrees 90000000
law_item Item.Longitude = Law.degrees 180000000
law_item (Item.Boundary e) = boundaries (inner e)

abbrev pub law_form : DF.Form → Law.Form
law_form f = take f.count (law_item f.a ∷ law_item f.b ∷ law_item f.c ∷ [])

-- ## Words, as the parts of the code have them
-- by shape: of the items that capitals always stand for, nothing of another
unfoldable pub capitals : DI.Item → Bytes
capitals (Item.Word kind) = []
capitals (Item.Order kind) = []
capitals Item.Name = ascii "NAME"
capitals (Item.Number low high) = []
capitals (Item.Part m n) = []
capitals (Item.Point m n low high) = []
capitals (Item.Entry low) = ascii "ENTRY"
capitals Item.Id = ascii "ID"
capitals Item.Minimum = ascii "MINIMUM"
capitals Item.Maximum = ascii "MAXIMUM"
capitals Item.Latitude = ascii "LATITUDE"
capitals Item.Longitude = ascii "LONGITUDE"
capitals (Item.Boundary e) = ascii "BOUNDARY"

-- by range: of the items that are always told in the same words, nothing of another
unfoldable pub fixed_words : DI.Item → Bytes
fixed_words (Item.Word kind) = []
fixed_words (Item.Order kind) = []
fixed_words Item.Name = ascii "a name of 1 to 128 bytes"
fixed_words (Item.Number low high) = []
fixed_words (Item.Part m n) = []
fixed_words (Item.Point m n low high) = []
fixed_words (Item.Entry low) = []
fixed_words Item.Id = ascii "a number from 1 to 32768"
fixed_words Item.Minimum = ascii "a number from 0 to 32768"
fixed_words Item.Maximum = []
fixed_words Item.Latitude = ascii "a latitude from -90.000000 to 90.000000, six digits behind the point"
fixed_words Item.Longitude = ascii "a longitude from -180.000000 to 180.000000, six digits behind the point"
fixed_words (Item.Boundary e) = []

-- 1.1.1 to 1.1.3, or 2.1.1
unfoldable pub the_point_words_of : (m n low high : ℕ) → Bytes
the_point_words_of m n low high = pick (eqb low high) (house_triple m n low) (house_triple m n low ++ (ascii " to " ++ house_triple m n high))
