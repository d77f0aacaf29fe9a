-- Executable: what is told of a line that is refused for its form, from the place behind the lines before it. Assumes nothing.
use Rattle.std.specs.Prelude.{Bool, false, ◌||◌, List, [], ℕ, eqb, ltb, take, Some, None, Option}
use Rattle.terms.specs.Ascii.{Bytes}
use Rattle.terms.specs.Words.{pick}
use Rattle.scan.specs.Reach.{up_to}
use Rattle.line.specs.Forms.{opens, fields_in_of, part}
use Rattle.number.specs.Executable.{the_integer_of}
use Rattle.edition.specs.declared.Edition.{Edition}
use Rattle.place.specs.declared.Place.{Place}
use Rattle.mission_place.specs.declared.MissionPlace.{MissionPlace}
use Rattle.mission_place.specs.Step.{permits_of}
use Rattle.statement.specs.declared.Order.TheVariants as or
use Rattle.grammar.specs.PlaceTable.{rndf_table_of, mdf_table_of}
use Rattle.judge.specs.RndfLine.{rndf_kind}
use Rattle.mission_judge.specs.MdfLine.{mdf_kind}
use Rattle.columns.specs.RndfColumns.{rndf_field_of}
use Rattle.columns.specs.MdfColumns.{mdf_field_of}
use Rattle.column.specs.Before.{place_before_of}
use Rattle.mission_column.specs.Before.{mission_place_before_of}
use Rattle.shown.specs.Shown.{line_in}
use Rattle.expected_law.specs.Expected.{lines, fields, field}
use Rattle.expected_law.specs.Telling.{told}
use Rattle.expected_words.specs.declared.Item as DI
use Rattle.expected_words.specs.declared.Item.TheVariants as Item
use Rattle.expected_words.specs.declared.Form as DF
use Rattle.expected_words.specs.Items.{law_item, law_form}
use Rattle.expected_forms.specs.Forms.{rndf_form_of, forms_at, the_owed_of, order_form_of, order_forms_at, owed_orders_of}

-- of which numbers whole lines are told, and of which one field
unfoldable pub lists : ℕ → Bool
lists n = eqb n 5 || (eqb n 6 || (eqb n 10 || eqb n 25))

unfoldable pub lists_field_of : ℕ → Bool
lists_field_of n = eqb n 8 || eqb n 9

unfoldable pub item_at : DF.Form → ℕ → DI.Item
item_at f i = pick (eqb i 0) f.a (pick (eqb i 1) f.b f.c)

-- ## RNDF. s: what stands before a comment
unfoldable pub kind_words : Edition → List (List ℕ) → Bytes → Place → (n kind : ℕ) → Bytes
kind_words e table s p n k = pick (eqb n 7) (told (fields (law_form (rndf_form_of e p k)))) (pick (lists_field_of n) (told (field [] (law_item (item_at (rndf_form_of e p k) (rndf_field_of table s (fields_in_of s) p n))))) [])

unfoldable pub fields_words : Edition → List (List ℕ) → Bytes → Place → ℕ → Bytes
fields_words e table s p n = pick (ltb (rndf_kind (part s (fields_in_of s).a)) 30) (kind_words e table s p n (rndf_kind (part s (fields_in_of s).a))) []

unfoldable pub rndf_line_words : Edition → Bytes → Place → ℕ → Bytes
rndf_line_words e s p n = pick (lists n) (told (lines (the_owed_of p) (forms_at e rndf_table_of p))) (fields_words e rndf_table_of (take (up_to opens s) s) p n)

abbrev pub rndf_behind : Edition → Bytes → ℕ → Option Place → Bytes
rndf_behind e s n None = []
rndf_behind e s n (Some p) = rndf_line_words e s p n

-- of line i of a text, with the refusal n
unfoldable pub rndf_words : Edition → Bytes → (i n : ℕ) → Bytes
rndf_words e text i n = rndf_behind e (line_in text i) n (place_before_of text i)

-- ## MDF
-- are a limit's id and minimum permitted, with no ceiling behind them?
unfoldable pub goes_on_of : Option ℕ → Option ℕ → Bool
goes_on_of None m = false
goes_on_of (Some i) None = false
goes_on_of (Some i) (Some m) = permits_of (or.Limit i m 0)

-- a limit's maximum, behind such an id and minimum; else by itself
unfoldable pub maximum_words : Bytes → Bytes
maximum_words s = pick (goes_on_of (the_integer_of (part s (fields_in_of s).a)) (the_integer_of (part s (fields_in_of s).b))) (told (field (part s (fields_in_of s).b) (law_item Item.Maximum))) (told (field [] (law_item (Item.Number 0 32768))))

unfoldable pub order_words : List (List ℕ) → Bytes → MissionPlace → (n kind : ℕ) → Bytes
order_words table s p n k = pick (eqb n 7) (told (fields (law_form (order_form_of k))))
    (pick (lists_field_of n) (pick (eqb (mdf_field_of table s (fields_in_of s) p n) 2) (maximum_words s) (told (field [] (law_item (item_at (order_form_of k) (mdf_field_of table s (fields_in_of s) p n)))))) [])

unfoldable pub order_fields_words : List (List ℕ) → Bytes → MissionPlace → ℕ → Bytes
order_fields_words table s p n = pick (ltb (mdf_kind p (part s (fields_in_of s).a)) 13) (order_words table s p n (mdf_kind p (part s (fields_in_of s).a))) []

unfoldable pub mdf_line_words : Bytes → MissionPlace → ℕ → Bytes
mdf_line_words s p n = pick (lists n) (told (lines (owed_orders_of p) (order_forms_at mdf_table_of p))) (order_fields_words mdf_table_of (take (up_to opens s) s) p n)

abbrev pub mdf_behind : Bytes → ℕ → Option MissionPlace → Bytes
mdf_behind s n None = []
mdf_behind s n (Some p) = mdf_line_words s p n

unfoldable pub mdf_words : Bytes → (i n : ℕ) → Bytes
mdf_words text i n = mdf_behind (line_in text i) n (mission_place_before_of text i)
