-- Bytes are a network's packed form exactly if they are the form of the rows read from them, names in place and right, and these rows are consistent. Assumes nothing.
use mathlib.Core.Path.{◌≡◌, refl, sym, ap, subst, ◌∙◌}
use mathlib.Core.List.{List, [], ◌∷◌, ◌++◌}
use mathlib.Core.Option.{none}
use Prim.Native.Nat.{ℕ, ◌+◌, ◌≤◌}
use lib.ListN.{length}
use Rattle.terms.specs.Ascii.{Bytes}
use Rattle.line.specs.Content.{Field}
use Rattle.law.specs.Network.{Network}
use Rattle.law.specs.Tables.{gather}
use Rattle.law.specs.Faults.{Sound}
use Rattle.grammar.specs.HouseOrder.{GoodNetwork}
use Rattle.grammar.specs.Tables.{Tables, tables, tables_with}
use Rattle.law_spelling.proofs.Texts.{rndf-to}
use Rattle.grammar.specs.Names.{network_named}
use Rattle.text.specs.Spelling.{bytes_of}
use Rattle.house_text.specs.House.{undated}
use Rattle.house_text.specs.HouseText.{house_rndf}
use Rattle.house_text.specs.Names.{NetworkNames}
use Rattle.house_text.proofs.Theorems.{network-back}
use Rattle.output.specs.Packed.{big_endian}
use Rattle.replies.specs.Replies.{longest}
use Rattle.packed_law.specs.Packed.{Slot, laid, with_length, all_slots, this_version, packed_form, NamesLie}
use Rattle.packed_law.proofs.Told.{all_told}
use Rattle.unpackings.specs.Unpacks.{IsNetwork, IsPackedFormOf}
use Rattle.unpackings.proofs.Rows.{records-of, records-so}
use Rattle.unpackings.proofs.OneNetwork.{items_of, items-are, Told, told}
use Rattle.row_network.specs.Consistent.{Consistent}
use Rattle.row_network.specs.Made.{network_of}
use Rattle.row_network.proofs.Made.{tables-are, good, sound}
use Rattle.row_network.proofs.Theorem.{consistent}
use Rattle.packed_tables.proofs.Reading.{rows-of, form_of, rows_there_of}
use Rattle.packed_tables.proofs.Names.{TableNames, names-there, names-back, names-kept}

-- these bytes are the form of these rows, which are a network's
pub record IsForm (t : Tables Field ℕ) (bytes : Bytes) : Type 0 where
  pub form : bytes ≡ form_of t
  pub placed : NamesLie 5 (items_of t)
  pub dateless : t.file.date ≡ none
  pub consistent : Consistent t
  pub names : TableNames t

has-none : (n : Network Field) → n.date ≡ none → undated n ≡ n
has-none n d = λ i. record { name = n.name; version = n.version; date = sym d i; segments = n.segments; zones = n.zones }

-- ## A network that keeps the ranges, whose names are names and that has no date is spelled by a text
pub is-network : (n : Network Field) → GoodNetwork n → Sound n → NetworkNames n → n.date ≡ none → IsNetwork n
is-network n g s names dateless = let x = network-back n g names in record { text = house_rndf n; written = x.0; spelled = rndf-to x.0 (house_rndf n) x.1; same = x.2 ∙ ap (network_named bytes_of) (has-none n dateless); sound = s }

body_is : (n : Network Field) → Sound n → all_slots n ≡ items_of (tables n)
body_is n s = all_told n ∙ ap (λ (l : List (List Slot)). gather with_length l) (sym (records-so n s)) ∙ items-are (tables n)

packed-is : (n : Network Field) → Sound n → packed_form n ≡ form_of (tables n)
unfolding packed_form form_of
packed-is n s = ap (λ (l : List Slot). this_version ∷ big_endian 4 (length (laid l)) ++ laid l) (body_is n s)

-- ## Without a date
pub table-dateless : (n : Network Field) → n.date ≡ none → (tables n).file.date ≡ none
unfolding tables_with
table-dateless n d = d

made-dateless : (t : Tables Field ℕ) → t.file.date ≡ none → (network_of t).date ≡ none
unfolding network_of
made-dateless t d = d

-- ## BACK: they are its form
pub form-made : (t : Tables Field ℕ) (bytes : Bytes) → IsForm t bytes → IsPackedFormOf (network_of t) bytes
form-made t bytes x =
    let n = network_of t in
    let c = x.consistent in
    let rows = tables-are t c in
    let s = sound t c in
    record {
      network = is-network n (good t c) s (names-back n (subst TableNames (sym rows) x.names)) (made-dateless t x.dateless);
      form = x.form ∙ ap form_of (sym rows) ∙ sym (packed-is n s);
      names = subst (NamesLie 5) (ap items_of (sym rows) ∙ sym (body_is n s)) x.placed;
      dateless = made-dateless t x.dateless;
    }

-- ## THERE: a network's form is that of the rows read from it
pub form-only : (n : Network Field) (bytes : Bytes) → length bytes ≤ longest → IsPackedFormOf n bytes → (rows-of bytes ≡ tables n) × IsForm (rows-of bytes) bytes
form-only n bytes h x =
    let a = told bytes n h x in
    let is : bytes ≡ form_of (tables n) = x.form ∙ packed-is n a.sound in
    let rows : rows-of bytes ≡ tables n = ap rows-of is ∙ rows_there_of (tables n) a.file_fits a.rest-fits a.placed (table-dateless n x.dateless) in
    (rows, subst (λ (t : Tables Field ℕ). IsForm t bytes) (sym rows) (record { form = is; placed = a.placed; dateless = table-dateless n x.dateless; consistent = consistent n a.good a.sound; names = names-there n (names-kept n x.network) }))
