-- The last arms of the matches on an item: what they put for the items that no arm before has. Assumes nothing.
use mathlib.Core.Path.{◌≡◌, refl}
use mathlib.Core.List.{List, [], ◌∷◌}
use Prim.Native.Nat.{ℕ}
use types.Run.{OneOf, miss}
use denote.Enum.Declared.{tag_of}
use Rattle.terms.specs.Ascii.{Bytes, ascii}
use Rattle.number.specs.Decimal.{spell, decimal}
use Rattle.expected_law.specs.Telling.{all_due, shape, ranges_words, item_words}
use Rattle.expected_words.specs.declared.Item as DI
use Rattle.expected_words.specs.declared.Item.TheVariants as Item
use Rattle.expected_words.specs.Items.{law_item, capitals, fixed_words}
use Rattle.expected_words.specs.contracts.Item.{the_type}

-- by shape: capitals stand for them always
abbrev capitals_keys : List ℕ
capitals_keys = 2 ∷ 6 ∷ 7 ∷ 8 ∷ 9 ∷ 10 ∷ 11 ∷ 12 ∷ []

pub capitals-told : (i : DI.Item) → OneOf capitals_keys (tag_of the_type i) → capitals i ≡ shape (law_item i)
unfolding ascii capitals shape all_due
capitals-told (Item.Word kind) h = absurd (miss capitals_keys 0 tt h)
capitals-told (Item.Order kind) h = absurd (miss capitals_keys 1 tt h)
capitals-told Item.Name h = refl
capitals-told (Item.Number low high) h = absurd (miss capitals_keys 3 tt h)
capitals-told (Item.Part m n) h = absurd (miss capitals_keys 4 tt h)
capitals-told (Item.Point m n low high) h = absurd (miss capitals_keys 5 tt h)
capitals-told (Item.Entry low) h = refl
capitals-told Item.Id h = refl
capitals-told Item.Minimum h = refl
capitals-told Item.Maximum h = refl
capitals-told Item.Latitude h = refl
capitals-told Item.Longitude h = refl
capitals-told (Item.Boundary e) h = refl

-- and for these not
abbrev no-capitals_keys : List ℕ
no-capitals_keys = 0 ∷ 1 ∷ 3 ∷ 4 ∷ 5 ∷ []

pub no-capitals : (i : DI.Item) → OneOf no-capitals_keys (tag_of the_type i) → [] ≡ capitals i
unfolding capitals
no-capitals (Item.Word kind) h = refl
no-capitals (Item.Order kind) h = refl
no-capitals Item.Name h = absurd (miss no-capitals_keys 2 tt h)
no-capitals (Item.Number low high) h = refl
no-capitals (Item.Part m n) h = refl
no-capitals (Item.Point m n low high) h = refl
no-capitals (Item.Entry low) h = absurd (miss no-capitals_keys 6 tt h)
no-capitals Item.Id h = absurd (miss no-capitals_keys 7 tt h)
no-capitals Item.Minimum h = absurd (miss no-capitals_keys 8 tt h)
no-capitals Item.Maximum h = absurd (miss no-capitals_keys 9 tt h)
no-capitals Item.Latitude h = absurd (miss no-capitals_keys 10 tt h)
no-capitals Item.Longitude h = absurd (miss no-capitals_keys 11 tt h)
no-capitals (Item.Boundary e) h = absurd (miss no-capitals_keys 12 tt h)

-- by range: they are always told in the same words
abbrev fixed_keys : List ℕ
fixed_keys = 2 ∷ 7 ∷ 8 ∷ 10 ∷ 11 ∷ []

pub fixed_told : (before : Bytes) (i : DI.Item) → OneOf fixed_keys (tag_of the_type i) → fixed_words i ≡ item_words before (law_item i)
unfolding ascii spell decimal fixed_words item_words ranges_words all_due
fixed_told before (Item.Word kind) h = absurd (miss fixed_keys 0 tt h)
fixed_told before (Item.Order kind) h = absurd (miss fixed_keys 1 tt h)
fixed_told before Item.Name h = refl
fixed_told before (Item.Number low high) h = absurd (miss fixed_keys 3 tt h)
fixed_told before (Item.Part m n) h = absurd (miss fixed_keys 4 tt h)
fixed_told before (Item.Point m n low high) h = absurd (miss fixed_keys 5 tt h)
fixed_told before (Item.Entry low) h = absurd (miss fixed_keys 6 tt h)
fixed_told before Item.Id h = refl
fixed_told before Item.Minimum h = refl
fixed_told before Item.Maximum h = absurd (miss fixed_keys 9 tt h)
fixed_told before Item.Latitude h = refl
fixed_told before Item.Longitude h = refl
fixed_told before (Item.Boundary e) h = absurd (miss fixed_keys 12 tt h)

-- and these not
abbrev not-fixed_keys : List ℕ
not-fixed_keys = 0 ∷ 1 ∷ 3 ∷ 4 ∷ 5 ∷ 6 ∷ 9 ∷ 12 ∷ []

pub not-fixed : (i : DI.Item) → OneOf not-fixed_keys (tag_of the_type i) → [] ≡ fixed_words i
unfolding fixed_words
not-fixed (Item.Word kind) h = refl
not-fixed (Item.Order kind) h = refl
not-fixed Item.Name h = absurd (miss not-fixed_keys 2 tt h)
not-fixed (Item.Number low high) h = refl
not-fixed (Item.Part m n) h = refl
not-fixed (Item.Point m n low high) h = refl
not-fixed (Item.Entry low) h = refl
not-fixed Item.Id h = absurd (miss not-fixed_keys 7 tt h)
not-fixed Item.Minimum h = absurd (miss not-fixed_keys 8 tt h)
not-fixed Item.Maximum h = refl
not-fixed Item.Latitude h = absurd (miss not-fixed_keys 10 tt h)
not-fixed Item.Longitude h = absurd (miss not-fixed_keys 11 tt h)
not-fixed (Item.Boundary e) h = refl
