-- Executable: what is told of the field at fault of a line, from its place, its kind and the field's number. For every file. Assumes nothing.
use Rattle.std.specs.Prelude.{List, [], ◌∷◌, Bool, true, false, ◌&&◌, ℕ, zero, suc, pred, take}
use Rattle.std.proofs.Math.Option.{Option, none, some}
use Rattle.terms.specs.Ascii.{Bytes}
use Rattle.line.specs.Content.{Field}
use Rattle.law.specs.Network.{largest}
use Rattle.grammar.specs.Language.{Lang}
use Rattle.grammar.specs.Machine.{Opt, Machine, over, inside, Place}
use Rattle.text.specs.Judge.{Sort, read, Vals, Lexis, args}
use Rattle.law_columns.specs.Finding.{takes}
use Rattle.expected_law.specs.Expected.{Item, this, a_name, numbers, ceiling, degrees, one_of, Form, last_bytes, Expectation, field}
use Rattle.expected_law.specs.Items.{from_to}

-- ## The item
-- the form that stands beside the option of this kind; where none is, the due one
abbrev pub form_beside : (L : Lang) → List (Opt L.Kind L.Pay) → List Form → L.Kind → (due : Form) → Form
form_beside L [] forms k due = due
form_beside L (o ∷ row) [] k due = due
form_beside L (o ∷ row) (form ∷ forms) k due = elim (L.disc k o.on) [ yes e ↦ form | no n ↦ form_beside L row forms k due ]

module _ {L : Lang} (A : Machine L) (options : A.Base → List Form) (due : A.Base → Form) where
  -- of a kind that may stand at the place
  unfoldable pub form_of_kind : Place A → L.Kind → Form
  form_of_kind over k = []
  form_of_kind (inside b g) k = form_beside L (A.opts b) (options b) k (due b)

-- the item of a field, counted from 0
unfoldable pub item_at_of : ℕ → Form → Item
item_at_of i [] = a_name
item_at_of zero (a ∷ form) = a
item_at_of (suc i) (a ∷ form) = item_at_of i form

-- by itself a maximum is any number up to the largest, as behind the minimum 0
abbrev pub alone : Item → Item
alone (this w) = this w
alone a_name = a_name
alone (numbers w rs) = numbers w rs
alone ceiling = from_to 0 largest
alone (degrees d) = degrees d
alone (one_of bs) = one_of bs

-- ## The fields before it
abbrev pub when_read : {P : Type 0} → Option P → (P → Bool) → Bool
when_read none test = false
when_read (some v) test = test v

-- the first i of these fields are of their sorts, and behind each of them low values pass the test
unfoldable pub passes : (ss : List Sort) → (Vals ss → Bool) → (low : Vals ss) → (i : ℕ) → List Field → Bool
passes ss test low zero fs = true
passes [] test low (suc i) fs = false
passes (s ∷ ss) test low (suc i) [] = false
passes (s ∷ ss) test low (suc i) (f ∷ fs) = when_read (read s f) (λ v. test (v, low.1) && passes ss (λ u. test (v, u)) low.1 i fs)

-- how many of the fields before field i are values
abbrev pub values_before : Option Bytes → ℕ → ℕ
values_before none i = i
values_before (some w) i = pred i

-- ## What is told of field i
abbrev pub told_field : Form → (permitted : Bool) → (i : ℕ) → List Field → Expectation
told_field form true i fields = field (last_bytes (take i fields)) (item_at_of i form)
told_field form false i fields = field [] (alone (item_at_of i form))

module _ {L : Lang} (A : Machine L) (X : Lexis L) (low : (k : L.Kind) → Vals (X.sorts k)) where
  -- some line of this kind that the place takes begins with the fields before it
  abbrev pub permitted : Place A → (k : L.Kind) → (i : ℕ) → Field → List Field → Bool
  permitted p k i f fs = passes (X.sorts k) (takes A X low p k) (low k) (values_before (X.keyword k) i) (args A X (X.keyword k) f fs)

  unfoldable pub field_told : (options : A.Base → List Form) (due : A.Base → Form) → Place A → (k : L.Kind) → (i : ℕ) → Field → List Field → Expectation
  field_told options due p k i f fs = told_field (form_of_kind A options due p k) (permitted p k i f fs) i (f ∷ fs)
