-- Executable: what a line gets at a place, in document 01's order of faults: 2, 3, 4; 5, 6; 7; 8 over every field; 9; then 25. For every file. Assumes nothing.
use Rattle.std.specs.Prelude.{◌≡◌, List, [], ◌∷◌, ◌++◌, Bool, true, false, ℕ, zero, suc, length, take, eqb, ℤ, Some, None, Ok, Err, Result}
use Rattle.std.proofs.Math.Option.{Option, none, some}
use Rattle.terms.specs.Ascii.{Bytes}
use Rattle.terms.specs.Words.{pick}
use Rattle.line.specs.Content.{Field}
use Rattle.line.specs.Lines.{drop_cr}
use Rattle.line.specs.Forms.{form_of, fields_at}
use Rattle.number.specs.Executable.{the_integer_of, the_pair_of, triple_of, is_name_length_of}
use Rattle.coordinate.specs.Executable.{the_coordinate_of}
use Rattle.word.specs.Number.{boundary_number, digit_first}
use Rattle.grammar.specs.Language.{Lang, S, say}
use Rattle.grammar.specs.Editions.{Edition, march, december, has_boundary}
use Rattle.grammar.specs.Statements.{Boundary, double_yellow_of, solid_yellow_of, solid_white_of, broken_white_of, PartId, PointId}
use Rattle.grammar.specs.Machine.{Out, next, refuse, Machine, over, inside, Place, step}
use Rattle.grammar.specs.Stands.{stands}
use Rattle.text.specs.Said.{Said, word, name, integer, pair, triple, coordinate, boundary}
use Rattle.std.specs.Prelude as Rust
use Rattle.number.specs.declared.Id.{Id}

-- ## Sorts of fields, and reading one
pub data Sort : Type 0 where
  a_name an_integer a_pair a_triple a_coordinate : Sort
  a_boundary : Edition → Sort

abbrev pub Val : Sort → Type 0
Val a_name = Field
Val an_integer = ℕ
Val a_pair = PartId
Val a_triple = PointId
Val a_coordinate = ℤ
Val (a_boundary e) = Boundary

abbrev pub number : Rust.Option ℕ → Option ℕ
number (Some n) = some n
number None = none

abbrev pub pair_from : Rust.Option (ℕ × ℕ) → Option PartId
pair_from (Some (m, n)) = some (record { m = m; n = n })
pair_from None = none

abbrev pub triple_from : Rust.Option Id → Option PointId
triple_from (Some i) = some (record { x = i.x; y = i.y; z = i.z })
triple_from None = none

abbrev pub degrees : Rust.Option ℤ → Option ℤ
degrees (Some z) = some z
degrees None = none

-- the boundary of a number 1 to 4
abbrev pub boundary_from : ℕ → Option Boundary
boundary_from zero = none
boundary_from (suc zero) = some double_yellow_of
boundary_from (suc (suc zero)) = some solid_yellow_of
boundary_from (suc (suc (suc zero))) = some solid_white_of
boundary_from (suc (suc (suc (suc zero)))) = some broken_white_of
boundary_from (suc (suc (suc (suc (suc n))))) = none

-- L10: one that the edition has
abbrev pub only_known : Edition → Option Boundary → Option Boundary
only_known march o = o
only_known december none = none
only_known december (some b) = pick (has_boundary december b) (some b) none

unfoldable pub read : (s : Sort) → Field → Option (Val s)
read a_name f = pick (is_name_length_of (length f.bytes)) (some f) none
read an_integer f = number (the_integer_of f.bytes)
read a_pair f = pair_from (the_pair_of f.bytes)
read a_triple f = triple_from (triple_of f.bytes)
read a_coordinate f = degrees (the_coordinate_of f.bytes)
read (a_boundary e) f = only_known e (boundary_from (boundary_number f.bytes))

-- ## The fields behind a keyword
abbrev pub Vals : List Sort → Type 0
Vals [] = Unit {0}
Vals (s ∷ ss) = Val s × Vals ss

abbrev pub both : {A B : Type 0} → Option A → Option B → Option (A × B)
both (some a) (some b) = some (a, b)
both (some a) none = none
both none b = none

abbrev pub read_all : (ss : List Sort) → List Field → Option (Vals ss)
read_all [] [] = some tt
read_all [] (f ∷ fs) = none
read_all (s ∷ ss) [] = none
read_all (s ∷ ss) (f ∷ fs) = both (read s f) (read_all ss fs)

-- ## What a line gets: a fault, or what it says (nothing, if it is blank) and the place behind it
pub data Verdict (S P : Type 0) : Type 0 where
  fault : ℕ → Verdict S P
  good : Option S → P → Verdict S P

abbrev pub check : {S P : Type 0} → Bool → ℕ → Verdict S P → Verdict S P
check true n v = v
check false n v = fault n

-- how the statements of a file are made out: the keyword of a kind (none: its line begins with a digit), the sorts of its other fields, the statement of their values, the kind of a keyword
pub record Lexis (L : Lang) : Type 1 where
  pub keyword : L.Kind → Option Bytes
  pub sorts : L.Kind → List Sort
  pub make : (k : L.Kind) → Vals (sorts k) → L.Pay k
  pub lookup : Bytes → Option L.Kind

-- 01: "A first field that begins with a digit makes a point line in an RNDF and, by its place, a goal or limit line in an MDF"
abbrev pub due_at : {K : Type 0} → Option Bytes → K → Option K
due_at none k = some k
due_at (some w) k = none

module _ {L : Lang} (A : Machine L) (X : Lexis L) where
  open L use {Kind, Pay}
  open X use {keyword, sorts, make, lookup}

  abbrev pub Got : Type 0
  Got = Verdict (S L) (Place A)

  unfoldable pub numbered : Place A → Option Kind
  numbered over = none
  numbered (inside b g) = due_at (keyword (A.due b).on) (A.due b).on

  abbrev pub kind_at : Place A → Field → Option Kind
  kind_at p f = pick (digit_first f.bytes) (numbered p) (lookup f.bytes)

  -- the fields behind the keyword; all of them where there is none
  abbrev pub args : Option Bytes → Field → List Field → List Field
  args (some w) f fs = fs
  args none f fs = f ∷ fs

  -- the number that the place refuses it with: where its kind may stand, 9 or 25
  abbrev pub taken : S L → Out (Place A) → Got
  taken s (next q) = good (some s) q
  taken s (refuse c) = fault c

  abbrev pub valued : Place A → (k : Kind) → Option (Vals (sorts k)) → Got
  valued p k none = fault 8
  valued p k (some v) = taken (say L k (make k v)) (step A p (say L k (make k v)))

  abbrev pub standing : Option ℕ → Got → Got
  standing none v = v
  standing (some n) v = fault n

  abbrev pub of_kind : Place A → Kind → List Field → Got
  of_kind p k fs = standing (stands A p k) (check (eqb (length fs) (length (sorts k))) 7 (valued p k (read_all (sorts k) fs)))

  abbrev pub known : Place A → Option Kind → Field → List Field → Got
  known p none f fs = fault 5
  known p (some k) f fs = of_kind p k (args (keyword k) f fs)

  unfoldable pub tell : Place A → Field → List Field → Got
  tell p f fs = known p (kind_at p f) f fs

  abbrev pub told : Place A → List Field → Got
  told p [] = good none p
  told p (f ∷ fs) = tell p f fs

  abbrev pub formed : Place A → ℕ → Bytes → Result ℕ ℕ → Got
  formed p start content (Err n) = fault n
  formed p start content (Ok e) = told p (fields_at start (take e content))

  -- a line that starts at a place of the text
  unfoldable pub judge : Place A → ℕ → Bytes → Got
  judge p start line = formed p start (drop_cr line) (form_of (drop_cr line))
