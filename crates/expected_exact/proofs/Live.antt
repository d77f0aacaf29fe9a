-- No form is idle: each has an instance. Assumes nothing.
use mathlib.Core.Path.{refl}
use mathlib.Core.List.{List, [], ◌∷◌, map}
use mathlib.Core.Bool.{Bool, true, false, ◌&&◌}
use Prim.Native.Nat.{ℕ, ◌≤◌}
use native.Mathlib.Omega.{arith}
use lib.IntN.{pos}
use Rattle.terms.specs.Ascii.{Bytes}
use Rattle.terms.specs.Words.{Each, Among}
use Rattle.line.specs.Content.{Field, at}
use Rattle.number.specs.Decimal.{decimal}
use Rattle.coordinate.specs.House.{house_coordinate}
use Rattle.coordinate.proofs.House.{house-coordinate_spells}
use Rattle.law.specs.Network.{double_yellow_of, boundary_word_of, dotted}
use Rattle.grammar.specs.Language.{Lang}
use Rattle.grammar.specs.Machine.{Opt}
use Rattle.expected_law.specs.Expected.{Item, this, a_name, numbers, ceiling, degrees, one_of, InRanges, Allows, Form, AllowsFields}
use Rattle.expected_law.specs.Items.{limit_form}
use Rattle.expected_exact.specs.Listed.{if_open, if_ready, open_options}

-- a range has its lowest number; each edition has `double_yellow`
abbrev pub Alive : Item → Type 0
Alive (this w) = Unit {0}
Alive a_name = Unit {0}
Alive (numbers w rs) = Each (λ r. r.0 ≤ r.1) rs
Alive ceiling = ⊥
Alive (degrees d) = Unit {0}
Alive (one_of bs) = Among double_yellow_of bs

abbrev pub Instance : Form → Type 0
Instance form = (fields : List Field) × AllowsFields [] form fields

abbrev lows : List (ℕ × ℕ) → List ℕ
lows = map (λ r. r.0)

lowest : (rs : List (ℕ × ℕ)) → Each (λ r. r.0 ≤ r.1) rs → InRanges rs (lows rs)
lowest [] h = tt
lowest (r ∷ rs) h = (record { low = omega arith; high = h.0 }, lowest rs h.1)

pub item_lives : (i : Item) → Alive i → (before : Bytes) → (b : Bytes) × Allows before i b
item_lives (this w) h before = (w, refl)
item_lives a_name h before = (97 ∷ [], record { low = omega arith; high = omega arith })
item_lives (numbers w rs) h before = (dotted (lows rs), (lows rs, refl, lowest rs h))
item_lives ceiling h before = absurd h
item_lives (degrees d) h before = (house_coordinate (pos 0), (pos 0, house-coordinate_spells (pos 0) (omega arith), omega arith))
item_lives (one_of bs) h before = (boundary_word_of double_yellow_of, (double_yellow_of, refl, h))

pub lives-on : (form : Form) → Each Alive form → (before : Bytes) → (fields : List Field) × AllowsFields before form fields
lives-on [] h before = ([], tt)
lives-on (i ∷ is) h before =
    let x = item_lives i h.0 before in
    let y = lives-on is h.1 x.0 in
    (at 0 x.0 ∷ y.0, (x.1, y.1))

pub form_lives : (form : Form) → Each Alive form → Instance form
form_lives form h = lives-on form h []

pub all_live : (forms : List Form) → Each (λ form. Each Alive form) forms → Each Instance forms
all_live [] h = tt
all_live (form ∷ forms) h = (form_lives form h.0, all_live forms h.1)

pub limit_lives : Instance limit_form
limit_lives = (at 0 (decimal 1) ∷ at 0 (decimal 0) ∷ at 0 (decimal 0) ∷ [], ((1 ∷ [], refl, (record { low = omega arith; high = omega arith }, tt)), ((0 ∷ [], refl, (record { low = omega arith; high = omega arith }, tt)), ((0, 0, refl, refl, omega arith, λ h. omega arith), tt))))

-- what holds of all forms holds of those that are still open, and of the due one
pub each_open : (P : Form → Type 0) (L : Lang) (row : List (Opt L.Kind L.Pay)) (g : List Bool) (forms : List Form) → Each P forms → Each P (open_options L row g forms)
each_open P L [] g forms h = tt
each_open P L (o ∷ row) [] forms h = tt
each_open P L (o ∷ row) (f ∷ g) [] h = tt
each_open P L (o ∷ row) (f ∷ g) (form ∷ forms) h = go (o.once && f) (each_open P L row g forms h.1)
  where
    go : (b : Bool) → Each P (open_options L row g forms) → Each P (if_open b form (open_options L row g forms))
    go true x = x
    go false x = (h.0, x)

pub each-ready : (P : Form → Type 0) (b : Bool) (form : Form) (rest : List Form) → P form → Each P rest → Each P (if_ready b form rest)
each-ready P true form rest h x = (h, x)
each-ready P false form rest h x = x
