-- The house writing of a line is a line, and spells what it was written for, with each name at its new place. Assumes nothing.
use mathlib.Core.Path.{◌≡◌, refl, sym, subst}
use mathlib.Core.List.{List, [], ◌∷◌, map, append-nil}
use mathlib.Core.Option.{some}
use mathlib.Core.Bool.{true}
use mathlib.Core.Logic.{inl}
use Prim.Native.Nat.{ℕ, suc, ◌+◌, ◌*◌, ◌≤◌, ◌<◌}
use native.Mathlib.Omega.{arith}
use lib.ListN.{length, length-append}
use lib.IntN.{nat_abs, pos, negsuc}
use Rattle.terms.specs.Ascii.{Bytes, ascii}
use Rattle.terms.specs.Words.{Each, Between}
use Rattle.scan.specs.Allowed.{digit, separates}
use Rattle.scan.proofs.Reach.{begins-some}
use Rattle.line.specs.Content.{Field, at, IsField, parted, parted-by, SpellsFields, nothing, separator, field, Content}
use Rattle.line.proofs.Contents.{content-ended}
use Rattle.number.specs.House.{house_integer, house_pair, house_triple}
use Rattle.number.proofs.House.{numbers-field, house-integer_spells, house-integer-short, house-integer-bytes, house-integer-first, house-pair_spells, house-pair-short, house-pair-bytes, house-pair-first, house-triple_spells, house-triple-short, house-triple-bytes, house-triple-first}
use Rattle.coordinate.specs.House.{house_degrees, house_coordinate}
use Rattle.coordinate.proofs.House.{house-coordinate_spells, house-coordinate-short, house-coordinate-bytes}
use Rattle.word.specs.Keywords.{ShortField, boundary_of}
use Rattle.word.proofs.Boundary.{boundary-word-field}
use Rattle.grammar.specs.Editions.{has_boundary}
use Rattle.grammar.specs.Statements.{Boundary, double_yellow_of, solid_yellow_of, solid_white_of, broken_white_of}
use Rattle.grammar.specs.Tables.{colour}
use Rattle.text.specs.Said.{Said, word, name, integer, pair, triple, coordinate, boundary, SpellsField, SpellFields}
use Rattle.text.specs.HouseLine.{house_field, tabbed, house_line}
use Rattle.text.specs.Spelling.{SpellsLine, says}

-- ## What can be written
abbrev pub Writable : Said → Type 0
Writable (word w) = IsField w × (length w ≤ 20)
Writable (name f) = IsField f.bytes × (length f.bytes ≤ 128)
Writable (integer n) = n ≤ 99999
Writable (pair i) = (i.m ≤ 99999) × (i.n ≤ 99999)
Writable (triple i) = (i.x ≤ 99999) × (i.y ≤ 99999) × (i.z ≤ 99999)
Writable (coordinate z) = nat_abs z ≤ 999999999
Writable (boundary e b) = has_boundary e b ≡ true

some-degrees : (m : ℕ) → 0 < length (house_degrees m)
unfolding house_degrees ascii
some-degrees m = simp length-append (omega arith)

some-coordinate : (z : _) → 0 < length (house_coordinate z)
unfolding house_coordinate ascii
some-coordinate (pos m) = some-degrees m
some-coordinate (negsuc m) = omega arith

-- a boundary is one of four
pub colours : (b : Boundary) → Between 1 4 (colour b)
colours double_yellow_of = record { low = omega arith; high = omega arith }
colours solid_yellow_of = record { low = omega arith; high = omega arith }
colours solid_white_of = record { low = omega arith; high = omega arith }
colours broken_white_of = record { low = omega arith; high = omega arith }

pub short-field : (w : Bytes) → ShortField w → IsField w × (length w ≤ 20)
short-field w h = (record { some = h.some; allowed = h.allowed }, h.short)

-- ## A written field
pub house-is-field : (s : Said) → Writable s → IsField (house_field s)
unfolding house_field
house-is-field (word w) h = h.0
house-is-field (name f) h = h.0
house-is-field (integer n) h = record { some = begins-some digit (house_integer n) (house-integer-first n); allowed = numbers-field (house_integer n) (house-integer-bytes n) }
house-is-field (pair i) h = record { some = begins-some digit (house_pair i.m i.n) (house-pair-first i.m i.n); allowed = numbers-field (house_pair i.m i.n) (house-pair-bytes i.m i.n) }
house-is-field (triple i) h = record { some = begins-some digit (house_triple i.x i.y i.z) (house-triple-first i.x i.y i.z); allowed = numbers-field (house_triple i.x i.y i.z) (house-triple-bytes i.x i.y i.z) }
house-is-field (coordinate z) h = record { some = some-coordinate z; allowed = numbers-field (house_coordinate z) (house-coordinate-bytes z) }
house-is-field (boundary e b) h = (short-field (boundary_of (colour b)) (boundary-word-field (colour b) (colours b))).0

pub house-field-short : (s : Said) → Writable s → length (house_field s) ≤ 128
unfolding house_field
house-field-short (word w) h = omega arith
house-field-short (name f) h = h.1
house-field-short (integer n) h = let l = house-integer-short n h in omega arith
house-field-short (pair i) h = let l = house-pair-short i.m i.n h.0 h.1 in omega arith
house-field-short (triple i) h = let l = house-triple-short i.x i.y i.z h.0 h.1 h.2 in omega arith
house-field-short (coordinate z) h = let l = house-coordinate-short z h in omega arith
house-field-short (boundary e b) h = let l = (short-field (boundary_of (colour b)) (boundary-word-field (colour b) (colours b))).1 in omega arith

-- what it says where it stands: a name is known by its new place
abbrev pub moved : ℕ → Said → Said
moved a (word w) = word w
moved a (name f) = name (at a f.bytes)
moved a (integer n) = integer n
moved a (pair i) = pair i
moved a (triple i) = triple i
moved a (coordinate z) = coordinate z
moved a (boundary e b) = boundary e b

pub house_spells : (a : ℕ) (s : Said) → Writable s → SpellsField (at a (house_field s)) (moved a s)
unfolding house_field
house_spells a (word w) h = refl
house_spells a (name f) h = (refl, record { low = h.0.some; high = h.1 })
house_spells a (integer n) h = house-integer_spells n h
house_spells a (pair i) h = house-pair_spells i.m i.n h.0 h.1
house_spells a (triple i) h = house-triple_spells i.x i.y i.z h.0 h.1 h.2
house_spells a (coordinate z) h = house-coordinate_spells z h
house_spells a (boundary e b) h = (record { number = colours b; word = refl }, h)

-- ## A written line
-- fields with one tab between them, the first at a place of the text
abbrev pub located : ℕ → List Bytes → List Field
located a [] = []
located a (f ∷ fs) = at a f ∷ located (suc (a + length f)) fs

pub tabbed-fields : (a : ℕ) (fs : List Bytes) → Each IsField fs → SpellsFields a (tabbed fs) (located a fs)
unfolding tabbed parted-by ascii separates
tabbed-fields a [] h = nothing
tabbed-fields a (f ∷ []) h = subst (λ (l : Bytes). SpellsFields a l (at a f ∷ [])) (append-nil f) (field h.0 refl nothing)
tabbed-fields a (f ∷ g ∷ fs) h = field h.0 refl (separator refl (tabbed-fields (suc (a + length f)) (g ∷ fs) h.1))

abbrev pub placed : ℕ → List Said → List Said
placed a [] = []
placed a (s ∷ said) = moved a s ∷ placed (suc (a + length (house_field s))) said

all-fields : (said : List Said) → Each Writable said → Each IsField (map house_field said)
all-fields [] h = tt
all-fields (s ∷ said) h = (house-is-field s h.0, all-fields said h.1)

all-spelled : (a : ℕ) (said : List Said) → Each Writable said → SpellFields (located a (map house_field said)) (placed a said)
all-spelled a [] h = tt
all-spelled a (s ∷ said) h = (house_spells a s h.0, all-spelled (suc (a + length (house_field s))) said h.1)

tabbed-short : (said : List Said) → Each Writable said → length (house_line said) ≤ 129 * length said
unfolding tabbed ascii
tabbed-short [] h = omega arith
tabbed-short (s ∷ []) h = let l = house-field-short s h.0 in omega arith
tabbed-short (s ∷ t ∷ said) h =
    let l = house-field-short s h.0 in
    let i = tabbed-short (t ∷ said) h.1 in
    simp length-append (omega arith)

pub house-content : (a : ℕ) (said : List Said) → Each Writable said → length said ≤ 3 → Content a (house_line said) (located a (map house_field said))
house-content a said h n = record { outer = house_line said; note = []; spelled = sym (append-nil (house_line said)); short = let l = tabbed-short said h in omega arith; fielded = tabbed-fields a (map house_field said) (all-fields said h); comment = inl refl }

-- the house line of a statement, wherever it stands, says the statement with its names there
pub house-says : {Kind : Type 0} {Pay : Kind → Type 0} (Line-of : (k : Kind) → Pay k → List Said) (a : ℕ) (k : Kind) (v w : Pay k) → Each Writable (Line-of k v) → length (Line-of k v) ≤ 3 → Line-of k w ≡ placed a (Line-of k v)
    → SpellsLine Line-of a (house_line (Line-of k v)) (some (record { kind = k; val = w }))
house-says Line-of a k v w h n e =
    let c = house-content a (Line-of k v) h n in
    says (content-ended c) c (subst (SpellFields (located a (map house_field (Line-of k v)))) (sym e) (all-spelled a (Line-of k v) h))
