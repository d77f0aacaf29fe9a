-- A field, and the fields behind a keyword, are read exactly as they are spelled. Assumes nothing.
use Rattle.std.specs.Prelude.{Some, None}
use mathlib.Core.Path.{◌≡◌, refl, ap, subst, ◌∙◌}
use mathlib.Core.List.{List, [], ◌∷◌}
use mathlib.Core.Option.{Option, none, some}
use mathlib.Core.Bool.{Bool, true, false}
use Prim.Native.Nat.{ℕ, zero, suc, ◌<◌}
use native.Mathlib.Omega.{arith}
use lib.ListN.{length}
use lib.IntN.{ℤ}
use Rattle.terms.specs.Words.{pick}
use Rattle.terms.proofs.Tests.{nothing}
use Rattle.line.specs.Content.{Field}
use Rattle.number.specs.Executable.{the_integer_of, the_pair_of, triple_of, is_name_length_of}
use Rattle.number.proofs.Integers.{integer-right, integer-only}
use Rattle.number.proofs.Identifiers.{pair-right, pair-only, triple-right, triple-only}
use Rattle.number.proofs.Ranges.{name-right, name-only}
use Rattle.coordinate.specs.Executable.{the_coordinate_of}
use Rattle.coordinate.proofs.Coordinates.{coordinate-right, coordinate-only}
use Rattle.word.specs.Keywords as Word
use Rattle.word.specs.Number.{boundary_number}
use Rattle.word.proofs.Boundary.{boundary-only, boundary-all}
use Rattle.grammar.specs.Editions.{Edition, march, december, has_boundary}
use Rattle.grammar.specs.Statements.{Boundary, double_yellow_of, solid_yellow_of, solid_white_of, broken_white_of, PartId, PointId}
use Rattle.grammar.specs.Tables.{colour}
use Rattle.text.specs.Said.{Said, name, integer, pair, triple, coordinate, boundary, SpellsField, SpellFields}
use Rattle.text.specs.Judge.{Sort, a_name, an_integer, a_pair, a_triple, a_coordinate, a_boundary, Val, number, pair_from, triple_from, degrees, boundary_from, only_known, read, Vals, both, read_all}
use Rattle.std.specs.Prelude as Rust
use Rattle.number.specs.declared.Id.{Id}

-- what a value of a sort says
abbrev pub says : (s : Sort) → Val s → Said
says a_name v = name v
says an_integer v = integer v
says a_pair v = pair v
says a_triple v = triple v
says a_coordinate v = coordinate v
says (a_boundary e) v = boundary e v

-- ## Each sort
name-read : (b : Bool) (f g : Field) → pick b (some f) none ≡ some g → (b ≡ true) × (f ≡ g)
name-read true f g e = (refl, cc)
name-read false f g e = nothing e

number_read : (r : Rust.Option ℕ) (n : ℕ) → number r ≡ some n → r ≡ Some n
number_read (Some m) n e = ap Some (let z : m ≡ n = cc in z)
number_read None n e = nothing e

pair_read : (r : Rust.Option (ℕ × ℕ)) (i : PartId) → pair_from r ≡ some i → r ≡ Some (i.m, i.n)
pair_read (Some (m, n)) i e = let z : record { m = m; n = n } ≡ i = cc in ap (λ (i : PartId). Some (i.m, i.n)) z
pair_read None i e = nothing e

triple-read : (r : Rust.Option Id) (i : PointId) → triple_from r ≡ some i → r ≡ Some (record { x = i.x; y = i.y; z = i.z })
triple-read (Some j) i e = let z : record { x = j.x; y = j.y; z = j.z } ≡ i = cc in ap (λ (i : PointId). Some (record { x = i.x; y = i.y; z = i.z })) z
triple-read None i e = nothing e

degrees-read : (r : Rust.Option ℤ) (z : ℤ) → degrees r ≡ some z → r ≡ Some z
degrees-read (Some y) z e = ap Some (let q : y ≡ z = cc in q)
degrees-read None z e = nothing e

boundary-read : (n : ℕ) (b : Boundary) → boundary_from n ≡ some b → n ≡ colour b
boundary-read zero b e = nothing e
boundary-read (suc zero) b e = ap colour (let z : double_yellow_of ≡ b = cc in z)
boundary-read (suc (suc zero)) b e = ap colour (let z : solid_yellow_of ≡ b = cc in z)
boundary-read (suc (suc (suc zero))) b e = ap colour (let z : solid_white_of ≡ b = cc in z)
boundary-read (suc (suc (suc (suc zero)))) b e = ap colour (let z : broken_white_of ≡ b = cc in z)
boundary-read (suc (suc (suc (suc (suc n))))) b e = nothing e

boundary-back : (b : Boundary) → boundary_from (colour b) ≡ some b
boundary-back double_yellow_of = refl
boundary-back solid_yellow_of = refl
boundary-back solid_white_of = refl
boundary-back broken_white_of = refl

some-colour : (b : Boundary) → 0 < colour b
some-colour double_yellow_of = omega arith
some-colour solid_yellow_of = omega arith
some-colour solid_white_of = omega arith
some-colour broken_white_of = omega arith

known_read : (e : Edition) (o : Option Boundary) (b : Boundary) → only_known e o ≡ some b → (o ≡ some b) × (has_boundary e b ≡ true)
known_read march o b h = (h, refl)
known_read december none b h = nothing h
known_read december (some a) b h = go (has_boundary december a) refl h
  where
    go : (x : Bool) → has_boundary december a ≡ x → pick x (some a) none ≡ some b → (some a ≡ some b) × (has_boundary december b ≡ true)
    go true q h = (h, ap (has_boundary december) (let z : b ≡ a = cc in z) ∙ q)
    go false q h = nothing h

known-back : (e : Edition) (b : Boundary) → has_boundary e b ≡ true → only_known e (some b) ≡ some b
known-back march b h = refl
known-back december b h = rw h

pub read_right : (s : Sort) (f : Field) (v : Val s) → read s f ≡ some v → SpellsField f (says s v)
unfolding read
read_right a_name f v e = let x = name-read (is_name_length_of (length f.bytes)) f v e in (x.1, name-right (length f.bytes) x.0)
read_right an_integer f v e = integer-right f.bytes v (number_read (the_integer_of f.bytes) v e)
read_right a_pair f v e = pair-right f.bytes v.m v.n (pair_read (the_pair_of f.bytes) v e)
read_right a_triple f v e = triple-right f.bytes (record { x = v.x; y = v.y; z = v.z }) (triple-read (triple_of f.bytes) v e)
read_right a_coordinate f v e = coordinate-right f.bytes v (degrees-read (the_coordinate_of f.bytes) v e)
read_right (a_boundary d) f v e =
    let k = known_read d (boundary_from (boundary_number f.bytes)) v e in
    let n = boundary-read (boundary_number f.bytes) v k.0 in
    (subst (λ (n : ℕ). Word.Boundary n f.bytes) n (boundary-only f.bytes (rw n (some-colour v))), k.1)

pub read_only : (s : Sort) (f : Field) (v : Val s) → SpellsField f (says s v) → read s f ≡ some v
unfolding read
read_only a_name f v h = rw (name-only (length f.bytes) h.1) (ap some h.0)
read_only an_integer f v h = ap number (integer-only f.bytes v h)
read_only a_pair f v h = ap pair_from (pair-only f.bytes v.m v.n h)
read_only a_triple f v h = ap triple_from (triple-only f.bytes v.x v.y v.z h)
read_only a_coordinate f v h = ap degrees (coordinate-only f.bytes v h)
read_only (a_boundary d) f v h = ap (only_known d) (ap boundary_from (boundary-all (colour v) f.bytes h.0) ∙ boundary-back v) ∙ known-back d v h.1

-- ## All of them
abbrev pub said : (ss : List Sort) → Vals ss → List Said
said [] v = []
said (s ∷ ss) v = says s v.0 ∷ said ss v.1

both_read : {A B : Type 0} (x : Option A) (y : Option B) (v : A × B) → both x y ≡ some v → (x ≡ some v.0) × (y ≡ some v.1)
both_read (some a) (some b) v e =
    let q : (a, b) ≡ v = cc in
    (ap some (ap (λ (v : _ × _). v.0) q), ap some (ap (λ (v : _ × _). v.1) q))
both_read (some a) none v e = nothing e
both_read none b v e = nothing e

pub all_right : (ss : List Sort) (fs : List Field) (v : Vals ss) → read_all ss fs ≡ some v → SpellFields fs (said ss v)
all_right [] [] v e = tt
all_right [] (f ∷ fs) v e = nothing e
all_right (s ∷ ss) [] v e = nothing e
all_right (s ∷ ss) (f ∷ fs) v e = let x = both_read (read s f) (read_all ss fs) v e in (read_right s f v.0 x.0, all_right ss fs v.1 x.1)

pub all-only : (ss : List Sort) (fs : List Field) (v : Vals ss) → SpellFields fs (said ss v) → (read_all ss fs ≡ some v) × (length fs ≡ length ss)
all-only [] [] v h = (refl, refl)
all-only [] (f ∷ fs) v h = absurd h
all-only (s ∷ ss) [] v h = absurd h
all-only (s ∷ ss) (f ∷ fs) v h = let x = all-only ss fs v.1 h.1 in (rw (read_only s f v.0 h.0, x.0), ap suc x.1)
