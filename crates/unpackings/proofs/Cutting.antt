-- Slots are told by their bytes: two lists of the same shape, whose numbers fit and whose names lie where they stand, are the same if their bytes begin alike. Assumes nothing.
use mathlib.Core.Path.{◌≡◌, refl, sym, ap, ap₂, subst, ◌∙◌}
use mathlib.Core.List.{List, [], ◌∷◌, ◌++◌, map, append_assoc, head-eq_of_cons-eq, tail-eq_of_cons-eq, nil≢cons, cons≢nil}
use mathlib.Core.Option.{Option, none, some}
use Prim.Native.Nat.{ℕ, zero, suc, ◌+◌, ◌-◌, ◌^◌, ◌≤◌, ◌<◌}
use native.Mathlib.Omega.{arith}
use lib.ListN.{length, length-append}
use lib.IntN.{ℤ, pos, negsuc, nat_abs}
use Rattle.terms.specs.Ascii.{Bytes}
use Rattle.terms.specs.Words.{Each, Between}
use Rattle.line.specs.Content.{Field}
use Rattle.law.specs.Tables.{gather}
use Rattle.grammar.proofs.Rows.{cut_at}
use Rattle.output.specs.Packed.{big_endian}
use Rattle.output.proofs.Packed.{packed-long, packed-same}
use Rattle.packed_law.specs.Packed.{Slot, figure, angle, title, unsigned, slot_bytes, laid, LiesAt, NamesLie}
use Rattle.unpackings.proofs.Kept.{Few}
use Rattle.unpackings.proofs.Framing.{item-is-long, gather_append}

-- ## Shapes
pub data Kind : Type 0 where
  of_size : ℕ → Kind
  of-coordinate of-name : Kind

abbrev pub shape : Slot → Kind
shape (figure k n) = of_size k
shape (angle z) = of-coordinate
shape (title v) = of-name

abbrev tag : Kind → ℕ
tag (of_size k) = 0
tag of-coordinate = 1
tag of-name = 2

abbrev size_of : Kind → ℕ
size_of (of_size k) = k
size_of of-coordinate = 0
size_of of-name = 0

-- a number fits its bytes; a coordinate is one of the earth's; a name has 1 to 128 bytes
abbrev pub Fit : Slot → Type 0
Fit (figure k n) = n < 256 ^ k
Fit (angle z) = nat_abs z ≤ 180000000
Fit (title v) = Few v

-- ## One slot
unsigned-same : (z z' : ℤ) → nat_abs z ≤ 180000000 → nat_abs z' ≤ 180000000 → unsigned z ≡ unsigned z' → z ≡ z'
unsigned-same (pos m) (pos m') h h' e = ap pos e
unsigned-same (pos m) (negsuc m') h h' e = absurd (omega arith)
unsigned-same (negsuc m) (pos m') h h' e = absurd (omega arith)
unsigned-same (negsuc m) (negsuc m') h h' e = ap negsuc (let q : m ≡ m' = omega arith in q)

unsigned-fits : (z : ℤ) → nat_abs z ≤ 180000000 → unsigned z < 256 ^ 4
unsigned-fits (pos m) h = omega arith
unsigned-fits (negsuc m) h = omega arith

two_fits : (k : ℕ) → k ≤ 128 → k < 256 ^ 2
two_fits k h = omega arith

number_cut : (k m m' : ℕ) (r r' : Bytes) → m < 256 ^ k → m' < 256 ^ k → big_endian k m ++ r ≡ big_endian k m' ++ r' → (m ≡ m') × (r ≡ r')
number_cut k m m' r r' f f' e =
    let c = cut_at (big_endian k m) (big_endian k m') r r' (packed-long k m ∙ sym (packed-long k m')) e in
    (packed-same k m m' f f' c.0, c.1)

name-cut : (at : ℕ) (v v' : Option Field) (r r' : Bytes) → Few v → Few v' → LiesAt at (title v) → LiesAt at (title v') → slot_bytes (title v) ++ r ≡ slot_bytes (title v') ++ r' → (v ≡ v') × (r ≡ r')
name-cut at none none r r' f f' p p' e = (refl, (number_cut 2 0 0 r r' (omega arith) (omega arith) e).1)
name-cut at none (some v) r r' f f' p p' e =
    let a = f'.low in let b = f'.high in
    let c = number_cut 2 0 (length v.bytes) r (v.bytes ++ r') (omega arith) (two_fits (length v.bytes) b) (e ∙ append_assoc (big_endian 2 (length v.bytes)) v.bytes r') in
    let d = c.0 in
    absurd (omega arith)
name-cut at (some v) none r r' f f' p p' e =
    let a = f.low in let b = f.high in
    let c = number_cut 2 (length v.bytes) 0 (v.bytes ++ r) r' (two_fits (length v.bytes) b) (omega arith) (sym (append_assoc (big_endian 2 (length v.bytes)) v.bytes r) ∙ e) in
    let d = c.0 in
    absurd (omega arith)
name-cut at (some v) (some v') r r' f f' p p' e =
    let c = number_cut 2 (length v.bytes) (length v'.bytes) (v.bytes ++ r) (v'.bytes ++ r') (two_fits (length v.bytes) f.high) (two_fits (length v'.bytes) f'.high) (sym (append_assoc (big_endian 2 (length v.bytes)) v.bytes r) ∙ e ∙ append_assoc (big_endian 2 (length v'.bytes)) v'.bytes r') in
    let d = cut_at v.bytes v'.bytes r r' c.0 c.1 in
    let s = p ∙ sym p' in
    ((λ i. some (record { start = s i; bytes = d.0 i })), d.1)

item-cut : (at : ℕ) (i i' : Slot) (r r' : Bytes) → shape i ≡ shape i' → Fit i → Fit i' → LiesAt at i → LiesAt at i' → slot_bytes i ++ r ≡ slot_bytes i' ++ r' → (i ≡ i') × (r ≡ r')
item-cut at (figure k m) (figure k' m') r r' s f f' p p' e =
    let q : k ≡ k' = ap size_of s in
    let c = number_cut k m m' r r' f (subst (λ (j : ℕ). m' < 256 ^ j) (sym q) f') (e ∙ ap (λ (j : ℕ). big_endian j m' ++ r') (sym q)) in
    (ap₂ figure q c.0, c.1)
item-cut at (figure k m) (angle z) r r' s f f' p p' e = absurd (let x = ap tag s in omega arith)
item-cut at (figure k m) (title v) r r' s f f' p p' e = absurd (let x = ap tag s in omega arith)
item-cut at (angle z) (figure k m) r r' s f f' p p' e = absurd (let x = ap tag s in omega arith)
item-cut at (angle z) (angle z') r r' s f f' p p' e =
    let c = number_cut 4 (unsigned z) (unsigned z') r r' (unsigned-fits z f) (unsigned-fits z' f') e in
    (ap angle (unsigned-same z z' f f' c.0), c.1)
item-cut at (angle z) (title v) r r' s f f' p p' e = absurd (let x = ap tag s in omega arith)
item-cut at (title v) (figure k m) r r' s f f' p p' e = absurd (let x = ap tag s in omega arith)
item-cut at (title v) (angle z) r r' s f f' p p' e = absurd (let x = ap tag s in omega arith)
item-cut at (title v) (title v') r r' s f f' p p' e = let c = name-cut at v v' r r' f f' p p' e in (ap title c.0, c.1)

-- ## Slots one behind the other
-- THE LAW
pub items-cut : (at : ℕ) (l l' : List Slot) (r r' : Bytes) → map shape l ≡ map shape l' → Each Fit l → Each Fit l' → NamesLie at l → NamesLie at l' → laid l ++ r ≡ laid l' ++ r' → (l ≡ l') × (r ≡ r')
unfolding laid NamesLie
items-cut at [] [] r r' s f f' p p' e = (refl, e)
items-cut at [] (i ∷ l) r r' s f f' p p' e = absurd (nil≢cons s)
items-cut at (i ∷ l) [] r r' s f f' p p' e = absurd (cons≢nil s)
items-cut at (i ∷ l) (i' ∷ l') r r' s f f' p p' e =
    let c = item-cut at i i' (gather slot_bytes l ++ r) (gather slot_bytes l' ++ r') (head-eq_of_cons-eq s) f.0 f'.0 p.0 p'.0 (sym (append_assoc (slot_bytes i) (gather slot_bytes l) r) ∙ e ∙ append_assoc (slot_bytes i') (gather slot_bytes l') r') in
    let d = items-cut (at + length (slot_bytes i)) l l' r r' (tail-eq_of_cons-eq s) f.1 f'.1 p.1 (subst (λ (j : Slot). NamesLie (at + length (slot_bytes j)) l') (sym c.0) p'.1) c.1 in
    (ap₂ (λ (x : Slot) (y : List Slot). x ∷ y) c.0 d.0, d.1)

-- names in place, in two parts
pub placed-cut : (at : ℕ) (x y : List Slot) → NamesLie at (x ++ y) → NamesLie at x × NamesLie (at + length (laid x)) y
unfolding laid NamesLie
placed-cut at [] y p = (tt, subst (λ (k : ℕ). NamesLie k y) (let e : at ≡ at + 0 = omega arith in e) p)
placed-cut at (i ∷ x) y p =
    let c = placed-cut (at + length (slot_bytes i)) x y p.1 in
    let e : at + length (slot_bytes i) + length (gather slot_bytes x) ≡ at + length (slot_bytes i ++ gather slot_bytes x) = (let k = length-append (slot_bytes i) (gather slot_bytes x) in omega arith) in
    ((p.0, c.0), subst (λ (k : ℕ). NamesLie k y) e c.1)
