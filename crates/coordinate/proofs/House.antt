-- Laws of the house spelling of coordinates: it spells its value, nothing else does (but `-0.000000` for 0), and what it is made of.
-- Assumes nothing.
use Rattle.std.specs.Prelude.{Some}
use mathlib.Core.Path.{◌≡◌, refl, sym, ap, ◌∙◌}
use mathlib.Core.List.{◌++◌, append_assoc}
use mathlib.Core.Bool.{Bool, true, false}
use mathlib.Core.Logic.{◌⊎◌, inl, inr}
use Prim.Native.Nat.{ℕ, zero, suc, ◌+◌, ◌*◌, ◌/◌, ◌%◌, ◌≤◌}
use native.Mathlib.Omega.{arith}
use lib.IntN.{ℤ, pos, negsuc, neg_ℤ, nat_abs}
use lib.ListN.{length, length-append}
use Rattle.terms.specs.Ascii.{Bytes, ascii}
use Rattle.scan.specs.Allowed.{all}
use Rattle.scan.proofs.Bytes.{all_append}
use Rattle.number.specs.Decimal.{spell, decimal, padded}
use Rattle.number.specs.House.{number_byte}
use Rattle.number.proofs.Digits.{plain-long}
use Rattle.number.proofs.Decimals.{decimal-plain, decimal-short, padded-is}
use Rattle.number.proofs.House.{digits_number, dot-number, minus_number, decimal-number}
use Rattle.coordinate.specs.Spelling.{SpellsCoordinate}
use Rattle.coordinate.specs.Sign.{sign, signed}
use Rattle.coordinate.specs.House.{house_degrees, house_coordinate}
use Rattle.coordinate.specs.Executable.{the_coordinate_of}
use Rattle.coordinate.proofs.Coordinates.{coordinate-only, coordinate-same, spelled-bound, minus_zero}

pub house-coordinate_spells : (z : ℤ) → nat_abs z ≤ 999999999 → SpellsCoordinate (house_coordinate z) z
unfolding house_coordinate house_degrees ascii
house-coordinate_spells (pos m) h =
    let e : m ≡ m / 1000000 * 1000000 + m % 1000000 = omega arith in
    record {
      minus = false;
      degrees = m / 1000000;
      millionths = m % 1000000;
      three_digits = omega arith;
      six_digits = omega arith;
      spelled = refl;
      counted = ap pos e;
    }
house-coordinate_spells (negsuc m) h =
    let e : suc m ≡ suc m / 1000000 * 1000000 + suc m % 1000000 = omega arith in
    record {
      minus = true;
      degrees = suc m / 1000000;
      millionths = suc m % 1000000;
      three_digits = omega arith;
      six_digits = omega arith;
      spelled = refl;
      counted = ap (λ (k : ℕ). neg_ℤ (pos k)) e;
    }

pub house-coordinate-reads : (z : ℤ) → nat_abs z ≤ 999999999 → the_coordinate_of (house_coordinate z) ≡ Some z
house-coordinate-reads z h = coordinate-only (house_coordinate z) z (house-coordinate_spells z h)

pub house-coordinate-same : (y z : ℤ) → nat_abs y ≤ 999999999 → nat_abs z ≤ 999999999 → house_coordinate y ≡ house_coordinate z → y ≡ z
house-coordinate-same y z h g e = coordinate-same (house_coordinate y) y z (house-coordinate_spells y h) (rw e (house-coordinate_spells z g))

-- the degrees and the millionths that make a count
degrees-of : (a b : ℕ) → b ≤ 999999 → decimal a ++ ascii "." ++ padded 6 b ≡ house_degrees (a * 1000000 + b)
unfolding house_degrees
degrees-of a b h =
    let q : (a * 1000000 + b) / 1000000 ≡ a = omega arith in
    let r : (a * 1000000 + b) % 1000000 ≡ b = omega arith in
    rw (q, r)

minus-degrees_zero : ascii "-" ++ house_degrees 0 ≡ ascii "-0.000000"
unfolding ascii house_degrees decimal spell padded
minus-degrees_zero = refl

-- every value has one spelling, its house spelling; 0 has one more
pub house-coordinate-one : (s : Bytes) (z : ℤ) → SpellsCoordinate s z → (s ≡ house_coordinate z) ⊎ ((s ≡ ascii "-0.000000") × (z ≡ pos 0))
unfolding house_coordinate
house-coordinate-one s z h =
    go h.minus (h.degrees * 1000000 + h.millionths)
    (h.spelled ∙ spread h.minus h.degrees h.millionths h.six_digits)
    h.counted
  where
    spread : (minus : Bool) (a b : ℕ) → b ≤ 999999 → sign minus ++ decimal a ++ ascii "." ++ padded 6 b ≡ sign minus ++ house_degrees (a * 1000000 + b)
    spread true a b h = simp append_assoc (ap (λ (l : Bytes). ascii "-" ++ l) (sym (append_assoc (decimal a) (ascii ".") (padded 6 b)) ∙ degrees-of a b h))
    spread false a b h = degrees-of a b h

    go : (minus : Bool) (m : ℕ) → s ≡ sign minus ++ house_degrees m → z ≡ signed minus m → (s ≡ house_coordinate z) ⊎ ((s ≡ ascii "-0.000000") × (z ≡ pos 0))
    go false m e v = inl (rw v e)
    go true zero e v = inr (e ∙ minus-degrees_zero, v)
    go true (suc m) e v = inl (rw v e)

-- so what is not 0 has no other
pub house-coordinate-other : (s : Bytes) (z : ℤ) → SpellsCoordinate s z → (z ≡ pos 0 → ⊥) → s ≡ house_coordinate z
house-coordinate-other s z h n = go (house-coordinate-one s z h)
  where
    go : (s ≡ house_coordinate z) ⊎ ((s ≡ ascii "-0.000000") × (z ≡ pos 0)) → s ≡ house_coordinate z
    go (inl e) = e
    go (inr p) = absurd (n p.1)

-- 01: "`0.000000` has no sign"
pub house_zero : house_coordinate (pos 0) ≡ ascii "0.000000"
unfolding ascii house_coordinate house_degrees decimal spell padded
house_zero = refl

differs : ascii "0.000000" ≡ ascii "-0.000000" → ⊥
unfolding ascii
differs e = let q : ◌≡◌ {A = ℕ} 48 45 = cc in omega arith

pub house-no-minus_zero : (z : ℤ) → nat_abs z ≤ 999999999 → house_coordinate z ≡ ascii "-0.000000" → ⊥
house-no-minus_zero z h e =
    let q : z ≡ pos 0 = coordinate-same (house_coordinate z) z (pos 0) (house-coordinate_spells z h) (rw e minus_zero) in
    differs (sym house_zero ∙ ap house_coordinate (sym q) ∙ e)

degrees-number : (m : ℕ) → all number_byte (house_degrees m) ≡ true
unfolding house_degrees
degrees-number m =
    let p = padded-is 6 (m % 1000000) (omega arith) in
    all_append number_byte (decimal (m / 1000000) ++ ascii ".") (padded 6 (m % 1000000))
    (all_append number_byte (decimal (m / 1000000)) (ascii ".") (decimal-number (m / 1000000)) dot-number)
    (digits_number (padded 6 (m % 1000000)) p.digs)

pub house-coordinate-bytes : (z : ℤ) → all number_byte (house_coordinate z) ≡ true
unfolding house_coordinate
house-coordinate-bytes (pos m) = degrees-number m
house-coordinate-bytes (negsuc m) = all_append number_byte (ascii "-") (house_degrees (suc m)) minus_number (degrees-number (suc m))

degrees-short : (m : ℕ) → m ≤ 999999999 → length (house_degrees m) ≤ 10
unfolding house_degrees ascii
degrees-short m h =
    let p = padded-is 6 (m % 1000000) (omega arith) in
    let l : length (padded 6 (m % 1000000)) ≡ 6 = p.long in
    simp length-append (omega (arith, decimal-short 2 (m / 1000000) (omega arith)))

pub house-coordinate-short : (z : ℤ) → nat_abs z ≤ 999999999 → length (house_coordinate z) ≤ 11
unfolding house_coordinate ascii
house-coordinate-short (pos m) h = omega (arith, degrees-short m h)
house-coordinate-short (negsuc m) h = omega (arith, degrees-short (suc m) h)

-- it has at least eight bytes
degrees-long : (m : ℕ) → 8 ≤ length (house_degrees m)
unfolding house_degrees ascii
degrees-long m =
    let p = padded-is 6 (m % 1000000) (omega arith) in
    let l : length (padded 6 (m % 1000000)) ≡ 6 = p.long in
    simp length-append (omega (arith, plain-long (decimal (m / 1000000)) (decimal-plain (m / 1000000))))

pub house-coordinate-long : (z : ℤ) → 8 ≤ length (house_coordinate z)
unfolding house_coordinate ascii
house-coordinate-long (pos m) = degrees-long m
house-coordinate-long (negsuc m) = omega (arith, degrees-long (suc m))

-- ## So of every field that spells one
module _ (s : Bytes) (z : ℤ) (h : SpellsCoordinate s z) where
  pub coordinate-short : length s ≤ 11
  unfolding ascii
  coordinate-short = go (house-coordinate-one s z h)
    where
      go : (s ≡ house_coordinate z) ⊎ ((s ≡ ascii "-0.000000") × (z ≡ pos 0)) → length s ≤ 11
      go (inl e) = rw e (house-coordinate-short z (spelled-bound s z h))
      go (inr p) = rw p.0 (omega arith)

  pub coordinate-long : 8 ≤ length s
  unfolding ascii
  coordinate-long = go (house-coordinate-one s z h)
    where
      go : (s ≡ house_coordinate z) ⊎ ((s ≡ ascii "-0.000000") × (z ≡ pos 0)) → 8 ≤ length s
      go (inl e) = rw e (house-coordinate-long z)
      go (inr p) = rw p.0 (omega arith)

  pub coordinate-bytes : all number_byte s ≡ true
  unfolding ascii all
  coordinate-bytes = go (house-coordinate-one s z h)
    where
      go : (s ≡ house_coordinate z) ⊎ ((s ≡ ascii "-0.000000") × (z ≡ pos 0)) → all number_byte s ≡ true
      go (inl e) = rw e (house-coordinate-bytes z)
      go (inr p) = rw p.0
