-- Laws of the coordinate field. Assumes nothing.
use Rattle.std.specs.Prelude.{Some, None, Option}
use mathlib.Core.Path.{◌≡◌, refl, sym, ap, ◌∙◌}
use mathlib.Core.List.{[], ◌∷◌, ◌++◌, append_assoc}
use mathlib.Core.Bool.{Bool, true, false, ◌&&◌}
use Prim.Native.Nat.{ℕ, zero, suc, ◌+◌, ◌-◌, ◌*◌, ◌^◌, ◌≤◌, ◌<◌}
use native.Mathlib.Omega.{arith}
use native.Mathlib.Nat.{zero-add}
use native.Mathlib.Numerals.{add-one}
use borrow.Author.Tests.{ne_eqb, eqb-true, le-leb, leb-true}
use lib.IntN.{ℤ, pos, neg_ℤ, nat_abs}
use lib.ListN.{length, get_or, take, drop, length-append, length-drop}
use lib.Seq.{take-append_seam, drop-append-add, get_or-append_seam, split_at, length-take-le}
use lib.Dec.{leb, eqb}
use Rattle.terms.specs.Ascii.{Bytes, ascii}
use Rattle.terms.specs.Words.{pick}
use Rattle.scan.specs.Allowed.{digit, all}
use Rattle.terms.proofs.Tests.{clash, both}
use Rattle.number.specs.Decimal.{decimal, padded}
use Rattle.coordinate.specs.Spelling.{SpellsCoordinate}
use Rattle.coordinate.specs.Sign.{sign, signed}
use Rattle.coordinate.specs.Meaning.{CoordinateMeans}
use Rattle.number.specs.Executable.{worth, digits, plain, number_of, plain_of}
use Rattle.coordinate.specs.Executable.{Small, joined, the_millionths_of, with_sign, minus_first, the_coordinate_of}
use Rattle.number.proofs.Digits.{came, digit-range, worth_lt, digits-small, plain-digits, plain-long}
use Rattle.number.proofs.Decimals.{plain-decimal, decimal-worth, decimal-plain, decimal-short, padded-is, padded-back}

-- ## The unsigned part: degrees, a point and six digits
-- how a and b are spelled there
abbrev body : ℕ → ℕ → Bytes
body a b = decimal a ++ (46 ∷ padded 6 b)

number-back : (s : Bytes) (v : ℕ) → number_of s ≡ Some v → (s ≡ padded (length s) v) × (v < 10 ^ length s)
unfolding number_of padded
number-back s v e =
    let q = came (digits s) (worth 0 s) v e in
    (rw (← q.1) (sym (padded-back 0 (length s) 0 s (omega arith) q.0)), rw (← q.1) (rw zero-add at (worth_lt 0 0 s (omega arith) q.0)))

plain_back : (s : Bytes) (v : ℕ) → length s ≤ 3 → plain_of s ≡ Some v → (s ≡ decimal v) × (v < 1000)
unfolding plain_of
plain_back s v l e =
    let q = came (plain s) (worth 0 s) v e in
    let h : worth 0 s < 1000 = digits-small 3 s (plain-digits s q.0) l in
    (rw (← q.1) (plain-decimal s q.0), omega arith)

body-read : (a b : ℕ) → a ≤ 999 → b ≤ 999999 → the_millionths_of (body a b) ≡ Some (a * 1000000 + b)
unfolding the_millionths_of plain_of number_of
body-read a b h g =
    let p = padded-is 6 b (omega arith) in
    let d = decimal a in
    let l1 : length d ≤ 3 = decimal-short 2 a (omega arith) in
    let l0 : 0 < length d = plain-long d (decimal-plain a) in
    let n : length (d ++ (46 ∷ padded 6 b)) ≡ length d + 7 = simp length-append (omega (arith, p.long)) in
    let n7 : length (d ++ (46 ∷ padded 6 b)) - 7 ≡ length d = omega arith in
    rw (
      n7,
      le-leb (length (d ++ (46 ∷ padded 6 b))) 10 (omega arith),
      le-leb 8 (length (d ++ (46 ∷ padded 6 b))) (omega arith),
      get_or-append_seam,
      take-append_seam,
      drop-append-add,
      decimal-plain a,
      p.digs,
      decimal-worth a,
      p.value,
    )

record Body (s : Bytes) (m : ℕ) : Type 0 where
  whole : ℕ
  part : ℕ
  three : whole ≤ 999
  six : part ≤ 999999
  bytes : s ≡ body whole part
  count : m ≡ whole * 1000000 + part

body_back : (s : Bytes) (m : ℕ) → the_millionths_of s ≡ Some m → Body s m
unfolding the_millionths_of
body_back s m e = go (leb 8 (length s)) (leb (length s) 10) (eqb (get_or s (length s - 7) 0) 46) refl refl refl e
  where
    W : Option ℕ
    W = plain_of (take (length s - 7) s)

    F : Option ℕ
    F = number_of (drop (length s - 7 + 1) s)

    both : (a b : Option ℕ) → 8 ≤ length s → length s ≤ 10 → get_or s (length s - 7) 0 ≡ 46 → W ≡ a → F ≡ b → joined a b ≡ Some m → Body s m
    both (Some a) (Some b) l h g p q j =
        let k = length s - 7 in
        let tl : length (take k s) ≡ k = length-take-le k s (omega arith) in
        let x = plain_back (take k s) a (omega arith) p in
        let y = number-back (drop (k + 1) s) b q in
        let ld : length (drop (k + 1) s) ≡ 6 = omega (arith, length-drop (k + 1) s) in
        let y0 : drop (suc k) s ≡ padded 6 b = rw (ld, add-one) at y.0 in
        let bl : b < 1000000 = rw ld at y.1 in
        let al : a < 1000 = x.1 in
        record {
          whole = a;
          part = b;
          three = omega arith;
          six = omega arith;
          bytes = split_at s k 0 (omega arith) ∙ rw (x.0, g, y0);
          count = cc;
        }
    both (Some a) None l h g p q j = absurd (let z : ◌≡◌ {A = ℕ} 0 1 = cc in omega arith)
    both None b l h g p q j = absurd (let z : ◌≡◌ {A = ℕ} 0 1 = cc in omega arith)

    go : (x y z : Bool) → leb 8 (length s) ≡ x → leb (length s) 10 ≡ y → eqb (get_or s (length s - 7) 0) 46 ≡ z → pick (x && (y && z)) (joined W F) None ≡ Some m → Body s m
    go true true true p q r j = both W F (leb-true _ _ p) (leb-true _ _ q) (eqb-true _ _ r) refl refl j
    go true true false p q r j = absurd (let z : ◌≡◌ {A = ℕ} 0 1 = cc in omega arith)
    go true false z p q r j = absurd (let z : ◌≡◌ {A = ℕ} 0 1 = cc in omega arith)
    go false y z p q r j = absurd (let z : ◌≡◌ {A = ℕ} 0 1 = cc in omega arith)

-- what the sign's function asks
pub millionths-small : (s : Bytes) → Small (the_millionths_of s)
millionths-small s = go (the_millionths_of s) refl
  where
    go : (n : Option ℕ) → the_millionths_of s ≡ n → Small n
    go (Some m) e = let b = body_back s m e in let h : b.whole ≤ 999 = b.three in let g : b.part ≤ 999999 = b.six in let c : m ≡ b.whole * 1000000 + b.part = b.count in omega arith
    go None e = tt

pub small : (s : Bytes) (m : ℕ) → the_millionths_of s ≡ Some m → m ≤ 999999999
small s m e = let h : Small (Some m) = rw e at (millionths-small s) in h

-- ## The sign
first-digit : (l t : Bytes) → plain l ≡ true → eqb (get_or (l ++ t) 0 0) 45 ≡ false
unfolding all
first-digit [] t e = absurd (let q = plain-long [] e in omega arith)
first-digit (b ∷ l) t e =
    let p = both (digit b) (digits l) (plain-digits (b ∷ l) e) in
    let r = digit-range b p.0 in
    ne_eqb b 45 (λ q. omega arith)

spelled-body : (minus : Bool) (a b : ℕ) → sign minus ++ decimal a ++ ascii "." ++ padded 6 b ≡ sign minus ++ body a b
unfolding ascii
spelled-body true a b = ap (λ (l : Bytes). 45 ∷ l) (append_assoc (decimal a) (46 ∷ []) (padded 6 b))
spelled-body false a b = append_assoc (decimal a) (46 ∷ []) (padded 6 b)

body-signed : (minus : Bool) (a b : ℕ) → a ≤ 999 → b ≤ 999999 → the_coordinate_of (sign minus ++ body a b) ≡ Some (signed minus (a * 1000000 + b))
unfolding the_coordinate_of ascii
body-signed true a b h g = rw (body-read a b h g)
body-signed false a b h g = rw (first-digit (decimal a) (46 ∷ padded 6 b) (decimal-plain a), body-read a b h g)

coordinate-at : (minus : Bool) (a b : ℕ) → a ≤ 999 → b ≤ 999999 → the_coordinate_of (sign minus ++ decimal a ++ ascii "." ++ padded 6 b) ≡ Some (signed minus (a * 1000000 + b))
coordinate-at minus a b h g = ap the_coordinate_of (spelled-body minus a b) ∙ body-signed minus a b h g

minus-first : (s : Bytes) → minus_first s ≡ true → s ≡ 45 ∷ drop 1 s
minus-first [] e = clash (sym e)
minus-first (b ∷ t) e = rw (eqb-true b 45 e)

-- ## THE LAWS
-- the answer is right
pub coordinate-right : (s : Bytes) (z : ℤ) → the_coordinate_of s ≡ Some z → SpellsCoordinate s z
unfolding the_coordinate_of ascii
coordinate-right s z e = go (minus_first s) refl e
  where
    sees : (x : Bool) → minus_first s ≡ x → (n : Option ℕ) → the_millionths_of (pick x (drop 1 s) s) ≡ n → with_sign x n ≡ Some z → SpellsCoordinate s z
    sees x f None q j = absurd (let z : ◌≡◌ {A = ℕ} 0 1 = cc in omega arith)
    sees true f (Some m) q j =
        let b = body_back (drop 1 s) m q in
        let v : signed true m ≡ z = cc in
        record {
          minus = true;
          degrees = b.whole;
          millionths = b.part;
          three_digits = b.three;
          six_digits = b.six;
          spelled = minus-first s f ∙ ap (λ (l : Bytes). 45 ∷ l) b.bytes ∙ sym (spelled-body true b.whole b.part);
          counted = sym v ∙ ap (signed true) b.count;
        }
    sees false f (Some m) q j =
        let b = body_back s m q in
        let v : signed false m ≡ z = cc in
        record {
          minus = false;
          degrees = b.whole;
          millionths = b.part;
          three_digits = b.three;
          six_digits = b.six;
          spelled = b.bytes ∙ sym (spelled-body false b.whole b.part);
          counted = sym v ∙ ap (signed false) b.count;
        }

    go : (x : Bool) → minus_first s ≡ x → with_sign x (the_millionths_of (pick x (drop 1 s) s)) ≡ Some z → SpellsCoordinate s z
    go x f j = sees x f (the_millionths_of (pick x (drop 1 s) s)) refl j

-- only this answer is right
pub coordinate-only : (s : Bytes) (z : ℤ) → SpellsCoordinate s z → the_coordinate_of s ≡ Some z
coordinate-only s z h =
    ap the_coordinate_of h.spelled ∙ coordinate-at h.minus h.degrees h.millionths h.three_digits h.six_digits ∙ ap Some (sym h.counted)

-- `None` exactly if no value is spelled
pub coordinate-no : (s : Bytes) → the_coordinate_of s ≡ None → (z : ℤ) → SpellsCoordinate s z → ⊥
coordinate-no s e z h = let q : ◌≡◌ {A = Option ℤ} (Some z) None = sym (coordinate-only s z h) ∙ e in let w : ◌≡◌ {A = ℕ} 0 1 = cc in omega arith

pub coordinate-none : (s : Bytes) → ((z : ℤ) → SpellsCoordinate s z → ⊥) → the_coordinate_of s ≡ None
coordinate-none s f = go (the_coordinate_of s) refl
  where
    go : (r : Option ℤ) → the_coordinate_of s ≡ r → r ≡ None
    go (Some z) e = absurd (f z (coordinate-right s z e))
    go None e = refl

-- two values never share a spelling
pub coordinate-same : (s : Bytes) (y z : ℤ) → SpellsCoordinate s y → SpellsCoordinate s z → y ≡ z
coordinate-same s y z g h = let q : Some y ≡ Some z = sym (coordinate-only s y g) ∙ coordinate-only s z h in cc

-- the meaning of the answer, and that no other answer has it
pub coordinate-means : (s : Bytes) → CoordinateMeans s (the_coordinate_of s)
unfolding CoordinateMeans
coordinate-means s = go (the_coordinate_of s) refl
  where
    go : (r : Option ℤ) → the_coordinate_of s ≡ r → CoordinateMeans s r
    go (Some z) e = coordinate-right s z e
    go None e = coordinate-no s e

pub coordinate-meant : (s : Bytes) (r : Option ℤ) → CoordinateMeans s r → r ≡ the_coordinate_of s
unfolding CoordinateMeans
coordinate-meant s (Some z) h = sym (coordinate-only s z h)
coordinate-meant s None h = sym (coordinate-none s h)

-- a raw coordinate has at most nine digits
pub spelled-bound : (s : Bytes) (z : ℤ) → SpellsCoordinate s z → nat_abs z ≤ 999999999
spelled-bound s z h = go h.minus (h.degrees * 1000000 + h.millionths) h.counted (omega (arith, h.three_digits, h.six_digits))
  where
    go : (minus : Bool) (m : ℕ) → z ≡ signed minus m → m ≤ 999999999 → nat_abs z ≤ 999999999
    go false m e l = rw e l
    go true zero e l = rw e l
    go true (suc m) e l = rw e l

pub coordinate-bound : (s : Bytes) (z : ℤ) → the_coordinate_of s ≡ Some z → nat_abs z ≤ 999999999
coordinate-bound s z e = spelled-bound s z (coordinate-right s z e)

-- ## Easy to get wrong
-- 01: "`-0.500000` is -500,000"
half-read : the_coordinate_of (ascii "-0.500000") ≡ Some (neg_ℤ (pos 500000))
unfolding ascii the_coordinate_of the_millionths_of plain_of number_of plain worth all
half-read = refl

pub half-a-degree : SpellsCoordinate (ascii "-0.500000") (neg_ℤ (pos 500000))
half-a-degree = coordinate-right (ascii "-0.500000") (neg_ℤ (pos 500000)) half-read

-- 01: "`-0.000000` reads as 0"
minus_zero-read : the_coordinate_of (ascii "-0.000000") ≡ Some (pos 0)
unfolding ascii the_coordinate_of the_millionths_of plain_of number_of plain worth all
minus_zero-read = refl

pub minus_zero : SpellsCoordinate (ascii "-0.000000") (pos 0)
minus_zero = coordinate-right (ascii "-0.000000") (pos 0) minus_zero-read
