-- Laws of the house spelling of integers and identifiers: it spells its value, nothing else does, and what it is made of.
-- Assumes nothing.
use Rattle.std.specs.Prelude.{Some}
use mathlib.Core.Path.{◌≡◌, refl, sym, ap, ◌∙◌}
use mathlib.Core.List.{[], ◌∷◌, ◌++◌, append_assoc, append-nil}
use mathlib.Core.Bool.{Bool, true, false, ◌||◌}
use Prim.Native.Nat.{ℕ, ◌≤◌, ◌<◌}
use native.Mathlib.Omega.{arith}
use borrow.Author.Tests.{le-leb, eqb-true, ne_eqb}
use lib.ListN.{length, length-append}
use lib.Dec.{eqb}
use Rattle.terms.specs.Ascii.{Bytes, ascii}
use Rattle.scan.specs.Allowed.{digit, field_byte, all}
use Rattle.scan.specs.Reach.{begins}
use Rattle.terms.proofs.Tests.{both}
use Rattle.scan.proofs.Bytes.{all_imp, all_append}
use Rattle.number.specs.Decimal.{decimal}
use Rattle.number.specs.Spelling.{SpellsInteger, SpellsPair, SpellsTriple}
use Rattle.number.specs.House.{number_byte, house_integer, house_pair, house_triple}
use Rattle.number.specs.Executable.{digits, the_integer_of, the_pair_of, triple_of}
use Rattle.number.specs.declared.Id.{Id}
use Rattle.number.proofs.Digits.{digit-range, plain-long}
use Rattle.number.proofs.Decimals.{decimal-same, decimal-digits, decimal-plain, decimal-short}
use Rattle.number.proofs.Integers.{integer-only}
use Rattle.number.proofs.Identifiers.{pair-only, pair_same, triple-only, triple-same}

-- ## What the house spellings are made of
-- they are bytes of a field
pub number-field : (b : ℕ) → number_byte b ≡ true → field_byte b ≡ true
number-field b e = go (digit b) (eqb b 46) refl refl e
  where
    go : (x y : Bool) → digit b ≡ x → eqb b 46 ≡ y → (x || (y || eqb b 45)) ≡ true → field_byte b ≡ true
    go true y d f e =
        let r = digit-range b d in
        rw (le-leb 33 b (omega arith), le-leb b 126 (omega arith), ne_eqb b 92 (λ (q : b ≡ 92). omega arith), ne_eqb b 42 (λ (q : b ≡ 42). omega arith))
    go false true d f e = rw (eqb-true b 46 f)
    go false false d f e = rw (eqb-true b 45 e)

pub numbers-field : (l : Bytes) → all number_byte l ≡ true → all field_byte l ≡ true
numbers-field l e = all_imp number_byte field_byte number-field l e

pub digits_number : (l : Bytes) → digits l ≡ true → all number_byte l ≡ true
digits_number l e = all_imp digit number_byte (λ (b : ℕ) (e : digit b ≡ true). rw e) l e

pub dot-number : all number_byte (ascii ".") ≡ true
unfolding ascii all
dot-number = refl

pub minus_number : all number_byte (ascii "-") ≡ true
unfolding ascii all
minus_number = refl

pub decimal-number : (n : ℕ) → all number_byte (decimal n) ≡ true
decimal-number n = digits_number (decimal n) (decimal-digits n)

-- digits come first
digits-first : (l r : Bytes) → 0 < length l → digits l ≡ true → begins digit (l ++ r) ≡ true
unfolding begins all
digits-first [] r h e = absurd (omega arith)
digits-first (b ∷ l) r h e = (both (digit b) (all digit l) e).0

decimal-first : (n : ℕ) (r : Bytes) → begins digit (decimal n ++ r) ≡ true
decimal-first n r = digits-first (decimal n) r (plain-long (decimal n) (decimal-plain n)) (decimal-digits n)

decimal-five : (n : ℕ) → n ≤ 99999 → length (decimal n) ≤ 5
decimal-five n h = decimal-short 4 n (omega arith)

-- ## Integers
module _ (n : ℕ) where
  pub house-integer_spells : n ≤ 99999 → SpellsInteger (house_integer n) n
  unfolding house_integer
  house-integer_spells h = record { spelled = refl; five_digits = h }

  pub house-integer-reads : n ≤ 99999 → the_integer_of (house_integer n) ≡ Some n
  house-integer-reads h = integer-only (house_integer n) n (house-integer_spells h)

  pub house-integer-one : (s : Bytes) → SpellsInteger s n → s ≡ house_integer n
  unfolding house_integer
  house-integer-one s h = h.spelled

  pub house-integer-short : n ≤ 99999 → length (house_integer n) ≤ 5
  unfolding house_integer
  house-integer-short h = decimal-five n h

  pub house-integer-bytes : all number_byte (house_integer n) ≡ true
  unfolding house_integer
  house-integer-bytes = decimal-number n

  pub house-integer-first : begins digit (house_integer n) ≡ true
  unfolding house_integer
  house-integer-first = ap (begins digit) (sym (append-nil (decimal n))) ∙ decimal-first n []

pub house-integer-same : (m n : ℕ) → house_integer m ≡ house_integer n → m ≡ n
unfolding house_integer
house-integer-same m n e = decimal-same m n e

-- ## Pairs
module _ (m n : ℕ) where
  pub house-pair_spells : m ≤ 99999 → n ≤ 99999 → SpellsPair (house_pair m n) m n
  unfolding house_pair
  house-pair_spells h g = record { spelled = refl; m_five_digits = h; n_five_digits = g }

  pub house-pair-reads : m ≤ 99999 → n ≤ 99999 → the_pair_of (house_pair m n) ≡ Some (m, n)
  house-pair-reads h g = pair-only (house_pair m n) m n (house-pair_spells h g)

  pub house-pair-one : (s : Bytes) → SpellsPair s m n → s ≡ house_pair m n
  unfolding house_pair
  house-pair-one s h = h.spelled

  pub house-pair-short : m ≤ 99999 → n ≤ 99999 → length (house_pair m n) ≤ 11
  unfolding house_pair ascii
  house-pair-short h g = simp length-append (omega (arith, decimal-five m h, decimal-five n g))

  pub house-pair-bytes : all number_byte (house_pair m n) ≡ true
  unfolding house_pair
  house-pair-bytes = all_append number_byte (decimal m ++ ascii ".") (decimal n) (all_append number_byte (decimal m) (ascii ".") (decimal-number m) dot-number) (decimal-number n)

  pub house-pair-first : begins digit (house_pair m n) ≡ true
  unfolding house_pair
  house-pair-first = rw append_assoc (decimal-first m (ascii "." ++ decimal n))

  -- two values never share it
  pub house-pair-same : (m' n' : ℕ) → m ≤ 99999 → n ≤ 99999 → m' ≤ 99999 → n' ≤ 99999 → house_pair m n ≡ house_pair m' n' → (m ≡ m') × (n ≡ n')
  unfolding house_pair
  house-pair-same m' n' h g h' g' e = pair_same (house_pair m n) m n m' n' (house-pair_spells h g) (record { spelled = e; m_five_digits = h'; n_five_digits = g' })

-- ## Triples
module _ (x y z : ℕ) where
  pub house-triple_spells : x ≤ 99999 → y ≤ 99999 → z ≤ 99999 → SpellsTriple (house_triple x y z) x y z
  unfolding house_triple
  house-triple_spells h g k = record { spelled = refl; x_five_digits = h; y_five_digits = g; z_five_digits = k }

  pub house-triple-reads : x ≤ 99999 → y ≤ 99999 → z ≤ 99999 → triple_of (house_triple x y z) ≡ Some (record { x = x; y = y; z = z })
  house-triple-reads h g k = triple-only (house_triple x y z) x y z (house-triple_spells h g k)

  pub house-triple-one : (s : Bytes) → SpellsTriple s x y z → s ≡ house_triple x y z
  unfolding house_triple
  house-triple-one s h = h.spelled

  pub house-triple-short : x ≤ 99999 → y ≤ 99999 → z ≤ 99999 → length (house_triple x y z) ≤ 17
  unfolding house_triple ascii
  house-triple-short h g k = simp length-append (omega (arith, decimal-five x h, decimal-five y g, decimal-five z k))

  pub house-triple-bytes : all number_byte (house_triple x y z) ≡ true
  unfolding house_triple house_pair
  house-triple-bytes =
      all_append number_byte (house_pair x y ++ ascii ".") (decimal z) (all_append number_byte (house_pair x y) (ascii ".") (house-pair-bytes x y) dot-number) (decimal-number z)

  pub house-triple-first : begins digit (house_triple x y z) ≡ true
  unfolding house_triple
  house-triple-first = simp append_assoc (decimal-first x (ascii "." ++ (decimal y ++ (ascii "." ++ decimal z))))

pub house-triple-same : (i j : Id) → i.x ≤ 99999 → i.y ≤ 99999 → i.z ≤ 99999 → j.x ≤ 99999 → j.y ≤ 99999 → j.z ≤ 99999 → house_triple i.x i.y i.z ≡ house_triple j.x j.y j.z → i ≡ j
unfolding house_triple
house-triple-same i j h g k h' g' k' e =
    triple-same (house_triple i.x i.y i.z) i j (house-triple_spells i.x i.y i.z h g k) (record { spelled = e; x_five_digits = h'; y_five_digits = g'; z_five_digits = k' })

-- ## So of every field that spells one
module _ (s : Bytes) (n : ℕ) (h : SpellsInteger s n) where
  pub integer-short : length s ≤ 5
  integer-short = rw (house-integer-one n s h) (house-integer-short n h.five_digits)

  pub integer-bytes : all number_byte s ≡ true
  integer-bytes = rw (house-integer-one n s h) (house-integer-bytes n)

  pub integer-first : begins digit s ≡ true
  integer-first = rw (house-integer-one n s h) (house-integer-first n)

module _ (s : Bytes) (m n : ℕ) (h : SpellsPair s m n) where
  pub pair-short : length s ≤ 11
  pair-short = rw (house-pair-one m n s h) (house-pair-short m n h.m_five_digits h.n_five_digits)

  pub pair-bytes : all number_byte s ≡ true
  pair-bytes = rw (house-pair-one m n s h) (house-pair-bytes m n)

  pub pair-first : begins digit s ≡ true
  pair-first = rw (house-pair-one m n s h) (house-pair-first m n)

module _ (s : Bytes) (x y z : ℕ) (h : SpellsTriple s x y z) where
  pub triple-short : length s ≤ 17
  triple-short = rw (house-triple-one x y z s h) (house-triple-short x y z h.x_five_digits h.y_five_digits h.z_five_digits)

  pub triple-bytes : all number_byte s ≡ true
  triple-bytes = rw (house-triple-one x y z s h) (house-triple-bytes x y z)

  pub triple-first : begins digit s ≡ true
  triple-first = rw (house-triple-one x y z s h) (house-triple-first x y z)
