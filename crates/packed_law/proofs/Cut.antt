-- What is not 28: bytes of which a length is cut short, is not the count of what follows, or runs past the end. Assumes nothing.
use mathlib.Core.Path.{◌≡◌, sym, ap, subst, ◌∙◌}
use mathlib.Core.List.{[], ◌∷◌, ◌++◌, tail-eq_of_cons-eq}
use Prim.Native.Nat.{ℕ, ◌<◌, ◌^◌}
use native.Mathlib.Omega.{arith}
use lib.ListN.{length, length-append, take, drop}
use lib.Seq.{take_at, drop_at}
use Rattle.terms.specs.Ascii.{Bytes}
use Rattle.output.specs.Packed.{big_endian}
use Rattle.output.proofs.Packed.{packed-long, packed-same}
use Rattle.packed_law.specs.Packed.{AreRecords, nothing, more, LengthsRight}

-- a number in so many bytes, and what follows
number_cut : (k m m' : ℕ) (r r' : Bytes) → m < 256 ^ k → m' < 256 ^ k → big_endian k m ++ r ≡ big_endian k m' ++ r' → (m ≡ m') × (r ≡ r')
number_cut k m m' r r' f f' e = (
  packed-same k m m' f f' (sym (take_at (big_endian k m) r k (packed-long k m)) ∙ ap (take k) e ∙ take_at (big_endian k m') r' k (packed-long k m')),
  sym (drop_at (big_endian k m) r k (packed-long k m)) ∙ ap (drop k) e ∙ drop_at (big_endian k m') r' k (packed-long k m'),
)

-- fewer bytes than version and first length have
pub too_few : (bytes : Bytes) → length bytes < 5 → LengthsRight bytes → ⊥
too_few bytes h x =
    let a = ap length x.is in
    let b = length-append (big_endian 4 (length x.behind)) x.behind in
    let c = packed-long 4 (length x.behind) in
    omega arith

-- what follows the first length
behind-is : (v k : ℕ) (rest : Bytes) (x : LengthsRight (v ∷ big_endian 4 k ++ rest)) → rest ≡ x.behind
behind-is v k rest x =
    let w = x.behind in
    sym (drop_at (big_endian 4 k) rest 4 (packed-long 4 k)) ∙ ap (drop 4) (tail-eq_of_cons-eq x.is) ∙ drop_at (big_endian 4 (length w)) w 4 (packed-long 4 (length w))

-- a first length that is not the count of the bytes behind it
pub wrong-length : (v k : ℕ) (rest : Bytes) → k < 256 ^ 4 → length rest < 256 ^ 4 → (k ≡ length rest → ⊥) → LengthsRight (v ∷ big_endian 4 k ++ rest) → ⊥
wrong-length v k rest a b differs x =
    let e = behind-is v k rest x in
    differs (number_cut 4 k (length rest) rest rest a b (tail-eq_of_cons-eq x.is ∙ ap (λ (w : Bytes). big_endian 4 (length w) ++ w) (sym e))).0

pub are-records : (v k : ℕ) (rest : Bytes) → LengthsRight (v ∷ big_endian 4 k ++ rest) → AreRecords rest
are-records v k rest x = subst AreRecords (sym (behind-is v k rest x)) x.each

-- a record's length that is cut short
pub no_length : (b : ℕ) (bytes : Bytes) → bytes ≡ b ∷ [] → AreRecords bytes → ⊥
no_length b bytes e nothing = let a = ap length e in omega arith
no_length b bytes e (more this rest s r) =
    let a = ap length e in
    let c = length-append (big_endian 2 (length this)) (this ++ rest) in
    let d = packed-long 2 (length this) in
    omega arith

-- a record that runs past the end
pub past_the_end : (k : ℕ) (left bytes : Bytes) → k < 65536 → length left < k → bytes ≡ big_endian 2 k ++ left → AreRecords bytes → ⊥
past_the_end k left bytes h l e nothing =
    let a = ap length e in
    let b = length-append (big_endian 2 k) left in
    let c = packed-long 2 k in
    omega arith
past_the_end k left bytes h l e (more this rest s r) =
    let c = number_cut 2 (length this) k (this ++ rest) left (omega arith) (omega arith) e in
    let a = c.0 in
    let b = ap length c.1 in
    let d = length-append this rest in
    omega arith
