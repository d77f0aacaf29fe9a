-- Laws of packed numbers: their length, their bytes, and that two numbers never share them. Assumes nothing.
use mathlib.Core.Path.{◌≡◌, refl, sym, ap, ◌∙◌}
use mathlib.Core.List.{[], ◌∷◌, ◌++◌}
use Prim.Native.Nat.{ℕ, zero, suc, ◌^◌, ◌/◌, ◌%◌, ◌<◌}
use native.Mathlib.Omega.{arith}
use native.Mathlib.Nat.{pow-suc}
use lib.ListN.{length, take, drop, length-append}
use lib.Seq.{take_at, drop_at}
use mir.Syntax.{w16, w32}
use Rattle.std.specs.Int.{to_be_bytes}
use Rattle.terms.specs.Words.{Each}
use Rattle.terms.proofs.Lists.{each_append}
use Rattle.output.specs.Packed.{big_endian}

-- ## By their bytes
pub packed-two : (n : ℕ) → n < 65536 → big_endian 2 n ≡ (n / 256 ∷ []) ++ (n % 256 ∷ [])
unfolding big_endian
packed-two n h = let e : n / 256 % 256 ≡ n / 256 = omega arith in rw e

-- ## As the library gives their bytes
pub bytes-two : (n : ℕ) → to_be_bytes w16 n ≡ big_endian 2 n
unfolding big_endian
bytes-two n = refl

pub bytes_four : (n : ℕ) → to_be_bytes w32 n ≡ big_endian 4 n
unfolding big_endian
bytes_four n =
    let a : n / 16777216 % 256 ≡ n / 256 / 256 / 256 % 256 = omega arith in
    let b : n / 65536 % 256 ≡ n / 256 / 256 % 256 = omega arith in
    rw (← a, ← b)

-- ## What they are
pub packed-long : (k n : ℕ) → length (big_endian k n) ≡ k
unfolding big_endian
packed-long zero n = refl
packed-long (suc k) n = simp length-append (omega (arith, packed-long k (n / 256)))

pub packed-bytes : (k n : ℕ) → Each (λ (b : ℕ). b < 256) (big_endian k n)
unfolding big_endian
packed-bytes zero n = tt
packed-bytes (suc k) n = each_append (λ (b : ℕ). b < 256) (big_endian k (n / 256)) (n % 256 ∷ []) (packed-bytes k (n / 256)) (omega arith, tt)

-- ## Two numbers of so many bytes never share them
pub packed-same : (k m n : ℕ) → m < 256 ^ k → n < 256 ^ k → big_endian k m ≡ big_endian k n → m ≡ n
unfolding big_endian
packed-same zero m n a b e = omega arith
packed-same (suc k) m n a b e =
    let low : (m % 256 ∷ []) ≡ (n % 256 ∷ []) = sym (drop_at (big_endian k (m / 256)) (m % 256 ∷ []) k (packed-long k (m / 256))) ∙ ap (drop k) e ∙ drop_at (big_endian k (n / 256)) (n % 256 ∷ []) k (packed-long k (n / 256)) in
    let high : big_endian k (m / 256) ≡ big_endian k (n / 256) = sym (take_at (big_endian k (m / 256)) (m % 256 ∷ []) k (packed-long k (m / 256))) ∙ ap (take k) e ∙ take_at (big_endian k (n / 256)) (n % 256 ∷ []) k (packed-long k (n / 256)) in
    let i = packed-same k (m / 256) (n / 256) (omega (arith, pow-suc 256 k)) (omega (arith, pow-suc 256 k)) high in
    let j : m % 256 ≡ n % 256 = cc in
    omega arith
