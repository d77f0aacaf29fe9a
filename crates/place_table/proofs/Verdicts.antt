-- What a verdict says of the number. Assumes nothing.
use Rattle.std.specs.Prelude.{⊤, Ok, Err, Result}
use mathlib.Core.Path.{◌≡◌, refl}
use mathlib.Core.Bool.{false}
use Prim.Native.Nat.{ℕ, zero, suc}
use native.Mathlib.Omega.{arith}
use lib.Dec.{eqb}
use borrow.Author.Tests.{ne_eqb}
use Rattle.place_table.specs.Verdicts.{verdict_of}

pub none-refuses : (n : ℕ) (v : Result ⊤ ℕ) → v ≡ verdict_of n → v ≡ Ok tt → n ≡ 0
unfolding verdict_of
none-refuses zero v is e = refl
none-refuses (suc n) v is e =
    let f : eqb (suc n) 0 ≡ false = ne_eqb (suc n) 0 (λ h. omega arith) in
    let r : v ≡ Err (suc n) = rw f at is in
    absurd (let z : ◌≡◌ {A = ℕ} 0 1 = cc in omega arith)

pub refused-by : (n m : ℕ) (v : Result ⊤ ℕ) → v ≡ verdict_of n → v ≡ Err m → (n ≡ m) × (n ≡ 0 → ⊥)
unfolding verdict_of
refused-by zero m v is e = absurd (let r : v ≡ Ok tt = is in let z : ◌≡◌ {A = ℕ} 0 1 = cc in omega arith)
refused-by (suc n) m v is e =
    let f : eqb (suc n) 0 ≡ false = ne_eqb (suc n) 0 (λ h. omega arith) in
    let r : v ≡ Err (suc n) = rw f at is in
    let same : suc n ≡ m = cc in
    (same, λ h. omega arith)
