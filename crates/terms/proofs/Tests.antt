-- Laws of tests: what a test that holds, or fails, tells. Assumes nothing.
use mathlib.Core.Path.{◌≡◌, refl, sym, ◌∙◌}
use mathlib.Core.Bool.{Bool, true, false, ◌&&◌, ◌||◌, true≢false, and-eq-true_iff}
use mathlib.Core.Option.{none, some}
use Prim.Native.Nat.{ℕ}
use native.Mathlib.Omega.{arith}

-- no test both holds and fails
pub clash : {X : Type 0} → true ≡ false → X
clash e = absurd (true≢false e)

-- nothing is not something
pub nothing : {A : Type 0} {X : Type 0} {v : A} → none ≡ some v → X
nothing e = absurd (let z : ◌≡◌ {A = ℕ} 0 1 = cc in omega arith)

-- a test that fails is none that holds
pub refused : {x : Bool} {A : Type 0} → (A → x ≡ true) → x ≡ false → A → ⊥
refused f e a = clash (sym (f a) ∙ e)

-- both tests hold where their conjunction does ..
pub both : (a b : Bool) → (a && b) ≡ true → (a ≡ true) × (b ≡ true)
both a b e = (and-eq-true_iff a b).0 e

-- .. and it holds where both do
pub and : {a b : Bool} → a ≡ true → b ≡ true → (a && b) ≡ true
and {a} {b} p q = (and-eq-true_iff a b).1 (p, q)

pub or_right : (a : Bool) {b : Bool} → b ≡ true → (a || b) ≡ true
or_right true e = refl
or_right false e = e
