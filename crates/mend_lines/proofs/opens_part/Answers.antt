-- `mend_lines::opens_part` meets its contract. Assumes nothing.
use mathlib.Core.Path.{◌≡◌, sym, ap}
use mathlib.Core.Bool.{true}
use mathlib.Core.Logic.{◌⊎◌, inl, inr}
use Prim.Native.Nat.{ℕ}
use native.Mathlib.Omega.{arith}
use borrow.Author.Tests.{ne_eqb}
use Rattle.mend_lines.specs.Forward.{opens_of}
use Rattle.mend_lines.proofs.opens_part.Goals as goal

one-of : (k : ℕ) → (k ≡ 5) ⊎ ((k ≡ 9) ⊎ ((k ≡ 18) ⊎ ((k ≡ 22) ⊎ (k ≡ 25)))) → true ≡ opens_of k
unfolding opens_of
one-of k (inl e) = sym (ap opens_of e)
one-of k (inr (inl e)) = sym (ap opens_of e)
one-of k (inr (inr (inl e))) = sym (ap opens_of e)
one-of k (inr (inr (inr (inl e)))) = sym (ap opens_of e)
one-of k (inr (inr (inr (inr e)))) = sym (ap opens_of e)

pub returns-in-5 : goal.returns-in-5
returns-in-5 c = one-of c.args.kind c.in-5.is

pub returns-in_default : goal.returns-in_default
unfolding opens_of
returns-in_default c = let k = c.args.kind in rw (ne_eqb k 5 (λ (e : k ≡ 5). grind arith), ne_eqb k 9 (λ (e : k ≡ 9). grind arith), ne_eqb k 18 (λ (e : k ≡ 18). grind arith), ne_eqb k 22 (λ (e : k ≡ 22). grind arith), ne_eqb k 25 (λ (e : k ≡ 25). grind arith))
