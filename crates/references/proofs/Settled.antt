-- No second answer: what an answer stands for tells the answer. So the contracts that read `found r ≡ ..` and `told r t ≡ ..` leave one answer. Assumes nothing.
use Rattle.std.specs.Prelude.{Some, None}
use mathlib.Core.Path.{◌≡◌, refl, sym, ap, ◌∙◌}
use mathlib.Core.List.{List}
use mathlib.Core.Option.{Option}
use Prim.Native.Nat.{ℕ}
use native.Mathlib.Omega.{arith}
use Rattle.terms.proofs.Tests.{nothing}
use Rattle.references.specs.Finding.{found}
use Rattle.references.specs.Exits.{Outcome, done, at, told}
use Rattle.std.specs.Prelude as Rust

pub one_found : (a b : Rust.Option ℕ) → found a ≡ found b → a ≡ b
one_found (Some i) (Some j) e = let q : i ≡ j = cc in ap Some q
one_found (Some i) None e = nothing (sym e)
one_found None (Some j) e = nothing e
one_found None None e = refl

-- `resolve` and `named_at`: at most one answer satisfies the contract
pub found-settled : (o : Option ℕ) (a b : Rust.Option ℕ) → found a ≡ o → found b ≡ o → a ≡ b
found-settled o a b e f = one_found a b (e ∙ sym f)

apart : {X : Type 0} (t : List ℕ) (i : ℕ) → done t ≡ at i → X
apart t i e = absurd (let z : ◌≡◌ {A = ℕ} 0 1 = cc in omega arith)

pub one_told : (a b : Rust.Option ℕ) (t u : List ℕ) → told a t ≡ told b u → a ≡ b
one_told (Some i) (Some j) t u e = let q : i ≡ j = cc in ap Some q
one_told (Some i) None t u e = apart u i (sym e)
one_told None (Some j) t u e = apart t j e
one_told None None t u e = refl

-- `resolve_exits`: at most one answer, and the table is given by the second clause
pub told-settled : (o : Outcome) (a b : Rust.Option ℕ) (t u : List ℕ) → told a t ≡ o → told b u ≡ o → a ≡ b
told-settled o a b t u e f = one_told a b t u (e ∙ sym f)
