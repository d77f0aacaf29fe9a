-- The laws of so many records. Assumes nothing.
use mathlib.Core.Path.{◌≡◌, refl, sym, ap, ◌∙◌}
use mathlib.Core.Bool.{Bool, true, false}
use mathlib.Core.Option.{none, some}
use Prim.Native.Nat.{ℕ, zero, suc, ◌+◌, ◌-◌, ◌≤◌, ◌<◌}
use native.Mathlib.Omega.{arith}
use borrow.Author.Tests.{eq-eqb, ne_eqb}
use lib.Dec.{eqb}
use Rattle.terms.specs.Ascii.{Bytes}
use Rattle.terms.specs.Words.{pick}
use Rattle.packed_rows.proofs.Laws.{one_done}
use Rattle.packed_frame.specs.Named.{walk, every}

module _ {S : Type 0} (end : Bytes → ℕ → S → ℕ) (next : Bytes → ℕ → S → S) where
  pub walk_more : (k : ℕ) (b : Bytes) (at : ℕ) (s : S) → walk end next (suc k) b at s ≡ pick (eqb (end b at s) 0) none (walk end next k b (end b at s) (next b at s))
  unfolding walk
  walk_more k b at s = refl

  -- k of n are done. e: the place behind the record here
  module _ (b : Bytes) (at : ℕ) (s : S) (n k e : ℕ) (h : k < n) (p : e ≡ end b at s) where
    walk_on : walk end next (n - k) b at s ≡ pick (eqb e 0) none (walk end next (n - (k + 1)) b e (next b at s))
    walk_on = one_done (λ (j : ℕ). walk end next j b at s) n k h ∙ walk_more (n - (k + 1)) b at s ∙ ap (λ (m : ℕ). pick (eqb m 0) none (walk end next (n - (k + 1)) b m (next b at s))) (sym p)

    pub walk-again : (t : S) → (e ≡ 0 → ⊥) → t ≡ next b at s → walk end next (n - (k + 1)) b e t ≡ walk end next (n - k) b at s
    walk-again t q r = ap (walk end next (n - (k + 1)) b e) r ∙ sym (walk_on ∙ ap (λ (x : Bool). pick x none (walk end next (n - (k + 1)) b e (next b at s))) (ne_eqb e 0 q))

    pub walk-stopped : e ≡ 0 → none ≡ walk end next (n - k) b at s
    walk-stopped q = sym (walk_on ∙ ap (λ (x : Bool). pick x none (walk end next (n - (k + 1)) b e (next b at s))) (eq-eqb e 0 q))

  pub walk-ended : (b : Bytes) (at : ℕ) (s : S) (left : ℕ) → left ≤ 0 → some (at, s) ≡ walk end next left b at s
  unfolding walk
  walk-ended b at s zero h = refl
  walk-ended b at s (suc k) h = absurd (omega arith)

module _ {S : Type 0} (test : Bytes → S → Bool) (next : Bytes → S → S) where
  pub every_more : (k : ℕ) (b : Bytes) (s : S) → every test next (suc k) b s ≡ pick (test b s) (every test next k b (next b s)) false
  unfolding every
  every_more k b s = refl

  module _ (b : Bytes) (s : S) (n k : ℕ) (h : k < n) where
    every_on : every test next (n - k) b s ≡ pick (test b s) (every test next (n - (k + 1)) b (next b s)) false
    every_on = one_done (λ (j : ℕ). every test next j b s) n k h ∙ every_more (n - (k + 1)) b s

    pub every-again : (t : S) → test b s ≡ true → t ≡ next b s → every test next (n - (k + 1)) b t ≡ every test next (n - k) b s
    every-again t p r = ap (every test next (n - (k + 1)) b) r ∙ sym (every_on ∙ ap (λ (x : Bool). pick x (every test next (n - (k + 1)) b (next b s)) false) p)

    pub every-stopped : test b s ≡ false → false ≡ every test next (n - k) b s
    every-stopped p = sym (every_on ∙ ap (λ (x : Bool). pick x (every test next (n - (k + 1)) b (next b s)) false) p)

  pub every-ended : (b : Bytes) (s : S) (left : ℕ) → left ≤ 0 → true ≡ every test next left b s
  unfolding every
  every-ended b s zero h = refl
  every-ended b s (suc k) h = absurd (omega arith)
