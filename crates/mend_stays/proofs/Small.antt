-- Tests that are false, comparisons either way round, and pairs one behind the other. Assumes nothing.
use mathlib.Core.Path.{◌≡◌, refl, sym}
use Rattle.terms.specs.Words.{Bool, true, false, not, ◌&&◌, ◌||◌, Bytes}
use Rattle.terms.proofs.Tests.{clash}
use Rattle.scan.specs.Reach.{same_bytes_of}
use Rattle.scan.proofs.Equal.{same-equal, equal-same, same_false, false-differ}

pub not-true : (x : Bool) → not x ≡ true → x ≡ false
not-true true e = clash (sym e)
not-true false e = refl

pub and-off : (x : Bool) → (x && false) ≡ false
and-off true = refl
and-off false = refl

-- of the first, and of the others
infixr 5 ◌also◌
pub ◌also◌ : {A B : Type 0} → A → B → A × B
◌also◌ a b = (a, b)

pub or_off : (x : Bool) → (x || false) ≡ x
or_off true = refl
or_off false = refl

-- byte for byte, either way round
pub same-turned : (a b : Bytes) → same_bytes_of a b ≡ same_bytes_of b a
same-turned a b = go (same_bytes_of b a) refl
  where
    go : (x : Bool) → same_bytes_of b a ≡ x → same_bytes_of a b ≡ x
    go true e = equal-same a b (sym (same-equal b a e))
    go false e = same_false a b (λ q. false-differ b a e (sym q))
