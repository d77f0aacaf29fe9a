-- Laws of `Each` and of lists that the logic's libraries lack. Assumes nothing.
use mathlib.Core.Path.{◌≡◌, refl, ap}
use mathlib.Core.List.{List, [], ◌∷◌, ◌++◌, map}
use Prim.Native.Nat.{ℕ, zero, suc, ◌<◌}
use native.Mathlib.Nat.{le_of_suc-le-suc, not-suc-le-zero}
use lib.ListN.{length, get_or}
use Rattle.terms.specs.Words.{Each}

pub map-id : {A : Type 0} (l : List A) → map (λ a. a) l ≡ l
map-id [] = refl
map-id (a ∷ l) = ap (◌∷◌ a) (map-id l)

-- inside a list it does not matter what would stand behind its end
pub get_d-inside : {A : Type 0} (l : List A) (i : ℕ) (d d' : A) → i < length l → get_or l i d ≡ get_or l i d'
get_d-inside [] i d d' h = absurd (not-suc-le-zero h)
get_d-inside (a ∷ l) zero d d' h = refl
get_d-inside (a ∷ l) (suc i) d d' h = get_d-inside l i d d' (le_of_suc-le-suc h)

-- anything is so of each
pub each-any : {A : Type 0} (l : List A) → Each (λ a. Unit {0}) l
each-any [] = tt
each-any (a ∷ l) = (tt, each-any l)

pub each_map : {A : Type 0} (P Q : A → Type 0) → ((a : A) → P a → Q a) → (l : List A) → Each P l → Each Q l
each_map P Q h [] e = tt
each_map P Q h (a ∷ l) e = (h a e.0, each_map P Q h l e.1)

pub each_append : {A : Type 0} (P : A → Type 0) (l r : List A) → Each P l → Each P r → Each P (l ++ r)
each_append P [] r e f = f
each_append P (a ∷ l) r e f = (e.0, each_append P l r e.1 f)
