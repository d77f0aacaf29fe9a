-- Laws of digits: how a loop meets them, what they are worth. Assumes nothing.
use Rattle.std.specs.Prelude.{Some, None, Option}
use mathlib.Core.Path.{◌≡◌, refl, sym}
use mathlib.Core.List.{[], ◌∷◌, ◌++◌}
use mathlib.Core.Bool.{Bool, true, false}
use Prim.Native.Nat.{ℕ, suc, ◌+◌, ◌-◌, ◌*◌, ◌^◌, ◌≤◌, ◌<◌}
use native.Mathlib.Omega.{arith}
use native.Mathlib.Numerals.{add-one}
use native.Mathlib.Nat.{pow-suc, pow-le-pow_right, add-zero, zero-add}
use borrow.Author.Tests.{eq-eqb, ne_eqb, eqb-true, le-leb}
use lib.ListN.{length, get_or, drop}
use lib.Seq.{drop-cons}
use lib.Dec.{eqb, lit<}
use Rattle.terms.specs.Ascii.{Bytes}
use Rattle.terms.specs.Words.{pick}
use Rattle.scan.specs.Allowed.{digit, all}
use Rattle.terms.proofs.Tests.{clash, both}
use Rattle.scan.proofs.Bytes.{within-is}
use Rattle.number.specs.Executable.{worth, digits, plain, number_of, plain_of, if_few}

-- an answer that is a value came by the test
pub came : (x : Bool) (w v : ℕ) → pick x (Some w) None ≡ Some v → (x ≡ true) × (w ≡ v)
came true w v e = (refl, cc)
came false w v e = absurd (let z : ◌≡◌ {A = ℕ} 0 1 = cc in omega arith)

-- ## One digit
pub digit_in : (b : ℕ) → 48 ≤ b → b ≤ 57 → digit b ≡ true
digit_in b h h' = rw (le-leb b 57 h', le-leb 48 b h)

pub digit-range : (b : ℕ) → digit b ≡ true → (48 ≤ b) × (b ≤ 57)
digit-range b e = within-is 48 57 b e

-- ## One digit more, as a loop meets it
module _ (s : Bytes) (i : ℕ) (h : i < length s) where
  pub digits-no : digit (get_or s i 0) ≡ false → digits (drop i s) ≡ false
  unfolding all
  digits-no e = rw (drop-cons s i 0 h, e)

  pub digits-go : digit (get_or s i 0) ≡ true → digits (drop (i + 1) s) ≡ digits (drop i s)
  unfolding all
  digits-go e = rw (drop-cons s i 0 h, e, add-one)

  pub worth-go : (v : ℕ) → worth (v * 10 + (get_or s i 0 - 48)) (drop (i + 1) s) ≡ worth v (drop i s)
  unfolding worth
  worth-go v = rw (drop-cons s i 0 h, add-one)

pub pow_more : (v d i : ℕ) → v < 10 ^ i → d < 10 → v * 10 + d < 10 ^ (i + 1)
pow_more v d i h l = rw (add-one, pow-suc) (omega arith)

pub pow-fits : (v i k : ℕ) → v < 10 ^ i → i ≤ k → v < 10 ^ k
pow-fits v i k h l = omega (arith, pow-le-pow_right {n = 10} (lit< tt) l)

-- ## The cases of `plain`, by what a program tests
pub nonempty : (s : Bytes) → eqb (length s) 0 ≡ false → 0 < length s
nonempty [] e = clash e
nonempty (b ∷ t) e = omega arith

pub plain-empty : (s : Bytes) → length s ≡ 0 → plain s ≡ false
unfolding plain
plain-empty [] e = refl
plain-empty (b ∷ t) e = absurd (omega arith)

pub plain-zeros : (s : Bytes) → get_or s 0 0 ≡ 48 → (length s ≡ 1 → ⊥) → plain s ≡ false
unfolding plain
plain-zeros [] e l = refl
plain-zeros (b ∷ []) e l = absurd (l refl)
plain-zeros (b ∷ a ∷ t) e l = rw (eq-eqb b 48 e, ne_eqb (suc (length t)) 0 (λ h. omega arith))

pub plain_other : (s : Bytes) → 0 < length s → (get_or s 0 0 ≡ 48 → ⊥) → plain s ≡ digits s
unfolding plain
plain_other [] h n = absurd (omega arith)
plain_other (b ∷ t) h n = rw (ne_eqb b 48 n)

plain_one : (b : ℕ) → plain (b ∷ []) ≡ digits (b ∷ [])
unfolding plain all
plain_one b = go (eqb b 48) refl
  where
    go : (x : Bool) → eqb b 48 ≡ x → plain (b ∷ []) ≡ digits (b ∷ [])
    go true q = rw (eqb-true b 48 q)
    go false q = rw q

pub plain_unless : (s : Bytes) → 0 < length s → (get_or s 0 0 ≡ 48 → length s ≤ 1) → plain s ≡ digits s
plain_unless [] h n = absurd (omega arith)
plain_unless (b ∷ []) h n = plain_one b
plain_unless (b ∷ a ∷ t) h n = plain_other (b ∷ a ∷ t) h (λ e. omega (arith, n e))

pub plain-digits : (s : Bytes) → plain s ≡ true → digits s ≡ true
unfolding plain all
plain-digits [] e = clash (sym e)
plain-digits (b ∷ t) e = go (eqb b 48) refl t e
  where
    go : (x : Bool) → eqb b 48 ≡ x → (t : Bytes) → pick x (eqb (length t) 0) (digits (b ∷ t)) ≡ true → digits (b ∷ t) ≡ true
    go true q [] e = rw (eqb-true b 48 q)
    go true q (a ∷ t) e = absurd (let h : suc (length t) ≡ 0 = eqb-true _ _ e in omega arith)
    go false q t e = e

pub plain-long : (s : Bytes) → plain s ≡ true → 0 < length s
unfolding plain
plain-long [] e = clash (sym e)
plain-long (b ∷ t) e = omega arith

-- ## Worth
pub worth_ge : (v : ℕ) (t : Bytes) → v ≤ worth v t
unfolding worth
worth_ge v [] = omega arith
worth_ge v (b ∷ t) = omega (arith, worth_ge (v * 10 + (b - 48)) t)

pub worth_lt : (k v : ℕ) (t : Bytes) → v < 10 ^ k → digits t ≡ true → worth v t < 10 ^ (k + length t)
unfolding worth all
worth_lt k v [] h e = rw add-zero h
worth_lt k v (b ∷ t) h e =
    let p = both (digit b) (digits t) e in
    let r = digit-range b p.0 in
    let m : k + suc (length t) ≡ k + 1 + length t = omega arith in
    rw m (worth_lt (k + 1) (v * 10 + (b - 48)) t (pow_more v (b - 48) k h (omega arith)) p.1)

pub worth_snoc : (v : ℕ) (s : Bytes) (b : ℕ) → worth v (s ++ (b ∷ [])) ≡ worth v s * 10 + (b - 48)
unfolding worth
worth_snoc v [] b = refl
worth_snoc v (a ∷ s) b = worth_snoc (v * 10 + (a - 48)) s b

pub digits_snoc : (s : Bytes) (b : ℕ) → digits s ≡ true → digit b ≡ true → digits (s ++ (b ∷ [])) ≡ true
unfolding all
digits_snoc [] b e h = rw h
digits_snoc (a ∷ s) b e h =
    let p = both (digit a) (digits s) e in
    rw p.0 (digits_snoc s b p.1 h)

-- ## What was read from few digits is small
pub digits-small : (k : ℕ) (s : Bytes) → digits s ≡ true → length s ≤ k → worth 0 s < 10 ^ k
digits-small k s e l =
    let h : worth 0 s < 10 ^ length s = rw zero-add at (worth_lt 0 0 s (omega arith) e) in
    pow-fits (worth 0 s) (length s) k h l

pub number_small : (k : ℕ) (s : Bytes) (v : ℕ) → length s ≤ k → number_of s ≡ Some v → v < 10 ^ k
unfolding number_of
number_small k s v l e =
    let q = came (digits s) (worth 0 s) v e in
    omega (arith, digits-small k s q.0 l)

pub plain-small : (k : ℕ) (s : Bytes) (v : ℕ) → length s ≤ k → plain_of s ≡ Some v → v < 10 ^ k
unfolding plain_of
plain-small k s v l e =
    let q = came (plain s) (worth 0 s) v e in
    omega (arith, digits-small k s (plain-digits s q.0) l)

-- ## Few digits
pub few : (s : Bytes) (n : Option ℕ) → length s ≤ 9 → if_few s n ≡ n
few s n h = rw (le-leb (length s) 9 h)
