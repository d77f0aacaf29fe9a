-- Digits of a text, one behind the other: what they spell. Assumes nothing.
use mathlib.Core.Path.{◌≡◌, refl, sym, ap, ap₂, ◌∙◌}
use mathlib.Core.Bool.{true}
use mathlib.Core.List.{[], ◌∷◌, ◌++◌}
use Prim.Native.Nat.{ℕ, ◌+◌, ◌*◌, ◌-◌, ◌/◌, ◌%◌, ◌≤◌, ◌<◌}
use native.Mathlib.Omega.{arith}
use lib.ListN.{length, get_or}
use Rattle.terms.specs.Ascii.{Bytes}
use Rattle.scan.specs.Allowed.{digit}
use Rattle.number.specs.Decimal.{digit_of, padded}
use Rattle.number.specs.Spelling.{SpellsInteger}
use Rattle.number.proofs.Digits.{digit-range}
use Rattle.number.proofs.Decimals.{decimal-one, decimal-more, padded-last}
use Rattle.plain_parts.specs.Stands.{stretch, Stands}
use Rattle.plain_parts.proofs.Stretches.{one, more}

-- a digit's byte is the one that its number has
again : (b : ℕ) → digit b ≡ true → digit_of (b - 48) ≡ b
again b e = let r = digit-range b e in omega arith

pub first-digit : (s : Bytes) (from b v : ℕ) → from < length s → b ≡ get_or s from 0 → digit b ≡ true → v ≡ b - 48 → Stands s from (from + 1) (λ w. SpellsInteger w v)
first-digit s from b v k h e q =
    let r = digit-range b e in
    record {
      order = omega arith;
      inside = omega arith;
      spelled = record {
        spelled = one s from k ∙ ap (λ (b : ℕ). b ∷ []) (sym h ∙ sym (again b e) ∙ ap (λ (v : ℕ). digit_of v) (sym q)) ∙ sym (decimal-one v (omega arith));
        five_digits = omega arith;
      };
    }

-- a further digit, where none of the others is a leading zero
pub next-digit : (s : Bytes) (from i v : ℕ) → i < length s → digit (get_or s i 0) ≡ true → 0 < v → v ≤ 9999 → Stands s from i (λ w. SpellsInteger w v) → Stands s from (i + 1) (λ w. SpellsInteger w (v * 10 + (get_or s i 0 - 48)))
next-digit s from i v k e p m q =
    let r = digit-range (get_or s i 0) e in
    let o = q.order in
    record {
      order = omega arith;
      inside = omega arith;
      spelled = record {
        spelled = more s from i (omega arith) k ∙ ap₂ (λ (l : Bytes) (b : ℕ). l ++ (b ∷ [])) q.spelled.spelled (sym (again (get_or s i 0) e)) ∙ sym (decimal-more v (get_or s i 0 - 48) p (omega arith));
        five_digits = omega arith;
      };
    }

-- digits with zeros in front
pub padded-digit : (s : Bytes) (from k v : ℕ) → from + k < length s → digit (get_or s (from + k) 0) ≡ true → stretch s from (from + k) ≡ padded k v → stretch s from (from + (k + 1)) ≡ padded (k + 1) (v * 10 + (get_or s (from + k) 0 - 48))
padded-digit s from k v h e q =
    let b = get_or s (from + k) 0 in
    let r = digit-range b e in
    let n : from + (k + 1) ≡ from + k + 1 = omega arith in
    let d : (v * 10 + (b - 48)) / 10 ≡ v = omega arith in
    let m : (v * 10 + (b - 48)) % 10 ≡ b - 48 = omega arith in
    let j : k + 1 - 1 ≡ k = omega arith in
    rw n (more s from (from + k) (omega arith) h ∙ ap₂ (λ (l : Bytes) (b : ℕ). l ++ (b ∷ [])) q (sym (again b e)) ∙ sym (padded-last (k + 1) (v * 10 + (b - 48)) (λ z. omega arith) ∙ rw (d, m, j)))

pub no-digits : (s : Bytes) (from : ℕ) → stretch s from (from + 0) ≡ padded 0 0
unfolding padded
no-digits s from = let n : from + 0 - from ≡ 0 = omega arith in rw n
