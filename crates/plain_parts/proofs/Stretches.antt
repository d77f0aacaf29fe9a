-- Stretches of a text: one behind another, one byte more, and how long they are. Assumes nothing.
use mathlib.Core.Path.{◌≡◌, refl, sym, ap, ◌∙◌}
use mathlib.Core.List.{[], ◌∷◌, ◌++◌}
use Prim.Native.Nat.{ℕ, suc, ◌+◌, ◌-◌, ◌≤◌, ◌<◌}
use native.Mathlib.Omega.{arith}
use native.Mathlib.Numerals.{add-one}
use lib.ListN.{length, take, drop, get_or, length-drop}
use lib.Seq.{take-add, drop-drop, drop-cons, length-take-le}
use Rattle.terms.specs.Ascii.{Bytes}
use Rattle.plain_parts.specs.Stands.{stretch}

pub stretch-long : (s : Bytes) (from stop : ℕ) → stop ≤ length s → length (stretch s from stop) ≡ stop - from
stretch-long s from stop h = length-take-le (stop - from) (drop from s) (omega (arith, length-drop from s))

pub join : (s : Bytes) (a b c : ℕ) → a ≤ b → b ≤ c → stretch s a b ++ stretch s b c ≡ stretch s a c
join s a b c h k =
    let n : c - a ≡ (b - a) + (c - b) = omega arith in
    let m : a + (b - a) ≡ b = omega arith in
    sym (ap (λ (n : ℕ). take n (drop a s)) n ∙ take-add (b - a) (c - b) (drop a s) ∙ ap (λ (l : Bytes). stretch s a b ++ take (c - b) l) (drop-drop (b - a) a s ∙ ap (λ (k : ℕ). drop k s) m))

pub one : (s : Bytes) (i : ℕ) → i < length s → stretch s i (i + 1) ≡ get_or s i 0 ∷ []
one s i h =
    let n : i + 1 - i ≡ 1 = omega arith in
    rw (n, drop-cons s i 0 h)

pub more : (s : Bytes) (from i : ℕ) → from ≤ i → i < length s → stretch s from (i + 1) ≡ stretch s from i ++ (get_or s i 0 ∷ [])
more s from i h k = sym (join s from i (i + 1) h (omega arith)) ∙ ap (◌++◌ (stretch s from i)) (one s i k)

pub ahead : (s : Bytes) (i stop : ℕ) → i < stop → i < length s → stretch s i stop ≡ get_or s i 0 ∷ stretch s (i + 1) stop
ahead s i stop h k = sym (join s i (i + 1) stop (omega arith) (omega arith)) ∙ ap (λ (l : Bytes). l ++ stretch s (i + 1) stop) (one s i k)
