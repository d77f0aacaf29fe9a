-- A name, byte by byte. Assumes nothing.
use mathlib.Core.Path.{◌≡◌, refl, ap, ◌∙◌}
use mathlib.Core.Bool.{true}
use mathlib.Core.List.{[], ◌∷◌}
use Prim.Native.Nat.{ℕ, ◌+◌, ◌-◌, ◌<◌}
use native.Mathlib.Omega.{arith}
use lib.ListN.{length, take, drop, get_or}
use Rattle.terms.specs.Ascii.{Bytes}
use Rattle.terms.proofs.Tests.{and}
use Rattle.scan.specs.Allowed.{all}
use Rattle.scan.proofs.Bytes.{all_append}
use Rattle.plain_parts.specs.Stands.{stretch, name_byte, NameEnds}
use Rattle.plain_parts.proofs.Stretches.{more}

pub no_name : (s : Bytes) (from : ℕ) → NameEnds s from from
unfolding all
no_name s from =
    let n : from - from ≡ 0 = omega arith in
    record { order = omega arith; inside = λ h. h; bytes = ap (λ (n : ℕ). all name_byte (take n (drop from s))) n }

pub next-byte : (s : Bytes) (from i : ℕ) → NameEnds s from i → i < length s → name_byte (get_or s i 0) ≡ true → NameEnds s from (i + 1)
unfolding all
next-byte s from i h k e =
    let o = h.order in
    record { order = omega arith; inside = λ l. omega arith; bytes = ap (all name_byte) (more s from i o k) ∙ all_append name_byte (stretch s from i) (get_or s i 0 ∷ []) h.bytes (and e refl) }
