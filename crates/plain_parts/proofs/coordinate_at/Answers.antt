-- `plain_parts::coordinate_at` meets its contract. Assumes nothing.
use mathlib.Core.Path.{◌≡◌, ap, ◌∙◌}
use Prim.Native.Nat.{ℕ}
use lib.Dec.{ltb}
use Rattle.coordinate.specs.Sign.{signed}
use Rattle.plain_parts.specs.Stands.{Stands, SpellsDegrees, behind_minus_of}
use native.Mathlib.Omega.{arith}
use Rattle.plain_parts.proofs.Signs.{signed_back}
use Rattle.plain_parts.proofs.Joined.{signed-degrees, degrees-small}
use Rattle.plain_parts.proofs.coordinate_at.Goals as goal

pub with_sign-requires : goal.with_sign-requires
with_sign-requires c = degrees-small c.in_ok-m.ensures.spelled

pub returns : goal.returns
returns c =
    let a = c.args in
    let there : Stands a.s.now (behind_minus_of a.s.now a.from) c.in_ok-m.e (λ w. SpellsDegrees w c.in_ok-m.m) = rw c.behind_minus-a.ensures at c.in_ok-m.ensures in
    let is : c.with_sign.result ≡ signed (ltb a.from (behind_minus_of a.s.now a.from)) c.in_ok-m.m = c.with_sign.ensures ∙ ap (λ (k : ℕ). signed (ltb a.from k) c.in_ok-m.m) c.behind_minus-a.ensures in
    let small = degrees-small there.spelled in
    rw (is, signed_back (ltb a.from (behind_minus_of a.s.now a.from)) c.in_ok-m.m (omega arith)) (signed-degrees a.s.now a.from c.in_ok-m.e c.in_ok-m.m there)
