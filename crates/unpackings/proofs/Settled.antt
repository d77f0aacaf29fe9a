-- Unpacking: no second reply and no second memory satisfies its contract, for all bytes and tables. Assumes nothing.
use Rattle.std.specs.Prelude.{Ok, Err}
use Rattle.replies.specs.Types.{RndfReply}
use mathlib.Core.Path.{◌≡◌, refl, sym, ap, ap₂, subst, ◌∙◌}
use Rattle.terms.specs.Words.{ℕ, ◌≤◌, length, Bytes}
use native.Mathlib.Omega.{arith}
use Rattle.line.specs.Line.{Field}
use Rattle.law.specs.Network.{Network}
use Rattle.law.specs.Tables.{Lent, HasRoom, filled}
use Rattle.packed_law.specs.Packed.{packed_form, OfThisVersion}
use Rattle.replies.specs.Replies.{longest, refusal, rows_used_of, network_file}
use Rattle.unpackings.specs.Unpacks.{IsPackedFormOf, UnpackRefuses, Unpacks, too_long, other_version, cut_short, no_network, no_room, refused, unpacked}
use Rattle.unpackings.proofs.Framing.{form-framed}
use Rattle.unpackings.proofs.OneNetwork.{one-network}

of-version : (bytes : Bytes) (n : Network Field) → IsPackedFormOf n bytes → OfThisVersion bytes
unfolding packed_form
of-version bytes n x = record { behind = _; is = x.form }

module _ (bytes : Bytes) (t : Lent) where
  one-refusal : (f f' k k' : ℕ) → UnpackRefuses bytes t f k → UnpackRefuses bytes t f' k' → (f ≡ f') × (k ≡ k')
  one-refusal f f' k k' (too_long a) (too_long b) = (refl, refl)
  one-refusal f f' k k' (too_long a) (other_version b h) = absurd (omega (arith, a, b))
  one-refusal f f' k k' (too_long a) (cut_short b c h) = absurd (omega (arith, a, b))
  one-refusal f f' k k' (too_long a) (no_network b c d h) = absurd (omega (arith, a, b))
  one-refusal f f' k k' (too_long a) (no_room n b x h) = absurd (omega (arith, a, b))
  one-refusal f f' k k' (other_version b h) (too_long a) = absurd (omega (arith, a, b))
  one-refusal f f' k k' (other_version b h) (other_version a g) = (refl, refl)
  one-refusal f f' k k' (other_version b h) (cut_short a c g) = absurd (h c)
  one-refusal f f' k k' (other_version b h) (no_network a c d g) = absurd (h c)
  one-refusal f f' k k' (other_version b h) (no_room n a x g) = absurd (h (of-version bytes n x))
  one-refusal f f' k k' (cut_short b c h) (too_long a) = absurd (omega (arith, a, b))
  one-refusal f f' k k' (cut_short b c h) (other_version a g) = absurd (g c)
  one-refusal f f' k k' (cut_short b c h) (cut_short a d g) = (refl, refl)
  one-refusal f f' k k' (cut_short b c h) (no_network a d e g) = absurd (h e)
  one-refusal f f' k k' (cut_short b c h) (no_room n a x g) = absurd (h (form-framed bytes n a x))
  one-refusal f f' k k' (no_network b c d h) (too_long a) = absurd (omega (arith, a, b))
  one-refusal f f' k k' (no_network b c d h) (other_version a g) = absurd (g c)
  one-refusal f f' k k' (no_network b c d h) (cut_short a e g) = absurd (g d)
  one-refusal f f' k k' (no_network b c d h) (no_network a e i g) = (refl, refl)
  one-refusal f f' k k' (no_network b c d h) (no_room n a x g) = absurd (h n x)
  one-refusal f f' k k' (no_room n b x h) (too_long a) = absurd (omega (arith, a, b))
  one-refusal f f' k k' (no_room n b x h) (other_version a g) = absurd (g (of-version bytes n x))
  one-refusal f f' k k' (no_room n b x h) (cut_short a c g) = absurd (g (form-framed bytes n b x))
  one-refusal f f' k k' (no_room n b x h) (no_network a c d g) = absurd (g n x)
  one-refusal f f' k k' (no_room n b x h) (no_room m a y g) = (refl, refl)

  never_both : (f k : ℕ) (n : Network Field) → UnpackRefuses bytes t f k → length bytes ≤ longest → IsPackedFormOf n bytes → HasRoom n t → ⊥
  never_both f k n (too_long a) b x r = omega (arith, a, b)
  never_both f k n (other_version a h) b x r = h (of-version bytes n x)
  never_both f k n (cut_short a c h) b x r = h (form-framed bytes n b x)
  never_both f k n (no_network a c d h) b x r = h n x
  never_both f k n (no_room m a y h) b x r = h (subst (λ (z : Network Field). HasRoom z t) (one-network bytes n m b x y) r)

  -- no second reply, and no second memory
  pub unpack-settled : (r r' : RndfReply) (l l' : Lent) → Unpacks bytes t r l → Unpacks bytes t r' l' → (r ≡ r') × (l ≡ l')
  unpack-settled r r' l l' (refused f k x p q) (refused f' k' y p' q') =
      let e = one-refusal f f' k k' x y in
      (p ∙ ap₂ (λ (a b : ℕ). Err (refusal a 0 b 0)) e.0 e.1 ∙ sym p', q ∙ sym q')
  unpack-settled r r' l l' (refused f k x p q) (unpacked n b y h p' q') = absurd (never_both f k n x b y h)
  unpack-settled r r' l l' (unpacked n b y h p q) (refused f k x p' q') = absurd (never_both f k n x b y h)
  unpack-settled r r' l l' (unpacked n b y h p q) (unpacked m c z i p' q') =
      let e = one-network bytes n m b y z in
      (p ∙ ap (λ (w : Network Field). Ok (rows_used_of w, network_file w)) e ∙ sym p', q ∙ ap (λ (w : Network Field). filled w t) e ∙ sym q')
