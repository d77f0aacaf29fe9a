-- Fields of a line, one behind the other, as they stand in the text. Assumes nothing.
use mathlib.Core.Path.{◌≡◌, sym, ap, subst, ◌∙◌}
use mathlib.Core.List.{List, [], ◌∷◌, ◌++◌, append_assoc, append-nil}
use mathlib.Core.Bool.{true}
use Prim.Native.Nat.{ℕ, ◌+◌, ◌≤◌, ◌<◌}
use native.Mathlib.Omega.{arith}
use lib.ListN.{length}
use Rattle.terms.specs.Ascii.{Bytes}
use Rattle.scan.specs.Allowed.{separates, all}
use Rattle.line.specs.Content.{Field, at, IsField, SpellsFields, nothing, field}
use Rattle.plain_parts.specs.Stands.{stretch}
use Rattle.plain_parts.proofs.Stretches.{stretch-long, join}
use Rattle.plain_fields.proofs.Fields.{separators-ahead, parted-blank, parted-ahead}
use Rattle.plain_line.specs.Fields.{Spelt}

-- ## Separators
blank-only : (w : Bytes) (a : ℕ) → all separates w ≡ true → SpellsFields a w []
blank-only w a e = subst (λ (l : Bytes). SpellsFields a l []) (append-nil w) (separators-ahead w [] a [] e nothing)

-- ## Fields
module _ (s : Bytes) where
  pub one_field : (a b : ℕ) → IsField (stretch s a b) → Spelt s a b (at a (stretch s a b) ∷ [])
  one_field a b f w e = field f (parted-blank w e) (blank-only w (a + length (stretch s a b)) e)

  pub more-fields : (a b c stop : ℕ) (fs : List Field) → a ≤ b → b < c → c ≤ stop → c ≤ length s → IsField (stretch s a b) → all separates (stretch s b c) ≡ true → Spelt s c stop fs → Spelt s a stop (at a (stretch s a b) ∷ fs)
  more-fields a b c stop fs h k l i f g r w e =
      let x = stretch s a b in
      let y = stretch s b c in
      let z = stretch s c stop in
      let m : a + length x ≡ b = omega (arith, stretch-long s a b (omega arith)) in
      let n : b + length y ≡ c = omega (arith, stretch-long s b c i) in
      let all_of : x ++ (y ++ (z ++ w)) ≡ stretch s a stop ++ w = sym (append_assoc x y (z ++ w)) ∙ ap (λ (l : Bytes). l ++ (z ++ w)) (join s a b c h (omega arith)) ∙ sym (append_assoc (stretch s a c) z w) ∙ ap (λ (l : Bytes). l ++ w) (join s a c stop (omega arith) l) in
      let rest : SpellsFields b (y ++ (z ++ w)) fs = separators-ahead y (z ++ w) b fs g (subst (λ (k : ℕ). SpellsFields k (z ++ w) fs) (sym n) (r w e)) in
      subst (λ (l : Bytes). SpellsFields a l (at a x ∷ fs)) all_of (field f (parted-ahead y (z ++ w) (omega (arith, n)) g) (subst (λ (k : ℕ). SpellsFields k (y ++ (z ++ w)) fs) (sym m) rest))

  -- with separators in front and behind
  pub whole : (from a stop e : ℕ) (fs : List Field) → from ≤ a → a ≤ stop → stop ≤ e → a ≤ length s → all separates (stretch s from a) ≡ true → Spelt s a stop fs → all separates (stretch s stop e) ≡ true → SpellsFields from (stretch s from e) fs
  whole from a stop e fs h k l i f r g =
      let x = stretch s from a in
      let w = stretch s stop e in
      let m : from + length x ≡ a = omega (arith, stretch-long s from a i) in
      let all_of : x ++ (stretch s a stop ++ w) ≡ stretch s from e = ap (◌++◌ x) (join s a stop e k l) ∙ join s from a e h (omega arith) in
      subst (λ (l : Bytes). SpellsFields from l fs) all_of (separators-ahead x (stretch s a stop ++ w) from fs f (subst (λ (k : ℕ). SpellsFields k (stretch s a stop ++ w) fs) (sym m) (r w g)))

  -- no fields
  pub blank_line_of : (from e : ℕ) → all separates (stretch s from e) ≡ true → SpellsFields from (stretch s from e) []
  blank_line_of from e h = blank-only (stretch s from e) from h
