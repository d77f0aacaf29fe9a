-- A byte in words, by its cases. Assumes nothing.
use mathlib.Core.Path.{◌≡◌, refl}
use mathlib.Core.List.{[]}
use mathlib.Core.Bool.{true, false}
use Prim.Native.Nat.{ℕ, ◌≤◌, ◌<◌}
use lib.ListN.{length, get_or}
use borrow.Author.Tests.{eq-eqb, ne_eqb, lt-ltb, le-ltb}
use Rattle.terms.specs.Ascii.{Bytes, ascii}
use Rattle.shown.specs.Shown.{order_mark, byte_from_42, byte_alone, byte_words}

module _ (b : ℕ) where
  pub asterisk : b ≡ 42 → ascii "an asterisk" ≡ byte_from_42 b
  unfolding byte_from_42
  asterisk e = rw (eq-eqb b 42 e) refl

  pub backslash : (b ≡ 42 → ⊥) → b ≡ 92 → ascii "a backslash" ≡ byte_from_42 b
  unfolding byte_from_42
  backslash d e = rw (ne_eqb b 42 d, eq-eqb b 92 e) refl

  pub letter : (b ≡ 42 → ⊥) → (b ≡ 92 → ⊥) → 127 < b → ascii "a letter outside ASCII" ≡ byte_from_42 b
  unfolding byte_from_42
  letter d d' h = rw (ne_eqb b 42 d, ne_eqb b 92 d', lt-ltb 127 b h) refl

  pub control : (b ≡ 42 → ⊥) → (b ≡ 92 → ⊥) → b ≤ 127 → ascii "a control character" ≡ byte_from_42 b
  unfolding byte_from_42
  control d d' h = rw (ne_eqb b 42 d, ne_eqb b 92 d', le-ltb 127 b h) refl

  pub nul : b ≡ 0 → ascii "a NUL" ≡ byte_alone b
  unfolding byte_alone
  nul e = rw (eq-eqb b 0 e) refl

  pub carriage-return : (b ≡ 0 → ⊥) → b ≡ 13 → ascii "a carriage return" ≡ byte_alone b
  unfolding byte_alone
  carriage-return d e = rw (ne_eqb b 0 d, eq-eqb b 13 e) refl

  pub other : (b ≡ 0 → ⊥) → (b ≡ 13 → ⊥) → byte_from_42 b ≡ byte_alone b
  unfolding byte_alone
  other d d' = rw (ne_eqb b 0 d, ne_eqb b 13 d') refl

module _ (s : Bytes) where
  pub marked : order_mark s ≡ true → ascii "a byte order mark" ≡ byte_words s
  unfolding byte_words
  marked e = rw e refl

  pub unmarked : order_mark s ≡ false → 0 < length s → byte_alone (get_or s 0 0) ≡ byte_words s
  unfolding byte_words
  unmarked e h = rw (e, lt-ltb 0 (length s) h) refl

  pub no_byte : order_mark s ≡ false → length s ≤ 0 → [] ≡ byte_words s
  unfolding byte_words
  no_byte e h = rw (e, le-ltb 0 (length s) h) refl
