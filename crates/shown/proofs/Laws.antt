-- What is shown, by the cases of a byte, and of a line with one byte more. Assumes nothing.
use mathlib.Core.Path.{◌≡◌, refl, sym, ap, ◌∙◌}
use mathlib.Core.List.{[], ◌∷◌, ◌++◌, append-nil, append_assoc}
use mathlib.Core.Bool.{true, false}
use Prim.Native.Nat.{ℕ, ◌-◌, ◌/◌}
use lib.ListN.{take}
use borrow.Author.Tests.{eq-eqb, ne_eqb}
use Rattle.terms.specs.Ascii.{Bytes, ascii}
use Rattle.scan.specs.Allowed.{inside}
use Rattle.shown.specs.Shown.{hex, shown_byte, blank, shown, blanks, picture}

-- ## A byte
pub shown-plain : (b : ℕ) → inside b ≡ true → b ∷ [] ≡ shown_byte b
unfolding shown_byte
shown-plain b e = rw e refl

pub shown-wide : (b : ℕ) → inside b ≡ false → ascii "\\x" ++ (hex (b / 16) ∷ []) ++ (hex b ∷ []) ≡ shown_byte b
unfolding shown_byte
shown-wide b e = rw e refl

pub blank-tab : (b : ℕ) → b ≡ 9 → ascii "\t" ≡ blank b
unfolding blank
blank-tab b e = rw (eq-eqb b 9 e) refl

pub blank-plain : (b : ℕ) → (b ≡ 9 → ⊥) → inside b ≡ true → ascii " " ≡ blank b
unfolding blank
blank-plain b d e = rw (e, ne_eqb b 9 d) refl

pub blank-wide : (b : ℕ) → (b ≡ 9 → ⊥) → inside b ≡ false → ascii "    " ≡ blank b
unfolding blank
blank-wide b d e = rw (e, ne_eqb b 9 d) refl

-- ## One byte more
pub shown-last : (x : Bytes) (b : ℕ) → shown x ++ shown_byte b ≡ shown (x ++ (b ∷ []))
unfolding shown
shown-last [] b = sym (append-nil (shown_byte b))
shown-last (a ∷ x) b = append_assoc (shown_byte a) (shown x) (shown_byte b) ∙ ap (λ (t : Bytes). shown_byte a ++ t) (shown-last x b)

pub blanks-last : (x : Bytes) (b : ℕ) → blanks x ++ blank b ≡ blanks (x ++ (b ∷ []))
unfolding blanks
blanks-last [] b = sym (append-nil (blank b))
blanks-last (a ∷ x) b = append_assoc (blank a) (blanks x) (blank b) ∙ ap (λ (t : Bytes). blank a ++ t) (blanks-last x b)

pub shown-none : [] ≡ shown []
unfolding shown
shown-none = refl

pub blanks-none : [] ≡ blanks []
unfolding blanks
blanks-none = refl

-- ## The picture
pub no-picture : (line : Bytes) (column : ℕ) → column ≡ 0 → [] ≡ picture line column
unfolding picture
no-picture line column e = rw (eq-eqb column 0 e) refl

pub some-picture : (line : Bytes) (column : ℕ) → (column ≡ 0 → ⊥) → shown line ++ ascii "\n" ++ blanks (take (column - 1) line) ++ ascii "^\n" ≡ picture line column
unfolding picture
some-picture line column d = rw (ne_eqb column 0 d) refl
