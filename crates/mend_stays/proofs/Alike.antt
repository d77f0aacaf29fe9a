-- First fields that are alike, the same or both begun by a digit, pass the same tests: no word that the tool looks for begins with a digit. Assumes nothing.
use mathlib.Core.Path.{◌≡◌, refl, sym, ap, ◌∙◌}
use mathlib.Core.Logic.{◌⊎◌, inl, inr}
use Rattle.terms.specs.Words.{List, [], ◌∷◌, true, false, not, ◌||◌, Bytes, ascii, Each}
use Rattle.terms.proofs.Tests.{clash, both}
use Rattle.terms.proofs.Computed.{every}
use Rattle.scan.specs.Allowed.{digit}
use Rattle.scan.specs.Reach.{begins, same_bytes_of}
use Rattle.scan.proofs.Equal.{same_false}
use Rattle.mend_law.specs.Mend.{one_of, Count, count_lines, opens_part_of}
use Rattle.mend_stays.specs.Said.{word_of, item_of, end_of}
use Rattle.mend_stays.proofs.Small.{not-true, ◌also◌}

-- ## First fields
abbrev pub Alike : Bytes → Bytes → Type 0
Alike a b = (a ≡ b) ⊎ ((begins digit a ≡ true) × (begins digit b ≡ true))

digit-other : (a w : Bytes) → begins digit a ≡ true → begins digit w ≡ false → same_bytes_of a w ≡ false
digit-other a w p h = same_false a w (λ e. clash (sym p ∙ ap (begins digit) e ∙ h))

pub alike_same : {a b : Bytes} (w : Bytes) → Alike a b → begins digit w ≡ false → same_bytes_of a w ≡ same_bytes_of b w
alike_same w (inl e) h = ap (λ (x : Bytes). same_bytes_of x w) e
alike_same {a} {b} w (inr d) h = digit-other a w d.0 h ∙ sym (digit-other b w d.1 h)

-- no word of these begins with a digit
abbrev Wordy : List Bytes → Type 0
Wordy = Each (λ w. begins digit w ≡ false)

alike-one : {a b : Bytes} (ws : List Bytes) → Wordy ws → Alike a b → one_of ws a ≡ one_of ws b
alike-one [] h e = refl
alike-one (w ∷ ws) h e = let p = alike_same w e h.0 in let q = alike-one ws h.1 e in λ i. p i || q i

digit-none : (a : Bytes) (ws : List Bytes) → Wordy ws → begins digit a ≡ true → one_of ws a ≡ false
digit-none a [] h e = refl
digit-none a (w ∷ ws) h e = let p = digit-other a w e h.0 in let q = digit-none a ws h.1 e in λ i. p i || q i

pub wordy : (ws : List Bytes) → every (λ w. not (begins digit w)) ws ≡ true → Wordy ws
wordy [] e = tt
wordy (w ∷ ws) e = let b = both (not (begins digit w)) (every (λ w. not (begins digit w)) ws) e in (not-true (begins digit w) b.0, wordy ws b.1)

abbrev openers : List Bytes
openers = ascii "segment" ∷ ascii "lane" ∷ ascii "zone" ∷ ascii "perimeter" ∷ ascii "spot" ∷ []

openers-wordy : Wordy openers
openers-wordy = wordy openers (unfold ascii begins in refl)

pub alike-opens : {a b : Bytes} → Alike a b → opens_part_of a ≡ opens_part_of b
alike-opens e = alike-one openers openers-wordy e

pub digit-opens : (a : Bytes) → begins digit a ≡ true → opens_part_of a ≡ false
digit-opens a e = digit-none a openers openers-wordy e

-- ## A count
pub record Plain (c : Count) : Type 0 where
  pub word : begins digit (word_of c) ≡ false
  pub end : begins digit (end_of c) ≡ false
  pub blank_end : same_bytes_of [] (end_of c) ≡ false
  pub blank_item : item_of c [] ≡ false
  pub item : {a b : Bytes} → Alike a b → item_of c a ≡ item_of c b

alike-digit : {a b : Bytes} → Alike a b → begins digit a ≡ begins digit b
alike-digit (inl e) = ap (begins digit) e
alike-digit (inr d) = d.0 ∙ sym d.1

pub plain-counts : Each Plain count_lines
unfolding ascii begins same_bytes_of
plain-counts =
    record { word = refl; end = refl; blank_end = refl; blank_item = refl; item = λ e. alike_same (ascii "segment") e refl }
    also record { word = refl; end = refl; blank_end = refl; blank_item = refl; item = λ e. alike_same (ascii "zone") e refl }
    also record { word = refl; end = refl; blank_end = refl; blank_item = refl; item = λ e. alike_same (ascii "lane") e refl }
    also record { word = refl; end = refl; blank_end = refl; blank_item = refl; item = alike-digit }
    also record { word = refl; end = refl; blank_end = refl; blank_item = refl; item = λ e. alike_same (ascii "spot") e refl }
    also record { word = refl; end = refl; blank_end = refl; blank_item = refl; item = alike-digit }
    also tt
