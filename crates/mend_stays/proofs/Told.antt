-- A text's lines and what they say give the same items, the same part opened last, the same options given since and the same end of the file: these hang on first fields alone, and a blank line has none. Assumes nothing.
use mathlib.Core.Path.{◌≡◌, refl, sym, ap, ◌∙◌}
use mathlib.Core.Logic.{inl, inr}
use lib.ListN.{get_or}
use Rattle.terms.specs.Words.{List, [], ◌∷◌, map, Bool, true, false, ◌||◌, ℕ, suc, Bytes, String, ascii, pick}
use Rattle.terms.proofs.Tests.{clash}
use Rattle.scan.specs.Allowed.{digit}
use Rattle.scan.specs.Reach.{begins, same_bytes_of}
use Rattle.scan.proofs.Equal.{same_false}
use Rattle.line.specs.Line.{Field}
use Rattle.number.specs.Decimal.{decimal}
use Rattle.law.specs.Network.{Said, Line, numbers}
use Rattle.mend_law.specs.Mend.{fields, first_field, is, one_of, Count, count, items, opens_part_of, since}
use Rattle.mend_stays.specs.Said.{key, word_of, item_of, end_of, items_of, opened_of, given_of, ended_of}
use Rattle.mend_stays.proofs.Small.{or_off, same-turned}
use Rattle.mend_stays.proofs.Alike.{Alike, alike_same, alike-opens, Plain}

-- ## A text's lines and what they say
abbrev pub first-of : List Field → Bytes
first-of fs = get_or (map (λ f. f.bytes) fs) 0 []

-- what a line's fields must be of what it says: the first one, and the number where there are two and the second is one
pub record Told (fs : List Field) (l : Line) : Type 0 where
  pub first : Alike (first-of fs) (key l)
  pub counted : (s : Said) (k : ℕ) (w f : Field) → l ≡ s ∷ numbers (k ∷ []) ∷ [] → fs ≡ w ∷ f ∷ [] → f.bytes ≡ decimal k

pub data Tells : List Bytes → List Line → Type 0 where
  done : Tells [] []
  blank : {x : Bytes} {xs : List Bytes} {ls : List Line} → fields x ≡ [] → Tells xs ls → Tells (x ∷ xs) ls
  says : {x : Bytes} {xs : List Bytes} {l : Line} {ls : List Line} → Told (fields x) l → Tells xs ls → Tells (x ∷ xs) (l ∷ ls)

pub first_alike : (x : Bytes) (l : Line) → Told (fields x) l → Alike (first_field x) (key l)
unfolding first_field
first_alike x l t = t.first

pub first-blank : (x : Bytes) → fields x ≡ [] → first_field x ≡ []
unfolding first_field
first-blank x e = ap first-of e

abbrev pub firsts : List Bytes → List Bytes
firsts = map first_field

-- ## Items
pub items-agree : {xs : List Bytes} {ls : List Line} (w : String) (item : Bytes → Bool) (end : String) → Plain (count w item end) → Tells xs ls → items item end (firsts xs) ≡ items_of (count w item end) ls
unfolding items items_of
items-agree w item end p done = refl
items-agree w item end p (blank {x = x} e t) = rw (first-blank x e, p.blank_end, p.blank_item) (items-agree w item end p t)
items-agree w item end p (says {x = x} {l = l} h t) =
    let a = alike_same (ascii end) (first_alike x l h) p.end in
    let b = p.item (first_alike x l h) in
    let r = items-agree w item end p t in
    λ i. pick (a i) 0 (pick (b i) (suc (r i)) (r i))

-- ## The part opened last
opens-blank : opens_part_of [] ≡ false
unfolding ascii same_bytes_of
opens-blank = refl

-- a word that opens a part is none that does not
opener-other : (p a : Bytes) → opens_part_of p ≡ true → opens_part_of a ≡ false → same_bytes_of p a ≡ false
opener-other p a o n = same_false p a (λ e. clash (sym o ∙ ap opens_part_of e ∙ n))

-- p: a word that opens parts
module _ (p : Bytes) (opener : opens_part_of p ≡ true) (wordy : begins digit p ≡ false) (some : same_bytes_of [] p ≡ false) where
  part-one : (a b : Bytes) (ws : List Bytes) (o : Bytes) → Alike a b → one_of ws p ≡ same_bytes_of o p → (x : Bool) → opens_part_of a ≡ x → one_of (a ∷ pick x [] ws) p ≡ same_bytes_of (pick x b o) p
  part-one a b ws o e h true q = or_off (same_bytes_of p a) ∙ same-turned p a ∙ alike_same p e wordy
  part-one a b ws o e h false q = rw (opener-other p a opener q) h

  pub part-agree : {xs : List Bytes} {ls : List Line} → Tells xs ls → one_of (since (firsts xs)) p ≡ same_bytes_of (opened_of ls) p
  unfolding since opened_of
  part-agree done = sym some
  part-agree (blank {x = x} e t) = rw (first-blank x e, opens-blank, same-turned p [], some) (part-agree t)
  part-agree (says {x = x} {xs = xs} {l = l} {ls = ls} h t) =
      let a = alike-opens (first_alike x l h) in
      part-one (first_field x) (key l) (since (firsts xs)) (opened_of ls) (first_alike x l h) (part-agree t) (opens_part_of (first_field x)) refl ∙ (λ i. same_bytes_of (pick (a i) (key l) (opened_of ls)) p)

-- ## What was given since
-- w: a word that opens none
module _ (w : Bytes) (closed : opens_part_of w ≡ false) (wordy : begins digit w ≡ false) (some : same_bytes_of [] w ≡ false) where
  given-one : (a b : Bytes) (ws : List Bytes) (g : Bool) → Alike a b → one_of ws w ≡ g → (x : Bool) → opens_part_of a ≡ x → one_of (a ∷ pick x [] ws) w ≡ pick x false (same_bytes_of b w || g)
  given-one a b ws g e h true q = or_off (same_bytes_of w a) ∙ same-turned w a ∙ opener-other a w q closed
  given-one a b ws g e h false q =
      let s = same-turned w a ∙ alike_same w e wordy in
      λ i. s i || h i

  pub given-agree : {xs : List Bytes} {ls : List Line} → Tells xs ls → one_of (since (firsts xs)) w ≡ given_of w ls
  unfolding since given_of
  given-agree done = refl
  given-agree (blank {x = x} e t) = rw (first-blank x e, opens-blank, same-turned w [], some) (given-agree t)
  given-agree (says {x = x} {xs = xs} {l = l} {ls = ls} h t) =
      let a = alike-opens (first_alike x l h) in
      given-one (first_field x) (key l) (since (firsts xs)) (given_of w ls) (first_alike x l h) (given-agree t) (opens_part_of (first_field x)) refl ∙ (λ i. pick (a i) false (same_bytes_of (key l) w || given_of w ls))

-- ## The end of the file
end-blank : same_bytes_of [] (ascii "end_file") ≡ false
unfolding ascii same_bytes_of
end-blank = refl

pub ended-agree : {xs : List Bytes} {ls : List Line} → Tells xs ls → one_of (firsts xs) (ascii "end_file") ≡ ended_of ls
unfolding ended_of
ended-agree done = refl
ended-agree (blank {x = x} e t) = rw (first-blank x e, same-turned (ascii "end_file") [], end-blank) (ended-agree t)
ended-agree (says {x = x} {l = l} h t) =
    let a = same-turned (ascii "end_file") (first_field x) ∙ alike_same (ascii "end_file") (first_alike x l h) (unfold ascii begins in refl) in
    let r = ended-agree t in
    λ i. a i || r i
